-- A refusal as it is, else the obligation that was found, or none. Assumes nothing.
use Rattle.std.proofs.Common.{sym, ap, ◌∙◌}
use Rattle.queries.specs.Finding.{OpenFor, sought_in, which_of}
use Rattle.queries.proofs.ShowLaws.{is_open, which-found, which-stopped}
use Rattle.queries.proofs.show.which.Goals.{In_default}
use Rattle.queries.proofs.show.which.Goals as goal

-- both sheets, once they are open
opened : (c : In_default) → OpenFor c.args.limits c.args.model.now c.open_regions.new.index c.args.second.now c.open_regions.new.regions
opened c = is_open _ _ _ _ _ 0 0 c.in_default.is c.open_regions.ensures

pub find-requires : goal.find-requires
find-requires c = record { index_len_bound = (opened (goal.at.find-requires c).In_default).joined }

pub invariant_of-paper : goal.invariant_of-paper
invariant_of-paper c = record { good = (opened (goal.at.invariant_of-paper c).In_default).good }

pub returns-in-Err : goal.returns-in-Err
returns-in-Err c = c.no_which.ensures ∙ which-stopped _ _ _ _ _ _ 0 c.in-Err.is c.open_regions.ensures

pub returns-in-Some : goal.returns-in-Some
unfolding sought_in
returns-in-Some c =
    which-found _ _ _ _ _ _ 0 _ (opened (goal.at.returns-in-Some c).In_default) (ap (sought_in _ _ _) (sym c.in-Some.is) ∙ c.find.ensures.result_value) c.sought_which.ensures

pub returns-in-None : goal.returns-in-None
unfolding sought_in which_of
returns-in-None c =
    which-found _ _ _ _ _ _ 0 _ (opened (goal.at.returns-in-None c).In_default) (ap (sought_in _ _ _) (sym c.in-None.is) ∙ c.find.ensures.result_value) c.no_which-in-None.ensures
