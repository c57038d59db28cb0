-- A refusal as it is, else the row of the obligation that was found, or none; it lies inside its sheet by its definition. Assumes nothing.
use Rattle.std.proofs.Common.{rules, arith, ◌≡◌, Some, None, Err, refl, sym, ap, ◌∙◌}
use Rattle.rules.specs.Marking.{answer}
use Rattle.queries.specs.Finding.{OpenFor, sought_in, located_of, hypothesis_located}
use Rattle.queries.proofs.ShowLaws.{is_open, not_there, row-found, row-stopped, row_inside, row-tells}
use Rattle.queries.proofs.show.find_row.Goals.{In_ok-open_regions, After-from_residual, After-from_residual-in_err-sought, After-ok_or-2}
use Rattle.queries.proofs.show.find_row.Goals as goal

-- both sheets, once they are open
opened : (c : In_ok-open_regions) → OpenFor c.args.limits c.args.model.now c.open_regions.new.index c.args.second.now c.open_regions.new.regions
opened c = is_open _ _ _ _ _ 0 0 c.in_ok-open_regions.was c.open_regions.ensures

-- what is handed back is what is told of the hypothesis: of a refusal, of no obligation, and of one
stopped : (c : After-from_residual) → c.from_residual.result ≡ hypothesis_located c.args.limits c.args.model.now c.args.second.now c.args.o c.args.h
stopped c =
    let same : c.from_residual.result ≡ Err c.in_err-open_regions.field-0.0 = search rules in
    same ∙ row-stopped _ _ _ _ _ _ _ c.in_err-open_regions.was c.open_regions.ensures

none : (c : After-from_residual-in_err-sought) → c.from_residual-in_err-sought.result ≡ hypothesis_located c.args.limits c.args.model.now c.args.second.now c.args.o c.args.h
unfolding sought_in located_of not_there answer
none c =
    let lacks : c.find.result ≡ None = grind arith in
    let same : c.from_residual-in_err-sought.result ≡ Err not_there = search rules in
    same ∙ row-found _ _ _ _ _ _ _ _ (opened (goal.at.After-from_residual-in_err-sought c).In_ok-open_regions) (ap (sought_in _ _ _) (sym lacks) ∙ c.find.ensures.result_value) refl

found : (c : After-ok_or-2) → c.ok_or-2.result ≡ hypothesis_located c.args.limits c.args.model.now c.args.second.now c.args.o c.args.h
unfolding sought_in not_there answer
found c =
    let has : c.find.result ≡ Some c.in_ok-sought.sought = grind arith in
    c.ok_or-2.ensures.value
    ∙ row-found _ _ _ _ _ _ _ _ (opened (goal.at.After-ok_or-2 c).In_ok-open_regions) (ap (sought_in _ _ _) (sym has) ∙ c.find.ensures.result_value) c.sought_row.ensures

pub returns-in_err-open_regions-clause-value : goal.returns-in_err-open_regions-clause-value
returns-in_err-open_regions-clause-value c = stopped c

pub returns-in_err-open_regions-clause-row_value : goal.returns-in_err-open_regions-clause-row_value
returns-in_err-open_regions-clause-row_value c = row-tells _ _ _ _ _ (stopped c)

pub find-requires : goal.find-requires
find-requires c =
    record { index_len_bound = (opened (goal.at.find-requires c).In_ok-open_regions).joined }

pub returns-in_err-sought-clause-value : goal.returns-in_err-sought-clause-value
returns-in_err-sought-clause-value c = none c

pub returns-in_err-sought-clause-row_value : goal.returns-in_err-sought-clause-row_value
returns-in_err-sought-clause-row_value c = row-tells _ _ _ _ _ (none c)

pub invariant_of-paper : goal.invariant_of-paper
invariant_of-paper c = record { good = (opened (goal.at.invariant_of-paper c).In_ok-open_regions).good }

pub returns-clause-value : goal.returns-clause-value
returns-clause-value c = found c

pub returns-clause-row_inside : goal.returns-clause-row_inside
returns-clause-row_inside c = row_inside _ _ _ _ _ (found c)

pub returns-clause-row_value : goal.returns-clause-row_value
returns-clause-row_value c = row-tells _ _ _ _ _ (found c)
