-- Nothing is asked where the owner moves. Assumes nothing.
use mathlib.Core.Path.{sym, ◌∙◌}
use Rattle.papers.specs.Blanks.{stays_at}
use Rattle.steps.specs.Held.{same_at, kept_at}
use Rattle.steps.proofs.ValueLaws.{kept-moves, kept-stays}
use Rattle.steps.proofs.values.value_kept.Goals as goal

pub returns-then-not-owner_stays : goal.returns-then-not-owner_stays
unfolding kept_at
returns-then-not-owner_stays c =
    let a = c.args in
    kept-moves (stays_at a.index.now a.switches a.v) (same_at a.n a.state.now a.v) (sym c.owner_stays.ensures ∙ c.if-not-owner_stays.true)

pub returns : goal.returns
unfolding kept_at
returns c =
    let a = c.args in
    kept-stays (stays_at a.index.now a.switches a.v) (same_at a.n a.state.now a.v) _ (sym c.owner_stays.ensures ∙ c.if-not-owner_stays.false) c.same_value.ensures
