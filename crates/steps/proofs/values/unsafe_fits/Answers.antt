-- Both tests. Assumes nothing.
use mathlib.Core.Path.{◌≡◌, sym, ap, ◌∙◌}
use Prim.Native.Nat.{ℕ, ◌+◌, ◌*◌}
use lib.ListN.{take}
use Rattle.models.specs.Index.{entry, unsafe_place, span_rows, unsafe_from}
use Rattle.rules.specs.Runs as runs
use Rattle.steps.specs.Held.{unsafe_at}
use Rattle.rules.proofs.ListFacts.{first-fails, first_passes}
use Rattle.steps.proofs.ValueLaws.{unsafe-place, unsafe-span}
use Rattle.steps.proofs.values.unsafe_fits.Goals as goal

pub condition_holds-requires-clause-s_len_bound : goal.condition_holds-requires-clause-s_len_bound
condition_holds-requires-clause-s_len_bound c =
    let n = c.number_at-n in
    let g = c.requires.located.0.good in
    let h = c.requires.located.1 in
    (c.requires.located.0.short, (unsafe-place g n.result c.args.u h n.ensures, unsafe-span g n.result c.args.u h n.ensures))

pub returns-then-modes_fit : goal.returns-then-modes_fit
unfolding unsafe_at unsafe_from unsafe_place
returns-then-modes_fit c =
    let a = c.args in
    let index = a.index.now in
    let told : c.condition_holds.result ≡ runs.condition_holds a.q (take (entry index 0) a.state.now) (span_rows a.model.now (entry index 11) (entry index 0) index (892 + 6 * a.u + 4)) =
    c.condition_holds.ensures ∙ ap (λ (n : ℕ). runs.condition_holds a.q (take n a.state.now) (span_rows a.model.now (entry index 11) n index (892 + 6 * a.u + 4))) c.number_at-n.ensures in
    first_passes _ _ (sym c.if-modes_fit.true ∙ c.modes_fit.ensures) told

pub returns-else-modes_fit : goal.returns-else-modes_fit
unfolding unsafe_at
returns-else-modes_fit c = c.if-modes_fit.false ∙ first-fails _ _ (sym c.if-modes_fit.false ∙ c.modes_fit.ensures)
