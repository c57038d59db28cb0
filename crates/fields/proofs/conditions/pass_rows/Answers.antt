-- All bytes are there, or the first cut number is a whole number of fields on. Assumes nothing.
use mathlib.Core.Path.{sym, ap, ◌∙◌}
use native.Mathlib.Omega.{arith}
use Rattle.fields.specs.Places.{rows_from}
use Rattle.formats.specs.Reading.{got}
use Prim.Native.Nat.{ℕ, ◌+◌}
use Rattle.fields.specs.Answers.{got_as}
use Rattle.fields.proofs.Skipping.{rows-got, rows_cut}
use Rattle.fields.proofs.conditions.pass_rows.Goals as goal

pub rows_bytes-size-requires : goal.rows_bytes-size-requires
rows_bytes-size-requires c = (c.requires.count_bound.1, omega (arith, c.requires.count_bound.0))

pub returns-then-size-left : goal.returns-then-size-left
unfolding got_as
returns-then-size-left c =
    let a = c.args in
    let size = c.rows_bytes-size in
    ap (λ (k : ℕ). got (rows_from a.s.now a.version a.n a.at a.count) (a.at + k)) size.ensures
    ∙ sym (rows-got a.s.now a.version a.n a.at a.count (omega (arith, size.ensures, c.if-size-left.true, c.requires.at_in_bounds)))

pub returns-else-size-left : goal.returns-else-size-left
unfolding got_as
returns-else-size-left c =
    let a = c.args in
    sym (rows_cut a.s.now a.version a.n a.at a.count c.requires.at_in_bounds (omega (arith, c.rows_bytes-size.ensures, c.if-size-left.false, c.requires.at_in_bounds)))
