-- The form and place of the segment, and how many hypotheses come before it. Assumes nothing.
use mathlib.Core.Path.{◌≡◌, ap}
use mathlib.Core.List.{List}
use Prim.Native.Nat.{ℕ, ◌+◌, ◌*◌, ◌-◌, ◌≤◌}
use native.Mathlib.Omega.{arith}
use lib.ListN.{get_or}
use Rattle.models.specs.Index.{entry}
use Rattle.hypotheses.specs.Tables.{end_of}
use Rattle.sums.specs.declared.Line.{Line}
use Rattle.sums.specs.Summing.{line_in}
use Rattle.sums.proofs.lines.line_at.Goals as goal

earlier : (table : List ℕ) (g : ℕ) → 1 ≤ g → get_or table (4 * g - 4) 0 ≡ end_of table (g - 1)
unfolding entry
earlier table g h = ap (λ (i : ℕ). get_or table i 0) (same g h)
  where
    same : (g : ℕ) → 1 ≤ g → 4 * g - 4 ≡ 4 * (g - 1)
    same g h = omega arith

pub overflow_cast-form : goal.overflow_cast-form
overflow_cast-form c = omega (arith, c.shared_slice_known-1.given (4 * c.args.g + 1))

pub overflow_cast-place : goal.overflow_cast-place
overflow_cast-place c = omega (arith, c.shared_slice_known-2-1.given (4 * c.args.g + 2))

pub overflow_cast-row : goal.overflow_cast-row
overflow_cast-row c = omega (arith, c.shared_slice_known-3-1.given (4 * c.args.g - 4))

pub overflow_sub-row-2 : goal.overflow_sub-row-2
overflow_sub-row-2 c = rw (earlier c.args.table.now c.args.g c.requires.1.1.least) c.requires.1.1.from

pub returns : goal.returns
unfolding line_in entry
returns c =
    let a = c.args in
    let table = a.table.now in
    ap (λ (k : ℕ). let l : Line = record { form = get_or table (4 * a.g + 1) 0; place = get_or table (4 * a.g + 2) 0; row = a.h - k } in l) (earlier table a.g c.requires.1.1.least)
