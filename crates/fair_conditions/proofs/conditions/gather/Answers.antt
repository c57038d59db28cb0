-- Each turn takes the row before those that are gathered. Assumes nothing.
use mathlib.Core.Path.{◌≡◌, subst₂}
use mathlib.Core.List.{List, ◌∷◌}
use Prim.Native.Nat.{ℕ, ◌+◌, ◌*◌, ◌-◌, ◌≤◌, ◌<◌}
use lib.ListN.{length}
use Rattle.farkas.specs.Rows.{Row}
use Rattle.farkas.specs.Words.{row_in}
use Rattle.formats.specs.Versions.{row_bytes}
use Rattle.formats.proofs.Versions.{numbers-within}
use Rattle.fair_rows.specs.FairRows.{fair_rows}
use Rattle.fair_conditions.specs.Held.{rows_by}
use Rattle.fair_conditions.proofs.GatherLaws.{gather-starts, gather-goes-on}
use native.Mathlib.Omega.{arith}
use Rattle.fair_conditions.proofs.conditions.gather.Goals as goal

pub loop-j-init : goal.loop-j-init
loop-j-init c = gather-starts _ _ _ _ _ _ _

back : (j : ℕ) → 0 < j → j ≡ j - 1 + 1
back j h = omega arith

pub take_row-count-requires-clause-numbers_in : goal.take_row-count-requires-clause-numbers_in
take_row-count-requires-clause-numbers_in c =
    let a = c.args in
    let l = c.loop-j in
    let at = a.place + c.row_bytes-size.result * c.from.result in
    let inside : at + row_bytes a.version a.n ≤ length a.s.now =
    rw (c.row_bytes-size.ensures, c.from.ensures) (omega (arith, c.requires.by_index.0 (l.j - 1) (omega (arith, l.invariant.few)))) in
    ((numbers-within a.version a.n at (length a.s.now) inside, omega (arith, c.requires.by_index.1.0)), (c.requires.by_index.1.1.0, omega (arith, l.invariant.few, c.requires.by_index.1.1.1)))

pub loop-j-preserved : goal.loop-j-preserved
loop-j-preserved c =
    let a = c.args in
    let l = c.loop-j in
    let t = c.take_row-count in
    gather-goes-on a.s.now a.place a.version a.n a.rows a.kept.now a.sorted.now l.kept l.sorted t.new.kept t.new.sorted l.count l.j (l.j - 1) t.result (back l.j (omega arith)) l.invariant t.auto.kept t.auto.sorted
    (subst₂ (λ (k i : ℕ). (given : List Row) → rows_by l.kept a.n l.sorted l.count ≡ fair_rows given → rows_by t.new.kept a.n t.new.sorted t.result ≡ fair_rows (row_in a.s.now (a.place + k * i) a.n ∷ given)) c.row_bytes-size.ensures c.from.ensures t.ensures.result_after)
    t.ensures.upper_bound.0 t.ensures.upper_bound.1
