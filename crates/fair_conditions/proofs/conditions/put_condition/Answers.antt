-- The count of the rows that are left, then the rows. Assumes nothing.
use mathlib.Core.Path.{sym}
use mathlib.Core.List.{[], ◌∷◌, map}
use Prim.Native.Nat.{◌≤◌}
use lib.ListN.{length}
use Rattle.formats.specs.Joint.{join_all}
use Rattle.writing.specs.Changed.{unplaced}
use Rattle.writing.specs.Writing.{write_row}
use Rattle.buffers.proofs.WritingLaws.{left-all, left-on, left-last, left_as, as_written}
use Rattle.fair_conditions.specs.Held.{rows_by, stretch_rows, stretch_bytes}
use Rattle.fair_conditions.proofs.PutLaws.{condition-written}
use native.Mathlib.Omega.{arith}
use Rattle.fair_conditions.proofs.conditions.put_condition.Goals as goal

pub returns : goal.returns
returns c =
    let a = c.args in
    let g = c.gather-count in
    let kept = g.new.kept in
    let sorted = g.new.sorted in
    let fits : g.result ≤ length sorted = omega (arith, g.ensures.upper_bound.0, c.requires.good_stretch.few, g.auto.sorted, c.requires.at_bound.1.1) in
    let w = c.put_rows in
    let all = left-last _ (left-on (g.result ∷ []) (join_all (write_row a.stretch.version) (map unplaced (rows_by kept a.stretch.n sorted g.result))) (left_as (sym (condition-written a.stretch.version kept a.stretch.n sorted g.result (stretch_rows a.s.now a.stretch) fits g.ensures.result_after)) (left-all a.out.now a.at (stretch_bytes a.s.now a.stretch))) (as_written c.put_byte-first.ensures)) w.ensures.written in record { value = all.ends; out_after = all.holds; upper_bound = omega (arith, w.ensures.upper_bound, c.put_byte-first.ensures.0, g.ensures.upper_bound.0, c.requires.good_stretch.few) }
