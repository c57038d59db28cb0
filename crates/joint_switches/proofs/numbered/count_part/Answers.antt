-- What has been counted, with the switches still to come from here on, is the whole; places of other components stay. Assumes nothing.
use Prim.Native.Nat.{◌+◌, ◌*◌}
use native.Mathlib.Omega.{arith}
use lib.ListN.{get_or}
use Rattle.joint_switches.specs.Numbered.{Wide}
use Rattle.models.proofs.IndexLaws.{kept-none, kept_set, kept_then}
use Rattle.joint_switches.proofs.NumberedLaws.{counting-starts, counting-ends, place-low, place-high, place-small, counting-few, counting-goes-on}
use Rattle.joint_switches.proofs.numbered.count_part.Goals as goal

pub loop-i-init : goal.loop-i-init
loop-i-init c =
    let a = c.args in
    (counting-starts a.by.width a.by.step a.s.now a.index.now a.k c.requires.blank, kept-none (a.by.width * a.k) (a.by.width * a.k + a.by.width) a.table.now)

pub bounds-table-place : goal.bounds-table-place
bounds-table-place c =
    let p = c.requires in
    let fits : Wide c.args.by.width c.args.by.step = record { enough = c.args.by.enough; few = c.args.by.few } in
    omega (arith, place-small p.good_index fits c.args.k c.loop-i.i c.place_of-place.result p.k_bound.0 (omega arith) c.place_of-place.ensures)

pub overflow_add-table : goal.overflow_add-table
overflow_add-table c =
    let p = c.requires in
    let fits : Wide c.args.by.width c.args.by.step = record { enough = c.args.by.enough; few = c.args.by.few } in
    omega (arith, counting-few p.good_index fits c.args.k c.loop-i.i c.place_of-place.result p.k_bound.0 (omega arith) c.place_of-place.ensures c.loop-i.invariant.0)

pub bounds-table-place-in-loop-i : goal.bounds-table-place-in-loop-i
bounds-table-place-in-loop-i c =
    let p = c.requires in
    let fits : Wide c.args.by.width c.args.by.step = record { enough = c.args.by.enough; few = c.args.by.few } in
    omega (arith, place-small p.good_index fits c.args.k c.loop-i.i c.place_of-place.result p.k_bound.0 (omega arith) c.place_of-place.ensures)

pub loop-i-preserved : goal.loop-i-preserved
loop-i-preserved c =
    let a = c.args in
    let g = c.requires.good_index in
    let fits : Wide a.by.width a.by.step = record { enough = a.by.enough; few = a.by.few } in
    let h = c.requires.k_bound.0 in
    let w = c.loop-i.invariant in
    let i = c.loop-i.i in
    let table = c.loop-i.table in
    let place = c.place_of-place.result in
    let q = c.place_of-place.ensures in (
      counting-goes-on g fits a.k i place h (omega arith) q (omega arith) w.0,
      kept_then w.1 (kept_set (a.by.width * a.k) (a.by.width * a.k + a.by.width) table place (get_or table place 0 + 1) (place-low g fits a.k i place h (omega arith) q) (place-high g fits a.k i place h (omega arith) q)),
    )

pub returns-clause-numbered_at : goal.returns-clause-numbered_at
returns-clause-numbered_at c = counting-ends c.loop-i.i (omega arith) c.loop-i.invariant.0
