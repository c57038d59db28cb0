-- A turn takes the next batch where this one is written whole, and writes one record more. Assumes nothing.
use mathlib.Core.Path.{◌≡◌}
use Prim.Native.Nat.{◌<◌}
use native.Mathlib.Omega.{arith}
use borrow.Author.Rules.{rules}
use lib.ListN.{length}
use Rattle.entries.proofs.ListPlan.{Written, plan, written_none, written-batch, written_next}
use Rattle.entries.proofs.table.silfoddra_joint_list.Goals.{then-j-at, else-j-at}
use Rattle.entries.proofs.table.silfoddra_joint_list.Goals as goal

pub loop-i-init : goal.loop-i-init
loop-i-init c =
    let begun = c.list_begin-listing in
    let p = plan _ _ _ c.args.table.now begun.ensures.1 begun.result.answer c.record_count-count.result begun.ensures.0 c.record_count-count.ensures in
    (p, (written_none p c.list_start-at.result c.list_start-at.ensures, search rules))

pub loop-i-preserved : goal.loop-i-preserved
loop-i-preserved c =
    let p = c.loop-i.invariant.0 in
    let w = c.loop-i.invariant.1.0 in
    let long = c.loop-i.invariant.1.1 in
    let more = c.loop-i-test.true in
    let here : Written p c.loop-i.i c.if-j-at.j c.if-j-at.at c.loop-i.table × ((c.if-j-at.j < c.if-j-at.at.count) × (length c.if-j-at.at.words ≡ 64)) =
    elim c.if-j-at.branch [
      | then-j-at v ↦ let b = written-batch p w long more v.if-j-at.true v.next_batch-at.result v.next_batch-at.ensures in rw (v.at-is, v.j-is) (b.0, (b.1, search rules))
      | else-j-at v ↦ rw (v.at-is, v.j-is) (w, (omega (arith, w.inside, v.if-j-at.false), long))
    ] in
    (p, (written_next p here.0 here.1.1 more here.1.0 c.unpacked.result c.unpacked.ensures, here.1.1))
