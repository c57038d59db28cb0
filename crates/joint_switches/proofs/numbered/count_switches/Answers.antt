-- The components so far are counted, and from the next one on the table is blank. Assumes nothing.
use native.Mathlib.Omega.{arith}
use Rattle.joint_switches.proofs.NumberedLaws.{blank-later, numbers-go-on}
use Rattle.joint_switches.proofs.numbered.count_switches.Goals as goal

pub loop-k-preserved : goal.loop-k-preserved
loop-k-preserved c =
    let w = c.loop-k.invariant in
    let k = c.loop-k.k in
    let done = c.count_part.ensures in
    (numbers-go-on k done.kept done.numbered_at w.0, blank-later c.args.by.width k done.kept w.1)

pub returns : goal.returns
returns c = λ k p h l. (c.loop-k.invariant.0 k (omega arith)).counted p l
