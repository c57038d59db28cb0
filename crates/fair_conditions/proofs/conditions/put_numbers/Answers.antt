-- Number by number, what is left is written after what is there. Assumes nothing.
use Rattle.buffers.proofs.WritingLaws.{as-word}
use Rattle.fair_conditions.proofs.PutLaws.{numbers-go-on, numbers-end}
use native.Mathlib.Omega.{arith}
use Rattle.fair_conditions.proofs.conditions.put_numbers.Goals as goal

pub loop-i-preserved : goal.loop-i-preserved
loop-i-preserved c =
    let a = c.args in
    let l = c.loop-i in
    let w = c.put_word-next in
    numbers-go-on a.out.now a.at a.kept.now a.base a.count l.out w.new.out l.next w.result l.i c.coded.result c.loop-i-test.true c.coded.ensures (as-word c.coded.result w.ensures) l.invariant

pub returns-clause-written : goal.returns-clause-written
returns-clause-written c =
    let a = c.args in
    let l = c.loop-i in
    (numbers-end a.out.now a.at a.kept.now a.base a.count l.out l.next l.i (omega arith) l.invariant).0
