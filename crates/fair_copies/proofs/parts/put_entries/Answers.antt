-- Byte by byte. Assumes nothing.
use mathlib.Core.Path.{subst}
use mathlib.Core.List.{List, [], ◌∷◌}
use Prim.Native.Nat.{ℕ, ◌+◌}
use Rattle.formats.specs.Joint.{count_up}
use Rattle.models.specs.Index.{entry}
use Rattle.buffers.specs.Written.{Written}
use Rattle.buffers.proofs.WritingLaws.{as_written}
use Rattle.fair_copies.proofs.EachPut.{each-goes-on, each-ends, joined_bytes}
use native.Mathlib.Omega.{arith}
use Rattle.fair_copies.proofs.parts.put_entries.Goals as goal

pub loop-i-preserved : goal.loop-i-preserved
loop-i-preserved c =
    let a = c.args in
    let l = c.loop-i in
    let w = c.put_byte-next in
    (each-goes-on (λ k. entry a.index.now (a.from + k) ∷ []) 1 a.out.now a.at a.count l.out w.new.out l.next w.result l.i c.loop-i-test.true (subst (λ (b : ℕ). Written l.out l.next (b ∷ []) w.new.out w.result) c.number_at.ensures (as_written w.ensures)) (omega (arith, w.ensures.0)) l.invariant.0, omega (arith, w.ensures.0, l.invariant.1))

pub returns-clause-written : goal.returns-clause-written
returns-clause-written c =
    let a = c.args in
    let l = c.loop-i in
    let w = each-ends (λ k. entry a.index.now (a.from + k) ∷ []) 1 a.out.now a.at a.count l.out l.next l.i (omega arith) l.invariant.0 in
    subst (λ (b : List ℕ). Written a.out.now a.at b l.out l.next) (joined_bytes (λ k. entry a.index.now (a.from + k)) (count_up 0 a.count)) w.0
