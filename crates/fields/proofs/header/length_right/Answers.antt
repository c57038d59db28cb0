-- The tests of the length one by one. Assumes nothing.
use native.Mathlib.Omega.{arith}
use Rattle.fields.proofs.HeaderLaws.{length-short, length-long, length-told}
use Rattle.fields.proofs.header.length_right.Goals as goal

pub returns-then-length-lt4 : goal.returns-then-length-lt4
returns-then-length-lt4 c = length-short c.args.s.now c.if-length-lt4.true

pub returns-then-length-gt32768 : goal.returns-then-length-gt32768
returns-then-length-gt32768 c = length-long c.args.s.now c.if-length-lt4.false c.if-length-gt32768.true

pub overflow_cast-result : goal.overflow_cast-result
overflow_cast-result c = omega (arith, c.shared_slice_known-1.given 0)

pub overflow_mul-result : goal.overflow_mul-result
overflow_mul-result c = omega (arith, c.shared_slice_known-1.given 0)

pub overflow_cast-result-2 : goal.overflow_cast-result-2
overflow_cast-result-2 c = omega (arith, c.shared_slice_known-2-1.given 0, c.shared_slice_known-2-1.given 1)

pub overflow_add-result : goal.overflow_add-result
overflow_add-result c = omega (arith, c.shared_slice_known-2-1.given 0, c.shared_slice_known-2-1.given 1)

pub overflow_add-result-2 : goal.overflow_add-result-2
overflow_add-result-2 c = omega (arith, c.shared_slice_known-2-1.given 0, c.shared_slice_known-2-1.given 1)

pub returns : goal.returns
returns c = length-told c.args.s.now c.if-length-lt4.false c.if-length-gt32768.false
