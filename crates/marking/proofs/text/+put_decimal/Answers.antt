-- A number below 10 is one digit; any other is its last digit behind the others. Assumes nothing.
use mathlib.Core.Path.{sym, ap, ◌∙◌}
use mathlib.Core.List.{List}
use Prim.Native.Nat.{ℕ, ◌+◌, ◌/◌}
use native.Mathlib.Omega.{arith}
use lib.ListN.{length}
use Rattle.buffers.specs.Over.{over}
use Rattle.marking.proofs.BufferLaws.{decimal-small, decimal-put, ten-digits}
use Rattle.marking.proofs.text.+put_decimal.Goals as goal

pub returns-then-n-lt10 : goal.returns-then-n-lt10
returns-then-n-lt10 t c =
    let a = c.args in
    let e = decimal-small a.n c.if-n-lt10.true in
    (c.put_byte.ensures.0 ∙ ap (λ (l : List ℕ). a.at + length l) (sym e), c.put_byte.ensures.1 ∙ ap (over a.text.now a.at) (sym e))

pub put_byte-requires-2 : goal.put_byte-requires-2
put_byte-requires-2 t c =
    omega (arith, c.put_decimal-next.ensures.0, ten-digits (c.args.n / 10) (omega (arith, c.ranges.n)), c.requires)

pub returns : goal.returns
returns t c =
    let a = c.args in
    let rest = c.put_decimal-next in
    let put = c.put_byte-2 in
    let both = decimal-put a.text.now rest.new.text put.new.out a.at rest.result a.n c.if-n-lt10.false rest.ensures put.ensures.1 in
    (put.ensures.0 ∙ both.0, both.1)
