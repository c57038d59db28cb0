-- A space, and the digits behind it. Assumes nothing.
use mathlib.Core.List.{[], ◌∷◌}
use native.Mathlib.Omega.{arith}
use Rattle.rules.specs.Program.{decimal}
use Rattle.marking.proofs.BufferLaws.{ten-digits, parts-put}
use Rattle.marking.proofs.text.put_number.Goals as goal

pub returns : goal.returns
returns c =
    let a = c.args in
    let space = c.put_byte-digits in
    let number = c.put_decimal in record { value = parts-put a.text.now space.new.out number.new.text a.at space.result number.result (32 ∷ []) (decimal a.n) space.ensures number.ensures; upper_bound = omega (arith, number.ensures.0, space.ensures.0, ten-digits a.n (omega (arith, c.ranges.n))) }
