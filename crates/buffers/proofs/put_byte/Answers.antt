-- A byte that fits is stored; one that does not changes nothing. Assumes nothing.
use mathlib.Core.Path.{refl}
use native.Mathlib.Omega.{arith}
use Rattle.buffers.proofs.OverLaws.{over-one, over-past}
use Rattle.buffers.proofs.put_byte.Goals as goal

pub returns-then-out-at : goal.returns-then-out-at
returns-then-out-at c = (refl, over-past _ _ _ (omega arith))

pub returns : goal.returns
returns c = (refl, over-one _ _ _ (omega arith))
