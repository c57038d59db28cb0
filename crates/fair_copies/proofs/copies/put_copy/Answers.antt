-- The body, then the header in front of it. Assumes nothing.
use mathlib.Core.Path.{refl}
use Rattle.models.specs.Index.{model_from}
use Rattle.formats.proofs.Versions.{version-small}
use Rattle.buffers.proofs.WritingLaws.{as-half}
use Rattle.fair_copies.proofs.CopyLaws.{headed}
use native.Mathlib.Omega.{arith}
use Rattle.fair_copies.proofs.copies.put_copy.Goals as goal

pub overflow_cast-version_of : goal.overflow_cast-version_of
overflow_cast-version_of c = omega (arith, c.version_of.ensures, version-small 1 _ c.requires.good.version)

pub returns : goal.returns
unfolding model_from
returns c = let a = c.args in record { written = headed (model_from a.model.now a.index.now) a.out.now c.put_body-end.new.out c.put_half.new.out c.put_byte.new.out c.put_byte-2.new.out _ _ _ _ _ _ c.put_body-end.ensures.written refl (as-half _ c.put_half.ensures) c.version_of.ensures c.put_byte.ensures c.put_byte-2.ensures; upper_bound = omega (arith, c.put_body-end.ensures.upper_bound) }
