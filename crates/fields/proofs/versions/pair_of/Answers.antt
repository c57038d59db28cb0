-- By the law of each case. Assumes nothing.
use mathlib.Core.Path.{sym}
use native.Mathlib.Omega.{arith}
use Rattle.formats.proofs.Versions.{pair-early, pair-late}
use Rattle.fields.proofs.versions.pair_of.Goals as goal

pub returns-then-version-le2 : goal.returns-then-version-le2
returns-then-version-le2 c = sym (pair-early c.args.version (omega (arith, c.if-version-le2.true)))

pub returns-else-version-le2 : goal.returns-else-version-le2
returns-else-version-le2 c = sym (pair-late c.args.version (omega (arith, c.if-version-le2.false)))
