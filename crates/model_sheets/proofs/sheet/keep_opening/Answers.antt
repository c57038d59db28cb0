-- Three stores. Assumes nothing.
use native.Mathlib.Omega.{arith}
use lib.ListN.{length-set}
use Rattle.model_sheets.proofs.OpeningLaws.{opening-stands, opening-kept}
use Rattle.model_sheets.proofs.sheet.keep_opening.Goals as goal

pub overflow_cast-index : goal.overflow_cast-index
overflow_cast-index c = omega (arith, c.requires.1)

pub bounds-index-11 : goal.bounds-index-11
bounds-index-11 c = omega (arith, c.requires.0)

pub bounds-index-12 : goal.bounds-index-12
bounds-index-12 c = simp length-set (omega (arith, c.requires.0))

pub bounds-index : goal.bounds-index
bounds-index c = simp length-set (omega (arith, c.requires.0))

pub returns : goal.returns
returns c = let a = c.args in record { index_after = opening-stands a.index.now a.version a.paper c.requires.0; kept = opening-kept a.index.now a.version a.paper c.requires.0 }
