-- Four numbers are written after those of the earlier segments. Assumes nothing.
use native.Mathlib.Omega.{arith}
use Rattle.models.specs.Index.{entry}
use Rattle.hypotheses.proofs.TableLaws.{after, pushed-one, as-promised}
use Rattle.hypotheses.proofs.tables.push.Goals as goal

pub returns : goal.returns
unfolding after entry
returns c = let a = c.args in let both = as-promised (pushed-one a.table.now a.at a.form a.place a.owner a.count (omega arith) c.requires.in_bounds.1 c.requires.stacked.1 c.requires.stacked.0) in record { result_after = both.0; onto = both.1 }

pub overflow_add-table : goal.overflow_add-table
unfolding entry
overflow_add-table c = omega (arith, c.requires.stacked.0.small c.args.at (omega arith))
