-- What each reader calls stands further on in the text, or is the reader one level down. Assumes nothing.
use Prim.Native.Nat.{◌+◌, ◌*◌, ◌-◌}
use lib.ListN.{length}
use Rattle.typed.proofs.working.Source.+readers.Given as goal

abbrev pub decreases-expression : goal.decreases-expression
decreases-expression l = 3 * (length l.self.now.text.now - l.at) + 3

abbrev pub decreases-sums : goal.decreases-sums
decreases-sums l = 3 * (length l.self.now.text.now - l.left.now.next) + 1

abbrev pub decreases-term : goal.decreases-term
decreases-term l = 3 * (length l.self.now.text.now - l.at) + 2

abbrev pub decreases-products : goal.decreases-products
decreases-products l = 3 * (length l.self.now.text.now - l.left.now.next) + 1

abbrev pub decreases-factor : goal.decreases-factor
decreases-factor l = 3 * (length l.self.now.text.now - l.at) + 1
