-- The number of the owner's switch. Assumes nothing.
use mathlib.Core.Path.{ap}
use Prim.Native.Nat.{ℕ}
use native.Mathlib.Omega.{arith}
use lib.Dec.{eqb}
use lib.ListN.{get_or}
use Rattle.formats.specs.Joint.{stays}
use Rattle.models.specs.Index.{owner_place}
use Rattle.papers.specs.Blanks.{stays_at}
use Rattle.papers.proofs.blanks.owner_stays.Goals as goal

pub overflow_add-v : goal.overflow_add-v
overflow_add-v c = omega (arith, c.requires.0.most, c.requires.1)

pub number_at-owner-requires : goal.number_at-owner-requires
number_at-owner-requires c = omega (arith, c.requires.0.most, c.requires.1)

pub bounds-switches-owner : goal.bounds-switches-owner
unfolding owner_place
bounds-switches-owner c = omega (arith, c.number_at-owner.ensures, c.requires.0.owners c.args.v c.requires.1)

pub returns : goal.returns
unfolding stays_at stays owner_place
returns c = ap (λ (k : ℕ). eqb (get_or c.args.switches k 0) 255) c.number_at-owner.ensures
