-- The owner stays, or the rows of its switch decide. Assumes nothing.
use mathlib.Core.Path.{◌≡◌, sym, ap, ◌∙◌}
use mathlib.Core.Bool.{Bool, true, false, ◌||◌}
use mathlib.Core.List.{List}
use Prim.Native.Nat.{ℕ, ◌<◌}
use native.Mathlib.Omega.{arith}
use borrow.Author.Tests.{eq-eqb, ne_eqb}
use lib.Dec.{eqb}
use lib.ListN.{get_or}
use Rattle.formats.specs.Joint.{stays}
use Rattle.models.specs.Index.{entry, owner_place}
use Rattle.papers.specs.Blanks.{owner_in, stays_at, lands_at, rests_at}
use Rattle.papers.proofs.blanks.kept_in_jump.Goals.{After-number_at-owner, Else-i}
use Rattle.papers.proofs.blanks.kept_in_jump.Goals as goal

pub overflow_add-v : goal.overflow_add-v
overflow_add-v c = omega (arith, c.requires.known_switches.1, c.requires.good_index.0.most)

pub number_at-owner-requires : goal.number_at-owner-requires
number_at-owner-requires c = omega (arith, c.requires.known_switches.1, c.requires.good_index.0.most)

-- the owner is one of the components
owner-is : (c : After-number_at-owner) → c.number_at-owner.result ≡ owner_in c.args.index.now c.args.v
unfolding owner_place
owner-is c = c.number_at-owner.ensures

owner-known : (c : After-number_at-owner) → c.number_at-owner.result < entry c.args.index.now 1
owner-known c =
    omega (arith, owner-is c, c.requires.good_index.0.owners c.args.v c.requires.known_switches.1)

pub bounds-switches-owner : goal.bounds-switches-owner
bounds-switches-owner c = omega (arith, owner-known c, c.requires.good_index.0.few)

-- by cases of the test, with the owner that the code found
rested : (model index switches : List ℕ) (v o : ℕ) (r : Bool) → o ≡ owner_in index v → r ≡ (eqb (get_or switches o 0) stays || lands_at model index o (get_or switches o 0) v) → r ≡ rests_at model index switches v
unfolding rests_at stays_at
rested model index switches v o r e h = h ∙ ap (λ (k : ℕ). eqb (get_or switches k 0) stays || lands_at model index k (get_or switches k 0) v) e

pub returns-then-i : goal.returns-then-i
unfolding stays
returns-then-i c =
    let a = c.args in
    let o = c.number_at-owner.result in
    rested a.model.now a.index.now a.switches a.v o true (owner-is (goal.at.returns-then-i c).After-number_at-owner) (sym (ap (λ (b : Bool). b || lands_at a.model.now a.index.now o (get_or a.switches o 0) a.v) (eq-eqb (get_or a.switches o 0) 255 c.if-i.true)))

-- the owner moves by one of its switches
moves : (c : Else-i) → eqb (get_or c.args.switches c.number_at-owner.result 0) stays ≡ false
unfolding stays
moves c = ne_eqb _ 255 c.if-i.false

pub blank_in_jump-requires : goal.blank_in_jump-requires
blank_in_jump-requires c =
    let k = c.number_at-owner.result in
    let h = owner-known (goal.at.blank_in_jump-requires c).After-number_at-owner in record { good_index = c.requires.good_index; owner_bound = (h, (c.requires.known_switches.0.known k h (moves c), c.requires.known_switches.1)) }

pub returns : goal.returns
returns c =
    let a = c.args in
    let o = c.number_at-owner.result in
    rested a.model.now a.index.now a.switches a.v o c.blank_in_jump.result (owner-is (goal.at.returns c).After-number_at-owner)
    (c.blank_in_jump.ensures ∙ sym (ap (λ (b : Bool). b || lands_at a.model.now a.index.now o (get_or a.switches o 0) a.v) (moves (goal.at.returns c).Else-i)))
