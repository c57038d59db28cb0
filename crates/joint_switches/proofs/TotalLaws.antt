-- The totals of the components of an index, from one component on: what the loops that make them keep up, and how large they get.
-- Assumes nothing.
use mathlib.Core.Path.{◌≡◌, refl, sym, ap, ◌∙◌, subst}
use mathlib.Core.Bool.{Bool, true, false, cond}
use mathlib.Core.List.{List, [], ◌∷◌, map}
use Prim.Native.Nat.{ℕ, zero, suc, ◌+◌, ◌*◌, ◌-◌, ◌^◌, ◌≤◌, ◌<◌}
use native.Mathlib.Decide.{ℕ_discrete}
use native.Mathlib.Nat.{le_trans, mul-le-mul, pow-succ', pow-le-pow_right}
use native.Mathlib.Omega.{arith}
use borrow.Author.Tests.{eq-eqb, ne_eqb}
use lib.Count.{ones}
use lib.Dec.{eqb}
use lib.ListN.{length, get_or}
use denote.Param.Members.{Mut}
use Rattle.std.specs.Array.{IsFromFnResult, IsFromFnResultFrom}
use Rattle.std.specs.Fn.{Called}
use Rattle.std.specs.List.{sum}
use Rattle.std.proofs.lemmas.List.Sums.{sum_by-cons}
use Rattle.farkas.specs.Lists.{All, none, more}
use Rattle.formats.specs.Model.{Component, has_event}
use Rattle.formats.specs.Locations.{location_count}
use Rattle.formats.specs.Joint.{scope_mask, mover_count, count_up, joints}
use Rattle.formats.specs.JointTotals.{sum_over, joint_total, labelled, choices, together_total, silent_total, event_total}
use Rattle.models.specs.Index.{entry, GoodIndex, components_from}
use Rattle.models.specs.Counts.{component_at}
use Rattle.formats.proofs.WellFormed.{GoodComponent}
use Rattle.formats.proofs.JointCounts.{count_most}
use Rattle.formats.proofs.SumLaws.{sum-most}
use Rattle.formats.proofs.JointProduct.{countable, joints-total}
use Rattle.models.proofs.GoodIndexLaws.{counted-at, components-back, components-end, good-components, few-components}
use Rattle.joint_switches.proofs.JointLoops.{all_drop, components_on}
use Rattle.joint_switches.proofs.TableLaws.{by-numbers}
use Rattle.joint_switches.proofs.NumberedLaws.{labelled-few}

few-modes : {n : ℕ} {components : List Component} → All (GoodComponent n) components → All (λ c. length c.modes ≤ 8) components
few-modes none = none
few-modes (more g rest) = more g.most (few-modes rest)

-- a component's factor is at most 32
pub either-few : (b : Bool) (x y : ℕ) → x ≤ 32 → y ≤ 8 → cond b x y ≤ 32
either-few true x y h k = h
either-few false x y h k = omega arith

pub choices-few : {n : ℕ} (c : Component) (e : ℕ) → GoodComponent n c → choices c e ≤ 32
unfolding choices
choices-few c e g = either-few (has_event c.alphabet e) (labelled c e) (length c.modes) (omega (arith, labelled-few c e, g.few)) g.most

together-most : {n : ℕ} {components : List Component} → All (GoodComponent n) components → (e : ℕ) → together_total components e ≤ 32 ^ length components
unfolding together_total
together-most none e = omega arith
together-most (more {a = c} {xs = components} g rest) e = rw pow-succ' (mul-le-mul (choices-few c e g) (together-most rest e))

-- of event 0, so many components have at most so many
most : ℕ → ℕ
most zero = 0
most (suc n) = 32 * 8 ^ n + 8 * most n

silent-most : {n : ℕ} {components : List Component} → All (GoodComponent n) components → silent_total components ≤ most (length components)
unfolding silent_total most
silent-most none = omega arith
silent-most (more {a = c} {xs = components} g rest) =
    let modes = few-modes rest in
    let a : labelled c 0 ≤ 32 = omega (arith, labelled-few c 0, g.few) in
    omega (arith, mul-le-mul a (count_most modes), mul-le-mul g.most (silent-most rest))

four : (n : ℕ) → n ≤ 4 → most n ≤ 65536
unfolding most
four zero h = omega arith
four (suc zero) h = omega arith
four (suc (suc zero)) h = omega arith
four (suc (suc (suc zero))) h = omega arith
four (suc (suc (suc (suc zero)))) h = omega arith
four (suc (suc (suc (suc (suc n))))) h = absurd (omega arith)

module _ {s index : List ℕ} (g : GoodIndex s index) where
  pub good-on : (k : ℕ) → All (GoodComponent (entry index 0)) (components_on s index k)
  good-on k = all_drop k (good-components g)

  -- an event from 1
  pub together-starts : (e : ℕ) → 1 ≡ together_total (components_on s index (entry index 1)) e
  unfolding together_total
  together-starts e = sym (ap (λ components. together_total components e) (components-end s index))

  pub together-goes-on : (e k n count : ℕ) → 0 < k → k ≤ entry index 1 → n ≡ choices (component_at s index (k - 1)) e → count ≡ together_total (components_on s index k) e → n * count ≡ together_total (components_on s index (k - 1)) e
  unfolding together_total
  together-goes-on e k n count h l p q = rw (p, q) (sym (ap (λ components. together_total components e) (components-back s index k h l)))

  pub together-few : (e k : ℕ) → together_total (components_on s index k) e ≤ 1048576
  together-few e k = le_trans (together-most (good-on k) e) (pow-le-pow_right {n = 32} (omega arith) (few-components g k))

  -- event 0
  pub silent-starts : 0 ≡ silent_total (components_on s index (entry index 1))
  unfolding silent_total
  silent-starts = sym (ap silent_total (components-end s index))

  pub silent-goes-on : (k n m unit count : ℕ) → 0 < k → k ≤ entry index 1 → n ≡ labelled (component_at s index (k - 1)) 0 → m ≡ length (component_at s index (k - 1)).modes → unit ≡ location_count (components_on s index k) → count ≡ silent_total (components_on s index k) → n * unit + m * count ≡ silent_total (components_on s index (k - 1))
  unfolding silent_total
  silent-goes-on k n m unit count h l p q r t = rw (p, q, r, t) (sym (ap silent_total (components-back s index k h l)))

  pub silent-few : (k : ℕ) → silent_total (components_on s index k) ≤ 65536
  silent-few k = le_trans (silent-most (good-on k)) (four (length (components_on s index k)) (few-components g k))

-- a component's factor, by whether it is in the scope
pub choices-member : (c : Component) (e : ℕ) {b : Bool} → b ≡ has_event c.alphabet e → b ≡ true → choices c e ≡ labelled c e
unfolding choices
choices-member c e p q = ap (λ b. cond b (labelled c e) (length c.modes)) (sym p ∙ q)

pub choices-other : (c : Component) (e : ℕ) {b : Bool} → b ≡ has_event c.alphabet e → b ≡ false → choices c e ≡ length c.modes
unfolding choices
choices-other c e p q = ap (λ b. cond b (labelled c e) (length c.modes)) (sym p ∙ q)

-- the total of an event from 1, by whether the scope mask has ones
pub none-in-scope : (components : List Component) (e mask : ℕ) → 1 ≤ e → mask ≡ scope_mask components e → ones mask ≡ 0 → 0 ≡ event_total components e
unfolding event_total mover_count
none-in-scope components zero mask h p q = absurd (omega arith)
none-in-scope components (suc e) mask h p q =
    sym (ap (λ b. cond b 0 (together_total components (suc e))) (eq-eqb (ones (scope_mask components (suc e))) 0 (sym (ap ones p) ∙ q)))

pub some-in-scope : (components : List Component) (e mask : ℕ) → 1 ≤ e → mask ≡ scope_mask components e → (ones mask ≡ 0 → ⊥) → together_total components e ≡ event_total components e
unfolding event_total mover_count
some-in-scope components zero mask h p q = absurd (omega arith)
some-in-scope components (suc e) mask h p q =
    sym (ap (λ b. cond b 0 (together_total components (suc e))) (ne_eqb (ones (scope_mask components (suc e))) 0 (λ r. q (ap ones p ∙ r))))

-- event 0
pub silent-event : (components : List Component) → silent_total components ≡ event_total components 0
unfolding event_total
silent-event components = refl

pub few-or-none : (b : Bool) (n most : ℕ) → n ≤ most → cond b 0 n ≤ most
few-or-none true n most h = omega arith
few-or-none false n most h = h

pub event-few : {s index : List ℕ} → GoodIndex s index → (e : ℕ) → event_total (components_from s index) e ≤ 1048576
unfolding event_total
event-few g zero = omega (arith, silent-few g 0)
event-few {s} {index} g (suc e) =
    few-or-none (eqb (mover_count (components_from s index) (suc e)) 0) (together_total (components_from s index) (suc e)) 1048576 (together-few g (suc e) 0)

-- an array that a function makes, number by number, with calls that leave the function as it is
module _ {F : Type 0} (calls : Mut F (ℕ × Unit {0}) ℕ) (f : F) (h : ℕ → ℕ) (told : (i y : ℕ) (q : F) → Called calls f (i, tt) y q → (q ≡ f) × (y ≡ h i)) where
  made : (ys : List ℕ) (i n : ℕ) → IsFromFnResultFrom calls f ys i n → (j : ℕ) → i ≤ j → j < i + n → get_or ys j 0 ≡ h j
  made ys i zero r j a b = absurd (omega arith)
  made ys i (suc n) (q, y, at, called, rest) j a b =
      here (ℕ_discrete i j) (λ d. made ys (i + 1) n (subst (λ (p : F). IsFromFnResultFrom calls p ys (i + 1) n) (told i y q called).0 rest) j (omega (arith, d)) (omega arith))
    where
      here : Dec (i ≡ j) → ((i ≡ j → ⊥) → get_or ys j 0 ≡ h j) → get_or ys j 0 ≡ h j
      here (yes e) later = ap (λ (k : ℕ). get_or ys k 0) (sym e) ∙ at.1 0 ∙ (told i y q called).1 ∙ ap h e
      here (no d) later = later d

  pub made-whole : (ys : List ℕ) (n : ℕ) → IsFromFnResult calls f ys n → ys ≡ map h (count_up 0 n)
  made-whole ys n r =
      by-numbers h ys 0 (λ p l. made ys 0 n r.each p (omega arith) (omega (arith, r.long)) ∙ ap h (start p)) ∙ ap (λ (k : ℕ). map h (count_up 0 k)) r.long
    where
      start : (p : ℕ) → p ≡ 0 + p
      start p = omega arith

-- what an array of all events' totals has at a number
pub total-at : (f : ℕ → ℕ) (totals : List ℕ) (e : ℕ) → totals ≡ map f (count_up 0 16) → e < 16 → get_or totals e 0 ≡ f e
total-at f totals e p h = ap (λ (xs : List ℕ). get_or xs e 0) p ∙ counted-at f 16 e 0 h

-- all events: the sum of an array of their totals, which is how many joint switches there are, and how large it gets
sum-mapped : (f : ℕ → ℕ) (xs : List ℕ) → sum (map f xs) ≡ sum_over f xs
unfolding sum_over
sum-mapped f [] = refl
sum-mapped f (x ∷ xs) = sum_by-cons (λ n. n) (f x) (map f xs) ∙ ap (λ (n : ℕ). f x + n) (sum-mapped f xs)

module _ {s index totals : List ℕ} (g : GoodIndex s index) (told : totals ≡ map (event_total (components_from s index)) (count_up 0 16)) where
  in_all : sum totals ≡ sum_over (event_total (components_from s index)) (count_up 0 16)
  in_all = ap sum told ∙ sum-mapped (event_total (components_from s index)) (count_up 0 16)

  pub totals-few : sum totals < 2 ^ 32
  totals-few = omega (arith, in_all, sum-most (event_total (components_from s index)) 1048576 (event-few g) 16)

  pub totals-summed : sum totals ≡ length (joints (components_from s index))
  unfolding joint_total
  totals-summed = in_all ∙ sym (joints-total (countable (good-components g)))
