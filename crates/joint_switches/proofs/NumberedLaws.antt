-- A table of switches by their numbers: what the loops that make it keep up, and what it tells of labels and of modes that are entered.
-- Assumes nothing.
use mathlib.Core.Path.{◌≡◌, refl, sym, ap, ap₂, ◌∙◌}
use mathlib.Core.Bool.{Bool, true, false, ◌&&◌}
use mathlib.Core.List.{List, [], ◌∷◌}
use Prim.Native.Nat.{ℕ, suc, ◌+◌, ◌*◌, ◌≤◌, ◌<◌}
use native.Mathlib.Decide.{ℕ_discrete}
use native.Mathlib.Nat.{mul-le-mul_left, mul-le-mul}
use native.Mathlib.Numerals.{add-one}
use native.Mathlib.Omega.{arith}
use borrow.Author.Count.{below_more}
use borrow.Author.Tests.{eq-eqb, ne_eqb}
use lib.Dec.{eqb}
use lib.ListN.{length, get_or, drop, set, drop_of_length-le}
use lib.Seq.{drop-cons}
use Rattle.farkas.specs.Lists.{All, none, more}
use Rattle.formats.specs.Model.{Switch, Component}
use Rattle.formats.specs.Joint.{switch_of, bit}
use Rattle.formats.specs.JointTotals.{sum_over, labelled, entering}
use Rattle.models.specs.Index.{entry, GoodIndex, Kept}
use Rattle.models.specs.Counts.{component_at}
use Rattle.joint_switches.specs.Tables.{Blank}
use Rattle.joint_switches.specs.Numbered.{number_of, numbered, Wide, NumberedAt, ByLabel, ByMode}
use Rattle.formats.proofs.WellFormed.{GoodSwitch}
use Rattle.formats.proofs.SumLaws.{sum_same}
use Rattle.models.proofs.GoodIndexLaws.{good-component}
use Rattle.joint_switches.proofs.TableLaws.{target_small, label_small, target_at, label_at, raised-here, raised-other}

-- the switches from one on that have a number
unfoldable pub numbered_from : ℕ → Component → ℕ → ℕ → ℕ
numbered_from step c p i = sum_over (λ w. bit (eqb (number_of step w) p)) (drop i c.switches)

from_all : (step : ℕ) (c : Component) (p : ℕ) → numbered_from step c p 0 ≡ numbered step c p
unfolding numbered_from numbered
from_all step c p = refl

from-none : (step : ℕ) (c : Component) (p i : ℕ) → length c.switches ≤ i → numbered_from step c p i ≡ 0
unfolding numbered_from sum_over
from-none step c p i h = ap (sum_over (λ w. bit (eqb (number_of step w) p))) (drop_of_length-le c.switches h)

from_next : (step : ℕ) (c : Component) (p i : ℕ) → i < length c.switches → numbered_from step c p i ≡ bit (eqb (number_of step (switch_of c i)) p) + numbered_from step c p (i + 1)
unfolding numbered_from sum_over switch_of
from_next step c p i h =
    ap (sum_over (λ w. bit (eqb (number_of step w) p))) (drop-cons c.switches i _ h)
    ∙ ap (λ (k : ℕ). bit (eqb (number_of step (switch_of c i)) p) + sum_over (λ w. bit (eqb (number_of step w) p)) (drop k c.switches)) (sym (add-one i))

-- no more than all
bit-few : (b : Bool) → bit b ≤ 1
unfolding bit
bit-few true = omega arith
bit-few false = omega arith

few-over : (test : Switch → Bool) (switches : List Switch) → sum_over (λ w. bit (test w)) switches ≤ length switches
unfolding sum_over
few-over test [] = omega arith
few-over test (w ∷ switches) = omega (arith, bit-few (test w), few-over test switches)

numbered-few : (step : ℕ) (c : Component) (p : ℕ) → numbered step c p ≤ length c.switches
unfolding numbered
numbered-few step c p = few-over (λ w. eqb (number_of step w) p) c.switches

pub labelled-few : (c : Component) (e : ℕ) → labelled c e ≤ length c.switches
unfolding labelled
labelled-few c e = few-over (λ w. eqb w.label e) c.switches

pub entering-few : (c : Component) (mode e : ℕ) → entering c mode e ≤ length c.switches
unfolding entering
entering-few c mode e = few-over (λ w. eqb w.label e && eqb w.target mode) c.switches

-- the switches of a component, counted up to one: with those still to come they are all
pub record Counting (width step : ℕ) (s index : List ℕ) (k i : ℕ) (table : List ℕ) : Type 0 where
  pub counting : (p : ℕ) → p < width → get_or table (width * k + p) 0 + numbered_from step (component_at s index k) p i ≡ numbered step (component_at s index k) p

pub counting-starts : (width step : ℕ) (s index : List ℕ) (k : ℕ) {table : List ℕ} → Blank (width * k) table → Counting width step s index k 0 table
counting-starts width step s index k b = record {
  counting = λ p l. omega (arith, b.blank (width * k + p) (omega arith), from_all step (component_at s index k) p);
}

pub counting-ends : {width step : ℕ} {s index table : List ℕ} {k : ℕ} (i : ℕ) → length (component_at s index k).switches ≤ i → Counting width step s index k i table → NumberedAt width step s index k table
counting-ends {step = step} {s = s} {index = index} {k = k} i h w = record {
  counted = λ p l. omega (arith, w.counting p l, from-none step (component_at s index k) p i h);
}

-- the parts of a switch's place are small
module _ {width step : ℕ} {s index : List ℕ} (g : GoodIndex s index) (fits : Wide width step) (k i : ℕ) (h : k < entry index 1) (l : i < length (component_at s index k).switches) where
  pub block-small : width * k ≤ 384
  block-small = let last : k ≤ 3 = omega (arith, g.few) in mul-le-mul fits.few last

  pub number-kept : step * entry index (16 + 219 * k + 59 + 5 * i + 1) + entry index (16 + 219 * k + 59 + 5 * i + 2) ≡ number_of step (switch_of (component_at s index k) i)
  unfolding number_of
  number-kept = ap₂ (λ (t e : ℕ). step * t + e) (target_at g k i h l) (label_at g k i h l)

module _ {width step : ℕ} {s index : List ℕ} (g : GoodIndex s index) (fits : Wide width step) (k i place : ℕ) (h : k < entry index 1) (l : i < length (component_at s index k).switches) (q : place ≡ width * k + number_of step (switch_of (component_at s index k) i)) where
  number_small : number_of step (switch_of (component_at s index k) i) < width
  unfolding number_of
  number_small =
      let most : (switch_of (component_at s index k) i).target ≤ 7 = omega (arith, target_small g k i h l) in
      omega (arith, fits.enough, label_small g k i h l, mul-le-mul_left step most)

  pub place-low : width * k ≤ place
  place-low = omega arith

  pub place-high : place < width * k + width
  place-high = omega (arith, number_small)

  pub place-small : place < 4 * width
  place-small = let most : suc k ≤ 4 = omega (arith, g.few) in omega (arith, place-high, mul-le-mul_left width most)

  pub counting-few : {table : List ℕ} → Counting width step s index k i table → get_or table place 0 ≤ 32
  counting-few w =
      let c = component_at s index k in
      let p = number_of step (switch_of c i) in
      rw q (omega (arith, w.counting p number_small, numbered-few step c p, (good-component g k h).few))

  pub counting-goes-on : {table : List ℕ} → 4 * width ≤ length table → Counting width step s index k i table → Counting width step s index k (i + 1) (set table place (get_or table place 0 + 1))
  unfolding bit
  counting-goes-on {table} long w = record {
    counting = λ p n.
        let c = component_at s index k in
        let number = number_of step (switch_of c i) in
        let here = width * k + p in
        let rest = numbered_from step c p (i + 1) in
        let one : numbered_from step c p i ≡ bit (eqb number p) + rest = from_next step c p i l in
        elim (ℕ_discrete here place) [
          | yes a ↦ raised-here table place here rest (omega (arith, place-small)) a (omega (arith, one, ap bit (eq-eqb number p (omega arith)))) (w.counting p n)
          | no f ↦ raised-other table place here rest f (omega (arith, one, ap bit (ne_eqb number p (λ a. f (omega arith))))) (w.counting p n)
        ];
  }

-- the components, one after the other: what was counted before stays, and later places stay blank
earlier : (width j k p : ℕ) → j < k → p < width → width * j + p < width * k
earlier width j k p h l = omega (arith, mul-le-mul_left width h)

numbered-kept : {width step : ℕ} {s index before after : List ℕ} (k j : ℕ) → j < k → Kept (width * k) (width * k + width) before after → NumberedAt width step s index j before → NumberedAt width step s index j after
unfolding entry
numbered-kept {width} k j h w t = record { counted = λ p m. w.kept (width * j + p) (λ a b. omega (arith, earlier width j k p h m)) ∙ t.counted p m }

pub blank-later : (width : ℕ) {before after : List ℕ} (k : ℕ) → Kept (width * k) (width * k + width) before after → Blank (width * k) before → Blank (width * (k + 1)) after
unfolding entry
blank-later width k w b = record { blank = λ p h. w.kept p (λ x y. omega arith) ∙ b.blank p (omega arith) }

pub numbers-go-on : {width step : ℕ} {s index before after : List ℕ} (k : ℕ) → Kept (width * k) (width * k + width) before after → NumberedAt width step s index k after → ((j : ℕ) → j < k → NumberedAt width step s index j before) → (j : ℕ) → j < k + 1 → NumberedAt width step s index j after
numbers-go-on {width} {step} {s} {index} {before} {after} k w here all = below_more (λ j. NumberedAt width step s index j after) k (λ j h. numbered-kept k j h w (all j h)) here

-- what a table tells: how many switches have a label, and how many of these lead into a mode
no_step : (c : Component) (e : ℕ) → numbered 0 c e ≡ labelled c e
unfolding numbered labelled number_of
no_step c e = sum_same (λ w. bit (eqb (0 * w.target + w.label) e)) (λ w. bit (eqb w.label e)) (λ w. ap (λ (n : ℕ). bit (eqb n e)) (same w.target w.label)) c.switches
  where
    same : (t l : ℕ) → 0 * t + l ≡ l
    same t l = omega arith

pub labels-told : {s index table : List ℕ} → ByLabel s index table → (k e : ℕ) → k < entry index 1 → e ≤ 15 → get_or table (16 * k + e) 0 ≡ labelled (component_at s index k) e
labels-told {s} {index} w k e h l = w.components k e h (omega arith) ∙ no_step (component_at s index k) e

two_digits : (mode e target label : ℕ) → e ≤ 15 → label ≤ 15 → Dec (label ≡ e) → Dec (target ≡ mode) → bit (eqb (16 * target + label) (16 * mode + e)) ≡ bit (eqb label e && eqb target mode)
two_digits mode e target label h l (yes p) (yes q) = ap bit (eq-eqb (16 * target + label) (16 * mode + e) (omega arith) ∙ sym (rw (eq-eqb label e p, eq-eqb target mode q) refl))
two_digits mode e target label h l (yes p) (no f) = ap bit (ne_eqb (16 * target + label) (16 * mode + e) (λ a. f (omega arith)) ∙ sym (rw (eq-eqb label e p, ne_eqb target mode f) refl))
two_digits mode e target label h l (no f) d = ap bit (ne_eqb (16 * target + label) (16 * mode + e) (λ a. f (omega arith)) ∙ sym (rw (ne_eqb label e f) refl))

by_digits : {n modes : ℕ} (mode e : ℕ) {switches : List Switch} → e ≤ 15 → All (GoodSwitch n modes) switches → sum_over (λ w. bit (eqb (16 * w.target + w.label) (16 * mode + e))) switches ≡ sum_over (λ w. bit (eqb w.label e && eqb w.target mode)) switches
unfolding sum_over
by_digits mode e h none = refl
by_digits mode e h (more {a = w} g rest) =
    ap₂ (λ (x y : ℕ). x + y) (two_digits mode e w.target w.label h g.label (ℕ_discrete w.label e) (ℕ_discrete w.target mode)) (by_digits mode e h rest)

pub entering-told : {s index table : List ℕ} → GoodIndex s index → ByMode s index table → (k mode e : ℕ) → k < entry index 1 → mode < 8 → e ≤ 15 → get_or table (128 * k + (16 * mode + e)) 0 ≡ entering (component_at s index k) mode e
unfolding numbered number_of entering
entering-told {s} {index} g w k mode e h m l =
    w.components k (16 * mode + e) h (omega arith) ∙ by_digits mode e l (good-component g k h).switches
