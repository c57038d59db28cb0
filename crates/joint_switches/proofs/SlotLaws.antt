-- What a table of joint switches tells by its event, and how it is filled: for event 0 by lines, for an event from 1 by the ways of each
-- component, from the last to the first. Assumes nothing.
use mathlib.Core.Path.{◌≡◌, refl, sym, ap, ◌∙◌, subst}
use mathlib.Core.Bool.{Bool, true, false, cond}
use mathlib.Core.List.{List, []}
use Prim.Native.Nat.{ℕ, zero, suc, ◌+◌, ◌*◌, ◌-◌, ◌≤◌, ◌<◌}
use native.Mathlib.Decide.{ℕ_discrete}
use native.Mathlib.Nat.{mul-le-mul_right}
use native.Mathlib.Omega.{arith}
use borrow.Author.Tests.{eq-eqb, ne_eqb}
use lib.Arith.{le-zero}
use lib.Dec.{eqb}
use lib.ListN.{length, get_or, drop, set}
use lib.Seq.{get_or-set_same, get_or-set_other}
use Rattle.farkas.specs.Lists.{none, more}
use Rattle.formats.specs.Model.{Component}
use Rattle.formats.specs.Locations.{location_count, modes_at}
use Rattle.formats.specs.Joint.{mover_count, together, switches_of}
use Rattle.formats.specs.JointTotals.{together_total, event_total}
use Rattle.formats.specs.Parts.{parts}
use Rattle.models.specs.Index.{entry, components_from, GoodIndex}
use Rattle.models.specs.Counts.{component_at, per_component, KnownModes}
use Rattle.joint_switches.specs.declared.Slot.{Slot}
use Rattle.joint_switches.specs.declared.slots.Part.{Part}
use Rattle.joint_switches.specs.declared.slots.Way.{Way}
use Rattle.joint_switches.specs.Slots.{line_landing, digit_landing, landing_in, ListedAs, together_in, parts_by, Fitting, WaysAt, OtherLines}
use Rattle.formats.proofs.Locations.{HaveModes}
use Rattle.formats.proofs.JointCounts.{parts-few, event-length}
use Rattle.formats.proofs.JointProduct.{countable, event-none}
use Rattle.models.proofs.GoodIndexLaws.{mode-length, good-component, good-components}
use Rattle.joint_switches.proofs.JointLoops.{components_on, together_on, count-goes-on}
use Rattle.joint_switches.proofs.TableLaws.{have-modes}
use Rattle.joint_switches.proofs.LineLaws.{ways-kept}
use Rattle.joint_switches.proofs.DigitLaws.{part_of, PartAt, ways-some, digits-told}

-- by its event
pub by-line : (index : List ℕ) (slot : Slot) (ways : List Way) (x : ℕ) → slot.e ≡ 0 → landing_in index slot ways x ≡ line_landing ways x
unfolding landing_in
by-line index slot ways x h =
    ap (λ b. cond b (line_landing ways x) (digit_landing index slot.ways ways x)) (eq-eqb slot.e 0 h)

pub by_digits : (index : List ℕ) (slot : Slot) (ways : List Way) (x : ℕ) → (slot.e ≡ 0 → ⊥) → landing_in index slot ways x ≡ digit_landing index slot.ways ways x
unfolding landing_in
by_digits index slot ways x h =
    ap (λ b. cond b (line_landing ways x) (digit_landing index slot.ways ways x)) (ne_eqb slot.e 0 h)

-- some components have no more locations than all of them
count-later : {components : List Component} → HaveModes components → (k : ℕ) → location_count (drop k components) ≤ location_count components
unfolding location_count
count-later modes zero = omega arith
count-later none (suc k) = omega arith
count-later (more {a = c} {xs = components} h rest) (suc k) = omega (arith, count-later rest k, mul-le-mul_right (location_count components) h)

-- An event from 1: the components from one on stand in the table
abbrev pub PartsFrom : List ℕ → List ℕ → List ℕ → ℕ → List ℕ → List Way → ℕ → Type 0
PartsFrom s index modes e counts ways k = (j : ℕ) → k ≤ j → j < entry index 1 → PartAt s index modes e counts ways j

pub part-is : (s index modes : List ℕ) (e k unit : ℕ) → 0 < k → unit ≡ location_count (components_on s index k) → ◌≡◌ {A = Part} (record { k = k - 1; mode = get_or modes (k - 1) 0; e = e; rest = 0; unit = unit }) (part_of s index modes e (k - 1))
part-is s index modes e k unit h q =
    let same : unit ≡ location_count (components_on s index (k - 1 + 1)) = q ∙ ap (λ (n : ℕ). location_count (components_on s index n)) (back k h) in
    λ i. record { k = k - 1; mode = get_or modes (k - 1) 0; e = e; rest = 0; unit = same i }
  where
    back : (k : ℕ) → 0 < k → k ≡ k - 1 + 1
    back k h = omega arith

module _ {s index : List ℕ} (g : GoodIndex s index) where
  pub later-few : (k : ℕ) → location_count (components_on s index k) ≤ location_count (components_from s index)
  later-few k = count-later (have-modes (good-components g)) k

  pub known-below : {modes : List ℕ} → KnownModes index modes → (k : ℕ) → k < entry index 1 → get_or modes k 0 < length (component_at s index k).modes
  known-below known k h = omega (arith, known.known k h, mode-length s index k)

  module _ (modes : List ℕ) (e k : ℕ) (h : 0 < k) (l : k ≤ entry index 1) (part : Part) (p : part ≡ part_of s index modes e (k - 1)) where
    -- what it comes to fits
    pub part-fits : location_count (components_from s index) ≤ 64 → Fitting s index part
    part-fits few =
        let unit = location_count (components_on s index (k - 1 + 1)) in
        let product = count-goes-on g (k - 1 + 1) (length (component_at s index (k - 1 + 1 - 1)).modes) unit (omega arith) (omega arith) refl refl in
        subst (Fitting s index) (sym p) (record { inside = omega arith; small = fits (k - 1) product (later-few (k - 1 + 1 - 1)) })
      where
        fits : (j : ℕ) → length (component_at s index (j + 1 - 1)).modes * location_count (components_on s index (j + 1)) ≡ location_count (components_on s index (j + 1 - 1)) → location_count (components_on s index (j + 1 - 1)) ≤ location_count (components_from s index) → 0 + length (component_at s index j).modes * location_count (components_on s index (j + 1)) ≤ 255
        fits j q small = omega (arith, few, small, q, ap (λ (i : ℕ). length (component_at s index i).modes * location_count (components_on s index (j + 1))) (one-off j))
          where
            one-off : (j : ℕ) → j + 1 - 1 ≡ j
            one-off j = omega arith

    pub parts-go-on : (n : ℕ) (counts : List ℕ) (ways after : List Way) → entry index 1 ≤ length counts → n ≡ length (parts_by s index part) → WaysAt s index part (32 * (k - 1)) (parts_by s index part) after → OtherLines (32 * (k - 1)) ways after → PartsFrom s index modes e counts ways k → PartsFrom s index modes e (set counts (k - 1) n) after (k - 1)
    parts-go-on n counts ways after room q new others old j a b = here (ℕ_discrete j (k - 1))
      where
        few : (i : ℕ) → i < entry index 1 → length (parts_by s index (part_of s index modes e i)) ≤ 32
        few i m = parts-few (component_at s index i) (get_or modes i 0) e (good-component g i m).few

        here : Dec (j ≡ k - 1) → PartAt s index modes e (set counts (k - 1) n) after j
        here (yes r) = subst (PartAt s index modes e (set counts (k - 1) n) after) (sym r) (record {
          counted = get_or-set_same counts (k - 1) n 0 (omega arith) ∙ q ∙ ap (λ (x : Part). length (parts_by s index x)) p;
          listed = subst (λ (x : Part). WaysAt s index x (32 * (k - 1)) (parts_by s index x) after) p new;
        })
        here (no f) =
            let w = old j (omega (arith, f)) b in
            record {
              counted = get_or-set_other counts (k - 1) j n 0 f ∙ w.counted;
              listed = ways-kept (32 * j) (32 * (k - 1)) (few j b) (λ d u v z. omega (arith, f)) others w.listed;
            }

-- none at all
pub listed-none : {s index : List ℕ} → GoodIndex s index → (list : List (List ℕ)) (modes : List ℕ) (e : ℕ) (counts : List ℕ) (ways : List Way) → 128 ≤ length ways → 0 ≡ length list → ListedAs list s index modes e ways (record { e = e; count = 0; ways = counts })
listed-none g list modes e counts ways long q = record {
  event = refl;
  counted = q;
  ready = record {
    few = g.few;
    long = long;
    lines = λ z. record { few = omega arith; movers = λ x h. absurd (omega arith) };
    digits = λ z h. absurd (omega arith);
  };
  landings = λ x h. absurd (omega arith);
}

-- all of an event from 1
pub listed-together : {s index : List ℕ} → GoodIndex s index → (modes : List ℕ) → entry index 1 ≤ length modes → (e : ℕ) → 1 ≤ e → (count k : ℕ) (counts : List ℕ) (ways : List Way) → 128 ≤ length ways → k ≤ 0 → 0 < count → count ≡ length (together_on s index modes e k) → PartsFrom s index modes e counts ways k → ListedAs (together_in s index modes e) s index modes e ways (record { e = e; count = count; ways = counts })
listed-together {s} {index} g modes wide e some count k counts ways long end positive counted parts =
    let all : count ≡ length (together_in s index modes e) = counted ∙ ap (λ (i : ℕ). length (together_on s index modes e i)) (le-zero end) in
    let told : (j : ℕ) → j < entry index 1 → PartAt s index modes e counts ways j = λ j h. parts j (omega arith) h in
    record {
      event = refl;
      counted = all;
      ready = record {
        few = g.few;
        long = long;
        lines = λ z. absurd (omega arith);
        digits = λ z h. record {
          some = λ j l. ways-some g modes wide e counts ways told 0 (omega (arith, all)) j l;
          most = λ j l. omega (arith, (told j l).counted, parts-few (component_at s index j) (get_or modes j 0) e (good-component g j l).few);
        };
      };
      landings = λ x h.
          by_digits index (record { e = e; count = count; ways = counts }) ways x (λ z. omega arith)
          ∙ digits-told g modes wide e counts ways told x (omega (arith, all));
    }

-- the list of an event, by what the index says of it
pub event-empty : {s index : List ℕ} → GoodIndex s index → (location : ℕ) (modes : List ℕ) (e : ℕ) → location < location_count (components_from s index) → per_component index modes ≡ modes_at (components_from s index) location → event_total (components_from s index) e ≡ 0 → 0 ≡ length (switches_of (components_from s index) (per_component index modes) e)
event-empty {s} {index} g location modes e h here nothing =
    let components = components_from s index in
    sym (ap (λ (ms : List ℕ). length (switches_of components ms e)) here ∙ sym (event-length components location e) ∙ ap length (event-none (countable (good-components g)) e location nothing h))

some_or_none : {A : Type 0} (b : Bool) (total : ℕ) (xs : List A) → (cond b 0 total ≡ 0 → ⊥) → cond b [] xs ≡ xs
some_or_none true total xs f = absurd (f refl)
some_or_none false total xs f = refl

pub event-together : (components : List Component) (modes : List ℕ) (e : ℕ) → (e ≡ 0 → ⊥) → (event_total components e ≡ 0 → ⊥) → switches_of components modes e ≡ together components modes e
unfolding event_total switches_of
event-together components modes zero h f = absurd (h refl)
event-together components modes (suc e) h f = some_or_none (eqb (mover_count components (suc e)) 0) (together_total components (suc e)) (together components modes (suc e)) f
