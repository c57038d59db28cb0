-- Lines of a table of joint switches: what one store of a line changes, and how the ways of a component are listed, switch by switch.
-- Assumes nothing.
use mathlib.Core.Path.{◌≡◌, refl, sym, ap, ◌∙◌, subst}
use mathlib.Core.Bool.{Bool, true, false, cond}
use mathlib.Core.List.{List, [], ◌∷◌}
use Prim.Native.Nat.{ℕ, ◌+◌, ◌*◌, ◌-◌, ◌≤◌, ◌<◌}
use native.Mathlib.Decide.{ℕ_discrete}
use native.Mathlib.Nat.{mul-le-mul_right}
use native.Mathlib.Omega.{arith}
use borrow.Author.Tests.{ne_eqb}
use lib.ListN.{length, get_or, set}
use lib.Seq.{get_or-set_same, get_or-set_other}
use Rattle.formats.specs.Model.{Component}
use Rattle.formats.specs.Joint.{stays, switch_of, bit}
use Rattle.formats.specs.Parts.{mode_after}
use Rattle.models.specs.Index.{GoodIndex}
use Rattle.models.specs.Counts.{component_at}
use Rattle.joint_switches.specs.declared.slots.Part.{Part}
use Rattle.joint_switches.specs.declared.slots.Way.{Way}
use Rattle.joint_switches.specs.Slots.{no_way, leaving_by, leaves_by, landing_by, Fitting, way_by, line_for, WaysAt, MoversAt, OtherLines}
use Rattle.formats.proofs.JointCounts.{leaving_from, leaving-all, leaving-none, leaving-count, leaving-skip, leaving-first, leaving-later}
use Rattle.formats.proofs.JointsInto.{stays_after}
use Rattle.models.proofs.GoodIndexLaws.{good-component}
use Rattle.joint_switches.proofs.TableLaws.{good-switch}

-- what has changed
pub others-none : (from : ℕ) (ways : List Way) → OtherLines from ways ways
others-none from ways = record { kept = λ p a. refl }

pub others-then : {from : ℕ} {before ways after : List Way} → OtherLines from before ways → OtherLines from ways after → OtherLines from before after
others-then v w = record { kept = λ p a. w.kept p a ∙ v.kept p a }

pub others-line : (from at : ℕ) (way : Way) (ways : List Way) → from ≤ at → at < from + 32 → OtherLines from ways (set ways at way)
others-line from at way ways h l = record { kept = λ p a. get_or-set_other ways at p way no_way (λ q. a (omega arith) (omega arith)) }

-- ways that a change of other lines left alone
pub ways-kept : {s index : List ℕ} {part : Part} {numbers : List ℕ} {before after : List Way} (from at : ℕ) → length numbers ≤ 32 → ((d : ℕ) → d < 32 → at ≤ from + d → from + d < at + 32 → ⊥) → OtherLines at before after → WaysAt s index part from numbers before → WaysAt s index part from numbers after
ways-kept from at few apart o w = record {
  switches = λ d l. ap (λ (v : Way). v.switch) (o.kept (from + d) (apart d (omega arith))) ∙ w.switches d l;
  landings = λ d l. ap (λ (v : Way). v.landing) (o.kept (from + d) (apart d (omega arith))) ∙ w.landings d l;
}

-- The switches of a component that leave its mode, from switch i on still to come: the others stand in the table, and the next line is told
pub record Listing (s index : List ℕ) (part : Part) (from i at : ℕ) (before ways : List Way) : Type 0 where
  pub count : ℕ
  pub next : at ≡ from + count
  pub few : count ≤ i
  pub rest : count + length (leaving_from (component_at s index part.k) part.mode part.e i) ≡ length (leaving_by s index part)
  pub later : (d : ℕ) → get_or (leaving_by s index part) (count + d) stays ≡ get_or (leaving_from (component_at s index part.k) part.mode part.e i) d stays
  pub told : (d : ℕ) → d < count → get_or ways (from + d) no_way ≡ way_by s index part (get_or (leaving_by s index part) d stays)
  pub kept : OtherLines from before ways

zero-and : (d : ℕ) → 0 + d ≡ d
zero-and d = omega arith

and_zero : (d : ℕ) → d + 0 ≡ d
and_zero d = omega arith

pub listing-starts : (s index : List ℕ) (part : Part) (from : ℕ) (ways : List Way) → Listing s index part from 0 from ways ways
listing-starts s index part from ways =
    let c = component_at s index part.k in
    record {
      count = 0;
      next = sym (and_zero from);
      few = omega arith;
      rest = omega (arith, ap length (leaving-all c part.mode part.e));
      later = λ d. ap (λ (n : ℕ). get_or (leaving_by s index part) n stays) (zero-and d) ∙ ap (λ xs. get_or xs d stays) (sym (leaving-all c part.mode part.e));
      told = λ d h. absurd (omega arith);
      kept = others-none from ways;
    }

-- a turn
module _ {s index : List ℕ} (part : Part) (from i at : ℕ) {before ways : List Way} (h : i < length (component_at s index part.k).switches) (w : Listing s index part from i at before ways) where
  c : Component
  c = component_at s index part.k

  -- this switch does not count
  passed_over : leaves_by s index part i ≡ false → Listing s index part from (i + 1) at before ways
  unfolding c bit
  passed_over q =
      let all = leaving-count c part.mode part.e i 0 h (sym q) refl in
      record {
        count = w.count;
        next = w.next;
        few = omega (arith, w.few);
        rest = omega (arith, w.rest, all);
        later = λ d. w.later d ∙ leaving-skip c part.mode part.e i d stays h (sym q) refl;
        told = w.told;
        kept = w.kept;
      }

  -- it counts
  module _ (room : from ≤ 96) (short : length (component_at s index part.k).switches ≤ 32) (long : 128 ≤ length ways) (q : leaves_by s index part i ≡ true) where
    small : at < 128
    small = omega (arith, w.next, w.few)

    here : get_or (leaving_by s index part) w.count stays ≡ i
    unfolding c
    here = ap (λ (m : ℕ). get_or (leaving_by s index part) m stays) (sym (and_zero w.count)) ∙ w.later 0 ∙ leaving-first c part.mode part.e i 0 stays h (sym q) refl refl

    line-told : (d : ℕ) → d < w.count + 1 → Dec (d ≡ w.count) → get_or (set ways at (way_by s index part i)) (from + d) no_way ≡ way_by s index part (get_or (leaving_by s index part) d stays)
    line-told d l (yes e) =
        ap (λ (m : ℕ). get_or (set ways at (way_by s index part i)) (from + m) no_way) e
        ∙ ap (λ (m : ℕ). get_or (set ways at (way_by s index part i)) m no_way) (sym w.next)
        ∙ get_or-set_same ways at (way_by s index part i) no_way (omega (arith, small))
        ∙ ap (way_by s index part) (sym here ∙ ap (λ (m : ℕ). get_or (leaving_by s index part) m stays) (sym e))
    line-told d l (no f) = get_or-set_other ways at (from + d) (way_by s index part i) no_way (λ a. omega (arith, w.next, f)) ∙ w.told d (omega (arith, f))

    one_on_lem : (n d : ℕ) → n + 1 + d ≡ n + (d + 1)
    one_on_lem n d = omega arith

    one-off : (d : ℕ) → d + 1 - 1 ≡ d
    one-off d = omega arith

    taken-up : Listing s index part from (i + 1) (at + 1) before (set ways at (way_by s index part i))
    unfolding c bit
    taken-up =
        let all = leaving-count c part.mode part.e i 1 h (sym q) refl in
        record {
          count = w.count + 1;
          next = omega (arith, w.next);
          few = omega (arith, w.few);
          rest = omega (arith, w.rest, all);
          later = λ d.
              ap (λ (m : ℕ). get_or (leaving_by s index part) m stays) (one_on_lem w.count d) ∙ w.later (d + 1)
              ∙ leaving-later c part.mode part.e i (d + 1) stays h (sym q) refl (λ (x : d + 1 ≡ 0). omega arith)
              ∙ ap (λ (m : ℕ). get_or (leaving_from c part.mode part.e (i + 1)) m stays) (one-off d);
          told = λ d l. line-told d l (ℕ_discrete d w.count);
          kept = others-then w.kept (others-line from at (way_by s index part i) ways (omega (arith, w.next)) (omega (arith, w.next, w.few)));
        }

  next-at : (b : Bool) → at + bit b ≡ cond b (at + 1) at
  unfolding bit
  next-at true = refl
  next-at false = and_zero at

  turn : from ≤ 96 → length (component_at s index part.k).switches ≤ 32 → 128 ≤ length ways → (b : Bool) → leaves_by s index part i ≡ b → Listing s index part from (i + 1) (cond b (at + 1) at) before (cond b (set ways at (way_by s index part i)) ways)
  turn room short long true q = taken-up room short long q
  turn room short long false q = passed_over q

  pub listing-goes-on : from ≤ 96 → length (component_at s index part.k).switches ≤ 32 → 128 ≤ length ways → (after : ℕ) (table : List Way) → after ≡ at + bit (leaves_by s index part i) → table ≡ line_for s index part i at ways → Listing s index part from (i + 1) after before table
  listing-goes-on room short long after table p r =
      let b = leaves_by s index part i in
      subst (λ ws. Listing s index part from (i + 1) after before ws) (sym r)
      (subst (λ (n : ℕ). Listing s index part from (i + 1) n before (line_for s index part i at ways)) (sym (p ∙ next-at b)) (turn room short long b refl))

-- the end
module _ {s index : List ℕ} (part : Part) (from i at : ℕ) {before ways : List Way} (h : length (component_at s index part.k).switches ≤ i) (w : Listing s index part from i at before ways) where
  all_listed : w.count ≡ length (leaving_by s index part)
  all_listed = omega (arith, w.rest, ap length (leaving-none (component_at s index part.k) part.mode part.e i h))

  pub listing-counted : at ≡ from + length (leaving_by s index part)
  listing-counted = omega (arith, w.next, all_listed)

  pub listing-ways : WaysAt s index part from (leaving_by s index part) ways
  listing-ways = record {
    switches = λ d l. ap (λ (v : Way). v.switch) (w.told d (omega (arith, all_listed)));
    landings = λ d l. ap (λ (v : Way). v.landing) (w.told d (omega (arith, all_listed)));
  }

  pub listing-movers : MoversAt part.k from (length (leaving_by s index part)) ways
  listing-movers = record { movers = λ d l. ap (λ (v : Way). v.mover) (w.told d (omega (arith, all_listed))) }

-- where a component comes to fits a byte
pub mode-fits : {s index : List ℕ} (part : Part) → Fitting s index part → (mode : ℕ) → mode ≤ length (component_at s index part.k).modes → part.rest + mode * part.unit ≤ 255
mode-fits part fits mode below = omega (arith, fits.small, mul-le-mul_right part.unit below)

module _ {s index : List ℕ} (g : GoodIndex s index) (part : Part) (i : ℕ) (fits : Fitting s index part) (h : i < length (component_at s index part.k).switches) where
  moves-on : mode_after (component_at s index part.k) part.mode i ≡ (switch_of (component_at s index part.k) i).target
  unfolding mode_after stays
  moves-on = ap (λ b. cond b part.mode (switch_of (component_at s index part.k) i).target) (ne_eqb i 255 (λ q. omega (arith, (good-component g part.k fits.inside).few)))

  pub landing-fits : (target : ℕ) → target ≡ (switch_of (component_at s index part.k) i).target → part.rest + target * part.unit ≤ 255
  landing-fits target p = mode-fits part fits target (omega (arith, p, (good-switch g part.k i fits.inside h).target))

  pub landing-switch : (target : ℕ) → target ≡ (switch_of (component_at s index part.k) i).target → part.rest + target * part.unit ≡ landing_by s index part i
  landing-switch target p = ap (λ (t : ℕ). part.rest + t * part.unit) (p ∙ sym moves-on)

-- one switch: nothing is changed, or a line is put
pub not_taken : (s index : List ℕ) (part : Part) (i at : ℕ) (ways : List Way) → leaves_by s index part i ≡ false → (at ≡ at + bit (leaves_by s index part i)) × (ways ≡ line_for s index part i at ways)
unfolding bit
not_taken s index part i at ways q = rw q (sym (and_zero at), refl)

pub line_taken : {s index : List ℕ} → GoodIndex s index → (part : Part) (i : ℕ) → Fitting s index part → i < length (component_at s index part.k).switches → (at : ℕ) (ways : List Way) (target : ℕ) → target ≡ (switch_of (component_at s index part.k) i).target → leaves_by s index part i ≡ true → (at + 1 ≡ at + bit (leaves_by s index part i)) × (set ways at (record { switch = i; landing = part.rest + target * part.unit; mover = part.k }) ≡ line_for s index part i at ways)
unfolding bit
line_taken g part i fits h at ways target p q = rw q (refl, ap (λ (l : ℕ). set ways at (record { switch = i; landing = l; mover = part.k })) (landing-switch g part i fits h target p))

-- A component's part in an event: its switches, or one line for a component that stays
pub ways-same : {s index : List ℕ} {part : Part} {from : ℕ} {numbers others : List ℕ} {ways : List Way} → others ≡ numbers → WaysAt s index part from numbers ways → WaysAt s index part from others ways
ways-same {s} {index} {part} {from} {ways = ways} e w = subst (λ ns. WaysAt s index part from ns ways) (sym e) w

module _ (s index : List ℕ) (part : Part) (landing : ℕ) (ways : List Way) (h : part.k < 4) (long : 128 ≤ length ways) (p : landing ≡ part.rest + part.mode * part.unit) where
  stayed : Way
  stayed = record { switch = stays; landing = landing; mover = part.k }

  only : (d : ℕ) → d < 1 → 0 ≡ d
  only d l = omega arith

  put : get_or (set ways (32 * part.k) stayed) (32 * part.k + 0) no_way ≡ stayed
  put =
      ap (λ (n : ℕ). get_or (set ways (32 * part.k) stayed) n no_way) (and_zero (32 * part.k))
      ∙ get_or-set_same ways (32 * part.k) stayed no_way (omega arith)

  leads : landing ≡ landing_by s index part stays
  leads = p ∙ ap (λ (m : ℕ). part.rest + m * part.unit) (sym (stays_after (component_at s index part.k) part.mode))

  pub stays-ways : WaysAt s index part (32 * part.k) (stays ∷ []) (set ways (32 * part.k) (record { switch = stays; landing = landing; mover = part.k }))
  unfolding stayed
  stays-ways = record {
    switches = λ d l. subst (λ (n : ℕ). (get_or (set ways (32 * part.k) stayed) (32 * part.k + n) no_way).switch ≡ get_or (stays ∷ []) n stays) (only d l) (ap (λ (v : Way). v.switch) put);
    landings = λ d l. subst (λ (n : ℕ). (get_or (set ways (32 * part.k) stayed) (32 * part.k + n) no_way).landing ≡ landing_by s index part (get_or (stays ∷ []) n stays)) (only d l) (ap (λ (v : Way). v.landing) put ∙ leads);
  }
