-- The counts of a model that is within the limits: they fit an index, they are kept one after the other, and they stand for the model
-- that the index gives back. Assumes nothing.
use mathlib.Core.Path.{◌≡◌, sym, ap, ◌∙◌}
use mathlib.Core.List.{List, map}
use Prim.Native.Nat.{ℕ, ◌+◌, ◌≤◌, ◌<◌}
use native.Mathlib.Decide.{ℕ_discrete}
use native.Mathlib.Omega.{arith}
use lib.ListN.{length, get_or, set, length-set}
use Rattle.std.specs.Prelude.{Err}
use Rattle.fields.specs.declared.Refusal.{Refusal}
use Rattle.fields.proofs.AnswerLaws.{Next}
use Rattle.formats.specs.Locations.{location_count}
use Rattle.formats.specs.Joint.{count_up, joints}
use Rattle.formats.specs.JointTotals.{event_total, joint_total}
use Rattle.models.specs.Index.{entry, components_from, Kept, SameSheet, GoodIndex}
use Rattle.joint_switches.specs.Counted.{Counted}
use Rattle.model_sheets.specs.Limits.{Small, Standing, OnlyCounts, CountedAfter}
use Rattle.formats.proofs.SumLaws.{sum-part}
use Rattle.formats.proofs.JointProduct.{countable, joints-total}
use Rattle.models.proofs.IndexLaws.{entry-same, entry_other, kept-none, kept_set, kept_then, kept-wider}
use Rattle.models.proofs.GoodIndexLaws.{counted-at, good-components}
use Rattle.models.proofs.SameSheetLaws.{components-same, same_none, same_then, same_kept, same_after}

-- what an array of the events' totals has at a number
total-at : (f : ℕ → ℕ) (totals : List ℕ) (e : ℕ) → totals ≡ map f (count_up 0 16) → e < 16 → get_or totals e 0 ≡ f e
total-at f totals e p h = ap (λ (xs : List ℕ). get_or xs e 0) p ∙ counted-at f 16 e 0 h

-- no event has more joint switches than there are
pub counts-small : {s index : List ℕ} → GoodIndex s index → (totals : List ℕ) (joined locations : ℕ) → totals ≡ map (event_total (components_from s index)) (count_up 0 16) → joined ≡ length (joints (components_from s index)) → joined ≤ 4096 → locations ≤ 64 → Small totals joined locations
unfolding joint_total
counts-small {s} {index} g totals joined locations p q few low = record {
  events = λ e h.
      omega (arith, total-at (event_total (components_from s index)) totals e p h, sum-part (event_total (components_from s index)) 0 16 e (omega arith) (omega arith), joints-total (countable (good-components g)), q, few);
  joined = few;
  located = low;
}

-- the totals of the events so far stand in the index, and nothing else has changed
pub record Keeping (totals : List ℕ) (e : ℕ) (before index : List ℕ) : Type 0 where
  pub events : (i : ℕ) → i < e → entry index (988 + i) ≡ get_or totals i 0
  pub kept : Kept 988 1004 before index

pub keeping-starts : (totals index : List ℕ) → Keeping totals 0 index index
keeping-starts totals index = record { events = λ i h. absurd (omega arith); kept = kept-none 988 1004 index }

pub keeping-goes-on : (totals : List ℕ) (e : ℕ) (before index : List ℕ) → e < 16 → 1004 ≤ length index → Keeping totals e before index → Keeping totals (e + 1) before (set index (988 + e) (get_or totals e 0))
keeping-goes-on totals e before index h long w = record {
  events = λ i l. here i l (ℕ_discrete i e);
  kept = kept_then w.kept (kept_set 988 1004 index (988 + e) (get_or totals e 0) (omega arith) (omega arith));
}
  where
    here : (i : ℕ) → i < e + 1 → Dec (i ≡ e) → entry (set index (988 + e) (get_or totals e 0)) (988 + i) ≡ get_or totals i 0
    here i l (yes p) =
        ap (λ (k : ℕ). entry (set index (988 + e) (get_or totals e 0)) (988 + k)) p
        ∙ entry-same index (988 + e) (get_or totals e 0) (omega arith) ∙ ap (λ (k : ℕ). get_or totals k 0) (sym p)
    here i l (no d) = entry_other index (988 + e) (988 + i) (get_or totals e 0) (λ q. d (omega arith)) ∙ w.events i (omega (arith, d))

-- then the two counts of all
module _ (totals : List ℕ) (joined locations e : ℕ) (before index : List ℕ) (all : 16 ≤ e) (long : 1004 ≤ length index) (w : Keeping totals e before index) where
  pub counts-stand : Standing totals joined locations (set (set index 14 joined) 15 locations)
  counts-stand =
      let longer : 15 < length (set index 14 joined) = simp length-set (omega arith) in
      record {
        events = λ i h.
            entry_other (set index 14 joined) 15 (988 + i) locations (λ q. omega arith)
            ∙ entry_other index 14 (988 + i) joined (λ q. omega arith) ∙ w.events i (omega arith);
        joined = entry_other (set index 14 joined) 15 14 locations (λ q. omega arith) ∙ entry-same index 14 joined (omega arith);
        located = entry-same (set index 14 joined) 15 locations longer;
      }

  pub only-counts : OnlyCounts before (set (set index 14 joined) 15 locations)
  only-counts =
      let two : Kept 14 16 index (set (set index 14 joined) 15 locations) =
      kept_then (kept_set 14 16 index 14 joined (omega arith) (omega arith)) (kept_set 14 16 (set index 14 joined) 15 locations (omega arith) (omega arith)) in
      record {
        same = same_then (same_after w.kept) (same_kept (omega arith) two);
        kept = kept_then (kept-wider (omega arith) (omega arith) w.kept) (kept-wider (omega arith) (omega arith) two);
      }

-- they stand for the model
pub counted : {s before after : List ℕ} → GoodIndex s before → (totals : List ℕ) (joined locations : ℕ) → totals ≡ map (event_total (components_from s before)) (count_up 0 16) → joined ≡ length (joints (components_from s before)) → locations ≡ location_count (components_from s before) → Standing totals joined locations after → SameSheet before after → Counted s after
counted {s} {before} {after} g totals joined locations p q r w same =
    let components = components-same g same in
    record {
      located = w.located ∙ r ∙ sym (ap location_count components);
      joined = w.joined ∙ q ∙ sym (ap (λ cs. length (joints cs)) components);
      events = λ e h. w.events e h ∙ total-at (event_total (components_from s before)) totals e p h ∙ sym (ap (λ cs. event_total cs e) components);
    }

-- after a refusal there is nothing to say of them
pub no-counts : (index : List ℕ) → OnlyCounts index index
no-counts index = record { same = same_none index; kept = kept-none 0 1004 index }

pub refused-uncounted : (s index : List ℕ) {r : Next} {w : Refusal} → r ≡ Err w → CountedAfter s index r
refused-uncounted s index h end e = let z : ◌≡◌ {A = ℕ} 0 1 = cc in absurd (omega arith)
