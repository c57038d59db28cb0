-- Variables that keep their value in a step: a row mentions an unknown where the four bytes of its coefficient are not 0, and what the
-- numbers of an index tell is what the definitions of runs say. Assumes nothing.
use mathlib.Core.Path.{◌≡◌, refl, sym, ap, ap₂, ◌∙◌}
use mathlib.Core.Bool.{Bool, true, false, ◌&&◌, ◌||◌, or-false}
use mathlib.Core.List.{List}
use Prim.Native.Nat.{ℕ, zero, suc, ◌+◌, ◌*◌, ◌≤◌, ◌<◌}
use native.Mathlib.Decide.{dec_le, ℕ_discrete}
use native.Mathlib.Omega.{arith}
use borrow.Author.Tests.{lt-ltb, le-ltb, lt-leb, ne_eqb}
use lib.Dec.{eqb}
use lib.IntN.{pos}
use lib.ListN.{length, get_or, take, drop}
use lib.Seq.{get_or-take}
use Rattle.farkas.specs.Farkas.{same_z}
use Rattle.farkas.specs.Rows.{item}
use Rattle.farkas.specs.Words.{big_endian, signed}
use Rattle.formats.specs.Versions.{keeps_blanks}
use Rattle.formats.specs.Rows.{SheetRow, Condition}
use Rattle.formats.specs.Model.{Mode, Switch}
use Rattle.formats.specs.Locations.{no_mode, mode_of}
use Rattle.formats.specs.Joint.{stays, switch_of}
use Rattle.fields.specs.Places.{signed_at, numbers_at, row_at}
use Rattle.models.specs.Index.{entry, owner_place, component_place, mode_place, switch_place, span_rows, mode_from, switch_from, components_from, model_from, GoodIndex}
use Rattle.models.specs.Counts.{per_component, KnownSwitches}
use Rattle.models.proofs.GoodIndexLaws.{counted-at, components-length, component-at, switch-at}
use Rattle.joint_switches.proofs.JointLoops.{per-component-length}
use Rattle.rules.specs.Runs.{present, modes_in, unmentioned, owner_of, blank_in_flow, owner_stays, no_component, owners_jump, blank_in_jump}
use Rattle.rules.proofs.Blanks.{present-at}
use Rattle.rules.proofs.ListFacts.{there}
use Rattle.papers.specs.Standing.{Stands}
use Rattle.papers.specs.Blanks.{owner_in, Owned, still_at, stays_at, lands_at, rests_at}
use Rattle.papers.proofs.StandingLaws.{mode-at}

-- whether a row has 0 at an unknown
abbrev pub zero_at : ℕ → SheetRow → Bool
zero_at i r = same_z (item r.row.coefficients i) (pos 0)

number_in : (s : List ℕ) (p n i : ℕ) → i < n → item (numbers_at s p n) i ≡ signed_at s (p + 4 * i)
unfolding item numbers_at
number_in s p zero i h = absurd (omega arith)
number_in s p (suc n) zero h = ap (signed_at s) (nothing p)
  where
    nothing : (p : ℕ) → p ≡ p + 4 * 0
    nothing p = omega arith
number_in s p (suc n) (suc i) h = number_in s (p + 4) n i (omega arith) ∙ ap (signed_at s) (one_more p i)
  where
    one_more : (p i : ℕ) → p + 4 + 4 * i ≡ p + 4 * suc i
    one_more p i = omega arith

positive-zero : (n : ℕ) → same_z (pos n) (pos 0) ≡ eqb n 0
unfolding same_z
positive-zero n = go (ℕ_discrete n 0)
  where
    go : Dec (n ≡ 0) → same_z (pos n) (pos 0) ≡ eqb n 0
    go (yes e) = rw e refl
    go (no d) = let k : 0 < n = omega arith in rw (lt-leb n 0 k, ne_eqb n 0 d) refl

signed-zero : (n : ℕ) → same_z (signed n) (pos 0) ≡ eqb n 0
unfolding signed same_z
signed-zero n = go (dec_le 2147483648 n)
  where
    go : Dec (2147483648 ≤ n) → same_z (signed n) (pos 0) ≡ eqb n 0
    go (yes k) = rw (le-ltb n 2147483648 k, ne_eqb n 0 (λ e. omega (arith, k, e))) refl
    go (no f) = let k : n < 2147483648 = omega arith in rw (lt-ltb n 2147483648 k) (positive-zero n)

pub zero-at : (s : List ℕ) (at version n i : ℕ) → i < n → eqb (big_endian (take 4 (drop (at + 4 * i) s))) 0 ≡ zero_at i (row_at s version n at)
unfolding row_at signed_at
zero-at s at version n i h = sym (ap (λ x. same_z x (pos 0)) (number_in s at n i h) ∙ signed-zero (big_endian (take 4 (drop (at + 4 * i) s))))

-- every variable of a good index has an owner
pub owners-known : {s index : List ℕ} → GoodIndex s index → Owned index
owners-known g = record { most = g.most; owners = λ v h. omega (arith, g.owners v h, g.few) }

-- where no blank is kept, a jump keeps only those whose owners stay
pub plain-rests : (s index switches : List ℕ) (v : ℕ) → keeps_blanks (entry index 11) ≡ false → stays_at index switches v ≡ rests_at s index switches v
unfolding rests_at lands_at
plain-rests s index switches v e =
    let i = get_or switches (owner_in index v) 0 in
    let rows = span_rows s (entry index 11) (2 * entry index 0) index (switch_place (component_place (owner_in index v)) i + 3) in
    sym (ap (λ (b : Bool). stays_at index switches v || (b && unmentioned (entry index 0 + v) rows)) e ∙ or-false (stays_at index switches v))

-- a variable's owner
module _ {s index : List ℕ} (g : GoodIndex s index) (v : ℕ) (known : v < entry index 0) where
  owner-is : owner_of (model_from s index) v ≡ owner_in index v
  unfolding owner_of model_from
  owner-is = counted-at (λ v. entry index (owner_place v)) (entry index 0) v 0 known

  -- in a flow
  module _ (location : ℕ) (modes : List ℕ) (stands : Stands s index location modes) (long : entry index 1 ≤ length modes) where
    mode-is : (k : ℕ) → k < entry index 1 → get_or (modes_in (model_from s index) location) k no_mode ≡ mode_from s (entry index 11) (entry index 0) index (mode_place (component_place k) (get_or modes k 0))
    unfolding modes_in model_from per_component
    mode-is k h =
        ap (λ (ms : List ℕ). get_or (present (components_from s index) ms) k no_mode) (sym stands.here)
        ∙ present-at (components_from s index) (take (entry index 1) modes) k (omega (arith, h, components-length s index)) (omega (arith, h, per-component-length index modes long))
        ∙ ap₂ mode_of (component-at s index k no_component h) (get_or-take (entry index 1) modes k 0 h)
        ∙ mode-at s index k (get_or modes k 0) (stands.known.known k h)

    pub still-told : blank_in_flow (model_from s index) location v ≡ still_at s index modes v
    unfolding blank_in_flow still_at model_from mode_from
    still-told =
        ap (λ (k : ℕ). keeps_blanks (entry index 11) && unmentioned v (get_or (modes_in (model_from s index) location) k no_mode).flow) owner-is
        ∙ ap (λ (mode : Mode). keeps_blanks (entry index 11) && unmentioned v mode.flow) (mode-is (owner_in index v) (g.owners v known))

  -- in a jump
  module _ (switches : List ℕ) (moves : KnownSwitches index switches) (long : entry index 1 ≤ length switches) where
    abbrev switch : ℕ
    switch = get_or switches (owner_in index v) 0

    switch-is : get_or (per_component index switches) (owner_of (model_from s index) v) stays ≡ switch
    unfolding per_component
    switch-is =
        ap (λ (k : ℕ). get_or (take (entry index 1) switches) k stays) owner-is
        ∙ get_or-take (entry index 1) switches (owner_in index v) stays (g.owners v known)
        ∙ there switches (owner_in index v) stays 0 (omega (arith, g.owners v known, long))

    jump-is : eqb switch stays ≡ false → owners_jump (model_from s index) (per_component index switches) v ≡ span_rows s (entry index 11) (2 * entry index 0) index (switch_place (component_place (owner_in index v)) switch + 3)
    unfolding owners_jump model_from switch_from
    jump-is e =
        ap (λ (i : ℕ). (switch_of (get_or (components_from s index) (owner_of (model_from s index) v) no_component) i).jump) switch-is
        ∙ ap (λ (k : ℕ). (switch_of (get_or (components_from s index) k no_component) switch).jump) owner-is
        ∙ ap (λ c. (switch_of c switch).jump) (component-at s index (owner_in index v) no_component (g.owners v known))
        ∙ ap (λ (w : Switch). w.jump) (switch-at s index (owner_in index v) switch (moves.known (owner_in index v) (g.owners v known) e))

    either_same : (a b c : Bool) → (a ≡ false → b ≡ c) → (a || b) ≡ (a || c)
    either_same true b c h = refl
    either_same false b c h = h refl

    pub rests-told : (owner_stays (model_from s index) (per_component index switches) v || blank_in_jump (model_from s index) (per_component index switches) v) ≡ rests_at s index switches v
    unfolding owner_stays blank_in_jump rests_at stays_at lands_at model_from
    rests-told =
        ap (λ (i : ℕ). eqb i stays || blank_in_jump (model_from s index) (per_component index switches) v) switch-is
        ∙ either_same (eqb switch stays) _ _ (λ e. ap (λ (rows : Condition). keeps_blanks (entry index 11) && unmentioned (entry index 0 + v) rows) (jump-is e))
