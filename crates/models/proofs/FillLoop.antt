-- One law for the loops that read so many values of one kind and keep each in a part of the index of its own: how such a loop begins, what
-- a turn and a refusal leave, and what it comes to. Assumes nothing.
use mathlib.Core.Path.{◌≡◌, refl, ◌∙◌}
use mathlib.Core.List.{List, map}
use Prim.Native.Nat.{ℕ, ◌+◌, ◌≤◌, ◌<◌}
use native.Mathlib.Omega.{arith}
use lib.ListN.{length}
use Rattle.fields.proofs.AnswerLaws.{Next, next-refused}
use Rattle.std.specs.Prelude.{Ok, Err}
use Rattle.fields.specs.declared.Refusal.{Refusal}
use Rattle.formats.specs.Reading.{Got, got, Reader, many}
use Rattle.formats.specs.Joint.{count_up}
use Rattle.fields.specs.Answers.{got_as}
use Rattle.fields.proofs.ChainLaws.{told_at, told-refused}
use Rattle.fields.proofs.ReadLoop.{up_to, Reading, reading-starts, reading-goes-on, reading-stops, reading-ends}
use Rattle.models.specs.Index.{Kept}
use Rattle.models.proofs.IndexLaws.{kept-none, kept_then, kept-wider}

module _ {A : Type 0} (r : Reader A) (of : List ℕ → ℕ → A) (count : ℕ) (s : List ℕ) (at from until : ℕ) (before : List ℕ) where
  abbrev whole : Got (List A)
  whole = many count r s at

  -- j values are read and kept, the next stands at this place, and nothing else of the index has changed
  abbrev pub Filled : List ℕ → ℕ → ℕ → Type 0
  Filled index j place = (j ≤ count) × ((length index ≡ length before) × (Reading r count s whole (of index) j place × Kept from until before index))

  pub fill-starts : Filled before 0 at
  fill-starts = (omega arith, (refl, (reading-starts r count s whole (of before) at refl, kept-none from until before)))

  -- a turn that leaves the index y and answers with x
  module _ (index y : List ℕ) (j place : ℕ) (filled : Filled index j place) (more : j < count) (x : Next) (told : got_as (of y j) x ≡ r s place) (low high : ℕ) (after : from ≤ low) (within : high ≤ until) (kept : Kept low high index y) where
    pub fill_stops : {w : Refusal} {answer : Next} → x ≡ Err w → answer ≡ Err w → (got_as (map (of y) (count_up 0 count)) answer ≡ whole) × Kept from until before y
    fill_stops {w} e same = (
      next-refused _ same ∙ reading-stops r count s whole (of index) j place _ _ filled.1.1.0 more (told-refused (of y j) (r s place) told e),
      kept_then filled.1.1.1 (kept-wider after within kept),
    )

    pub fill-goes-on : {end : ℕ} → x ≡ Ok end → length y ≡ length index → ((i : ℕ) → i < j → of y i ≡ of index i) → Filled y (j + 1) end
    fill-goes-on {end} e sized same = (
      omega arith,
      (
        sized ∙ filled.1.0,
        (
          reading-goes-on r count s whole (of index) (of y) j place end filled.1.1.0 more (told_at (of y j) (r s place) told e) same,
          kept_then filled.1.1.1 (kept-wider after within kept),
        ),
      ),
    )

  pub fill-ends : (index : List ℕ) (j place : ℕ) → Filled index j place → count ≤ j → (got (map (of index) (count_up 0 count)) place ≡ whole) × Kept from until before index
  unfolding up_to
  fill-ends index j place filled done = (reading-ends r count s whole (of index) j place filled.1.1.0 (omega arith), filled.1.1.1)
