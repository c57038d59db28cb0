-- The rows of a certificate's regions, by the places that the code keeps. Assumes nothing.
use mathlib.Core.Path.{◌≡◌, ap, ◌∙◌}
use mathlib.Core.List.{List, [], map}
use Prim.Native.Nat.{ℕ, ◌+◌, ◌*◌, ◌≤◌, ◌<◌}
use native.Mathlib.Decide.{dec_le}
use native.Mathlib.Omega.{arith}
use lib.ListN.{length, get_or-eq_default}
use Rattle.formats.specs.Rows.{Condition}
use Rattle.formats.specs.Locations.{location_count}
use Rattle.formats.specs.Joint.{count_up}
use Rattle.models.specs.Index.{entry, span_rows, components_from}
use Rattle.second_sheets.specs.CertificateAnswers.{regions_from}
use Rattle.fields.proofs.ConditionLaws.{length-rows}
use Rattle.models.proofs.GoodIndexLaws.{counted-length, counted-at}
use Rattle.rules.specs.Obligations.{region_of}
use Rattle.papers.specs.Paper.{regions_of}
use Rattle.papers.specs.Papers.{GoodPaper}

-- the rows of a region
module _ (model index second regions : List ℕ) where
  pub region-at : (location : ℕ) → location < location_count (components_from model index) → regions_of model index second regions location ≡ span_rows second (entry index 11) (entry index 0) regions (2 * location)
  unfolding regions_of region_of regions_from
  region-at location h = counted-at (λ l. span_rows second (entry index 11) (entry index 0) regions (2 * l)) (location_count (components_from model index)) location [] h

  pub region-length : (location : ℕ) → location < location_count (components_from model index) → length (regions_of model index second regions location) ≡ entry regions (2 * location + 1)
  unfolding span_rows
  region-length location h =
      ap (λ (c : Condition). length c) (region-at location h)
      ∙ length-rows second (entry index 11) (entry index 0) (entry regions (2 * location)) (entry regions (2 * location + 1))

  region-past : (location : ℕ) → location_count (components_from model index) ≤ location → length (regions_of model index second regions location) ≡ 0
  unfolding regions_of region_of regions_from
  region-past location h =
      let kept : ℕ → Condition = λ l. span_rows second (entry index 11) (entry index 0) regions (2 * l) in
      let count = location_count (components_from model index) in
      ap (λ (c : Condition). length c) (get_or-eq_default (map kept (count_up 0 count)) [] {n = location} (omega (arith, counted-length kept 0 count)))

  pub region-few : GoodPaper model index second regions → (location : ℕ) → length (regions_of model index second regions location) ≤ 16
  region-few g location = go (dec_le (location_count (components_from model index)) location)
    where
      go : Dec (location_count (components_from model index) ≤ location) → length (regions_of model index second regions location) ≤ 16
      go (yes l) = omega (arith, region-past location l)
      go (no f) = let l : location < location_count (components_from model index) = omega arith in omega (arith, region-length location l, g.placed.few location l)
