-- A paper once its sheets are read: limits, lengths, regions, and where a location stands. Assumes nothing.
use mathlib.Core.Path.{◌≡◌, refl, sym, ap, ◌∙◌, subst}
use mathlib.Core.Bool.{Bool, true, false, ◌&&◌}
use mathlib.Core.List.{List}
use Prim.Native.Nat.{ℕ, ◌≤◌, ◌+◌}
use native.Mathlib.Omega.{arith}
use lib.Dec.{leb, T, eqb, leb→le}
use lib.ListN.{length, take}
use Rattle.formats.specs.Reading.{Got, got, refused, ◌>>=◌, header, big_endian, length_right}
use Rattle.formats.specs.Rows.{Condition}
use Rattle.formats.specs.Model.{Model}
use Rattle.formats.specs.Locations.{location_count}
use Rattle.models.specs.Index.{entry, components_from, model_from}
use Rattle.joint_switches.specs.Counted.{Counted}
use Rattle.formats.specs.declared.Limits.{Limits}
use Rattle.formats.specs.ModelSheet.{limits_fit, read_model}
use Rattle.formats.proofs.ModelSheet.{in-a-chain, read_whole_lem, fit_low}
use Rattle.formats.specs.Certificate.{read_regions}
use Rattle.second_sheets.specs.CertificateAnswers.{regions_from, regions_for, GoodRegions}
use Rattle.formats.proofs.Gives.{passes, and_left, and_right}
use Rattle.formats.proofs.Header.{header_read}
use Rattle.model_sheets.proofs.SheetLaws.{sheet-first}
use Rattle.model_sheets.proofs.OpeningLaws.{opening-first}
use Rattle.formats.proofs.Placed.{FineTo, Fine, placed-regions, model-fine}
use Rattle.models.proofs.GoodIndexLaws.{index-good}
use Rattle.second_sheets.proofs.CertificateLaws.{regions-of, good-regions}
use Rattle.papers.specs.Paper.{Accepted}
use Rattle.papers.specs.Papers.{GoodPaper}
use Rattle.fields.proofs.HeaderLaws.{header-unsized}

-- a model sheet that was read is short
pub model-short : (limits : Limits) (s : List ℕ) (m : Model) (next : ℕ) → read_model limits s ≡ got m next → length s ≤ 32768
unfolding ◌>>=◌
model-short limits s m next e =
    let w = passes (header 1 s 0) _ s m next (sym (in-a-chain limits s) ∙ e) in
    (header_read 1 s 0 w.value w.place w.first).short

-- a model that was read under limits that fit
pub accepted : (limits : Limits) (model index : List ℕ) (next : ℕ) → T (limits_fit limits) → read_model limits model ≡ got (model_from model index) next → Counted model index → Accepted model index
unfolding model_from
accepted limits model index next t e counted =
    let w = (read_whole_lem limits model (model_from model index) next e).few in
    let low = fit_low limits t in
    record {
      good = index-good limits model index next e;
      short = model-short limits model (model_from model index) next e;
      few = omega (arith, w.locations, low.locations);
      joined = omega (arith, w.joined, low.joints);
      counted = counted;
    }

-- a paper is good once its regions are read
pub good-paper : {model index second regions : List ℕ} (locations at next : ℕ) → Accepted model index → length second ≤ 32768 → locations ≡ location_count (components_from model index) → regions_for locations (entry index 11) (entry index 0) second at ≡ got (regions_from second (entry index 11) (entry index 0) regions locations) next → GoodPaper model index second regions
good-paper {model} {index} {second} {regions} locations at next a h l e =
    record {
      good = a.good;
      placed = subst (λ (n : ℕ). GoodRegions second (entry index 11) (entry index 0) n regions) l (good-regions second (entry index 11) (entry index 0) locations at regions next e);
      short = a.short;
      brief = h;
      few = a.few;
      counted = a.counted;
    }

-- The regions: those that the model wants are those for its numbers
pub regions-for : (model index second : List ℕ) (locations at : ℕ) → locations ≡ location_count (components_from model index) → regions_for locations (entry index 11) (entry index 0) second at ≡ read_regions (model_from model index) second at
unfolding model_from
regions-for model index second locations at l =
    ap (λ (n : ℕ). regions_for n (entry index 11) (entry index 0) second at) l ∙ sym (ap (λ r. r second at) (regions-of (model_from model index)))

pub regions-refused-at : (m : Model) (s : List ℕ) (at number place : ℕ) → at ≤ length s → read_regions m s at ≡ refused number place → place ≤ length s
regions-refused-at m s at number place l e = (subst (λ x. Fine s at x) e ((placed-regions {least = 0} m).fine s at (omega arith) l)).2

pub regions-end-at : (m : Model) (s : List ℕ) (at : ℕ) (regions : List Condition) (place : ℕ) → at ≤ length s → read_regions m s at ≡ got regions place → place ≤ length s
regions-end-at m s at regions place l e = (subst (λ x. Fine s at x) e ((placed-regions {least = 0} m).fine s at (omega arith) l)).1

-- The length. A place of a refusal on a sheet of any length is at most 32,768
right-short : (s : List ℕ) → length_right s ≡ true → length s ≤ 32768
unfolding length_right
right-short s e =
    let a = leb 4 (length s) in
    let b = leb (length s) 32768 in
    let c = eqb (big_endian (take 2 s) + 2) (length s) in
    leb→le (length s) 32768 (and_right a b (and_left (a && b) c (subst T (sym e) tt)))

pub refused-placed : {A : Type 0} (most : ℕ) (s : List ℕ) (g : Got A) (number place : ℕ) → FineTo most s 0 g → (length_right s ≡ false → g ≡ refused 1 0) → g ≡ refused number place → place ≤ 32768
refused-placed most s g number place w unsized e = go (length_right s) refl
  where
    go : (b : Bool) → length_right s ≡ b → place ≤ 32768
    go true q = omega (arith, right-short s q, (subst (λ x. FineTo most s 0 x) e w).2)
    go false q =
        let r : refused 1 0 ≡ refused number place = sym (unsized q) ∙ e in
        let z : 0 ≡ place = cc in
        omega arith

pub model-placed : (limits : Limits) (s : List ℕ) (number place : ℕ) → read_model limits s ≡ refused number place → place ≤ 32768
model-placed limits s number place e =
    refused-placed 9 s (read_model limits s) number place (model-fine limits s) (λ q. sheet-first limits s 1 0 (opening-first s 1 0 (header-unsized s 1 q))) e
