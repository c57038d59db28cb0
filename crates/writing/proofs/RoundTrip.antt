-- A model that can be written reads back, whole, from what is written: the same but for where its rows stand. Assumes nothing.
use mathlib.Core.Path.{◌≡◌, refl, sym, ap, ap₂, ◌∙◌, subst}
use mathlib.Core.Bool.{Bool, true, cond, ◌&&◌}
use mathlib.Core.List.{List, [], ◌∷◌, ◌++◌, append-nil, append_assoc}
use Prim.Native.Nat.{ℕ, ◌+◌, ◌≤◌, ◌<◌}
use native.Mathlib.Omega.{arith}
use lib.Dec.{T}
use lib.ListN.{length, take, length-append}
use borrow.Author.Tests.{le-leb, eq-eqb}
use Rattle.formats.specs.Versions.{version_fits, kind_fits}
use Rattle.formats.specs.Reading.{got, refused, Reader, ◌>>=◌, ◌>>◌, give, here, big_endian, u8, u16, must, length_right, sized, header, read_paper, finished}
use Rattle.formats.specs.Model.{Model, read_model_body}
use Rattle.formats.specs.Locations.{location_count}
use Rattle.formats.specs.Joint.{JointSwitch, joints}
use Rattle.formats.specs.declared.Limits.{Limits}
use Rattle.formats.specs.ModelSheet.{Few, read_whole, read_model}
use Rattle.formats.proofs.Gives.{bind-got, then-got}
use Rattle.formats.proofs.ModelSheet.{few-reads}
use Rattle.writing.specs.Writing.{half, write_fields, write_paper, write_body, write_model}
use Rattle.writing.specs.Changed.{changed, bare_rows, bare}
use Rattle.writing.proofs.ReadsLaws.{Reads, reads_then, reads-next, reads-give, reads-tested}
use Rattle.writing.proofs.PartsBack.{half_back, reads-half, reads-paper, reads-fields}
use Rattle.writing.proofs.ChangedJoints.{changed-locations, changed-joints}
use Rattle.writing.proofs.Writable.{Writable}

-- The header: "u16 L, the bytes that follow it; u8 version ..; u8 kind"
abbrev after_sized : Reader ℕ
after_sized = u16 >> (must (version_fits 1) 2 u8 >>= λ version. must (kind_fits 1) 3 u8 >> give version)

abbrev front : ℕ → ℕ → List ℕ
front size version = half size ++ ((version ∷ []) ++ (1 ∷ []))

reads-front : (size version : ℕ) → size < 65536 → T (version_fits 1 version) → Reads after_sized (front size version) (λ v. v ≡ version)
unfolding kind_fits
reads-front size version h t =
    reads-next (reads-half size h)
    (reads_then (reads-tested (version_fits 1) 2 version t) (λ v e. reads-next (reads-tested (kind_fits 1) 3 1 tt) (reads-give v e)))

-- four bytes, then the body
pub written-size : (m : Model) → length (write_model m) ≡ 4 + length (write_body m)
unfolding write_model half
written-size m = omega arith

-- "A sheet has at most 32,768 bytes: u16 L, the bytes that follow it"
length-right : (s : List ℕ) → 4 ≤ length s → length s ≤ 32768 → big_endian (take 2 s) + 2 ≡ length s → length_right s ≡ true
unfolding length_right
length-right s low high e =
    ap₂ (λ (a b : Bool). a && b)
    (ap₂ (λ (a b : Bool). a && b) (le-leb 4 (length s) low) (le-leb (length s) 32768 high))
    (eq-eqb (big_endian (take 2 s) + 2) (length s) e)

-- a sheet whose length is right has its header read from what follows
sized-header : (s : List ℕ) {v p : ℕ} → length_right s ≡ true → after_sized s 0 ≡ got v p → header 1 s 0 ≡ got v p
unfolding header sized
sized-header s right e = then-got sized after_sized s 0 (ap (λ b. cond b (got tt 0) (refused 1 0)) right) e

-- the paper number and the body, behind the header: the model that is read, and where its reading ends
module _ (m : Model) (w : Writable m) where
  before : List ℕ
  before = front (2 + length (write_body m)) m.version

  abbrev number : List ℕ
  number = write_paper m.version m.paper

  -- n's byte
  abbrev place : ℕ
  place = 4 + length number

  again : Model
  again = (reads-fields m w).value (before ++ number) []

  again-same : bare again ≡ bare m
  unfolding again
  again-same = (reads-fields m w).right (before ++ number) []

  paper-back : read_paper m.version (write_model m) 4 ≡ got m.paper place
  unfolding write_model write_body half before
  paper-back =
      let r = reads-paper m.version m.paper w.paper in
      r.reads before (write_fields m) ∙ ap (λ (v : ℕ). got v place) (r.right before (write_fields m))

  body_back : read_model_body m.version m.paper (write_model m) place ≡ got again (4 + length (write_body m))
  unfolding write_model write_body half before again
  body_back =
      let behind = before ++ number in
      let there : length behind ≡ place = length-append before number in
      let whole : write_model m ≡ behind ++ (write_fields m ++ []) = ap (λ (b : List ℕ). before ++ (number ++ b)) (sym (append-nil (write_fields m))) ∙ sym (append_assoc before number (write_fields m ++ [])) in
      let end : length behind + length (write_fields m) ≡ 4 + length (write_body m) = omega (arith, there, length-append number (write_fields m)) in
      ap₂ (λ (s : List ℕ) (p : ℕ). read_model_body m.version m.paper s p) whole (sym there)
      ∙ (reads-fields m w).reads behind []
      ∙ ap (λ (p : ℕ). got again p) end

  end_back : finished (write_model m) (4 + length (write_body m)) ≡ got tt (4 + length (write_body m))
  unfolding finished
  end_back =
      ap (λ b. cond b (got tt (4 + length (write_body m))) (refused 4 (4 + length (write_body m))))
      (le-leb (length (write_model m)) (4 + length (write_body m)) (omega (arith, written-size m)))

-- the whole sheet, where it is not too long
module _ (m : Model) (w : Writable m) (small : length (write_model m) ≤ 32768) where
  size_fits : 2 + length (write_body m) < 65536
  size_fits = omega (arith, written-size m)

  written-right : length_right (write_model m) ≡ true
  unfolding write_model half
  written-right =
      length-right (write_model m) (omega (arith, written-size m)) small
      (ap (λ (n : ℕ). n + 2) (half_back (2 + length (write_body m)) size_fits) ∙ omega arith)

  header-back : header 1 (write_model m) 0 ≡ got m.version 4
  unfolding write_model half
  header-back =
      let r = reads-front (2 + length (write_body m)) m.version size_fits w.version in
      sized-header (write_model m) written-right (r.reads [] (write_body m) ∙ ap (λ (v : ℕ). got v 4) (r.right [] (write_body m)))

  whole_back : read_whole (write_model m) 0 ≡ got (record { model = again m w; place = place m w }) (4 + length (write_body m))
  unfolding read_whole here give
  whole_back =
      bind-got (header 1) _ (write_model m) 0 header-back
      (bind-got (read_paper m.version) _ (write_model m) 4 (paper-back m w)
      (bind-got here _ (write_model m) (place m w) refl
      (bind-got (read_model_body m.version m.paper) _ (write_model m) (place m w) (body_back m w)
      (then-got finished _ (write_model m) (4 + length (write_body m)) (end_back m w) refl))))

-- models that are the same but for where rows stand have as many locations and joint switches
module _ (x m : Model) (e : bare x ≡ bare m) where
  locations-same : location_count x.components ≡ location_count m.components
  unfolding bare changed
  locations-same =
      sym (changed-locations bare_rows x.components)
      ∙ ap (λ (y : Model). location_count y.components) e
      ∙ changed-locations bare_rows m.components

  joints-same : joints x.components ≡ joints m.components
  unfolding bare changed
  joints-same =
      sym (changed-joints bare_rows x.components)
      ∙ ap (λ (y : Model). joints y.components) e
      ∙ changed-joints bare_rows m.components

  few-same : (limits : Limits) → Few limits m.components → Few limits x.components
  few-same limits few = record {
    locations = subst (λ (n : ℕ). n ≤ limits.locations) (sym locations-same) few.locations;
    joined = subst (λ (l : List JointSwitch). length l ≤ limits.joints) (sym joints-same) few.joined;
  }

-- what is written of a model reads back
pub record Back (limits : Limits) (m : Model) : Type 0 where
  pub again : Model
  pub end : ℕ
  pub reads : read_model limits (write_model m) ≡ got again end
  pub same : bare again ≡ bare m

pub reads-back : (limits : Limits) (m : Model) → Writable m → length (write_model m) ≤ 32768 → Few limits m.components → Back limits m
reads-back limits m w small few = record {
  again = again m w;
  end = 4 + length (write_body m);
  reads = few-reads limits (write_model m) (record { model = again m w; place = place m w }) _ (whole_back m w small) (few-same (again m w) m (again-same m w) limits few);
  same = again-same m w;
}
