-- The model sheet, whole: how the answers of its parts make the answer of the sheet. Assumes nothing.
use mathlib.Core.Path.{◌≡◌, refl, sym, ap, ◌∙◌}
use mathlib.Core.List.{List}
use Prim.Native.Nat.{ℕ, ◌≤◌, ◌<◌}
use borrow.Author.Tests.{le-leb, lt-leb}
use lib.Dec.{T}
use lib.ListN.{length}
use Rattle.std.specs.Prelude.{Ok, Err}
use Rattle.fields.proofs.AnswerLaws.{Next}
use Rattle.formats.specs.Versions.{version_fits}
use Rattle.formats.specs.Reading.{Got, got, refused, Reader, and_then, ◌>>=◌, ◌>>◌, give, here, expect, header, read_paper, finished}
use Rattle.formats.specs.Model.{Component, Model, read_model_body}
use Rattle.formats.specs.Locations.{location_count}
use Rattle.formats.specs.Joint.{joints}
use Rattle.formats.specs.declared.Limits.{Limits}
use Rattle.formats.specs.ModelSheet.{limits_test, read_model}
use Rattle.formats.proofs.ModelSheet.{in-a-chain}
use Rattle.models.specs.Index.{model_from, GoodIndex}
use Rattle.fields.specs.Answers.{got_as}
use Rattle.model_sheets.specs.Opening.{Opening, read_opening}
use Rattle.formats.proofs.Gives.{bind-got, then-got}
use Rattle.fields.proofs.Skipping.{bind-refused}
use Rattle.fields.proofs.ChainLaws.{bind_assoc, bind-same, give-bind}
use Rattle.formats.proofs.WellFormed.{body-gives}
use Rattle.formats.proofs.RowPlaces.{body-within}
use Rattle.models.proofs.GoodIndexLaws.{body-few, good-index}

-- a body that was read into an index makes it a good one
pub body-good : (version paper : ℕ) (s index : List ℕ) (at end : ℕ) → T (version_fits 1 version) → read_model_body version paper s at ≡ got (model_from s index) end → GoodIndex s index
body-good version paper s index at end fits e =
    good-index s index
    ((body-gives version paper fits).holds s at (model_from s index) end e)
    ((body-within s version paper).holds at (model_from s index) end e)
    ((body-few version paper).holds s at (model_from s index) end e)

-- a test that is no field, and the place where a field begins
here-then : {B : Type 0} (f : ℕ → Reader B) (s : List ℕ) (p : ℕ) {g : Got B} → f p s p ≡ g → (here >>= f) s p ≡ g
unfolding here ◌>>=◌ and_then
here-then f s p e = e

then-refused : {A B : Type 0} (r : Reader A) (t : Reader B) (s : List ℕ) (p : ℕ) {number place : ℕ} → r s p ≡ refused number place → (r >> t) s p ≡ refused number place
unfolding ◌>>◌ and_then
then-refused r t s p e = ap (λ g. and_then g (λ a. t) s) e

limits-then : {A : Type 0} (a : A) (r : Reader (Unit {0})) (s : List ℕ) (p : ℕ) (x : Next) → got_as tt x ≡ r s p → got_as a x ≡ (r >> give a) s p
unfolding ◌>>◌ and_then give got_as
limits-then a r s p (Ok q) e = ap (λ g. and_then g (λ u. give a) s) e
limits-then a r s p (Err w) e = ap (λ g. and_then g (λ u. give a) s) e

-- the two limits, by the counts
module _ (limits : Limits) (components : List Component) (body : ℕ) (s : List ℕ) (p : ℕ) where
  pub limits-seven : limits.locations < location_count components → limits_test limits components body s p ≡ refused 7 body
  unfolding limits_test expect ◌>>◌ and_then
  limits-seven h = rw (lt-leb (location_count components) limits.locations h) refl

  pub limits-eight : location_count components ≤ limits.locations → limits.joints < length (joints components) → limits_test limits components body s p ≡ refused 8 body
  unfolding limits_test expect ◌>>◌ and_then
  limits-eight h k = rw (le-leb (location_count components) limits.locations h, lt-leb (length (joints components)) limits.joints k) refl

-- the parts of the sheet
module _ (limits : Limits) (s : List ℕ) where
  rest : Opening → Reader Model
  rest o = here >>= λ place. read_model_body o.version o.paper >>= λ m. finished >> (limits_test limits m.components place >> give m)

  in_parts : read_model limits s ≡ (read_opening >>= rest) s 0
  unfolding read_opening rest
  in_parts =
      in-a-chain limits s
      ∙ sym
      (bind_assoc (header 1) _ rest s 0
      ∙ bind-same (header 1) _ _ s 0
      (λ version l.
      bind_assoc (read_paper version) _ rest s l
      ∙ bind-same (read_paper version) _ _ s l (λ paper k. give-bind (record { version = version; paper = paper }) rest s k)))

  pub sheet-first : (number place : ℕ) → read_opening s 0 ≡ refused number place → read_model limits s ≡ refused number place
  sheet-first number place e = in_parts ∙ bind-refused read_opening rest s 0 e

  module _ (o : Opening) (body : ℕ) (one : read_opening s 0 ≡ got o body) where
    opened : {g : Got Model} → (read_model_body o.version o.paper >>= λ m. finished >> (limits_test limits m.components body >> give m)) s body ≡ g → read_model limits s ≡ g
    unfolding rest
    opened e = in_parts ∙ bind-got read_opening rest s 0 one (here-then _ s body e)

    pub sheet-second : (number place : ℕ) → read_model_body o.version o.paper s body ≡ refused number place → read_model limits s ≡ refused number place
    sheet-second number place e = opened (bind-refused (read_model_body o.version o.paper) _ s body e)

    module _ (m : Model) (end : ℕ) (two : read_model_body o.version o.paper s body ≡ got m end) where
      pub sheet-third : (number place : ℕ) → finished s end ≡ refused number place → read_model limits s ≡ refused number place
      sheet-third number place e = opened (bind-got (read_model_body o.version o.paper) _ s body two (then-refused finished _ s end e))

      pub sheet-limits : (next : ℕ) → finished s end ≡ got tt next → (x : Next) → got_as tt x ≡ limits_test limits m.components body s next → got_as m x ≡ read_model limits s
      sheet-limits next three x e =
          limits-then m (limits_test limits m.components body) s next x e
          ∙ sym (opened (bind-got (read_model_body o.version o.paper) _ s body two (then-got finished _ s end three refl)))
