-- A model sheet is read whole and then tested: the same in one chain of readings, what is known of a sheet that gives a model, and what
-- a sheet gives under any limits. Assumes nothing.
use mathlib.Core.Path.{◌≡◌, refl, ap, ◌∙◌, subst}
use mathlib.Core.Bool.{Bool, true, false, cond}
use mathlib.Core.List.{List}
use Prim.Native.Nat.{ℕ, ◌≤◌}
use borrow.Author.Tests.{le-leb, leb-true}
use native.Mathlib.Omega.{arith}
use lib.Dec.{T, leb, leb→le}
use lib.ListN.{length}
use Rattle.formats.specs.Reading.{Got, got, refused, Reader, and_then, ◌>>=◌, ◌>>◌, give, here, expect, header, read_paper, finished}
use Rattle.formats.specs.Model.{Component, Model, read_model_body}
use Rattle.formats.specs.Locations.{location_count}
use Rattle.formats.specs.Joint.{joints}
use Rattle.formats.specs.declared.Limits.{Limits}
use Rattle.formats.specs.ModelSheet.{exam_limits, limit_fits, limits_fit, Whole, Few, read_whole, limits_test, read_model}
use Rattle.formats.proofs.Gives.{and_left, and_right, passes, got-value, bind-got, then-got}

-- limits that fit are no higher than the exam's
pub record Low (limits : Limits) : Type 0 where
  pub locations : limits.locations ≤ 64
  pub joints : limits.joints ≤ 4096

fits_low : (limit exam : ℕ) → T (limit_fits limit exam) → limit ≤ exam
unfolding limit_fits
fits_low limit exam t = leb→le limit exam (and_right (leb 1 limit) (leb limit exam) t)

pub fit_low : (limits : Limits) → T (limits_fit limits) → Low limits
unfolding limits_fit exam_limits
fit_low limits t =
    let a = limit_fits limits.locations 64 in
    let b = limit_fits limits.joints 4096 in
    record { locations = fits_low limits.locations 64 (and_left a b t); joints = fits_low limits.joints 4096 (and_right a b t) }

-- readings in a chain, bracketed either way
bind-bind : {A B C : Type 0} (r : Reader A) (f : A → Reader B) (h : B → Reader C) (s : List ℕ) (p : ℕ) → ((r >>= f) >>= h) s p ≡ (r >>= (λ a. f a >>= h)) s p
unfolding ◌>>=◌ and_then
bind-bind {A} r f h s p = go (r s p)
  where
    go : (g : Got A) → and_then (and_then g f s) h s ≡ and_then g (λ a. f a >>= h) s
    go (got a next) = refl
    go (refused number place) = refl

then-give : {A B C : Type 0} (r : Reader A) (b : B) (h : B → Reader C) (s : List ℕ) (p : ℕ) → ((r >> give b) >>= h) s p ≡ (r >> h b) s p
unfolding ◌>>=◌ ◌>>◌ and_then give
then-give {A} r b h s p = go (r s p)
  where
    go : (g : Got A) → and_then (and_then g (λ a. give b) s) h s ≡ and_then g (λ a. h b) s
    go (got a next) = refl
    go (refused number place) = refl

bind-same : {A B : Type 0} (r : Reader A) (f h : A → Reader B) (s : List ℕ) (p : ℕ) → ((a : A) (k : ℕ) → f a s k ≡ h a s k) → (r >>= f) s p ≡ (r >>= h) s p
unfolding ◌>>=◌ and_then
bind-same {A} r f h s p same = go (r s p)
  where
    go : (g : Got A) → and_then g f s ≡ and_then g h s
    go (got a next) = same a next
    go (refused number place) = refl

-- a model sheet in one chain
abbrev pub chain : Limits → Reader Model
chain limits =
    header 1
    >>= λ version. read_paper version
    >>= λ paper. here
    >>= λ place. read_model_body version paper
    >>= λ m. finished >> (limits_test limits m.components place >> give m)

pub in-a-chain : (limits : Limits) (s : List ℕ) → read_model limits s ≡ chain limits s 0
unfolding read_model read_whole
in-a-chain limits s =
    let rest : Whole → Reader Model = λ whole. limits_test limits whole.model.components whole.place >> give whole.model in
    bind-bind (header 1) _ rest s 0
    ∙ bind-same (header 1) _ _ s 0
    (λ version l.
    bind-bind (read_paper version) _ rest s l
    ∙ bind-same (read_paper version) _ _ s l
    (λ paper k.
    bind-bind here _ rest s k
    ∙ bind-same here _ _ s k
    (λ place j.
    bind-bind (read_model_body version paper) _ rest s j
    ∙ bind-same (read_model_body version paper) _ _ s j (λ m i. then-give finished (record { model = m; place = place }) rest s i))))

-- the two tests
tested-so : (b : Bool) (number place : ℕ) (s : List ℕ) (p : ℕ) {u : Unit {0}} {next : ℕ} → expect b number place s p ≡ got u next → b ≡ true
unfolding expect
tested-so true number place s p e = refl
tested-so false number place s p e = let z : ◌≡◌ {A = ℕ} 0 1 = cc in absurd (omega arith)

expected : {b : Bool} (number place : ℕ) (s : List ℕ) (p : ℕ) → b ≡ true → expect b number place s p ≡ got tt p
unfolding expect
expected number place s p e = ap (λ b. cond b (got tt p) (refused number place)) e

pub tests-pass : (limits : Limits) (components : List Component) (place : ℕ) (s : List ℕ) (p : ℕ) → Few limits components → limits_test limits components place s p ≡ got tt p
unfolding limits_test
tests-pass limits components place s p w =
    then-got (expect (leb (location_count components) limits.locations) 7 place) _ s p
    (expected 7 place s p (le-leb (location_count components) limits.locations w.locations))
    (expected 8 place s p (le-leb (length (joints components)) limits.joints w.joined))

tests-passed : (limits : Limits) (components : List Component) (place : ℕ) (s : List ℕ) (p : ℕ) (u : Unit {0}) (next : ℕ) → limits_test limits components place s p ≡ got u next → Few limits components
unfolding limits_test ◌>>◌
tests-passed limits components place s p u next e =
    let w = passes (expect (leb (location_count components) limits.locations) 7 place s p) _ s u next e in
    record {
      locations = leb-true (location_count components) limits.locations (tested-so _ 7 place s p w.first);
      joined = leb-true (length (joints components)) limits.joints (tested-so _ 8 place s w.place w.second);
    }

-- what a sheet that gives a model was
pub record ReadWhole (limits : Limits) (s : List ℕ) (m : Model) : Type 0 where
  pub whole : Whole
  pub end : ℕ
  pub reads : read_whole s 0 ≡ got whole end
  pub same : whole.model ≡ m
  pub few : Few limits m.components

pub read_whole_lem : (limits : Limits) (s : List ℕ) (m : Model) (next : ℕ) → read_model limits s ≡ got m next → ReadWhole limits s m
unfolding read_model ◌>>=◌ ◌>>◌ give
read_whole_lem limits s m next e =
    let w = passes (read_whole s 0) (λ whole. limits_test limits whole.model.components whole.place >> give whole.model) s m next e in
    let v = passes (limits_test limits w.value.model.components w.value.place s w.place) _ s m next w.second in
    let same : w.value.model ≡ m = got-value v.second in
    record {
      whole = w.value;
      end = w.place;
      reads = w.first;
      same = same;
      few = subst (λ (x : Model). Few limits x.components) same (tests-passed limits w.value.model.components w.value.place s w.place v.value v.place v.first);
    }

-- what a sheet gives under limits that its model is within, and where it is no model
pub few-reads : (limits : Limits) (s : List ℕ) (whole : Whole) (end : ℕ) → read_whole s 0 ≡ got whole end → Few limits whole.model.components → read_model limits s ≡ got whole.model end
unfolding read_model give
few-reads limits s whole end e w =
    bind-got read_whole _ s 0 e
    (then-got (limits_test limits whole.model.components whole.place) _ s end (tests-pass limits whole.model.components whole.place s end w) refl)

pub none_reads : (limits : Limits) (s : List ℕ) (number at : ℕ) → read_whole s 0 ≡ refused number at → read_model limits s ≡ refused number at
unfolding read_model ◌>>=◌ and_then
none_reads limits s number at e =
    ap (λ g. and_then g (λ whole. limits_test limits whole.model.components whole.place >> give whole.model) s) e
