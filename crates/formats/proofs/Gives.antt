-- What a reading gives, where it gives a value: a law for each way of putting readings together. Assumes nothing.
use mathlib.Core.Path.{◌≡◌, refl, sym, ap, ◌∙◌, subst}
use mathlib.Core.Bool.{Bool, true, false, cond, ◌&&◌}
use mathlib.Core.List.{List, [], ◌∷◌}
use Prim.Native.Nat.{ℕ, zero, suc, ◌≤◌, ◌<◌}
use native.Mathlib.Omega.{arith}
use lib.Dec.{T, leb, leb→le, ltb→lt}
use lib.ListN.{length}
use Rattle.farkas.specs.Lists.{All, none, more}
use Rattle.formats.specs.Reading.{Got, got, refused, Reader, and_then, ◌>>=◌, ◌>>◌, give, passing, must, within, below, many, each}

-- whatever the reading gives, at any place of any sheet, has the property
pub record Gives {A : Type 0} (P : A → Type 0) (r : Reader A) : Type 0 where
  pub holds : (s : List ℕ) (p : ℕ) (a : A) (next : ℕ) → r s p ≡ got a next → P a

not-got : {A B : Type 0} (number place : ℕ) (a : A) (next : ℕ) → ◌≡◌ {A = Got A} (refused number place) (got a next) → B
not-got number place a next e = let z : ◌≡◌ {A = ℕ} 0 1 = cc in absurd (omega arith)

pub got-value : {A : Type 0} {a b : A} {p q : ℕ} → ◌≡◌ {A = Got A} (got a p) (got b q) → a ≡ b
got-value e = cc

pub got-next : {A : Type 0} {a b : A} {p q : ℕ} → ◌≡◌ {A = Got A} (got a p) (got b q) → p ≡ q
got-next e = cc

-- a reading that went through two parts went through each
pub record Passed {A B : Type 0} (g : Got A) (f : A → Reader B) (s : List ℕ) (b : B) (next : ℕ) : Type 0 where
  pub value : A
  pub place : ℕ
  pub first : g ≡ got value place
  pub second : f value s place ≡ got b next

pub passes : {A B : Type 0} (g : Got A) (f : A → Reader B) (s : List ℕ) (b : B) (next : ℕ) → and_then g f s ≡ got b next → Passed g f s b next
unfolding and_then
passes (got a place) f s b next e = record { value = a; place = place; first = refl; second = e }
passes (refused number place) f s b next e = not-got number place b next e

pub gives-bind : {A B : Type 0} {P : A → Type 0} {Q : B → Type 0} {r : Reader A} {f : A → Reader B} → Gives P r → ((a : A) → P a → Gives Q (f a)) → Gives Q (r >>= f)
unfolding ◌>>=◌
gives-bind {r = r} {f = f} g h = record {
  holds = λ s p b next e.
      let w = passes (r s p) f s b next e in
      (h w.value (g.holds s p w.value w.place w.first)).holds s w.place b next w.second;
}

pub gives_then : {A B : Type 0} {Q : B → Type 0} (r : Reader A) {t : Reader B} → Gives Q t → Gives Q (r >> t)
unfolding ◌>>◌
gives_then r {t = t} g = record {
  holds = λ s p b next e.
      let w = passes (r s p) (λ a. t) s b next e in
      g.holds s w.place b next w.second;
}

pub gives-give : {A : Type 0} {P : A → Type 0} (a : A) → P a → Gives P (give a)
unfolding give
gives-give {P = P} a x = record { holds = λ s p b next e. subst P (got-value e) x }

-- nothing is known
pub gives-any : {A : Type 0} {r : Reader A} → Gives (λ a. Unit {0}) r
gives-any = record { holds = λ s p a next e. tt }

-- a field that had to pass a test passed it
pub record Tested {A : Type 0} (test : A → Bool) (g : Got A) (a : A) (next : ℕ) : Type 0 where
  pub passed : T (test a)
  pub read : g ≡ got a next

pub tested : {A : Type 0} (test : A → Bool) (number place : ℕ) (g : Got A) (a : A) (next : ℕ) → passing test number place g ≡ got a next → Tested test g a next
unfolding passing
tested test number place (got b at) a next e = go (test b) refl e
  where
    go : (v : Bool) → test b ≡ v → cond v (got b at) (refused number place) ≡ got a next → Tested test (got b at) a next
    go true k d = record { passed = subst T (sym (ap test (sym (got-value d)) ∙ k)) tt; read = d }
    go false k d = not-got number place a next d
tested test number place (refused n p) a next e = not-got n p a next e

pub gives-must : {A : Type 0} {P : A → Type 0} (test : A → Bool) (number : ℕ) {r : Reader A} → Gives P r → Gives (λ a. T (test a) × P a) (must test number r)
unfolding must
gives-must test number {r = r} g = record {
  holds = λ s p a next e.
      let w = tested test number p (r s p) a next e in
      (w.passed, g.holds s p a next w.read);
}

pub gives-weaken : {A : Type 0} {P Q : A → Type 0} {r : Reader A} → ((a : A) → P a → Q a) → Gives P r → Gives Q r
gives-weaken f g = record { holds = λ s p a next e. f a (g.holds s p a next e) }

pub and_left : (a b : Bool) → T (a && b) → T a
and_left true b t = tt
and_left false b t = t

pub and_right : (a b : Bool) → T (a && b) → T b
and_right true b t = t
and_right false b t = absurd t

pub gives-within : (least most : ℕ) (r : Reader ℕ) → Gives (λ v. (least ≤ v) × (v ≤ most)) (within least most r)
unfolding within
gives-within least most r =
    gives-weaken
    (λ v w. (leb→le least v (and_left (leb least v) (leb v most) w.0), leb→le v most (and_right (leb least v) (leb v most) w.0)))
    (gives-must _ 5 (gives-any {r = r}))

pub gives-below : (count : ℕ) (r : Reader ℕ) → Gives (λ v. v < count) (below count r)
unfolding below
gives-below count r = gives-weaken (λ v w. ltb→lt v count w.0) (gives-must _ 5 (gives-any {r = r}))

-- several readings give as many values, each with the property of one
pub gives-many : {A : Type 0} {P : A → Type 0} {r : Reader A} (n : ℕ) → Gives P r → Gives (λ xs. (length xs ≡ n) × All P xs) (many n r)
unfolding many
gives-many zero g = gives-give [] (refl, none)
gives-many (suc n) g = gives-bind g (λ a x. gives-bind (gives-many n g) (λ xs w. gives-give (a ∷ xs) (ap suc w.0, more x w.1)))

-- a reading that goes through two parts, from each
pub bind-got : {A B : Type 0} (r : Reader A) (f : A → Reader B) (s : List ℕ) (p : ℕ) {a : A} {k : ℕ} {g : Got B} → r s p ≡ got a k → f a s k ≡ g → (r >>= f) s p ≡ g
unfolding ◌>>=◌ and_then
bind-got r f s p e h = ap (λ g. and_then g f s) e ∙ h

pub then-got : {A B : Type 0} (r : Reader A) (t : Reader B) (s : List ℕ) (p : ℕ) {a : A} {k : ℕ} {g : Got B} → r s p ≡ got a k → t s k ≡ g → (r >> t) s p ≡ g
unfolding ◌>>◌ and_then
then-got r t s p e h = ap (λ g. and_then g (λ a. t) s) e ∙ h

pub each-got : {A B : Type 0} (f : A → Reader B) (a : A) (xs : List A) (s : List ℕ) (p : ℕ) {b : B} {bs : List B} {k next : ℕ} → f a s p ≡ got b k → each f xs s k ≡ got bs next → each f (a ∷ xs) s p ≡ got (b ∷ bs) next
unfolding each give
each-got f a xs s p {b} {bs} {k} e h =
    bind-got (f a) (λ b. each f xs >>= λ rest. give (b ∷ rest)) s p e (bind-got (each f xs) (λ rest. give (b ∷ rest)) s k h refl)
