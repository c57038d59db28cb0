-- Readings in a chain, by their answers: where the last one's answer is handed on, it is the answer of the whole. Assumes nothing.
use mathlib.Core.Path.{◌≡◌, refl, sym, ap, ◌∙◌}
use mathlib.Core.List.{List}
use Prim.Native.Nat.{ℕ}
use Rattle.std.specs.Prelude.{Ok, Err}
use Rattle.fields.specs.declared.Refusal.{Refusal}
use Rattle.fields.specs.Causes.{number_of}
use Rattle.formats.specs.Reading.{Got, got, refused, Reader, and_then, ◌>>=◌, give}
use Rattle.fields.specs.Answers.{got_as}
use Rattle.fields.proofs.AnswerLaws.{Next}
use Rattle.formats.proofs.Gives.{bind-got}
use Rattle.fields.proofs.Skipping.{bind-refused}

-- the last reading, then its value put into a larger one
pub last-got : {A B : Type 0} (r : Reader A) (f : A → B) (s : List ℕ) (p : ℕ) (a : A) (x : Next) → got_as a x ≡ r s p → got_as (f a) x ≡ (r >>= λ v. give (f v)) s p
unfolding got_as give
last-got r f s p a (Ok q) e = sym (bind-got r (λ v. give (f v)) s p (sym e) refl)
last-got r f s p a (Err w) e = sym (bind-refused r (λ v. give (f v)) s p (sym e))

-- an answer that is known, as the reading
pub told_at : {A : Type 0} (a : A) (g : Got A) {x : Next} {p : ℕ} → got_as a x ≡ g → x ≡ Ok p → g ≡ got a p
unfolding got_as
told_at a g e h = sym e ∙ ap (got_as a) h

pub told-refused : {A : Type 0} (a : A) (g : Got A) {x : Next} {w : Refusal} → got_as a x ≡ g → x ≡ Err w → g ≡ refused (number_of w.0) w.1
unfolding got_as
told-refused a g e h = sym e ∙ ap (got_as a) h

-- readings that are put together twice
assoc-step : {A B C : Type 0} (x : Got A) (f : A → Reader B) (g : B → Reader C) (s : List ℕ) → and_then (and_then x f s) g s ≡ and_then x (λ a. f a >>= g) s
unfolding and_then ◌>>=◌
assoc-step (got a p) f g s = refl
assoc-step (refused number place) f g s = refl

pub bind_assoc : {A B C : Type 0} (r : Reader A) (f : A → Reader B) (g : B → Reader C) (s : List ℕ) (p : ℕ) → ((r >>= f) >>= g) s p ≡ (r >>= λ a. f a >>= g) s p
unfolding ◌>>=◌
bind_assoc r f g s p = assoc-step (r s p) f g s

-- the same, of the readers themselves
pub regroup : {A B C : Type 0} (r : Reader A) (f : A → Reader B) (g : B → Reader C) → ◌≡◌ {A = Reader C} ((r >>= f) >>= g) (r >>= λ a. f a >>= g)
regroup r f g = λ i s p. bind_assoc r f g s p i

-- what follows may be exchanged for the same
same_step : {A B : Type 0} (x : Got A) (f g : A → Reader B) (s : List ℕ) → ((a : A) (p : ℕ) → f a s p ≡ g a s p) → and_then x f s ≡ and_then x g s
unfolding and_then
same_step (got a p) f g s h = h a p
same_step (refused number place) f g s h = refl

pub bind-same : {A B : Type 0} (r : Reader A) (f g : A → Reader B) (s : List ℕ) (p : ℕ) → ((a : A) (q : ℕ) → f a s q ≡ g a s q) → (r >>= f) s p ≡ (r >>= g) s p
unfolding ◌>>=◌
bind-same r f g s p h = same_step (r s p) f g s h

pub give-bind : {A B : Type 0} (a : A) (f : A → Reader B) (s : List ℕ) (p : ℕ) → (give a >>= f) s p ≡ f a s p
unfolding ◌>>=◌ give and_then
give-bind a f s p = refl
