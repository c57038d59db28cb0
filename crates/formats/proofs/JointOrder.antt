-- Sorted lists: a law for each way in which the definitions make a list, and what a sorted list says of two places in it.
-- Then the order of joint switches: by location, then event, then switches, and that nothing stands before itself. Assumes nothing.
use mathlib.Core.Path.{◌≡◌, refl, subst}
use mathlib.Core.Logic.{◌⊎◌, inl, inr, ⊎_elim, ◌≢◌}
use mathlib.Core.Bool.{Bool, true, false, cond}
use mathlib.Core.List.{List, [], ◌∷◌, ◌++◌, map, Memᴰ}
use Prim.Native.Nat.{ℕ, zero, suc, ◌<◌}
use native.Mathlib.Omega.{arith}
use lib.Dec.{eqb}
use lib.ListN.{length, get_or}
use Rattle.formats.specs.Joint.{stays, JointSwitch, numbers_from, count_up, join_all}
use Rattle.farkas.specs.Lists.{All, none, more}
use Rattle.farkas.proofs.All.{all_append}
use Rattle.formats.proofs.Members.{all_in, all-members, all-below, count-in, numbers-in}

pub all-mapped : {A B : Type 0} {P : B → Type 0} (f : A → B) (xs : List A) → ((a : A) → Memᴰ a xs → P (f a)) → All P (map f xs)
all-mapped f [] g = none
all-mapped f (x ∷ xs) g = more (g x (Memᴰ.head refl)) (all-mapped f xs (λ a d. g a (Memᴰ.tail d)))

pub all-joined : {A B : Type 0} {P : B → Type 0} (f : A → List B) (xs : List A) → ((a : A) → Memᴰ a xs → All P (f a)) → All P (join_all f xs)
unfolding join_all
all-joined f [] g = none
all-joined f (x ∷ xs) g = all_append (g x (Memᴰ.head refl)) (all-joined f xs (λ a d. g a (Memᴰ.tail d)))

-- each element is before every later one
pub data Sorted {A : Type 0} (R : A → A → Type 0) : List A → Type 0 where
  sorted_none : Sorted R []
  sorted-and : {a : A} {xs : List A} → All (R a) xs → Sorted R xs → Sorted R (a ∷ xs)

-- each element of the first list is before every one of the second
abbrev pub AllBefore : {A : Type 0} → (A → A → Type 0) → List A → List A → Type 0
AllBefore R xs ys = All (λ a. All (R a) ys) xs

pub sorted-append : {A : Type 0} {R : A → A → Type 0} {xs ys : List A} → Sorted R xs → Sorted R ys → AllBefore R xs ys → Sorted R (xs ++ ys)
sorted-append sorted_none k none = k
sorted-append (sorted-and x rest) k (more y others) = sorted-and (all_append x y) (sorted-append rest k others)

pub sorted-map : {A B : Type 0} {R : A → A → Type 0} {Q : B → B → Type 0} (f : A → B) {xs : List A} → Sorted R xs → ((a b : A) → R a b → Q (f a) (f b)) → Sorted Q (map f xs)
sorted-map f sorted_none g = sorted_none
sorted-map f (sorted-and {a = a} {xs = xs} x rest) g = sorted-and (all-mapped f xs (λ b d. g a b (all_in x d))) (sorted-map f rest g)

pub sorted-joined : {A B : Type 0} {R : A → A → Type 0} {Q : B → B → Type 0} (f : A → List B) {xs : List A} → Sorted R xs → ((a : A) → Sorted Q (f a)) → ((a b : A) → R a b → AllBefore Q (f a) (f b)) → Sorted Q (join_all f xs)
unfolding join_all
sorted-joined f sorted_none g h = sorted_none
sorted-joined f (sorted-and {a = a} {xs = xs} x rest) g h =
    sorted-append (g a) (sorted-joined f rest g h)
    (all-members (f a) (λ c d. all-joined f xs (λ b k. all_in (h a b (all_in x k)) d)))

pub sorted-count : (k n : ℕ) → Sorted ◌<◌ (count_up k n)
unfolding count_up
sorted-count k zero = sorted_none
sorted-count k (suc n) = sorted-and (all-members (count_up (suc k) n) (λ i d. (count-in (suc k) n i d).0)) (sorted-count (suc k) n)

sorted-keep : {A : Type 0} {R : A → A → Type 0} (b : Bool) (a : A) {xs : List A} → Sorted R xs → All (R a) xs → Sorted R (cond b (a ∷ xs) xs)
sorted-keep true a rest x = sorted-and x rest
sorted-keep false a rest x = rest

pub sorted-numbers : {A : Type 0} (k : ℕ) (test : A → Bool) (xs : List A) → Sorted ◌<◌ (numbers_from k test xs)
unfolding numbers_from
sorted-numbers k test [] = sorted_none
sorted-numbers k test (x ∷ xs) =
    sorted-keep (test x) k (sorted-numbers (suc k) test xs) (all-members (numbers_from (suc k) test xs) (λ i d. (numbers-in (suc k) test xs x i d).from))

-- of two places, the element at the first is before that at the second
pub sorted-at : {A : Type 0} {R : A → A → Type 0} {xs : List A} → Sorted R xs → (i k : ℕ) (d : A) → i < k → k < length xs → R (get_or xs i d) (get_or xs k d)
sorted-at sorted_none i k d h l = absurd (omega arith)
sorted-at (sorted-and x rest) i zero d h l = absurd (omega arith)
sorted-at (sorted-and x rest) zero (suc k) d h l = all-below x k d (omega arith)
sorted-at (sorted-and x rest) (suc i) (suc k) d h l = sorted-at rest i k d (omega arith) (omega arith)

-- number by number, up to the first that differs; it compares lists of one length
unfoldable pub Lex : List ℕ → List ℕ → Type 0
Lex [] ys = ⊥
Lex (i ∷ xs) [] = ⊥
Lex (i ∷ xs) (k ∷ ys) = (i < k) ⊎ ((i ≡ k) × Lex xs ys)

pub lex-now : {i k : ℕ} (xs ys : List ℕ) → i < k → Lex (i ∷ xs) (k ∷ ys)
unfolding Lex
lex-now xs ys h = inl h

pub lex-later : (i : ℕ) (xs ys : List ℕ) → Lex xs ys → Lex (i ∷ xs) (i ∷ ys)
unfolding Lex
lex-later i xs ys l = inr (refl, l)

pub lex-itself : (xs : List ℕ) → Lex xs xs → ⊥
unfolding Lex
lex-itself [] l = l
lex-itself (i ∷ xs) l = ⊎_elim (λ h. omega arith) (λ w. lex-itself xs w.1) l

-- the first component that does not stay, by its number, and its switch
unfoldable pub mover : List ℕ → ℕ
mover [] = 0
mover (i ∷ xs) = cond (eqb i stays) (suc (mover xs)) 0

unfoldable pub mover_switch : List ℕ → ℕ
mover_switch [] = 0
mover_switch (i ∷ xs) = cond (eqb i stays) (mover_switch xs) i

-- "by component and switch"
unfoldable pub ByMover : List ℕ → List ℕ → Type 0
ByMover xs ys = (mover xs < mover ys) ⊎ ((mover xs ≡ mover ys) × (mover_switch xs < mover_switch ys))

-- "Joint switches are listed by location, then event; for event 0 by component and switch, else by switch numbers, lowest component first".
-- For event 0 too the switch numbers are compared: a staying component's 255 is above every switch number, so that this is the order by
-- component and switch (`silent-order` of JointList)
pub data Before (a b : JointSwitch) : Type 0 where
  by-location : a.source < b.source → Before a b
  by-event : a.source ≡ b.source → a.event < b.event → Before a b
  by-switches : a.source ≡ b.source → a.event ≡ b.event → Lex a.switches b.switches → Before a b

pub before-itself : (a : JointSwitch) → Before a a → ⊥
before-itself a (by-location h) = omega arith
before-itself a (by-event e h) = omega arith
before-itself a (by-switches e f l) = lex-itself a.switches l

pub before-apart : {a b : JointSwitch} → Before a b → a ≢ b
before-apart {a} {b} h e = before-itself b (subst (λ c. Before c b) e h)
