-- Laws on `Compared`: at most, or below where it must be. Sums, multiples and chains of comparisons are strict as soon as one part is.
-- Assumes nothing.
use mathlib.Core.Path.{◌≡◌, refl, subst}
use mathlib.Core.Logic.{◌↔◌}
use mathlib.Core.Bool.{Bool, true, false, ◌||◌}
use Prim.Native.Nat.{ℕ, zero, suc, ◌+◌, ◌≤◌}
use native.Mathlib.Nat.{mul-lt-mul_of_pos_left, lt_of_mul-lt-mul_left}
use native.Mathlib.Omega.{arith}
use lib.Dec.{T}
use lib.IntN.{ℤ, pos, ◌+ℤ◌, ◌*ℤ◌, *ℤ_comm}
use lib.Signed.{◌≤ℤ◌, ◌<ℤ◌}
use Rattle.farkas.specs.Rows.{compared, Compared}
use Rattle.farkas.specs.Farkas.{counts}
use Rattle.farkas.proofs.Integers.{split, by_parts, ≤_trans, ≤-+, ≤-*}
use Rattle.farkas.proofs.Order.{≤-times, ≤-cancel}

pub <-most : (a b : ℤ) → a <ℤ b → a ≤ℤ b
<-most a b = rw (split a, split b) (simp by_parts (omega arith))

pub compared-means : (strict : Bool) (a b : ℤ) → T (compared strict a b) ↔ Compared strict a b
unfolding compared
compared-means true a b =
    (λ t. record { most = <-most a b (record { lt = t }); below = λ s. record { lt = t } }, λ c. (c.below tt).lt)
compared-means false a b = (λ t. record { most = record { le = t }; below = λ s. absurd s }, λ c. c.most.le)

-- one of two
or_cases : (b c : Bool) {P : Type 0} → (T b → P) → (T c → P) → T (b || c) → P
or_cases true c f g t = f tt
or_cases false c f g t = g t

<-+l : (a b c d : ℤ) → a <ℤ b → c ≤ℤ d → (a +ℤ c) <ℤ (b +ℤ d)
<-+l a b c d = rw (split a, split b, split c, split d) (simp by_parts (omega arith))

<-+r : (a b c d : ℤ) → a ≤ℤ b → c <ℤ d → (a +ℤ c) <ℤ (b +ℤ d)
<-+r a b c d = rw (split a, split b, split c, split d) (simp by_parts (omega arith))

<-≤ : (a b c : ℤ) → a <ℤ b → b ≤ℤ c → a <ℤ c
<-≤ a b c = rw (split a, split b, split c) (simp by_parts (omega arith))

≤-< : (a b c : ℤ) → a ≤ℤ b → b <ℤ c → a <ℤ c
≤-< a b c = rw (split a, split b, split c) (simp by_parts (omega arith))

<-* : (m : ℕ) (a b : ℤ) → 1 ≤ m → a <ℤ b → (pos m *ℤ a) <ℤ (pos m *ℤ b)
<-* m a b = rw (split a, split b) (simp by_parts (λ pm h. omega (arith, mul-lt-mul_of_pos_left {k = m} h pm)))

<-cancel : (k : ℕ) (a b : ℤ) → (pos k *ℤ a) <ℤ (pos k *ℤ b) → a <ℤ b
<-cancel k a b = rw (split a, split b) (simp by_parts (λ h. lt_of_mul-lt-mul_left k (omega arith)))

pub compared-+ : {s t : Bool} {a b c d : ℤ} → Compared s a b → Compared t c d → Compared (s || t) (a +ℤ c) (b +ℤ d)
compared-+ {s} {t} {a} {b} {c} {d} h k =
    record {
      most = ≤-+ a b c d h.most k.most;
      below = or_cases s t (λ x. <-+l a b c d (h.below x) k.most) (λ x. <-+r a b c d h.most (k.below x));
    }

pub compared-trans : {s t : Bool} {a b c : ℤ} → Compared s a b → Compared t b c → Compared (s || t) a c
compared-trans {s} {t} {a} {b} {c} h k =
    record {
      most = ≤_trans a b c h.most k.most;
      below = or_cases s t (λ x. <-≤ a b c (h.below x) k.most) (λ x. ≤-< a b c h.most (k.below x));
    }

-- m times: strict where m is at least 1; what is not strict never counts, and of two parts one does
once : (m : ℕ) (s : Bool) → T (counts m s) → (1 ≤ m) × T s
unfolding counts
once zero s t = absurd t
once (suc m) s t = (omega arith, t)

pub counts-never : (m : ℕ) → counts m false ≡ false
unfolding counts
counts-never zero = refl
counts-never (suc m) = refl

pub counts-one : (m n : ℕ) (s : Bool) → 1 ≤ m + n → T s → T (counts m s || counts n s)
unfolding counts
counts-one zero zero s h t = absurd (omega arith)
counts-one zero (suc n) s h t = t
counts-one (suc m) n true h t = tt
counts-one (suc m) n false h t = absurd t

pub compared-* : (m : ℕ) {s : Bool} {a b : ℤ} → Compared s a b → Compared (counts m s) (pos m *ℤ a) (pos m *ℤ b)
compared-* m {s} {a} {b} h =
    record {
      most = ≤-* m a b h.most;
      below = λ t. let w = once m s t in <-* m a b w.0 (h.below w.1);
    }

-- the two sides q times
pub compared-times : (q : ℕ) {s : Bool} {a b : ℤ} → 1 ≤ q → Compared s a b → Compared s (a *ℤ pos q) (b *ℤ pos q)
compared-times q {s} {a} {b} h c =
    record {
      most = ≤-times q a b c.most;
      below = λ t. rw (*ℤ_comm a (pos q), *ℤ_comm b (pos q)) (<-* q a b h (c.below t));
    }

pub compared-cancel : (k : ℕ) {s : Bool} {a b : ℤ} → 1 ≤ k → Compared s (pos k *ℤ a) (pos k *ℤ b) → Compared s a b
compared-cancel k {s} {a} {b} h c = record { most = ≤-cancel k a b h c.most; below = λ t. <-cancel k a b (c.below t) }

-- of the same numbers
pub compared_same : {s : Bool} {a b c d : ℤ} → a ≡ c → b ≡ d → Compared s a b → Compared s c d
compared_same {s} {a} {b} {c} {d} e f h = subst (λ y. Compared s c y) f (subst (λ x. Compared s x b) e h)

-- where nothing must be below, at most is enough
pub compared-plain : {s : Bool} {a b : ℤ} → s ≡ false → a ≤ℤ b → Compared s a b
compared-plain e h = record { most = h; below = λ t. absurd (subst T e t) }

-- a weaker comparison
pub compared-weaker : {s t : Bool} {a b : ℤ} → (T t → T s) → Compared s a b → Compared t a b
compared-weaker f c = record { most = c.most; below = λ x. c.below (f x) }
