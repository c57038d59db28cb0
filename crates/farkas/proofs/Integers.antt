-- Laws on the whole numbers that relate their order to sums and products.
-- Each unknown is written as a difference of two naturals (`split`), each operation acts on differences (`by_parts`), and what is
-- left is arithmetic on naturals, which `omega` decides. Assumes nothing.
use mathlib.Core.Path.{◌≡◌, refl, ap}
use mathlib.Core.Logic.{◌↔◌}
use mathlib.Core.Bool.{Bool, true, false, not, cond}
use Prim.Native.Nat.{ℕ, zero, suc, ◌+◌, ◌*◌, ◌-◌, ◌≤◌, ◌<◌}
use native.Mathlib.Nat.{mul-le-mul_left}
use native.Mathlib.Omega.{arith}
use lib.Dec.{T, ltb, ltb→lt, nltb→le, leb→le, le→leb, lt→ltb}
use lib.IntN.{ℤ, pos, negsuc, neg_ℤ, sub_ℕ, ◌+ℤ◌, ◌*ℤ◌}
use lib.Signed.{◌≤ℤ◌, ◌<ℤ◌}

-- the part of a whole number above zero, and that below
abbrev pub up : ℤ → ℕ
up (pos n) = n
up (negsuc n) = zero

abbrev pub dn : ℤ → ℕ
dn (pos n) = zero
dn (negsuc n) = suc n

-- the difference of two naturals
infixl 6 ◌⊖◌
unfoldable pub ◌⊖◌ : ℕ → ℕ → ℤ
a ⊖ b = sub_ℕ a b

-- the two parts of a difference
pick_ind : (c : Bool) (x y : ℤ) (P : ℤ → Type 0) → (T c → P x) → (T (not c) → P y) → P (cond c x y)
pick_ind true x y P f g = f tt
pick_ind false x y P f g = g tt

parts : (a b : ℕ) → up (a ⊖ b) + b ≡ dn (a ⊖ b) + a
unfolding ◌⊖◌
parts a b = pick_ind (ltb a b) (negsuc (b - suc a)) (pos (a - b)) (λ z. up z + b ≡ dn z + a) (λ t. below a b (ltb→lt a b t)) (λ t. above a b (nltb→le a b t))
  where
    below : (a b : ℕ) → a < b → zero + b ≡ suc (b - suc a) + a
    below a b h = omega arith

    above : (a b : ℕ) → b ≤ a → (a - b) + b ≡ zero + a
    above a b h = omega arith

-- a whole number is known by its two parts
same_parts : (x y : ℤ) → up x + dn y ≡ up y + dn x → x ≡ y
same_parts (pos a) (pos b) e = ap pos (omega arith)
same_parts (pos a) (negsuc b) e = absurd (omega arith)
same_parts (negsuc a) (pos b) e = absurd (omega arith)
same_parts (negsuc a) (negsuc b) e = ap negsuc (omega arith)

pub split : (z : ℤ) → z ≡ up z ⊖ dn z
split z = same_parts z (up z ⊖ dn z) (omega (arith, parts (up z) (dn z)))

parts-+ : (x y : ℤ) → up (x +ℤ y) + (dn x + dn y) ≡ dn (x +ℤ y) + (up x + up y)
unfolding ◌⊖◌
parts-+ (pos a) (pos b) = omega arith
parts-+ (pos a) (negsuc b) = let e = parts a (suc b) in omega arith
parts-+ (negsuc a) (pos b) = let e = parts b (suc a) in omega arith
parts-+ (negsuc a) (negsuc b) = omega arith

parts-neg : (x : ℤ) → up (neg_ℤ x) + up x ≡ dn (neg_ℤ x) + dn x
parts-neg (pos zero) = refl
parts-neg (pos (suc n)) = omega arith
parts-neg (negsuc n) = omega arith

neg-up : (n : ℕ) → up (neg_ℤ (pos n)) ≡ zero
neg-up zero = refl
neg-up (suc n) = refl

neg-dn : (n : ℕ) → dn (neg_ℤ (pos n)) ≡ n
neg-dn zero = refl
neg-dn (suc n) = refl

parts-* : (x y : ℤ) → up (x *ℤ y) + (up x * dn y + dn x * up y) ≡ dn (x *ℤ y) + (up x * up y + dn x * dn y)
parts-* (pos a) (pos b) = omega arith
parts-* (pos a) (negsuc b) = omega (arith, neg-up (a * suc b), neg-dn (a * suc b))
parts-* (negsuc a) (pos b) = omega (arith, neg-up (suc a * b), neg-dn (suc a * b))
parts-* (negsuc a) (negsuc b) = omega arith

-- how each operation acts on differences
pub ⊖-≡ : (a b c d : ℕ) → (a ⊖ b ≡ c ⊖ d) ↔ (a + d ≡ c + b)
⊖-≡ a b c d = (there, back)
  where
    there : a ⊖ b ≡ c ⊖ d → a + d ≡ c + b
    there e = omega (arith, parts a b, parts c d, ap up e, ap dn e)

    back : a + d ≡ c + b → a ⊖ b ≡ c ⊖ d
    back e = same_parts (a ⊖ b) (c ⊖ d) (omega (arith, parts a b, parts c d))

pub ⊖-+ : (a b c d : ℕ) → (a ⊖ b) +ℤ (c ⊖ d) ≡ (a + c) ⊖ (b + d)
⊖-+ a b c d = same_parts ((a ⊖ b) +ℤ (c ⊖ d)) ((a + c) ⊖ (b + d)) (omega (arith, parts-+ (a ⊖ b) (c ⊖ d), parts a b, parts c d, parts (a + c) (b + d)))

pub ⊖-neg : (a b : ℕ) → neg_ℤ (a ⊖ b) ≡ b ⊖ a
⊖-neg a b = same_parts (neg_ℤ (a ⊖ b)) (b ⊖ a) (omega (arith, parts-neg (a ⊖ b), parts a b, parts b a))

pub ⊖-pos : (n : ℕ) → pos n ≡ n ⊖ zero
⊖-pos n = split (pos n)

pub ⊖-negsuc : (n : ℕ) → negsuc n ≡ zero ⊖ suc n
⊖-negsuc n = split (negsuc n)

-- the product of two differences: the two equations of parts, multiplied by the parts of the other factor
product-parts : (a b c d u v x y : ℕ) → u + b ≡ v + a → x + d ≡ y + c → u * x + v * y + (a * d + b * c) ≡ u * y + v * x + (a * c + b * d)
product-parts a b c d u v x y e f =
    let e₁ = ap (λ (n : ℕ). n * x) e in
    let e₂ = ap (λ (n : ℕ). n * y) e in
    let f₁ = ap (λ (n : ℕ). n * a) f in
    let f₂ = ap (λ (n : ℕ). n * b) f in
    omega arith

pub ⊖-* : (a b c d : ℕ) → (a ⊖ b) *ℤ (c ⊖ d) ≡ (a * c + b * d) ⊖ (a * d + b * c)
⊖-* a b c d =
    same_parts ((a ⊖ b) *ℤ (c ⊖ d)) ((a * c + b * d) ⊖ (a * d + b * c))
    (omega (arith, parts-* (a ⊖ b) (c ⊖ d), parts (a * c + b * d) (a * d + b * c), product-parts a b c d (up (a ⊖ b)) (dn (a ⊖ b)) (up (c ⊖ d)) (dn (c ⊖ d)) (parts a b) (parts c d)))

-- the order, by parts
le_parts : (x y : ℤ) → (x ≤ℤ y) ↔ (up x + dn y ≤ up y + dn x)
le_parts x y = (there x y, back x y)
  where
    there : (x y : ℤ) → x ≤ℤ y → up x + dn y ≤ up y + dn x
    there (pos a) (pos b) h = omega (arith, leb→le a b h.le)
    there (pos a) (negsuc b) h = absurd h.le
    there (negsuc a) (pos b) h = omega arith
    there (negsuc a) (negsuc b) h = omega (arith, leb→le b a h.le)

    back : (x y : ℤ) → up x + dn y ≤ up y + dn x → x ≤ℤ y
    back (pos a) (pos b) h = record { le = le→leb a b (omega arith) }
    back (pos a) (negsuc b) h = absurd (omega arith)
    back (negsuc a) (pos b) h = record { le = tt }
    back (negsuc a) (negsuc b) h = record { le = le→leb b a (omega arith) }

lt-parts : (x y : ℤ) → (x <ℤ y) ↔ (up x + dn y < up y + dn x)
lt-parts x y = (there x y, back x y)
  where
    there : (x y : ℤ) → x <ℤ y → up x + dn y < up y + dn x
    there (pos a) (pos b) h = omega (arith, ltb→lt a b h.lt)
    there (pos a) (negsuc b) h = absurd h.lt
    there (negsuc a) (pos b) h = omega arith
    there (negsuc a) (negsuc b) h = omega (arith, ltb→lt b a h.lt)

    back : (x y : ℤ) → up x + dn y < up y + dn x → x <ℤ y
    back (pos a) (pos b) h = record { lt = lt→ltb a b (omega arith) }
    back (pos a) (negsuc b) h = absurd (omega arith)
    back (negsuc a) (pos b) h = record { lt = tt }
    back (negsuc a) (negsuc b) h = record { lt = lt→ltb b a (omega arith) }

pub ⊖-≤ : (a b c d : ℕ) → ((a ⊖ b) ≤ℤ (c ⊖ d)) ↔ (a + d ≤ c + b)
⊖-≤ a b c d = (λ h. omega (arith, (le_parts (a ⊖ b) (c ⊖ d)).0 h, parts a b, parts c d), λ h. (le_parts (a ⊖ b) (c ⊖ d)).1 (omega (arith, parts a b, parts c d)))

pub ⊖-< : (a b c d : ℕ) → ((a ⊖ b) <ℤ (c ⊖ d)) ↔ (a + d < c + b)
⊖-< a b c d = (λ h. omega (arith, (lt-parts (a ⊖ b) (c ⊖ d)).0 h, parts a b, parts c d), λ h. (lt-parts (a ⊖ b) (c ⊖ d)).1 (omega (arith, parts a b, parts c d)))

pub ruleset by_parts = (⊖-+, ⊖-neg, ⊖-*, ⊖-pos, ⊖-negsuc, ⊖-≤, ⊖-<, ⊖-≡)

-- ring laws
pub *-assoc : (a b c : ℤ) → (a *ℤ b) *ℤ c ≡ a *ℤ (b *ℤ c)
*-assoc a b c = rw (split a, split b, split c) (simp by_parts (omega arith))

pub *-+ : (a b c : ℤ) → a *ℤ (b +ℤ c) ≡ a *ℤ b +ℤ a *ℤ c
*-+ a b c = rw (split a, split b, split c) (simp by_parts (omega arith))

pub +-* : (a b c : ℤ) → (a +ℤ b) *ℤ c ≡ a *ℤ c +ℤ b *ℤ c
+-* a b c = rw (split a, split b, split c) (simp by_parts (omega arith))

-- order laws
pub ≤_trans : (a b c : ℤ) → a ≤ℤ b → b ≤ℤ c → a ≤ℤ c
≤_trans a b c = rw (split a, split b, split c) (simp by_parts (omega arith))

pub ≤-+ : (a b c d : ℤ) → a ≤ℤ b → c ≤ℤ d → (a +ℤ c) ≤ℤ (b +ℤ d)
≤-+ a b c d = rw (split a, split b, split c, split d) (simp by_parts (omega arith))

pub ≤-* : (m : ℕ) (a b : ℤ) → a ≤ℤ b → (pos m *ℤ a) ≤ℤ (pos m *ℤ b)
≤-* m a b = rw (split a, split b) (simp by_parts (λ h. omega (arith, mul-le-mul_left m h)))
