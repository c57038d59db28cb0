-- Decimal numbers as bytes: the last digit behind the others, and how many there are; and a line's text from its parts, written one after the
-- other. Assumes nothing.
use mathlib.Core.Path.{◌≡◌, refl, sym, ap, ◌∙◌, subst}
use mathlib.Core.Bool.{Bool, true, false}
use mathlib.Core.List.{List, [], ◌∷◌, ◌++◌, append_assoc}
use Prim.Native.Nat.{ℕ, zero, suc, ◌+◌, ◌/◌, ◌%◌, ◌^◌, ◌≤◌, ◌<◌}
use native.Mathlib.Omega.{arith}
use lib.Dec.{ltb}
use lib.ListN.{length, length-append}
use borrow.Author.Tests.{ltb-true, ltb-false, lt-ltb, le-ltb}
use Rattle.rules.specs.Program.{digits, decimal}
use Rattle.buffers.specs.Over.{over}
use Rattle.buffers.proofs.OverLaws.{over-then}
use Rattle.marking.specs.Lines.{Written}
use native.Mathlib.Nat.{zero-add}

-- one digit more, by whether it is the last
abbrev step : Bool → ℕ → ℕ → List ℕ → List ℕ
step b f n rest = elim b [ true ↦ (48 + n) ∷ rest | false ↦ digits f (n / 10) ((48 + n % 10) ∷ rest) ]

stepped : (f n : ℕ) (rest : List ℕ) → digits (suc f) n rest ≡ step (ltb n 10) f n rest
unfolding digits
stepped f n rest = refl

-- what follows stands behind the digits
onto-step : (b : Bool) (f n : ℕ) (rest : List ℕ) → ((m : ℕ) (r : List ℕ) → digits f m r ≡ digits f m [] ++ r) → step b f n rest ≡ step b f n [] ++ rest
onto-step true f n rest h = refl
onto-step false f n rest h =
    h (n / 10) ((48 + n % 10) ∷ rest)
    ∙ sym (append_assoc (digits f (n / 10) []) ((48 + n % 10) ∷ []) rest)
    ∙ ap (λ (xs : List ℕ). xs ++ rest) (sym (h (n / 10) ((48 + n % 10) ∷ [])))

digits_onto : (f n : ℕ) (rest : List ℕ) → digits f n rest ≡ digits f n [] ++ rest
unfolding digits
digits_onto zero n rest = refl
digits_onto (suc f) n rest = onto-step (ltb n 10) f n rest (digits_onto f)

-- as many steps as the number needs are enough
fuel-step : (b : Bool) (f g n : ℕ) (rest : List ℕ) → ltb n 10 ≡ b → n < suc f → n < suc g → ((m : ℕ) (r : List ℕ) → m < f → m < g → digits f m r ≡ digits g m r) → step b f n rest ≡ step b g n rest
fuel-step true f g n rest e h k w = refl
fuel-step false f g n rest e h k w = w (n / 10) ((48 + n % 10) ∷ rest) (omega (arith, ltb-false n 10 e)) (omega (arith, ltb-false n 10 e))

digits-fuel : (f g n : ℕ) (rest : List ℕ) → n < f → n < g → digits f n rest ≡ digits g n rest
unfolding digits
digits-fuel zero g n rest h k = absurd (omega arith)
digits-fuel (suc f) zero n rest h k = absurd (omega arith)
digits-fuel (suc f) (suc g) n rest h k = fuel-step (ltb n 10) f g n rest refl h k (λ m r. digits-fuel f g m r)

pub decimal-small : (n : ℕ) → n < 10 → decimal n ≡ (48 + n) ∷ []
unfolding decimal
decimal-small n h = stepped n n [] ∙ ap (λ (b : Bool). step b n n []) (lt-ltb n 10 h)

pub decimal-last : (n : ℕ) → 10 ≤ n → decimal n ≡ decimal (n / 10) ++ ((48 + n % 10) ∷ [])
unfolding decimal
decimal-last n h =
    stepped n n []
    ∙ ap (λ (b : Bool). step b n n []) (le-ltb n 10 h)
    ∙ digits-fuel n (suc (n / 10)) (n / 10) ((48 + n % 10) ∷ []) (omega arith) (omega arith)
    ∙ digits_onto (suc (n / 10)) (n / 10) ((48 + n % 10) ∷ [])

-- a number below 10 ^ k has at most k digits
pub digits-few : (k n : ℕ) → n < 10 ^ suc k → length (decimal n) ≤ suc k
digits-few zero n h = rw (decimal-small n h) (omega arith)
digits-few (suc k) n h = go (ltb n 10) refl (digits-few k (n / 10))
  where
    go : (b : Bool) → ltb n 10 ≡ b → (n / 10 < 10 ^ suc k → length (decimal (n / 10)) ≤ suc k) → length (decimal n) ≤ suc (suc k)
    go true e w = rw (decimal-small n (ltb-true n 10 e)) (omega arith)
    go false e w =
        rw (decimal-last n (ltb-false n 10 e))
        (omega (arith, length-append (decimal (n / 10)) ((48 + n % 10) ∷ []), w (omega (arith, h))))

pub ten-digits : (n : ℕ) → n < 2 ^ 32 → length (decimal n) ≤ 10
ten-digits n h = digits-few 9 n (omega arith)

-- the last digit written behind the others
pub decimal-put : (before between after : List ℕ) (at next n : ℕ) → 10 ≤ n → (next ≡ at + length (decimal (n / 10))) × (between ≡ over before at (decimal (n / 10))) → after ≡ over between next ((48 + n % 10) ∷ []) → (next + 1 ≡ at + length (decimal n)) × (after ≡ over before at (decimal n))
decimal-put before between after at next n h w e = (
  omega (arith, w.0, ap (λ (l : List ℕ). length l) (decimal-last n h), length-append (decimal (n / 10)) ((48 + n % 10) ∷ [])),
  e
      ∙ ap (λ (l : List ℕ). over l next ((48 + n % 10) ∷ [])) w.1
      ∙ ap (λ (k : ℕ). over (over before at (decimal (n / 10))) k ((48 + n % 10) ∷ [])) w.0
      ∙ over-then before at (decimal (n / 10)) ((48 + n % 10) ∷ [])
      ∙ ap (over before at) (sym (decimal-last n h)),
)

-- two parts, one behind the other
pub parts-put : (before between after : List ℕ) (at next r : ℕ) (xs ys : List ℕ) → (next ≡ at + length xs) × (between ≡ over before at xs) → (r ≡ next + length ys) × (after ≡ over between next ys) → (r ≡ at + length (xs ++ ys)) × (after ≡ over before at (xs ++ ys))
parts-put before between after at next r xs ys w v = (
  omega (arith, w.0, v.0, length-append xs ys),
  v.1
      ∙ ap (λ (l : List ℕ). over l next ys) w.1
      ∙ ap (λ (k : ℕ). over (over before at xs) k ys) w.0
      ∙ over-then before at xs ys,
)

-- one part of a text written behind the others
pub written-first : (before after text : List ℕ) (r : ℕ) → (r ≡ 0 + length text) × (after ≡ over before 0 text) → Written before after text r
written-first before after text r w = record { sized = omega (arith, w.0); bytes = w.1 }

pub written_then : {before between after text : List ℕ} (more : List ℕ) {at r : ℕ} → Written before between text at → (r ≡ at + length more) × (after ≡ over between at more) → Written before after (text ++ more) r
written_then {before} {between} {after} {text} more {at} {r} w p =
    record {
      sized = omega (arith, p.0, w.sized, length-append text more);
      bytes =
          p.1
          ∙ ap (λ (l : List ℕ). over l at more) w.bytes
          ∙ ap (λ (n : ℕ). over (over before 0 text) n more) (w.sized ∙ sym (zero-add (length text)))
          ∙ over-then before 0 text more;
    }

-- the same text, put together in another way
pub written-so : {before after text same : List ℕ} {r : ℕ} → text ≡ same → Written before after text r → Written before after same r
written-so {before} {after} {r = r} e w = subst (λ (l : List ℕ). Written before after l r) e w
