-- A fraction rounded by what is past its quotient and what is left to the next; the score of a refused certificate, by cases. Assumes
-- nothing.
use mathlib.Core.Path.{◌≡◌, sym, ap, ◌∙◌}
use Prim.Native.Nat.{ℕ, suc, ◌+◌, ◌*◌, ◌-◌, ◌/◌, ◌%◌, ◌≤◌, ◌<◌, min}
use native.Mathlib.Nat.{mod-lt, div-add-mod', mul-le-mul_left}
use native.Mathlib.Omega.{arith}
use Rattle.rules.specs.Nearest.{nearest}
use Rattle.rules.specs.Marking.{score_of, refused_score}
use Rattle.rules.proofs.Scores.{score-rounded}
use Rattle.rules.proofs.Nearest.{below_half, above_half, at-half, nearest-only}

module _ (a b : ℕ) (some : 1 ≤ b) where
  -- what is past the quotient is no more than what is divided by
  pub past_fits : a % b ≤ b
  past_fits = omega (arith, mod-lt a some)

  -- where the next is taken the quotient is at most half of what is divided
  pub next_fits : b - a % b ≤ a % b → 2 * (a / b) ≤ a
  next_fits h = omega (arith, mod-lt a some, div-add-mod' a b, mul-le-mul_left {m = 2} {n = b} (a / b) (omega (arith, mod-lt a some)))

  -- less is past the quotient than is left to the next, more, or as much
  pub nearest-below : a % b < b - a % b → a / b ≡ nearest a b
  nearest-below h = nearest-only a b (a / b) some (below_half a b (a / b) (a % b) (omega arith) (div-add-mod' a b))

  pub nearest-above : b - a % b < a % b → a / b + 1 ≡ nearest a b
  nearest-above h =
      omega (arith, nearest-only a b (suc (a / b)) some (above_half a b (a / b) (a % b) (mod-lt a some) (omega (arith, mod-lt a some)) (div-add-mod' a b)))

  pub nearest-half : a % b ≡ b - a % b → a / b + a / b % 2 ≡ nearest a b
  nearest-half h = nearest-only a b (a / b + a / b % 2) some (at-half a b (a / b) (a % b) (omega (arith, mod-lt a some)) (div-add-mod' a b))

-- The score of a refused certificate
pub score-none : (done total : ℕ) → total ≡ 0 → 99 ≡ refused_score done total
unfolding refused_score score_of
score-none done total h = sym (ap (refused_score done) h)

module _ (done total score : ℕ) (some : total ≡ 0 → ⊥) (e : score ≡ nearest (100 * done) total) where
  rounded : score_of done total ≡ score
  rounded = score-rounded done total (omega (arith, some)) ∙ sym e

  pub score-capped : min score 99 ≡ refused_score done total
  unfolding refused_score
  score-capped = omega (arith, rounded)

  pub score-most : 99 < score → 99 ≡ refused_score done total
  score-most l = omega (arith, l, score-capped)

  pub score-some : score ≤ 99 → score ≡ refused_score done total
  score-some l = omega (arith, l, score-capped)
