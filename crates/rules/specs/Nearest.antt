-- The nearest whole number of a fraction (02, order 5): how it is found, and what it is. Assumes nothing.
use Rattle.std.specs.Prelude.{cond, ◌≡◌, ℕ, suc, ◌+◌, ◌*◌, ◌-◌, ◌/◌, ◌%◌, ◌≤◌, ltb}

-- what is past n of a whole, on the way to n + 1: "to the nearest", "a half going to the even one"; the even one of n and n + 1 is
-- n + n % 2
unfoldable pub nearer : ℕ → ℕ → ℕ → ℕ
nearer n past whole = cond (ltb (2 * past) whole) n (cond (ltb whole (2 * past)) (suc n) (n + n % 2))

-- of a over b, where b is not 0
unfoldable pub nearest : ℕ → ℕ → ℕ
nearest a b = nearer (a / b) (a % b) b

-- how far apart two numbers are: one of the differences is 0
unfoldable pub apart : ℕ → ℕ → ℕ
apart x y = (x - y) + (y - x)

-- n is the nearest to a over b. Distances are b times as long, so that they are whole: a and n · b are apart by at most half of b; by
-- just half of it only if n is even; and no whole number is nearer
pub record Nearest (a b n : ℕ) : Type 0 where
  pub near : 2 * apart a (n * b) ≤ b
  pub even : 2 * apart a (n * b) ≡ b → n % 2 ≡ 0
  pub least : (m : ℕ) → apart a (n * b) ≤ apart a (m * b)
