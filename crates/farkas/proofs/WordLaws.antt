-- Numbers of four bytes: their value byte by byte, their size, and what they are with the highest bit flipped. Assumes nothing.
use mathlib.Core.Path.{◌≡◌, refl, ap, ◌∙◌}
use mathlib.Core.Bool.{cond}
use mathlib.Core.List.{List, [], ◌∷◌}
use Prim.Native.Nat.{ℕ, zero, suc, ◌+◌, ◌*◌, ◌-◌, ◌^◌, ◌≤◌, ◌<◌}
use native.Mathlib.Decide.{dec_le}
use native.Mathlib.Numerals.{add-one}
use native.Mathlib.Omega.{arith}
use lib.Dec.{ltb, lit<}
use lib.IntN.{pos, negsuc, nat_abs}
use lib.ListN.{length, get_or, take, drop}
use lib.Seq.{drop-cons}
use borrow.Author.Tests.{lt-ltb, le-ltb}
use mir.Syntax.{w32}
use mir.Val.{to_z}
use Rattle.std.specs.Int.{from_le_bytes, from_be_bytes, swap_bytes}
use Rattle.std.proofs.lemmas.Nat.{le_bytes_4}
use Rattle.farkas.specs.Words.{big_endian, signed}

-- the first byte of what is left
pub first_byte : (s : List ℕ) (p : ℕ) → p < length s → drop p s ≡ get_or s p 0 ∷ drop (p + 1) s
first_byte s p h = rw (add-one p) (drop-cons s p 0 h)

pub four-at : (s : List ℕ) (p : ℕ) → p + 4 ≤ length s → big_endian (take 4 (drop p s)) ≡ ((get_or s p 0 * 256 + get_or s (p + 1) 0) * 256 + get_or s (p + 2) 0) * 256 + get_or s (p + 3) 0
unfolding big_endian
four-at s p h =
    rw (first_byte s p (omega arith), first_byte s (p + 1) (omega arith), plus_one p 1, first_byte s (p + 2) (omega arith), plus_one p 2, first_byte s (p + 3) (omega arith))
    (go (get_or s p 0) (get_or s (p + 1) 0) (get_or s (p + 2) 0) (get_or s (p + 3) 0))
  where
    plus_one : (p k : ℕ) → p + k + 1 ≡ p + (k + 1)
    plus_one p k = omega arith

    go : (a b c d : ℕ) → a * 256 ^ 3 + (b * 256 ^ 2 + (c * 256 ^ 1 + (d * 256 ^ 0 + 0))) ≡ ((a * 256 + b) * 256 + c) * 256 + d
    go a b c d = omega arith

-- four bytes, the first lowest, turned
pub swapped-four : (a b c d : ℕ) → a < 256 → b < 256 → c < 256 → d < 256 → swap_bytes w32 (from_le_bytes w32 (a ∷ b ∷ c ∷ d ∷ [])) ≡ ((a * 256 + b) * 256 + c) * 256 + d
swapped-four a b c d ha hb hc hd = ap (from_be_bytes w32) (le_bytes_4 (a ∷ b ∷ c ∷ d ∷ []) _ refl each refl) ∙ sums a b c d
  where
    each : (i : ℕ) → get_or (a ∷ b ∷ c ∷ d ∷ []) i 0 < 256
    each zero = ha
    each (suc zero) = hb
    each (suc (suc zero)) = hc
    each (suc (suc (suc zero))) = hd
    each (suc (suc (suc (suc i)))) = lit< tt

    sums : (a b c d : ℕ) → a * 256 ^ 3 + b * 256 ^ 2 + c * 256 ^ 1 + d ≡ ((a * 256 + b) * 256 + c) * 256 + d
    sums a b c d = omega arith

-- the size of a signed number
pub signed-small : (n : ℕ) → n < 2 ^ 32 → nat_abs (signed n) ≤ 2 ^ 31
unfolding signed
signed-small n h = go (dec_le 2147483648 n)
  where
    go : Dec (2147483648 ≤ n) → nat_abs (cond (ltb n (2 ^ 31)) (pos n) (negsuc (2 ^ 32 - suc n))) ≤ 2 ^ 31
    go (yes k) = rw (le-ltb n 2147483648 k) (omega arith)
    go (no f) = let k : n < 2147483648 = omega arith in rw (lt-ltb n 2147483648 k) (omega arith)

-- a signed number is what the bits are read as
pub signed-read : (n : ℕ) → to_z w32 n ≡ signed n
unfolding signed
signed-read n = refl
