-- Writing over a buffer: one writing after the other, one byte, what lies past the end, and where all fits. Assumes nothing.
use mathlib.Core.Path.{◌≡◌, refl, sym, ap, ◌∙◌}
use mathlib.Core.List.{List, [], ◌∷◌, ◌++◌}
use Prim.Native.Nat.{ℕ, zero, suc, ◌+◌, ◌/◌, ◌%◌, ◌≤◌, ◌<◌}
use native.Mathlib.Nat.{zero-add, suc-add}
use native.Mathlib.Omega.{arith}
use native.Mathlib.Numerals.{add-one}
use lib.ListN.{length, get_or, take, drop, set, length-take}
use lib.Seq.{take-suc}
use Rattle.std.specs.Int.{w32, to_be_bytes}
use Rattle.std.proofs.Math.Nat.{div-div-eq-div-mul}
use Rattle.buffers.specs.Over.{over, word}

pub over_nothing : (xs : List ℕ) (at : ℕ) → over xs at [] ≡ xs
unfolding over
over_nothing [] at = refl
over_nothing (x ∷ xs) zero = refl
over_nothing (x ∷ xs) (suc at) = ap (λ r. x ∷ r) (over_nothing xs at)

over-start : (xs cs bs : List ℕ) → over (over xs zero cs) (length cs) bs ≡ over xs zero (cs ++ bs)
unfolding over
over-start [] [] bs = refl
over-start [] (a ∷ cs) bs = refl
over-start (x ∷ xs) [] bs = refl
over-start (x ∷ xs) (a ∷ cs) bs = ap (λ r. a ∷ r) (over-start xs cs bs)

-- one writing after the other
pub over-then : (xs : List ℕ) (at : ℕ) (cs bs : List ℕ) → over (over xs at cs) (at + length cs) bs ≡ over xs at (cs ++ bs)
unfolding over
over-then [] at cs bs = refl
over-then (x ∷ xs) zero cs bs = ap (λ (n : ℕ). over (over (x ∷ xs) zero cs) n bs) (zero-add (length cs)) ∙ over-start (x ∷ xs) cs bs
over-then (x ∷ xs) (suc at) cs bs = ap (λ (n : ℕ). over (x ∷ over xs at cs) n bs) (suc-add at (length cs)) ∙ ap (λ r. x ∷ r) (over-then xs at cs bs)

-- one byte
pub over-one : (xs : List ℕ) (at b : ℕ) → at < length xs → set xs at b ≡ over xs at (b ∷ [])
unfolding over
over-one [] at b h = refl
over-one (x ∷ xs) zero b h = ap (λ r. b ∷ r) (sym (over_nothing xs zero))
over-one (x ∷ xs) (suc at) b h = ap (λ r. x ∷ r) (over-one xs at b (omega arith))

pub over-past : (xs : List ℕ) (at : ℕ) (bs : List ℕ) → length xs ≤ at → xs ≡ over xs at bs
unfolding over
over-past [] at bs h = refl
over-past (x ∷ xs) zero bs h = absurd (omega arith)
over-past (x ∷ xs) (suc at) bs h = ap (λ r. x ∷ r) (over-past xs at bs (omega arith))

-- where all of it fits, it is what the buffer begins with, and bytes past it stay
pub over-whole : (xs bs : List ℕ) → length bs ≤ length xs → over xs zero bs ≡ bs ++ drop (length bs) xs
unfolding over
over-whole [] [] h = refl
over-whole [] (b ∷ bs) h = absurd (omega arith)
over-whole (x ∷ xs) [] h = refl
over-whole (x ∷ xs) (b ∷ bs) h = ap (λ r. b ∷ r) (over-whole xs bs (omega arith))

pub over-length : (xs : List ℕ) (at : ℕ) (bs : List ℕ) → length (over xs at bs) ≡ length xs
unfolding over
over-length [] at bs = refl
over-length (x ∷ xs) zero [] = refl
over-length (x ∷ xs) zero (b ∷ bs) = ap suc (over-length xs zero bs)
over-length (x ∷ xs) (suc at) bs = ap suc (over-length xs at bs)

-- one byte more of a list that is written byte by byte
taken : (bytes : List ℕ) (i : ℕ) → i < length bytes → length (take i bytes) ≡ i
taken bytes i h = omega (arith, length-take i bytes)

pub over-next : (xs : List ℕ) (at : ℕ) (bytes : List ℕ) (i : ℕ) → i < length bytes → over (over xs at (take i bytes)) (at + i) (get_or bytes i 0 ∷ []) ≡ over xs at (take (i + 1) bytes)
over-next xs at bytes i h =
    ap (λ (n : ℕ). over (over xs at (take i bytes)) (at + n) (get_or bytes i 0 ∷ [])) (sym (taken bytes i h))
    ∙ over-then xs at (take i bytes) (get_or bytes i 0 ∷ [])
    ∙ ap (over xs at) (sym (take-suc bytes i 0 h) ∙ ap (λ (n : ℕ). take n bytes) (sym (add-one i)))

-- what stands in front, written last
pub over-front : (xs front bytes : List ℕ) → over (over xs (length front) bytes) zero front ≡ over xs zero (front ++ bytes)
unfolding over
over-front [] [] bytes = refl
over-front [] (f ∷ front) bytes = refl
over-front (x ∷ xs) [] bytes = over_nothing (over (x ∷ xs) zero bytes) zero
over-front (x ∷ xs) (f ∷ front) bytes = ap (λ r. f ∷ r) (over-front xs front bytes)

-- the four bytes of a number as the library has them
pub word-bytes : (v : ℕ) → to_be_bytes w32 v ≡ word v
unfolding word
word-bytes v =
    ap (λ a. (a % 256) ∷ (v / 65536 % 256) ∷ (v / 256 % 256) ∷ (v % 256) ∷ []) (sym (ap (λ a. a / 256) (div-div-eq-div-mul v 256 256) ∙ div-div-eq-div-mul v 65536 256))
    ∙ ap (λ b. (v / 256 / 256 / 256 % 256) ∷ (b % 256) ∷ (v / 256 % 256) ∷ (v % 256) ∷ []) (sym (div-div-eq-div-mul v 256 256))
