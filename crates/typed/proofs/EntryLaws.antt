-- Numbers of 32 bits: how large they are, what is read back from their bits, and the test for s32. Assumes nothing.
use mathlib.Core.Path.{◌≡◌, refl, sym, ap, ◌∙◌}
use mathlib.Core.Bool.{Bool, true, false, cond, ◌&&◌}
use Prim.Native.Nat.{◌^◌, ◌≤◌, ◌<◌}
use native.Mathlib.Omega.{arith}
use lib.Dec.{leb}
use lib.IntN.{ℤ, pos, negsuc, nat_abs}
use lib.Signed.{lt_z}
use mir.Syntax.{w32, w64}
use mir.Val.{SFits, to_z, of_z}
use mir.Facts.{to_z-of_z}
use borrow.Author.Tests.{ltb-false, le-leb, leb-true}
use Rattle.farkas.proofs.Bits.{read_back}
use Rattle.std.specs.Prelude.{Some, None, Result, Ok, Err, OkIff}
use Rattle.std.specs.Result.{result_ok}
use Rattle.std.proofs.lemmas.Result.{OkIff-at_ok, OkIff-at_err}
use Rattle.typed.specs.Forms.{s32, entry_of}

pub small : (z : ℤ) → SFits w32 z → nat_abs z ≤ 2 ^ 31
small (pos n) f = let h : n < 2 ^ 31 = f.sfits in omega arith
small (negsuc n) f = let h : n < 2 ^ 31 = f.sfits in omega arith

-- a number of 32 bits, read as one of 64
pub widened : (z : ℤ) → SFits w32 z → to_z w64 (of_z w64 (to_z w32 (of_z w32 z))) ≡ z
widened z f = ap (λ u. to_z w64 (of_z w64 u)) (to_z-of_z f) ∙ read_back z (omega (arith, small z f))

-- a number that passed the test is read back from its bits
and_left : (b : Bool) → (b && true) ≡ true → b ≡ true
and_left true e = refl
and_left false e = e

s32-fits : (z : ℤ) → s32 z ≡ true → SFits w32 z
unfolding s32
s32-fits (pos n) e = record { sfits = let h = leb-true n 2147483647 e in let k : n < 2 ^ 31 = omega arith in k }
s32-fits (negsuc n) e = record { sfits = let h = leb-true n 2147483647 (and_left (leb n 2147483647) e) in let k : n < 2 ^ 31 = omega arith in k }

pub kept : (z v : ℤ) → s32 z ≡ true → z ≡ v → to_z w32 (of_z w32 v) ≡ z
kept z v e f = ap (λ u. to_z w32 (of_z w32 u)) (sym f) ∙ to_z-of_z (s32-fits z e)

-- a number that fits passes it
fits-s32 : (z : ℤ) → SFits w32 z → s32 z ≡ true
unfolding s32
fits-s32 (pos n) f = let h : n < 2 ^ 31 = f.sfits in le-leb n 2147483647 (omega arith)
fits-s32 (negsuc n) f = let h : n < 2 ^ 31 = f.sfits in ap (λ b. b && true) (le-leb n 2147483647 (omega arith))

-- the test for s32, as two tests of order
pub narrows : (z : ℤ) → lt_z z (negsuc 2147483647) ≡ false → lt_z (pos 2147483647) z ≡ false → SFits w32 z
narrows (pos n) e f = record { sfits = let h = ltb-false 2147483647 n f in let k : n < 2 ^ 31 = omega arith in k }
narrows (negsuc n) e f = record { sfits = let h = ltb-false 2147483647 n e in let k : n < 2 ^ 31 = omega arith in k }

pub within : (z : ℤ) → lt_z z (negsuc 2147483647) ≡ false → lt_z (pos 2147483647) z ≡ false → entry_of z ≡ Some z
unfolding entry_of
within z e f = ap (λ b. cond b (Some z) None) (fits-s32 z (narrows z e f))

-- the number as it is converted
pub narrowed : {E : Type 0} (r : Result ℤ E) (z : ℤ) → OkIff r (SFits w32 z) z → result_ok r ≡ entry_of z
unfolding entry_of
narrowed {E} (Ok x) z h = let k = OkIff-at_ok {E = E} (Ok x) (SFits w32 z) z x h (refl {0}) in ap Some k.1 ∙ sym (ap (λ b. cond b (Some z) None) (fits-s32 z k.0))
narrowed (Err d) z h = go (s32 z) refl
  where
    go : (b : Bool) → s32 z ≡ b → None ≡ cond b (Some z) None
    go true e = absurd (OkIff-at_err {T = ℤ} (Err d) (SFits w32 z) z d h refl (s32-fits z e))
    go false e = refl
