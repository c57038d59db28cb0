-- Parts written one after the other, by their numbers. Assumes nothing.
use mathlib.Core.Path.{◌≡◌, refl, ap}
use mathlib.Core.List.{List, [], ◌∷◌, ◌++◌, map}
use Prim.Native.Nat.{ℕ, ◌+◌, ◌*◌, ◌≤◌, ◌<◌}
use native.Mathlib.Nat.{mul-le-mul_left}
use native.Mathlib.Omega.{arith}
use Rattle.formats.specs.Joint.{count_up, join_all}
use Rattle.papers.proofs.JoinedLaws.{joined_on, joined-first, joined-none}
use Rattle.buffers.specs.Written.{Written}
use Rattle.buffers.proofs.WritingLaws.{Left, left-on, left_as, left-none}

-- the parts below i are written, of `most` bytes at most each
pub record EachPut (f : ℕ → List ℕ) (most : ℕ) (out₀ : List ℕ) (at count : ℕ) (out : List ℕ) (next i : ℕ) : Type 0 where
  pub few : i ≤ count
  pub place : next ≤ at + most * i
  pub left : Left out₀ at (join_all f (count_up 0 count)) (joined_on f count i) out next

module _ (f : ℕ → List ℕ) (most : ℕ) (out₀ : List ℕ) (at count : ℕ) where
  pub each-goes-on : (out after : List ℕ) (next end i : ℕ) → i < count → Written out next (f i) after end → end ≤ next + most → EachPut f most out₀ at count out next i → EachPut f most out₀ at count after end (i + 1)
  each-goes-on out after next end i h w l p = record {
    few = omega arith;
    place = step next end (most * i) (most * (i + 1)) (grows most i) p.place l;
    left = left-on (f i) (joined_on f count (i + 1)) (left_as (joined-first f count i h) p.left) w;
  }
    where
      grows : (most i : ℕ) → most * (i + 1) ≡ most * i + most
      grows most i = omega arith

      step : (next end a b : ℕ) → b ≡ a + most → next ≤ at + a → end ≤ next + most → end ≤ at + b
      step next end a b e h l = omega arith

  pub each-ends : (out : List ℕ) (next i : ℕ) → count ≤ i → EachPut f most out₀ at count out next i → Written out₀ at (join_all f (count_up 0 count)) out next × (next ≤ at + most * count)
  each-ends out next i h p =
      (left-none (left_as (joined-none f count i h) p.left), bound (most * i) (most * count) (mul-le-mul_left most p.few) p.place)
    where
      bound : (a b : ℕ) → a ≤ b → next ≤ at + a → next ≤ at + b
      bound a b h l = omega arith

-- parts of one byte
pub joined_bytes : (x : ℕ → ℕ) (ks : List ℕ) → join_all (λ k. x k ∷ []) ks ≡ map x ks
unfolding join_all
joined_bytes x [] = refl
joined_bytes x (k ∷ ks) = ap (λ (l : List ℕ). x k ∷ l) (joined_bytes x ks)

-- parts of parts that are told otherwise
pub joined-map : {A B : Type 0} (f : B → List ℕ) (g : A → B) (xs : List A) → join_all f (map g xs) ≡ join_all (λ a. f (g a)) xs
unfolding join_all
joined-map f g [] = refl
joined-map f g (x ∷ xs) = ap (λ (l : List ℕ). f (g x) ++ l) (joined-map f g xs)
