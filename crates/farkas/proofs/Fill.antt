-- A loop that fills a list from the front, one store a turn: after i turns it is the first i elements of the target, and then
-- what it held before. Assumes nothing.
use mathlib.Core.Path.{◌≡◌}
use mathlib.Core.List.{List, ◌∷◌, ◌++◌, append-nil}
use Prim.Native.Nat.{ℕ, suc, ◌+◌, ◌≤◌, ◌<◌}
use native.Mathlib.Numerals.{add-one}
use native.Mathlib.Omega.{arith}
use lib.ListN.{length, get_or, take, drop, set, drop_of_length-le}
use lib.Seq.{length-take-le, take_all, take-suc, drop-cons, append_snoc, set_at, get_or_at}

abbrev pub filled : {A : Type 0} → List A → List A → ℕ → List A
filled target old i = take i target ++ drop i old

module _ {A : Type 0} (target old : List A) (same : length target ≡ length old) (i : ℕ) where
  taken : i < length old → length (take i target) ≡ i
  taken h = length-take-le i target (omega arith)

  -- at i stands what stood there
  pub fill-read : (d : A) → i < length old → get_or (filled target old i) i d ≡ get_or old i d
  fill-read d h = rw (drop-cons old i d h) (get_or_at (take i target) (get_or old i d) (drop (suc i) old) d i (taken h))

  -- the target's element stored at i: one more is filled
  pub fill-store : (d : A) → i < length old → set (filled target old i) i (get_or target i d) ≡ filled target old (i + 1)
  fill-store d h =
      let there : i < length target = omega arith in
      let stored : set (take i target ++ get_or old i d ∷ drop (suc i) old) i (get_or target i d) ≡ take i target ++ get_or target i d ∷ drop (suc i) old
      = set_at (take i target) (get_or old i d) (drop (suc i) old) (get_or target i d) i (taken h) in
      rw (add-one, drop-cons old i d h, take-suc target i d there, append_snoc) stored

  -- at the end the list is the target
  pub fill_end : length old ≤ i → filled target old i ≡ target
  fill_end h = rw (take_all i target (omega arith), drop_of_length-le old h) (append-nil target)
