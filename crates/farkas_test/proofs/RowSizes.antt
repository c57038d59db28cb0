-- Sums that are all 0. Assumes nothing.
use mathlib.Core.Path.{◌≡◌, sym, subst}
use mathlib.Core.List.{List}
use lib.IntN.{ℤ, pos}
use lib.ListN.{length, replicate}
use Rattle.farkas.specs.Rows.{row_of}
use Rattle.farkas.specs.Sizes.{Within}
use Rattle.farkas.proofs.Promise.{zero-sums}

pub none_within : (xs : List ℤ) → xs ≡ replicate (length xs) (pos 0) → Within 0 (row_of xs (pos 0))
none_within xs e = subst (λ (ys : List ℤ). Within 0 (row_of ys (pos 0))) (sym e) (zero-sums (length xs))
