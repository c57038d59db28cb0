-- How a second sheet opens: a refusal has a number and a place, and stops what follows; what is opened is a sheet of a right length, and is
-- read on from the place after its paper number. Each from the laws on headers and on sheets that belong together. Assumes nothing.
use mathlib.Core.Path.{◌≡◌, refl, ap, subst}
use mathlib.Core.Bool.{false}
use mathlib.Core.List.{List}
use Prim.Native.Nat.{ℕ, ◌≤◌}
use native.Mathlib.Omega.{arith}
use lib.ListN.{length}
use Rattle.formats.specs.Reading.{got, refused, Reader, and_then, ◌>>◌, length_right}
use Rattle.formats.specs.Model.{Model}
use Rattle.formats.proofs.Gives.{then-got}
use Rattle.formats.proofs.Placed.{FineTo}
use Rattle.fields.proofs.HeaderLaws.{header-unsized}
use Rattle.formats.proofs.Header.{header_read}
use Rattle.rules.specs.Opening.{open_second}
use Rattle.rules.proofs.Opening.{placed-second}
use Rattle.rules.proofs.Pairing.{second-pairs, header-first}
use Rattle.papers.proofs.PaperLaws.{refused-placed}

module _ (kind : ℕ) (m : Model) (s : List ℕ) where
  second-fine : FineTo 18 s 0 (open_second kind m s 0)
  second-fine = (placed-second {least = 0} kind m).fine s 0 (omega arith) (omega arith)

  second-unsized : length_right s ≡ false → open_second kind m s 0 ≡ refused 1 0
  second-unsized e = header-first kind m s 1 0 (header-unsized s kind e)

  second_short : (version body : ℕ) → open_second kind m s 0 ≡ got version body → length s ≤ 32768
  second_short version body e =
      let w = second-pairs kind m s version body e in
      (header_read kind s 0 version w.place w.headed).short

  -- refused: its number, and its place on a sheet of any length
  pub second-number : (number at : ℕ) → open_second kind m s 0 ≡ refused number at → 1 ≤ number
  second-number number at e = (subst (λ x. FineTo 18 s 0 x) e second-fine).0

  pub second-placed : (number at : ℕ) → open_second kind m s 0 ≡ refused number at → at ≤ 32768
  second-placed number at e = refused-placed 18 s (open_second kind m s 0) number at second-fine second-unsized e

  pub second-stops : {A : Type 0} (r : Reader A) (number at : ℕ) → open_second kind m s 0 ≡ refused number at → (open_second kind m >> r) s 0 ≡ refused number at
  unfolding ◌>>◌ and_then
  second-stops r number at e = ap (λ g. and_then g (λ a. r) s) e

  -- opened: where it goes on
  pub second-body : (version body : ℕ) → open_second kind m s 0 ≡ got version body → (body ≤ length s) × (length s ≤ 32768)
  second-body version body e = ((subst (λ x. FineTo 18 s 0 x) e second-fine).1, second_short version body e)

  pub second-goes-on : {A : Type 0} (r : Reader A) (version body : ℕ) → open_second kind m s 0 ≡ got version body → (open_second kind m >> r) s 0 ≡ r s body
  second-goes-on r version body e = then-got (open_second kind m) r s 0 e refl
