-- What a sheet's version decides, as far as what reads and tests sheets asks for it. Assumes nothing.
use mathlib.Core.Path.{◌≡◌, refl, sym, ap, subst}
use mathlib.Core.Logic.{◌↔◌, ⊎_elim}
use mathlib.Core.Bool.{Bool, true, false, not, cond, ◌&&◌, ◌||◌, or-true}
use Prim.Native.Nat.{ℕ, ◌+◌, ◌*◌, ◌≤◌, ◌<◌}
use native.Mathlib.Nat.{mul-le-mul_left, mul-le-mul_right, le_trans}
use native.Mathlib.Omega.{arith}
use mir.Facts.{and_yes, yes_and, or_yes}
use lib.Dec.{T, T_not, leb, eqb, leb→le, le→leb, eqb→eq}
use borrow.Author.Tests.{leb-true, le-leb, lt-leb, eqb-true, eq-eqb}
use Rattle.formats.specs.Versions.{newest, version_fits, pair_of, has_paper, row_bytes, keeps_blanks}

-- which versions sheets have: 1 to 3, and 2 none but a model; a version is a byte
pub versions-exactly : (kind version : ℕ) → T (version_fits kind version) ↔ (((1 ≤ version) × (version ≤ 3)) × (version ≡ 2 → kind ≡ 1))
unfolding version_fits newest
versions-exactly kind version = (there, back)
  where
    there : T ((leb 1 version && leb version 3) && (eqb kind 1 || not (eqb version 2))) → ((1 ≤ version) × (version ≤ 3)) × (version ≡ 2 → kind ≡ 1)
    there t =
        let h = and_yes (leb 1 version && leb version 3) (eqb kind 1 || not (eqb version 2)) t in
        let k = and_yes (leb 1 version) (leb version 3) h.0 in (
          (leb→le 1 version k.0, leb→le version 3 k.1),
          λ e. ⊎_elim (eqb→eq kind 1) (λ n. absurd (T_not (eqb version 2) n (subst T (sym (eq-eqb version 2 e)) tt))) (or_yes (eqb kind 1) (not (eqb version 2)) h.1),
        )

    last : (b : Bool) → eqb version 2 ≡ b → (version ≡ 2 → kind ≡ 1) → T (eqb kind 1 || not b)
    last true e f = rw (eq-eqb kind 1 (f (eqb-true version 2 e))) tt
    last false e f = rw (or-true (eqb kind 1)) tt

    back : ((1 ≤ version) × (version ≤ 3)) × (version ≡ 2 → kind ≡ 1) → T ((leb 1 version && leb version 3) && (eqb kind 1 || not (eqb version 2)))
    back w =
        yes_and (leb 1 version && leb version 3) (eqb kind 1 || not (eqb version 2))
        (yes_and (leb 1 version) (leb version 3) (le→leb 1 version w.0.0) (le→leb version 3 w.0.1))
        (last (eqb version 2) refl w.1)

pub version-range : (kind version : ℕ) → T (version_fits kind version) → (1 ≤ version) × (version ≤ 3)
version-range kind version t = ((versions-exactly kind version).0 t).0

pub version-small : (kind version : ℕ) → T (version_fits kind version) → version < 256
version-small kind version t = omega (arith, (version-range kind version t).1)

-- the second sheets of a model: of version 1 where the model's is 1 or 2, else of its own version
pub pair-early : (version : ℕ) → version ≤ 2 → pair_of version ≡ 1
unfolding pair_of
pair-early version h = ap (λ (b : Bool). cond b 1 version) (le-leb version 2 h)

pub pair-late : (version : ℕ) → 3 ≤ version → pair_of version ≡ version
unfolding pair_of
pair-late version h = ap (λ (b : Bool). cond b 1 version) (lt-leb version 2 h)

-- paper numbers: from version 3 on
pub papers-exactly : (version : ℕ) → (has_paper version ≡ true) ↔ (3 ≤ version)
unfolding has_paper
papers-exactly version = (leb-true 3 version, le-leb 3 version)

-- blanks are kept from version 2 on
pub blanks-exactly : (version : ℕ) → (keeps_blanks version ≡ true) ↔ (2 ≤ version)
unfolding keeps_blanks
blanks-exactly version = (leb-true 2 version, le-leb 2 version)

-- a row has a word for each coefficient and one for its bound
pub numbers-in-row : (version n : ℕ) → 4 * (n + 1) ≤ row_bytes version n
unfolding row_bytes
numbers-in-row version n = omega arith

pub numbers-within : (version n at size : ℕ) → at + row_bytes version n ≤ size → at + 4 * (n + 1) ≤ size
numbers-within version n at size h = omega (arith, numbers-in-row version n)

-- rows of the sizes in use fit a machine word, one by one and together
pub row_fits : (version n : ℕ) → n ≤ 16 → row_bytes version n ≤ 68
unfolding row_bytes
row_fits version n h = omega arith

pub rows_fit : (version n k most : ℕ) → n ≤ 16 → k ≤ most → row_bytes version n * k ≤ 68 * most
rows_fit version n k most h l = le_trans (mul-le-mul_left (row_bytes version n) l) (mul-le-mul_right most (row_fits version n h))
