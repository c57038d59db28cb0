-- The range of versions, then the one that only models have. Assumes nothing.
use mathlib.Core.Path.{◌≡◌, refl}
use mathlib.Core.Bool.{true, false, not}
use Prim.Native.Nat.{ℕ, ◌≤◌, ◌<◌}
use native.Mathlib.Omega.{arith}
use lib.Dec.{eqb}
use borrow.Author.Tests.{le-leb, lt-leb, eq-eqb, ne_eqb}
use Rattle.formats.specs.Versions.{newest, version_fits}
use Rattle.fields.proofs.versions.version_fits.Goals as goal

low : (kind version : ℕ) → version < 1 → false ≡ version_fits kind version
unfolding version_fits
low kind version h = rw (lt-leb 1 version h) refl

high : (kind version : ℕ) → 1 ≤ version → 3 < version → false ≡ version_fits kind version
unfolding version_fits newest
high kind version h l = rw (le-leb 1 version h, lt-leb version 3 l) refl

module _ (kind version : ℕ) (h : 1 ≤ version) (l : version ≤ 3) where
  of-model : kind ≡ 1 → true ≡ version_fits kind version
  unfolding version_fits newest
  of-model e = rw (le-leb 1 version h, le-leb version 3 l, eq-eqb kind 1 e) refl

  of_other : (kind ≡ 1 → ⊥) → not (eqb version 2) ≡ version_fits kind version
  unfolding version_fits newest
  of_other n = rw (le-leb 1 version h, le-leb version 3 l, ne_eqb kind 1 n) refl

pub returns-then-version-lt1 : goal.returns-then-version-lt1
returns-then-version-lt1 c = let a = c.args in low a.kind a.version (omega (arith, c.if-version-lt1.true))

pub returns-then-version-gt-NEWEST : goal.returns-then-version-gt-NEWEST
returns-then-version-gt-NEWEST c = let a = c.args in high a.kind a.version (omega (arith, c.if-version-lt1.false)) (omega (arith, c.if-version-gt-NEWEST.true))

pub returns-then-kind-eq1 : goal.returns-then-kind-eq1
returns-then-kind-eq1 c =
    let a = c.args in
    of-model a.kind a.version (omega (arith, c.if-version-lt1.false)) (omega (arith, c.if-version-gt-NEWEST.false)) c.if-kind-eq1.true

pub returns : goal.returns
returns c =
    let a = c.args in
    of_other a.kind a.version (omega (arith, c.if-version-lt1.false)) (omega (arith, c.if-version-gt-NEWEST.false)) c.if-kind-eq1.false
