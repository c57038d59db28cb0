-- The length, then the version, then the kind. Assumes nothing.
use mathlib.Core.Path.{◌≡◌, sym, ◌∙◌}
use mathlib.Core.Bool.{true}
use mathlib.Core.List.{List}
use Prim.Native.Nat.{ℕ}
use native.Mathlib.Omega.{arith}
use lib.ListN.{get_or}
use Rattle.formats.specs.Versions.{version_fits}
use Rattle.formats.specs.Reading.{length_right}
use Rattle.fields.specs.Answers.{got_field}
use Rattle.fields.proofs.HeaderLaws.{right-least, header-unsized, header-version, header-kind, header-right}
use Rattle.fields.proofs.header.header.Goals.{Else-not-length_right, Else-not-version_fits}
use Rattle.fields.proofs.header.header.Goals as goal

pub returns-then-not-length_right : goal.returns-then-not-length_right
unfolding got_field
returns-then-not-length_right c =
    let s = c.args.s.now in
    sym (header-unsized s c.args.kind (sym c.length_right.ensures ∙ c.if-not-length_right.true))

-- the length is right, once that is tested
right : (c : Else-not-length_right) → length_right c.args.s.now ≡ true
right c = sym c.length_right.ensures ∙ c.if-not-length_right.false

pub bounds-s-2 : goal.bounds-s-2
bounds-s-2 c = omega (arith, right-least _ (right (goal.at.bounds-s-2 c).Else-not-length_right))

pub overflow_cast-version : goal.overflow_cast-version
overflow_cast-version c = omega (arith, c.shared_slice_known-2-1.given 2)

pub returns-then-not-version_fits : goal.returns-then-not-version_fits
unfolding got_field
returns-then-not-version_fits c =
    let a = c.args in
    let fits = c.version_fits in
    sym (header-version a.s.now a.kind (right (goal.at.returns-then-not-version_fits c).Else-not-length_right) (sym fits.ensures ∙ c.if-not-version_fits.true))

-- the version fits, once that is tested
module _ (c : Else-not-version_fits) where
  abbrev s : List ℕ
  s = c.args.s.now

  fitting : version_fits c.args.kind (get_or s 2 0) ≡ true
  fitting = sym c.version_fits.ensures ∙ c.if-not-version_fits.false

pub bounds-s-3 : goal.bounds-s-3
bounds-s-3 c = omega (arith, right-least _ (right (goal.at.bounds-s-3 c).Else-not-length_right))

pub overflow_cast-s : goal.overflow_cast-s
overflow_cast-s c = omega (arith, c.shared_slice_known-3-1.given 3)

pub returns-then-not-kind_fits : goal.returns-then-not-kind_fits
unfolding got_field
returns-then-not-kind_fits c =
    let fits = c.kind_fits in
    sym (header-kind (s (goal.at.returns-then-not-kind_fits c).Else-not-version_fits) _ (right (goal.at.returns-then-not-kind_fits c).Else-not-length_right) (fitting (goal.at.returns-then-not-kind_fits c).Else-not-version_fits) (sym fits.ensures ∙ c.if-not-kind_fits.true))

pub returns : goal.returns
unfolding got_field
returns c =
    let fits = c.kind_fits in
    sym (header-right (s (goal.at.returns c).Else-not-version_fits) _ (right (goal.at.returns c).Else-not-length_right) (fitting (goal.at.returns c).Else-not-version_fits) (sym fits.ensures ∙ c.if-not-kind_fits.false))
