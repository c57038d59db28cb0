-- Four bytes where there are four, then the range of their number as a signed one. Assumes nothing.
use mathlib.Core.Path.{◌≡◌, sym, ap, ◌∙◌}
use mathlib.Core.Bool.{true, false}
use Prim.Native.Nat.{◌+◌, ◌≤◌, ◌<◌}
use native.Mathlib.Omega.{arith}
use lib.IntN.{ℤ, pos, negsuc}
use lib.ListN.{length}
use lib.Signed.{lt_z}
use mir.Syntax.{w64}
use mir.Val.{to_z, of_z}
use mir.Facts.{to_z-of_z}
use Rattle.formats.specs.Reading.{got, passing}
use Rattle.fields.specs.Answers.{got_field}
use Rattle.second_sheets.specs.RunAnswers.{read_value}
use Rattle.second_sheets.proofs.RunLaws.{in_range, value_low, value-high, value_in, value-whole, value-cut}
use Rattle.second_sheets.proofs.run.value.Goals.{After-signed_word-value, Else-value-lt-LEAST_VALUE}
use Rattle.second_sheets.proofs.run.value.Goals as goal

-- the number that was read, from its bits, and what is left to test of it
back : (c : After-signed_word-value) → to_z w64 (of_z w64 c.signed_word-value.result) ≡ c.signed_word-value.result
back c = to_z-of_z {w = w64} {z = c.signed_word-value.result} (record { sfits = c.signed_word-value.type_inv })

told : (c : After-signed_word-value) → read_value c.args.s.now c.args.at ≡ passing in_range 5 c.args.at (got c.signed_word-value.result (c.args.at + 4))
told c =
    let a = c.args in
    let h : a.at + 4 ≤ length a.s.now = omega (arith, c.if-length-lt4.false, c.if-length-at.false) in
    value-whole a.s.now a.at h ∙ ap (λ (x : ℤ). passing in_range 5 a.at (got x (a.at + 4))) (sym c.signed_word-value.ensures.value)

low : (c : Else-value-lt-LEAST_VALUE) → lt_z c.signed_word-value.result (negsuc 134217727) ≡ false
low c = ap (λ (x : ℤ). lt_z x (negsuc 134217727)) (sym (back (goal.at.Else-value-lt-LEAST_VALUE c).After-signed_word-value)) ∙ c.if-value-lt-LEAST_VALUE.false

pub returns-then-length-lt4 : goal.returns-then-length-lt4
unfolding got_field
returns-then-length-lt4 c =
    let a = c.args in
    let h : length a.s.now < 4 = c.if-length-lt4.true in
    sym (value-cut a.s.now a.at (omega arith))

pub returns-then-length-at : goal.returns-then-length-at
unfolding got_field
returns-then-length-at c =
    let a = c.args in
    let h : length a.s.now < a.at + 4 = omega (arith, c.if-length-lt4.false, c.if-length-at.true) in
    sym (value-cut a.s.now a.at h)

pub returns-then-value-lt-LEAST_VALUE : goal.returns-then-value-lt-LEAST_VALUE
unfolding got_field
returns-then-value-lt-LEAST_VALUE c =
    let a = c.args in
    let v = c.signed_word-value.result in
    let under : lt_z v (negsuc 134217727) ≡ true = ap (λ (x : ℤ). lt_z x (negsuc 134217727)) (sym (back (goal.at.returns-then-value-lt-LEAST_VALUE c).After-signed_word-value)) ∙ c.if-value-lt-LEAST_VALUE.true in
    sym (told (goal.at.returns-then-value-lt-LEAST_VALUE c).After-signed_word-value ∙ value_low v a.at (a.at + 4) under)

pub returns-then-value-gt-MOST_VALUE : goal.returns-then-value-gt-MOST_VALUE
unfolding got_field
returns-then-value-gt-MOST_VALUE c =
    let a = c.args in
    let v = c.signed_word-value.result in
    let high : lt_z (pos 134217728) v ≡ true = ap (λ (x : ℤ). lt_z (pos 134217728) x) (sym (back (goal.at.returns-then-value-gt-MOST_VALUE c).After-signed_word-value)) ∙ c.if-value-gt-MOST_VALUE.true in
    sym (told (goal.at.returns-then-value-gt-MOST_VALUE c).After-signed_word-value ∙ value-high v a.at (a.at + 4) (low (goal.at.returns-then-value-gt-MOST_VALUE c).Else-value-lt-LEAST_VALUE) high)

pub returns : goal.returns
unfolding got_field
returns c =
    let a = c.args in
    let v = c.signed_word-value.result in
    let high : lt_z (pos 134217728) v ≡ false = ap (λ (x : ℤ). lt_z (pos 134217728) x) (sym (back (goal.at.returns c).After-signed_word-value)) ∙ c.if-value-gt-MOST_VALUE.false in
    ap (λ (x : ℤ). got x (a.at + 4)) (back (goal.at.returns c).After-signed_word-value) ∙ sym (told (goal.at.returns c).After-signed_word-value ∙ value_in v a.at (a.at + 4) (low (goal.at.returns c).Else-value-lt-LEAST_VALUE) high)
