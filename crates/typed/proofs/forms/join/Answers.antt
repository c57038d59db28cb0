-- The coefficients below i are combined and lie in s32; those from i on are still to be tested. Assumes nothing.
use mathlib.Core.Path.{◌≡◌, sym, ap, ◌∙◌}
use mathlib.Core.List.{List}
use Prim.Native.Nat.{◌<◌}
use native.Mathlib.Omega.{arith}
use borrow.Author.Rules.{rules}
use lib.IntN.{ℤ, pos, ◌+ℤ◌, ◌*ℤ◌}
use lib.ListN.{length, get_or, set}
use mir.Syntax.{w32}
use mir.Val.{SFits, to_z, of_z}
use mir.Facts.{to_z-of_z}
use Rattle.std.specs.Prelude.{Some, None}
use Rattle.farkas.specs.Lists.{every}
use Rattle.farkas.proofs.Fill.{fill-read, fill-store, fill_end}
use Rattle.typed.specs.declared.forms.Form.{Form}
use Rattle.typed.specs.Forms.{plus, s32, combined, entry_of, reaches, refused, next, joined}
use Rattle.typed.proofs.EntryLaws.{kept}
use Rattle.typed.proofs.CombineLaws.{plus-length, plus-at, passes-here, fails-here, passes-all, entry-fits, entry-outside, form-fits, coefficient-outside, number-outside}
use Rattle.typed.proofs.forms.join.Goals.{After-entry_of, After-entry_of-2, Start}
use Rattle.typed.proofs.forms.join.Goals as goal

-- both arrays have eight elements
left-eight : (c : Start) → length c.args.left.coefficients ≡ 8
left-eight c = search rules

right-eight : (c : Start) → length c.args.right.form.coefficients ≡ 8
right-eight c = search rules

left-fits : (c : Start) → SFits w32 c.args.left.number
left-fits c = search rules

right-fits : (c : Start) → SFits w32 c.args.right.form.number
right-fits c = search rules

-- the factor, as it is read from its bits, and what the loop is to reach
abbrev by : Start → ℤ
by c = to_z w32 (of_z w32 c.args.m)

by-is : (c : Start) → by c ≡ c.args.m
by-is c = to_z-of_z c.ranges.m

abbrev target : Start → List ℤ
target c = plus (by c) c.args.left.coefficients c.args.right.form.coefficients

target-length : (c : Start) → length (target c) ≡ length c.args.left.coefficients
target-length c = plus-length (by c) c.args.left.coefficients c.args.right.form.coefficients

-- an entry is the target's element
entered : (c : After-entry_of) → c.entry_of.result ≡ entry_of (get_or (target (goal.at.After-entry_of c).Start) c.loop-i.i (pos 0))
entered c =
    let l = c.loop-i in
    let s = (goal.at.After-entry_of c).Start in
    let xs = c.args.left.coefficients in
    let ys = c.args.right.form.coefficients in
    let x = get_or l.coefficients l.i (pos 0) in
    let y = get_or ys l.i (pos 0) in
    let was : x ≡ get_or xs l.i (pos 0) = ap (λ zs. get_or zs l.i (pos 0)) l.invariant.so_far ∙ fill-read (target s) xs (target-length s) l.i (pos 0) (omega (arith, left-eight s, c.loop-i-test.true)) in
    let fx : SFits w32 x = search rules in
    let fy : SFits w32 y = search rules in
    c.entry_of.ensures
    ∙ ap (λ u. entry_of (u +ℤ by s *ℤ to_z w32 (of_z w32 y))) (to_z-of_z fx)
    ∙ ap (λ u. entry_of (x +ℤ by s *ℤ u)) (to_z-of_z fy)
    ∙ ap (λ u. entry_of (u +ℤ by s *ℤ y)) was
    ∙ ap entry_of (sym (plus-at (by s) xs ys l.i (omega (arith, left-eight s, c.loop-i-test.true)) (omega (arith, right-eight s, c.loop-i-test.true))))

-- the form that is to come out
abbrev whole : Start → Form
whole c = combined c.args.left c.args.m c.args.right.form

number-entered : (c : After-entry_of-2) → c.entry_of-2.result ≡ entry_of (whole (goal.at.After-entry_of-2 c).Start).number
unfolding combined
number-entered c =
    let s = (goal.at.After-entry_of-2 c).Start in
    let x = c.args.left.number in
    let y = c.args.right.form.number in
    c.entry_of-2.ensures
    ∙ ap (λ u. entry_of (u +ℤ by s *ℤ to_z w32 (of_z w32 y))) (to_z-of_z (left-fits s))
    ∙ ap (λ u. entry_of (x +ℤ by s *ℤ u)) (to_z-of_z (right-fits s))
    ∙ ap (λ u. entry_of (x +ℤ u *ℤ y)) (by-is s)

-- its coefficients
all_are : (c : Start) → target c ≡ (whole c).coefficients
unfolding combined
all_are c = ap (λ z. plus z c.args.left.coefficients c.args.right.form.coefficients) (by-is c)

pub returns-in_err-coefficients : goal.returns-in_err-coefficients
unfolding joined next
returns-in_err-coefficients c =
    let l = c.loop-i in
    let a = c.args in
    let s = (goal.at.returns-in_err-coefficients c).Start in
    let none : c.entry_of.result ≡ None = grind arith in
    let is : c.from_residual.result ≡ refused a.place = grind arith in
    let o = entry-outside (get_or (target s) l.i (pos 0)) (sym (entered (goal.at.returns-in_err-coefficients c).After-entry_of) ∙ none) in
    let f = l.invariant.rest ∙ fails-here s32 (target s) l.i (omega (arith, left-eight s, target-length s, c.loop-i-test.true)) o in
    is ∙ sym (coefficient-outside a.place a.right.next (whole s) (ap (every s32) (sym (all_are s)) ∙ f))

pub loop-i-preserved : goal.loop-i-preserved
loop-i-preserved c =
    let l = c.loop-i in
    let s = (goal.at.loop-i-preserved c).Start in
    let xs = c.args.left.coefficients in
    let v = c.in_ok-coefficients.field-0 in
    let i : l.i < length xs = omega (arith, left-eight s, c.loop-i-test.true) in
    let some : c.entry_of.result ≡ Some v = grind arith in
    let z = get_or (target s) l.i (pos 0) in
    let g = entry-fits z v (sym (entered (goal.at.loop-i-preserved c).After-entry_of) ∙ some) in
    record {
      so_far = ap (λ u. set l.coefficients l.i u) (kept z v g.0 g.1) ∙ ap (λ zs. set zs l.i z) l.invariant.so_far ∙ fill-store (target s) xs (target-length s) l.i (pos 0) i;
      rest = l.invariant.rest ∙ passes-here s32 (target s) l.i (omega (arith, target-length s)) g.0;
    }

pub returns-in_err-number : goal.returns-in_err-number
unfolding joined next
returns-in_err-number c =
    let a = c.args in
    let s = (goal.at.returns-in_err-number c).Start in
    let none : c.entry_of-2.result ≡ None = grind arith in
    let is : c.from_residual-in_err-number.result ≡ refused a.place = grind arith in
    is ∙ sym (number-outside a.place a.right.next (whole s) (entry-outside (whole s).number (sym (number-entered (goal.at.returns-in_err-number c).After-entry_of-2) ∙ none)))

pub returns : goal.returns
unfolding joined next
returns c =
    let l = c.loop-i in
    let a = c.args in
    let s = (goal.at.returns c).Start in
    let x = whole s in
    let v = c.in_ok-number.number in
    let some : c.entry_of-2.result ≡ Some v = grind arith in
    let g = entry-fits x.number v (sym (number-entered (goal.at.returns c).After-entry_of-2) ∙ some) in
    let all = ap (every s32) (sym (all_are s)) ∙ l.invariant.rest ∙ passes-all s32 (target s) l.i (omega (arith, left-eight s, target-length s, c.loop-i-test.false)) in
    let ended = l.invariant.so_far ∙ fill_end (target s) a.left.coefficients (target-length s) l.i (omega (arith, left-eight s, c.loop-i-test.false)) ∙ all_are s in
    (λ k. reaches a.right.next (record { coefficients = ended k; number = kept x.number v g.0 g.1 k })) ∙ sym (form-fits a.place a.right.next x all g.0)
