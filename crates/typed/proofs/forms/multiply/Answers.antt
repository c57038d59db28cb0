-- The cases of the definition. Assumes nothing.
use borrow.Author.Rules.{rules}
use mathlib.Core.Path.{sym, ◌∙◌}
use mir.Syntax.{w32}
use mir.Val.{SFits}
use mir.Facts.{to_z-of_z}
use Rattle.typed.specs.Forms.{fit, next, combined, joined, multiplied}
use Rattle.typed.proofs.LeafLaws.{product-both, product-left, product-right}
use Rattle.typed.proofs.forms.multiply.Goals.{Start}
use Rattle.typed.proofs.forms.multiply.Goals as goal

left-fits : (c : Start) → SFits w32 c.args.left.number
left-fits c = search rules

right-fits : (c : Start) → SFits w32 c.args.right.form.number
right-fits c = search rules

pub returns-then-not-varies : goal.returns-then-not-varies
unfolding multiplied joined next
returns-then-not-varies c =
    let a = c.args in
    let x = to_z-of_z (left-fits (goal.at.returns-then-not-varies c).Start) in
    c.join.ensures
    ∙ (λ k. fit a.place a.right.next (combined (c.zero_form.ensures k) (x k) a.right.form))
    ∙ sym (product-right a.place a.right.next a.left a.right.form (sym c.varies.ensures ∙ c.if-not-varies.true))

pub returns-then-varies : goal.returns-then-varies
unfolding multiplied next
returns-then-varies c =
    let a = c.args in
    sym (product-both a.place a.right.next a.left a.right.form (sym c.varies.ensures ∙ c.if-not-varies.false) (sym c.varies-2.ensures ∙ c.if-varies.true))

pub returns : goal.returns
unfolding multiplied joined next
returns c =
    let a = c.args in
    let x = to_z-of_z (right-fits (goal.at.returns c).Start) in
    c.join-2.ensures
    ∙ (λ k. fit a.place a.right.next (combined (c.zero_form-2.ensures k) (x k) a.left))
    ∙ sym (product-left a.place a.right.next a.left a.right.form (sym c.varies.ensures ∙ c.if-not-varies.false) (sym c.varies-2.ensures ∙ c.if-varies.false))
