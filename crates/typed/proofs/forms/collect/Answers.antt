-- Both sides are joined, with their numbers exchanged. Assumes nothing.
use borrow.Author.Rules.{rules}
use mathlib.Core.Path.{◌∙◌}
use lib.IntN.{negsuc, ◌+ℤ◌, ◌*ℤ◌}
use mir.Syntax.{w32}
use mir.Val.{SFits}
use mir.Facts.{to_z-of_z}
use Rattle.typed.specs.Forms.{plus, fit, next, combined, joined, collected, collected_at}
use Rattle.typed.proofs.forms.collect.Goals.{Start}
use Rattle.typed.proofs.forms.collect.Goals as goal

left-fits : (c : Start) → SFits w32 c.args.left.number
left-fits c = search rules

right-fits : (c : Start) → SFits w32 c.args.right.form.number
right-fits c = search rules

pub returns : goal.returns
unfolding collected_at collected joined next combined
returns c =
    let a = c.args in
    let cs = plus (negsuc 0) a.left.coefficients a.right.form.coefficients in
    let x = to_z-of_z (left-fits (goal.at.returns c).Start) in
    let y = to_z-of_z (right-fits (goal.at.returns c).Start) in
    c.join.ensures ∙ (λ k. fit a.place a.right.next (record { coefficients = cs; number = y k +ℤ negsuc 0 *ℤ x k }))
