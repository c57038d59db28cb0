-- By whether the version has one. Assumes nothing.
use mathlib.Core.Path.{sym, ap, ◌∙◌, subst}
use Prim.Native.Nat.{ℕ}
use native.Mathlib.Omega.{arith}
use Rattle.formats.specs.Versions.{has_paper}
use Rattle.models.specs.Index.{version_in, paper_in}
use Rattle.buffers.specs.Over.{word}
use Rattle.buffers.specs.Written.{Written}
use Rattle.buffers.proofs.WritingLaws.{as-word}
use Rattle.fair_copies.proofs.CopyLaws.{paper-none, paper-put}
use Rattle.fair_copies.proofs.copies.put_paper.Goals as goal

pub returns-then-not-has_paper : goal.returns-then-not-has_paper
returns-then-not-has_paper c =
    let a = c.args in
    let index = a.index.now in
    let e = ap has_paper (sym c.version_of.ensures) ∙ sym c.has_paper.ensures ∙ c.if-not-has_paper.true in record { written = paper-none (version_in index) (paper_in index) a.out.now a.at e; upper_bound = omega arith }

pub returns : goal.returns
returns c =
    let a = c.args in
    let index = a.index.now in
    let put = c.put_word in
    let e = ap has_paper (sym c.version_of.ensures) ∙ sym c.has_paper.ensures ∙ c.if-not-has_paper.false in
    let w = subst (λ (v : ℕ). Written a.out.now a.at (word v) put.new.out put.result) c.paper_of.ensures (as-word _ put.ensures) in record { written = paper-put (version_in index) (paper_in index) e w; upper_bound = omega (arith, put.ensures.0) }
