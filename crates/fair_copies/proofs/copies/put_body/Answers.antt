-- The paper number, then the fields. Assumes nothing.
use native.Mathlib.Omega.{arith}
use Rattle.buffers.proofs.WritingLaws.{left-all, left-on, left-last, left_as}
use Rattle.fair_copies.proofs.CopyLaws.{body-parts}
use Rattle.fair_copies.proofs.copies.put_body.Goals as goal

pub returns : goal.returns
returns c =
    let a = c.args in
    let paper = c.put_paper-fields.ensures in
    let fields = c.put_fields.ensures in record { written = left-last _ (left-on _ _ (left_as (body-parts a.model.now a.index.now) (left-all a.out.now a.at _)) paper.written) fields.written; upper_bound = omega (arith, paper.upper_bound, fields.upper_bound) }
