-- Its first numbers, then its conditions. Assumes nothing.
use Rattle.buffers.proofs.WritingLaws.{left-all, left-on, left-last}
use native.Mathlib.Omega.{arith}
use Rattle.fair_copies.proofs.parts.put_item.Goals as goal

pub returns : goal.returns
returns c =
    let head = c.put_entries-head in
    let rows = c.put_spans in record { written = left-last _ (left-on _ _ (left-all c.args.out.now c.args.at _) head.ensures.written) rows.ensures.written; upper_bound = omega (arith, rows.ensures.upper_bound, head.ensures.value, c.requires.model_len_bound.1.heads) }
