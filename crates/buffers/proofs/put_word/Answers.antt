-- One byte after the other. Assumes nothing.
use mathlib.Core.Path.{ap, ◌∙◌}
use mathlib.Core.List.{[], ◌∷◌}
use lib.ListN.{get_or}
use Rattle.buffers.specs.Over.{word, over}
use Rattle.buffers.proofs.OverLaws.{word-bytes}
use Rattle.buffers.proofs.WritingLaws.{left-all, left-on, left-last, as_written, as-told}
use Rattle.buffers.proofs.put_word.Goals as goal

pub returns : goal.returns
unfolding word
returns c =
    let one = as_written c.put_byte-second.ensures in
    let two = as_written c.put_byte-third.ensures in
    let three = as_written c.put_byte-fourth.ensures in
    let four = as_written c.put_byte.ensures in
    let all = as-told (left-last _ (left-on (_ ∷ []) _ (left-on (_ ∷ []) _ (left-on (_ ∷ []) _ (left-all _ _ (get_or c.to_be_bytes.result 0 0 ∷ get_or c.to_be_bytes.result 1 0 ∷ get_or c.to_be_bytes.result 2 0 ∷ get_or c.to_be_bytes.result 3 0 ∷ [])) one) two) three) four) in
    (all.0, all.1 ∙ ap (λ b. over c.args.out.now c.args.at (get_or b 0 0 ∷ get_or b 1 0 ∷ get_or b 2 0 ∷ get_or b 3 0 ∷ [])) (c.to_be_bytes.ensures ∙ word-bytes c.args.v))
