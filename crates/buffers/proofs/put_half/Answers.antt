-- The last two of the four bytes, the highest first. Assumes nothing.
use mathlib.Core.Path.{ap, ◌∙◌}
use mathlib.Core.List.{[], ◌∷◌}
use lib.ListN.{get_or}
use Rattle.buffers.specs.Over.{half, word, over}
use Rattle.buffers.proofs.OverLaws.{word-bytes}
use Rattle.buffers.proofs.put_half.Goals as goal

pub returns : goal.returns
unfolding half word
returns c = (
  c.put_bytes.ensures.0,
  c.put_bytes.ensures.1 ∙ ap (λ b. over c.args.out.now c.args.at (get_or b 2 0 ∷ get_or b 3 0 ∷ [])) (c.to_be_bytes.ensures ∙ word-bytes c.args.v),
)
