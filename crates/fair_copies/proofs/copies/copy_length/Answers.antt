-- What the body's writer tells of the place after it. Assumes nothing.
use Rattle.fair_copies.proofs.CopyLaws.{copy-length}
use Rattle.fair_copies.proofs.copies.copy_length.Goals as goal

pub returns : goal.returns
returns c = copy-length _ _ _ c.put_body.ensures.written.ends
