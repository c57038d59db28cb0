-- It fits where there is as much room as the model has, or as it needs. Assumes nothing.
use mathlib.Core.Path.{ap, ◌∙◌}
use Prim.Native.Nat.{ℕ}
use lib.ListN.{length}
use Rattle.std.specs.Prelude.{Some}
use Rattle.models.specs.Index.{model_from}
use Rattle.fair_models.specs.FairCopy.{fair_copy}
use Rattle.fair_copies.proofs.CopyLaws.{fits_all, fits_not}
use native.Mathlib.Omega.{arith}
use Rattle.fair_copies.proofs.copies.lacking.Goals.{Start}
use Rattle.fair_copies.proofs.copies.lacking.Goals as goal

-- how long the copy is
abbrev copied : Start → ℕ
copied s = length (fair_copy (model_from s.args.model.now s.args.index.now))

pub returns-then-model-room : goal.returns-then-model-room
returns-then-model-room c = fits_all (copied (goal.at.returns-then-model-room c).Start) c.args.room (omega (arith, c.requires.index_in_bounds, c.if-model-room.true))

pub copy_length-needed-requires : goal.copy_length-needed-requires
copy_length-needed-requires c = c.requires.copyable

pub returns-then-needed-room : goal.returns-then-needed-room
returns-then-needed-room c = fits_all (copied (goal.at.returns-then-needed-room c).Start) c.args.room (omega (arith, c.copy_length-needed.ensures, c.if-needed-room.true))

pub returns : goal.returns
returns c =
    let n = c.copy_length-needed in
    ap (λ (k : ℕ). Some k) n.ensures ∙ fits_not (copied (goal.at.returns c).Start) c.args.room (omega (arith, n.ensures, c.if-needed-room.false))
