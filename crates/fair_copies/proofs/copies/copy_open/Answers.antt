-- It does not fit, or it is written. Assumes nothing.
use Prim.Native.Nat.{ℕ}
use lib.ListN.{length}
use Rattle.models.specs.Index.{model_from}
use Rattle.fair_models.specs.FairCopy.{fair_copy}
use Rattle.fair_copies.proofs.CopyLaws.{lacks, lacks-nothing, answer-short, answer-copied, buffer-kept, buffer-copied}
use native.Mathlib.Omega.{arith}
use Rattle.fair_copies.proofs.copies.copy_open.Goals.{Start}
use Rattle.fair_copies.proofs.copies.copy_open.Goals as goal

-- how long the copy is
abbrev copied : Start → ℕ
copied s = length (fair_copy (model_from s.args.model.now s.args.index.now))

pub overflow_cast-result : goal.overflow_cast-result
overflow_cast-result c =
    omega (arith, (lacks (copied (goal.at.overflow_cast-result c).Start) (length c.args.copy.now) c.in-Some.needed c.in-Some.ensures).1, c.requires.index_in_bounds, c.requires.copyable.short)

pub returns-in-Some : goal.returns-in-Some
returns-in-Some c =
    let n = copied (goal.at.returns-in-Some c).Start in
    let w = lacks n (length c.args.copy.now) c.in-Some.needed c.in-Some.ensures in record { value = answer-short (length c.args.model.now) n c.in-Some.needed _ w.0 w.1; copy_after = buffer-kept c.args.copy.now _ _ w.0 }

pub returns : goal.returns
returns c =
    let m = model_from c.args.model.now c.args.index.now in
    let fits = lacks-nothing (copied (goal.at.returns c).Start) (length c.args.copy.now) c.in_default.ensures in
    let w = c.put_copy-written.ensures.written in record { value = answer-copied (length c.args.model.now) (copied (goal.at.returns c).Start) c.put_copy-written.result _ fits (omega (arith, w.ends)); copy_after = buffer-copied c.args.copy.now (fair_copy m) c.put_copy-written.new.out _ fits w.holds }
