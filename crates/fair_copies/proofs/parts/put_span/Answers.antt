-- The rows that an index keeps, as a stretch of its sheet. Assumes nothing.
use mathlib.Core.Path.{subst}
use Prim.Native.Nat.{ℕ, ◌+◌}
use Rattle.fields.specs.Places.{rows_from}
use Rattle.writing.specs.Writing.{write_condition}
use Rattle.models.specs.Index.{entry, span_rows}
use Rattle.buffers.specs.Written.{Written}
use Rattle.buffers.proofs.WritingLaws.{as-put}
use Rattle.fair_models.specs.FairCopy.{fair_condition}
use Rattle.fair_copies.proofs.parts.put_span.Goals as goal

pub returns : goal.returns
unfolding span_rows
returns c =
    let a = c.args in
    let w = c.put_condition in
    let told : ℕ → ℕ → ℕ → Type 0 = λ v p r. Written a.out.now a.at (write_condition v (fair_condition (rows_from a.model.now v a.n p r))) w.new.out w.result in record { written = subst (λ (v : ℕ). told v (entry a.index.now a.place) (entry a.index.now (a.place + 1))) c.version_of-version.ensures (subst (λ (p : ℕ). told c.version_of-version.result p (entry a.index.now (a.place + 1))) c.number_at-first.ensures (subst (λ (r : ℕ). told c.version_of-version.result c.number_at-first.result r) c.number_at-rows.ensures (as-put _ (w.ensures.value, w.ensures.out_after)))); upper_bound = w.ensures.upper_bound }
