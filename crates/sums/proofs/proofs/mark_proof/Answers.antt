-- The head, the entries summed, and the test of the sums. Assumes nothing.
use Rattle.std.proofs.Common.{rules, Err, ◌≡◌, sym, ap, ◌∙◌, subst}
use Prim.Native.Nat.{ℕ}
use native.Mathlib.Omega.{arith}
use lib.IntN.{ℤ, pos}
use lib.ListN.{length, replicate, length-replicate}
use mir.Syntax.{w64}
use mir.Val.{SFits}
use Rattle.farkas.specs.Rows.{row_of, strictly}
use Rattle.farkas.specs.Farkas.{sums_test, number_of}
use Rattle.formats.specs.Reading.{got}
use Rattle.second_sheets.specs.CertificateAnswers.{read_head}
use Rattle.hypotheses.specs.Tables.{hypotheses_from, hypothesis_rows}
use Rattle.papers.specs.Paper.{held_next}
use Rattle.std.specs.Prelude.{Result}
use Rattle.sums.specs.declared.Reached.{Reached}
use Rattle.fields.specs.declared.Refusal.{Refusal}
use Rattle.sums.specs.Summing.{rows_in, SummedAfter, goal_at, tested}
use Rattle.fields.proofs.AnswerLaws.{field-value, field-refused, next-refused}
use Rattle.sums.proofs.LineLaws.{rows-count}
use Rattle.sums.proofs.RowLaws.{sent}
use Rattle.sums.proofs.ProofLaws.{head_few, head-zero, head-refused, entries-refused, proof-tested, refused-not-at, tested-holds}
use borrow.Author.Rules.{rules}
use Rattle.sums.proofs.proofs.mark_proof.Goals.{After-sum_entries, In_ok-reached, In_ok-head, Start}
use Rattle.sums.proofs.proofs.mark_proof.Goals as goal

-- how the proof begins
head_read : (c : In_ok-head) → read_head c.args.group.zero c.args.second.now c.args.at ≡ got (c.in_ok-head.head) c.in_ok-head.next
head_read c = sym c.proof_head.ensures ∙ field-value c.in_ok-head.was

-- the sums at first
width : (s : Start) → length s.args.sums.now ≡ s.args.group.width
width s = ap length s.requires.in_bounds.1.1.zeros ∙ length-replicate s.args.group.width (pos 0)

rows_all : (s : Start) → length (hypothesis_rows (hypotheses_from s.args.model.now s.args.second.now s.args.group.version s.args.n s.args.table.now s.args.group.segments)) ≡ s.args.group.hypotheses
rows_all s =
    let a = s.args in
    rows-count a.model.now a.second.now a.group.version a.n a.table.now a.group.segments s.requires.in_bounds.1.0.stacked ∙ sym s.requires.in_bounds.1.0.hypotheses

pub sum_entries-requires : goal.sum_entries-requires
sum_entries-requires c =
    let a = c.args in record { model_len_bound = (c.requires.model_len_bound.0, (c.requires.model_len_bound.1.0, (c.requires.model_len_bound.1.1, (head_few a.group.zero).holds a.second.now a.at _ _ (head_read (goal.at.sum_entries-requires c).In_ok-head)))); in_bounds = c.requires.in_bounds }

abbrev Known : (c : After-sum_entries) → Result Reached Refusal → Type 0
Known c r =
    let a = c.args in
    SummedAfter a.model.now a.second.now a.n a.table.now a.group c.in_ok-head.next c.in_ok-head.head.count c.sum_entries.new.sums r

pub verdict-verdict-requires : goal.verdict-verdict-requires
verdict-verdict-requires c =
    let k = c.sum_entries in
    let a = c.args in
    let wide : length k.new.sums ≡ a.group.width = k.auto.sums ∙ width (goal.at.verdict-verdict-requires c).Start in record { second_len_bound = (c.requires.model_len_bound.1.0, (c.requires.model_len_bound.1.1, omega (arith, wide, c.requires.in_bounds.1.0.shift))); n_in_bounds = (c.requires.n_in_bounds, (head-zero a.group.zero).holds a.second.now a.at _ _ (head_read (goal.at.verdict-verdict-requires c).In_ok-head)) }

pub returns-in_err-head : goal.returns-in_err-head
unfolding held_next
returns-in_err-head c =
    let a = c.args in
    let same : c.from_residual.result ≡ Err c.in_err-head.field-0.0 = search rules in
    let read = sym c.proof_head.ensures ∙ field-refused c.in_err-head.was in record { value = next-refused tt same ∙ sym (ap held_next (head-refused (rows_in a.model.now a.second.now a.n a.table.now a.group) a.group.zero (goal_at a.second.now a.n a.group a.goal) a.second.now a.at _ _ read)); by_index = λ end e. absurd (refused-not-at same e) }

pub returns-in_err-reached : goal.returns-in_err-reached
unfolding held_next SummedAfter
returns-in_err-reached c =
    let a = c.args in
    let k = c.in_ok-head.head.k in
    let count = c.in_ok-head.head.count in
    let next = c.in_ok-head.next in
    let same : c.from_residual-in_err-reached.result ≡ Err c.in_err-reached.field-0.0 = search rules in
    let read = subst (Known (goal.at.returns-in_err-reached c).After-sum_entries) c.in_err-reached.was c.sum_entries.ensures in record { value = next-refused tt same ∙ sym (ap held_next (entries-refused (rows_in a.model.now a.second.now a.n a.table.now a.group) a.group.zero (goal_at a.second.now a.n a.group a.goal) a.second.now a.at c.in_ok-head.head next a.group.hypotheses (rows_all (goal.at.returns-in_err-reached c).Start) (head_read (goal.at.returns-in_err-reached c).In_ok-head) _ _ read)); by_index = λ end e. absurd (refused-not-at same e) }

pub shape_of-sums : goal.shape_of-sums
shape_of-sums c = c.verdict-verdict.auto.sums ∙ c.sum_entries.auto.sums

bound-fits : (c : In_ok-reached) → SFits w64 c.in_ok-reached.reached.bound
bound-fits c = search rules

pub returns : goal.returns
unfolding SummedAfter
returns c =
    let reached = c.in_ok-reached.reached in
    let a = c.args in
    let goal_row = goal_at a.second.now a.n a.group a.goal in
    let k = c.in_ok-head.head.k in
    let count = c.in_ok-head.head.count in
    let next = c.in_ok-head.next in
    let sums = c.sum_entries.new.sums in
    let v = c.verdict-verdict in
    let so = subst (Known (goal.at.returns c).After-sum_entries) c.in_ok-reached.was c.sum_entries.ensures in
    let number : number_of v.result ≡ sums_test k (strictly reached.strict (row_of sums reached.bound)) goal_row = v.ensures.result_value ∙ ap (λ (z : ℤ). sums_test k (strictly reached.strict (row_of sums z)) goal_row) (sent reached.bound (bound-fits (goal.at.returns c).In_ok-reached)) in
    let wide : length sums ≡ a.group.width = c.sum_entries.auto.sums ∙ width (goal.at.returns c).Start in record {
      value = c.judged.ensures
          ∙ ap (λ (x : ℕ). tested x a.at reached.place) number
          ∙ sym (proof-tested (rows_in a.model.now a.second.now a.n a.table.now a.group) a.group.zero goal_row a.second.now a.at c.in_ok-head.head next a.group.hypotheses (rows_all (goal.at.returns c).Start) (head_read (goal.at.returns c).In_ok-head) so.0.entries reached.place (strictly reached.strict (row_of sums reached.bound)) so.0.read so.0.held);
      by_index = λ end e. record { zeros = v.ensures.sums_after (tested-holds v.result _ _ end c.judged.ensures e) ∙ ap (λ (w : ℕ). replicate w (pos 0)) wide };
    }
