-- Opening, body, end and limits in a chain. Assumes nothing.
use Rattle.std.proofs.Common.{rules, Err, ◌≡◌, sym, ap, ◌∙◌, subst}
use mathlib.Core.List.{List}
use Prim.Native.Nat.{ℕ, ◌≤◌}
use native.Mathlib.Omega.{arith}
use borrow.Author.Rules.{rules}
use lib.ListN.{length}
use Rattle.formats.specs.Reading.{got, refused}
use Rattle.formats.specs.Reading as reading
use Rattle.formats.specs.Model.{Model, read_model_body}
use Rattle.models.specs.Index.{entry, version_in, paper_in, model_from, Kept, GoodIndex}
use Rattle.fields.specs.Answers.{got_as}
use Rattle.fields.proofs.ChainLaws.{told_at, told-refused}
use Rattle.models.proofs.IndexLaws.{kept_then, kept-wider}
use Rattle.models.proofs.SameSheetLaws.{model-same}
use Rattle.model_sheets.specs.Opening.{read_opening, opening_from}
use Rattle.formats.proofs.Header.{HeaderRead}
use Rattle.fields.proofs.AnswerLaws.{next-refused}
use Rattle.fields.specs.Causes.{number_of}
use Rattle.model_sheets.proofs.SheetLaws.{body-good, sheet-first, sheet-second, sheet-third, sheet-limits}
use Rattle.model_sheets.proofs.OpeningLaws.{opening-read}
use Rattle.model_sheets.proofs.LimitLaws.{refused-uncounted}
use Rattle.model_sheets.proofs.sheet.model_into.Goals.{In_ok-body, In_ok-end}
use Rattle.model_sheets.proofs.sheet.model_into.Goals as goal

-- how the sheet opens, once it is read
module _ (c : In_ok-body) where
  abbrev s : List ℕ
  s = c.args.s.now

  abbrev body : ℕ
  body = c.in_ok-body.body

  -- the index, which has the version and the paper number then
  abbrev opened : List ℕ
  opened = c.opening_into.new.index

  one : read_opening s 0 ≡ got (opening_from opened) body
  one = told_at (opening_from opened) (read_opening s 0) c.opening_into.ensures.result_after c.in_ok-body.was

  known : HeaderRead 1 s 0 (version_in opened) 4
  unfolding opening_from
  known = opening-read s (opening_from opened) body one

  stored : Kept 0 1004 c.args.index.now opened
  stored = c.opening_into.ensures.kept

-- the body, once it is read into the index
module _ (c : In_ok-end) where
  abbrev index : List ℕ
  index = c.body_into.new.index

  abbrev m : Model
  m = model_from (s (goal.at.In_ok-end c).In_ok-body) index

  abbrev end : ℕ
  end = c.in_ok-end.end

  two : read_model_body (version_in (opened (goal.at.In_ok-end c).In_ok-body)) (paper_in (opened (goal.at.In_ok-end c).In_ok-body)) (s (goal.at.In_ok-end c).In_ok-body) (body (goal.at.In_ok-end c).In_ok-body) ≡ got m end
  unfolding entry
  two = subst (λ (v : ℕ). read_model_body v (paper_in (opened (goal.at.In_ok-end c).In_ok-body)) (s (goal.at.In_ok-end c).In_ok-body) (body (goal.at.In_ok-end c).In_ok-body) ≡ got m end) c.from-version.ensures (told_at m _ c.body_into.ensures.result_after c.in_ok-end.was)

  good : GoodIndex (s (goal.at.In_ok-end c).In_ok-body) index
  good = body-good (version_in (opened (goal.at.In_ok-end c).In_ok-body)) (paper_in (opened (goal.at.In_ok-end c).In_ok-body)) (s (goal.at.In_ok-end c).In_ok-body) index (body (goal.at.In_ok-end c).In_ok-body) end (known (goal.at.In_ok-end c).In_ok-body).fits two

pub body_into-requires : goal.body_into-requires
unfolding entry
body_into-requires c =
    let long : 1004 ≤ length (opened (goal.at.body_into-requires c).In_ok-body) = search rules in record { sized = record { short = (known (goal.at.body_into-requires c).In_ok-body).short; long = long }; version_value = c.from-version.ensures }

pub within_limits-requires : goal.within_limits-requires
within_limits-requires c = record { good_index = good (goal.at.within_limits-requires c).In_ok-end; t = c.requires }

pub returns-in_err-body : goal.returns-in_err-body
unfolding got_as
returns-in_err-body c =
    let a = c.args in
    let read = c.opening_into in
    let y = read.new.index in
    let same : c.from_residual.result ≡ Err c.in_err-body.field-0.0 = search rules in
    record { result_after = next-refused _ same ∙ sym (sheet-first a.limits a.s.now (number_of c.in_err-body.field-0.0.0) c.in_err-body.field-0.0.1 (told-refused (opening_from y) (read_opening a.s.now 0) read.ensures.result_after c.in_err-body.was)); kept = read.ensures.kept; counted_after = refused-uncounted a.s.now y same }

pub returns-in_err-end : goal.returns-in_err-end
unfolding got_as opening_from entry
returns-in_err-end c =
    let read = c.body_into in
    let y = read.new.index in
    let e = subst (λ (v : ℕ). read_model_body v (paper_in (opened (goal.at.returns-in_err-end c).In_ok-body)) (s (goal.at.returns-in_err-end c).In_ok-body) (body (goal.at.returns-in_err-end c).In_ok-body) ≡ refused (number_of c.in_err-end.field-0.0.0) c.in_err-end.field-0.0.1) c.from-version.ensures (told-refused (model_from (s (goal.at.returns-in_err-end c).In_ok-body) y) _ read.ensures.result_after c.in_err-end.was) in
    let same : c.from_residual-in_err-end.result ≡ Err c.in_err-end.field-0.0 = search rules in
    record { result_after = next-refused _ same ∙ sym (sheet-second c.args.limits (s (goal.at.returns-in_err-end c).In_ok-body) (opening_from (opened (goal.at.returns-in_err-end c).In_ok-body)) (body (goal.at.returns-in_err-end c).In_ok-body) (one (goal.at.returns-in_err-end c).In_ok-body) (number_of c.in_err-end.field-0.0.0) c.in_err-end.field-0.0.1 e); kept = kept_then (stored (goal.at.returns-in_err-end c).In_ok-body) (kept-wider (omega arith) (omega arith) read.ensures.kept); counted_after = refused-uncounted (s (goal.at.returns-in_err-end c).In_ok-body) y same }

pub returns-in_err-next : goal.returns-in_err-next
unfolding got_as opening_from
returns-in_err-next c = let same : c.from_residual-in_err-next.result ≡ Err c.in_err-next.field-0.0 = search rules in
    record { result_after = next-refused _ same ∙ sym (sheet-third c.args.limits (s (goal.at.returns-in_err-next c).In_ok-body) (opening_from (opened (goal.at.returns-in_err-next c).In_ok-body)) (body (goal.at.returns-in_err-next c).In_ok-body) (one (goal.at.returns-in_err-next c).In_ok-body) (m (goal.at.returns-in_err-next c).In_ok-end) (end (goal.at.returns-in_err-next c).In_ok-end) (two (goal.at.returns-in_err-next c).In_ok-end) (number_of c.in_err-next.field-0.0.0) c.in_err-next.field-0.0.1 (told-refused tt (reading.finished (s (goal.at.returns-in_err-next c).In_ok-body) (end (goal.at.returns-in_err-next c).In_ok-end)) c.finished.ensures c.in_err-next.was)); kept = kept_then (stored (goal.at.returns-in_err-next c).In_ok-body) (kept-wider (omega arith) (omega arith) c.body_into.ensures.kept); counted_after = refused-uncounted (s (goal.at.returns-in_err-next c).In_ok-body) (index (goal.at.returns-in_err-next c).In_ok-end) same }

pub returns : goal.returns
unfolding model_from opening_from
returns c =
    let sheet = s (goal.at.returns c).In_ok-body in
    let limited = c.within_limits.ensures in
    let z = c.within_limits.new.index in
    let same : model_from sheet z ≡ m (goal.at.returns c).In_ok-end = model-same (good (goal.at.returns c).In_ok-end) limited.only_counts.0.same in record {
      result_after = ap (λ (x : Model). got_as x c.within_limits.result) same
          ∙ sheet-limits c.args.limits sheet (opening_from (opened (goal.at.returns c).In_ok-body)) (body (goal.at.returns c).In_ok-body) (one (goal.at.returns c).In_ok-body) (m (goal.at.returns c).In_ok-end) (end (goal.at.returns c).In_ok-end) (two (goal.at.returns c).In_ok-end) c.in_ok-next.next (told_at tt (reading.finished sheet (end (goal.at.returns c).In_ok-end)) c.finished.ensures c.in_ok-next.was) c.within_limits.result limited.result_value;
      kept = kept_then (kept_then (stored (goal.at.returns c).In_ok-body) (kept-wider (omega arith) (omega arith) c.body_into.ensures.kept)) limited.only_counts.0.kept;
      counted_after = limited.only_counts.1;
    }
