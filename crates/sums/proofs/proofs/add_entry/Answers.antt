-- One entry read, its hypothesis found and its row added: where the sums were those of i entries, they are those of i + 1. Assumes nothing.
use Rattle.std.proofs.Common.{rules, Err, ◌≡◌, sym, ap, ◌∙◌, subst}
use Prim.Native.Nat.{◌+◌, ◌*◌, ◌<◌}
use native.Mathlib.Omega.{arith}
use lib.IntN.{ℤ}
use lib.ListN.{length, get_or}
use mir.Syntax.{w64}
use mir.Val.{SFits, to_z, of_z}
use mathlib.Core.Bool.{false}
use Rattle.farkas.specs.Rows.{Row, row_of, strictly, zero_row}
use Rattle.farkas.specs.Farkas.{Entry, strict_after, add_row}
use Rattle.formats.specs.Reading.{got}
use Rattle.formats.specs.Certificate.{read_entry}
use Rattle.models.specs.Index.{entry}
use Rattle.hypotheses.specs.Tables.{end_of, hypothesis_in, GoodLine}
use Rattle.sums.specs.declared.Line.{Line}
use Rattle.sums.specs.Summing.{line_in, table_line, rows_in, SummedAfter}
use Rattle.sums.proofs.LineLaws.{line-within, row_listed, some-segment}
use Rattle.sums.proofs.RowLaws.{sent}
use Rattle.sums.proofs.EntryLaws.{EntryWithin, entry-within, so-far-next, so-far-stops, less-room}
use Rattle.sums.proofs.ProofLaws.{entry-got, entry-refused}
use borrow.Author.Rules.{rules}
use Rattle.sums.proofs.proofs.add_entry.Goals.{After-line_at-line, After-struct_told-1, After-sums-1, In_ok-read}
use Rattle.sums.proofs.proofs.add_entry.Goals as goal

abbrev read : In_ok-read → Entry
read c = record { hypothesis = c.in_ok-read.read.hypothesis; multiplier = c.in_ok-read.read.multiplier }

entry_read : (c : In_ok-read) → read_entry c.args.group.hypotheses c.args.reached.least c.args.second.now c.args.reached.place ≡ got (read c) c.in_ok-read.place
entry_read c = sym c.entry.ensures ∙ entry-got c.in_ok-read.was

entry-good : (c : In_ok-read) → EntryWithin c.args.group.hypotheses c.args.reached.least (read c)
entry-good c = (entry-within c.args.group.hypotheses c.args.reached.least).holds c.args.second.now c.args.reached.place _ _ (entry_read c)

below_end : (c : In_ok-read) → (read c).hypothesis < end_of c.args.table.now c.args.group.segments
below_end c = omega (arith, (entry-good c).hypothesis, c.requires.in_bounds.1.0.hypotheses)

pub segment_of-segment-requires : goal.segment_of-segment-requires
segment_of-segment-requires c =
    let good = entry-good (goal.at.segment_of-segment-requires c).In_ok-read in
    let below = below_end (goal.at.segment_of-segment-requires c).In_ok-read in
    let from = c.requires.sought_from.0 in record { le_from = (from.first, (from.most (some-segment c.args.table.now c.args.group.segments _ c.requires.in_bounds.1.0.stacked below), (c.requires.in_bounds.1.0.segments, c.requires.in_bounds.0))); from_bound = (omega (arith, from.before, good.from), below) }

pub line_at-line-requires : goal.line_at-line-requires
line_at-line-requires c = (c.requires.in_bounds.0, (c.requires.in_bounds.1.0.segments, c.segment_of-segment.ensures.1))

line-good : (c : After-line_at-line) → GoodLine c.args.model.now c.args.second.now c.args.group.version c.args.n c.args.group.width (table_line c.line_at-line.result)
line-good c =
    subst (λ (l : Line). GoodLine c.args.model.now c.args.second.now c.args.group.version c.args.n c.args.group.width (table_line l)) (sym c.line_at-line.ensures)
    (line-within c.args.table.now c.args.group.segments c.segment_of-segment.result (read (goal.at.After-line_at-line c).In_ok-read).hypothesis c.requires.in_bounds.1.0.stacked c.segment_of-segment.ensures.1 c.requires.in_bounds.1.0.lines (below_end (goal.at.After-line_at-line c).In_ok-read))

place-small : (c : After-line_at-line) → c.line_at-line.result.place < 65536
unfolding line_in entry
place-small c = rw c.line_at-line.ensures (omega (arith, c.shared_slice_known-3-1.given (4 * c.segment_of-segment.result + 2)))

row-few : (c : After-line_at-line) → c.line_at-line.result.row < 65536
unfolding line_in
row-few c =
    rw c.line_at-line.ensures (omega (arith, below_end (goal.at.After-line_at-line c).In_ok-read, c.requires.in_bounds.1.0.stacked.small c.args.group.segments (omega arith), c.requires.in_bounds.1.0.segments))

row_same : (c : After-line_at-line) → (hypothesis_in c.args.model.now c.args.second.now c.args.group.version c.args.n c.line_at-line.result.form c.line_at-line.result.place c.line_at-line.result.row).row ≡ get_or (rows_in c.args.model.now c.args.second.now c.args.n c.args.table.now c.args.group) (read (goal.at.After-line_at-line c).In_ok-read).hypothesis zero_row
row_same c =
    let a = c.args in
    ap (λ (l : Line). (hypothesis_in a.model.now a.second.now a.group.version a.n l.form l.place l.row).row) c.line_at-line.ensures
    ∙ sym (row_listed a.table.now a.group.segments c.segment_of-segment.result (read (goal.at.After-line_at-line c).In_ok-read).hypothesis c.requires.in_bounds.1.0.stacked c.segment_of-segment.ensures.1 a.model.now a.second.now a.group.version a.n (below_end (goal.at.After-line_at-line c).In_ok-read))

bound-fits : (c : After-struct_told-1) → SFits w64 c.args.reached.bound
bound-fits c = search rules

pub add_line-bound-requires : goal.add_line-bound-requires
add_line-bound-requires c =
    let wide : GoodLine c.args.model.now c.args.second.now c.args.group.version c.args.n (length c.args.sums.now) (table_line c.line_at-line.result) = rw c.requires.in_bounds.1.1 (line-good (goal.at.add_line-bound-requires c).After-line_at-line) in
    let room = less-room (entry-good (goal.at.add_line-bound-requires c).In_ok-read).multiplier c.requires.sought_from.1 in record { model_len_bound = (c.requires.model_len_bound.0, (c.requires.model_len_bound.1.0, (c.requires.model_len_bound.1.1, (place-small (goal.at.add_line-bound-requires c).After-line_at-line, row-few (goal.at.add_line-bound-requires c).After-line_at-line)))); good_line = (wide, rw (sent c.args.reached.bound (bound-fits c)) room) }

pub line_strict-marked-requires : goal.line_strict-marked-requires
line_strict-marked-requires c = (c.requires.model_len_bound.1.1, (place-small (goal.at.line_strict-marked-requires c).After-line_at-line, row-few (goal.at.line_strict-marked-requires c).After-line_at-line))

pub overflow_add-least : goal.overflow_add-least
overflow_add-least c =
    omega (arith, (entry-good (goal.at.overflow_add-least c).In_ok-read).hypothesis, c.requires.in_bounds.1.0.hypotheses, c.requires.in_bounds.1.0.stacked.small c.args.group.segments (omega arith), c.requires.in_bounds.1.0.segments)

pub returns-in_err-read : goal.returns-in_err-read
unfolding SummedAfter
returns-in_err-read c = λ at i so.
    let same : c.from_residual.result ≡ Err c.in_err-read.field-0.0 = search rules in
    let a = c.args in
    subst (SummedAfter a.model.now a.second.now a.n a.table.now a.group at (i + 1) c.args.sums.now) (sym same) (so-far-stops so _ _ (sym c.entry.ensures ∙ entry-refused c.in_err-read.was))

-- its row was added to the sums as often as it says
entry-added : (c : After-sums-1) → row_of c.add_line-bound.new.sums (to_z w64 (of_z w64 c.add_line-bound.result)) ≡ add_row (row_of c.args.sums.now c.args.reached.bound) (read (goal.at.After-sums-1 c).In_ok-read).multiplier (strictly false (get_or (rows_in c.args.model.now c.args.second.now c.args.n c.args.table.now c.args.group) (read (goal.at.After-sums-1 c).In_ok-read).hypothesis zero_row))
entry-added c =
    let a = c.args in
    let m = (read (goal.at.After-sums-1 c).In_ok-read).multiplier in
    let line = c.line_at-line.result in
    let row = strictly false (hypothesis_in a.model.now a.second.now a.group.version a.n line.form line.place line.row).row in
    let k = c.add_line-bound in
    ap (row_of k.new.sums) (sent k.result (record { sfits = k.type_inv }))
    ∙ k.ensures
    ∙ ap (λ (b : ℤ). add_row (row_of a.sums.now b) m row) (sent a.reached.bound (bound-fits (goal.at.After-sums-1 c).After-struct_told-1))
    ∙ ap (λ (r : Row). add_row (row_of a.sums.now a.reached.bound) m (strictly false r)) (row_same (goal.at.After-sums-1 c).After-line_at-line)

pub returns : goal.returns
unfolding SummedAfter
returns c =
    λ at i so.
    let k = c.segment_of-segment in (
      so-far-next so (read (goal.at.returns c).In_ok-read) c.in_ok-read.place k.result c.add_line-bound.new.sums (to_z w64 (of_z w64 c.add_line-bound.result)) c.strict_after-strict.result (entry_read (goal.at.returns c).In_ok-read) (entry-added (goal.at.returns c).After-sums-1) (c.strict_after-strict.ensures ∙ ap (strict_after c.args.reached.strict (read (goal.at.returns c).In_ok-read).multiplier) (c.line_strict-marked.ensures ∙ ap (λ (r : Row). r.strict) (row_same (goal.at.returns c).After-line_at-line))),
      record { first = k.ensures.1.least; most = λ some. k.ensures.1.most; before = omega (arith, k.ensures.1.from) },
    )
