-- One case for each form up to 5; the others are later. Assumes nothing.
use mathlib.Core.Bool.{false}
use mathlib.Core.Path.{ap, ap₂, ◌∙◌}
use Prim.Native.Nat.{ℕ, ◌+◌, ◌≤◌}
use native.Mathlib.Omega.{arith}
use lib.IntN.{ℤ}
use Rattle.farkas.specs.Rows.{Row, row_of, onward, on_change, strictly}
use Rattle.farkas.specs.Words.{row_in}
use Rattle.farkas.specs.Farkas.{add_row}
use Rattle.farkas.proofs.Promise.{room-all}
use Rattle.hypotheses.specs.Tables.{line}
use Rattle.sums.specs.Summing.{table_line}
use Rattle.sums.proofs.RowLaws.{form-second, form-model, form-next, form-rates, later-row, later-good, rates-bound, sent}
use Rattle.formats.proofs.Versions.{numbers-within}
use Rattle.sums.proofs.lines.add_line.Goals as goal

pub row_place-requires : goal.row_place-requires
row_place-requires c = (omega (arith, c.requires.model_len_bound.1.1.0), (c.requires.model_len_bound.1.1.1.0, c.requires.model_len_bound.1.1.1.1))

pub add_row-requires : goal.add_row-requires
unfolding line
add_row-requires c = record { count_in_bounds = (omega (arith, c.requires.good_line.0.before), rw (sent c.args.bound c.ranges.bound) c.requires.good_line.1); numbers_in = (rw c.row_place.ensures (numbers-within c.args.version _ _ _ (c.requires.good_line.0.in_second c.if-line-eq1.true)), omega (arith, c.requires.model_len_bound.1.0)) }

pub returns-then-line-eq1 : goal.returns-then-line-eq1
returns-then-line-eq1 c =
    let a = c.args in
    let sums = a.sums.now in
    ap (row_of c.add_row.new.sums) (sent c.add_row.result (record { sfits = c.add_row.type_inv }))
    ∙ c.add_row.ensures
    ∙ ap₂ (λ (z : ℤ) (p : ℕ). add_row (row_of sums z) a.m (onward 0 (row_in a.second.now p a.n))) (sent a.bound c.ranges.bound) c.row_place.ensures
    ∙ ap (add_row (row_of sums a.bound) a.m) (form-second a.model.now a.second.now a.version a.n a.line.form a.line.place a.line.row c.if-line-eq1.true)

pub row_place-requires-then-line-lt4 : goal.row_place-requires-then-line-lt4
row_place-requires-then-line-lt4 c = (omega (arith, c.requires.model_len_bound.1.1.0), (c.requires.model_len_bound.1.1.1.0, c.requires.model_len_bound.1.1.1.1))

pub add_row-requires-then-line-lt4 : goal.add_row-requires-then-line-lt4
unfolding line
add_row-requires-then-line-lt4 c = record { count_in_bounds = (omega (arith, c.requires.good_line.0.before), rw (sent c.args.bound c.ranges.bound) c.requires.good_line.1); numbers_in = (rw c.row_place-then-line-lt4.ensures (numbers-within c.args.version _ _ _ (c.requires.good_line.0.in_model (omega (arith, c.if-line-lt4.true)) c.if-line-eq1.false)), omega (arith, c.requires.model_len_bound.0)) }

pub returns-then-line-lt4 : goal.returns-then-line-lt4
returns-then-line-lt4 c =
    let a = c.args in
    let sums = a.sums.now in
    ap (row_of c.add_row-then-line-lt4.new.sums) (sent c.add_row-then-line-lt4.result (record { sfits = c.add_row-then-line-lt4.type_inv }))
    ∙ c.add_row-then-line-lt4.ensures
    ∙ ap₂ (λ (z : ℤ) (p : ℕ). add_row (row_of sums z) a.m (onward 0 (row_in a.model.now p a.n))) (sent a.bound c.ranges.bound) c.row_place-then-line-lt4.ensures
    ∙ ap (add_row (row_of sums a.bound) a.m) (form-model a.model.now a.second.now a.version a.n a.line.form a.line.place a.line.row c.if-line-lt4.true c.if-line-eq1.false)

pub row_place-requires-then-line-eq4 : goal.row_place-requires-then-line-eq4
row_place-requires-then-line-eq4 c = (omega (arith, c.requires.model_len_bound.1.1.0), (c.requires.model_len_bound.1.1.1.0, c.requires.model_len_bound.1.1.1.1))

pub add_row-requires-then-line-eq4 : goal.add_row-requires-then-line-eq4
unfolding line
add_row-requires-then-line-eq4 c = record { count_in_bounds = (omega (arith, c.requires.good_line.0.after (omega (arith, c.if-line-eq4.true))), rw (sent c.args.bound c.ranges.bound) c.requires.good_line.1); numbers_in = (rw c.row_place-then-line-eq4.ensures (numbers-within c.args.version _ _ _ (c.requires.good_line.0.in_model (omega (arith, c.if-line-eq4.true)) c.if-line-eq1.false)), omega (arith, c.requires.model_len_bound.0)) }

pub returns-then-line-eq4 : goal.returns-then-line-eq4
returns-then-line-eq4 c =
    let a = c.args in
    let sums = a.sums.now in
    ap (row_of c.add_row-then-line-eq4.new.sums) (sent c.add_row-then-line-eq4.result (record { sfits = c.add_row-then-line-eq4.type_inv }))
    ∙ c.add_row-then-line-eq4.ensures
    ∙ ap₂ (λ (z : ℤ) (p : ℕ). add_row (row_of sums z) a.m (onward a.n (row_in a.model.now p a.n))) (sent a.bound c.ranges.bound) c.row_place-then-line-eq4.ensures
    ∙ ap (add_row (row_of sums a.bound) a.m) (form-next a.model.now a.second.now a.version a.n a.line.form a.line.place a.line.row c.if-line-eq4.true)

pub row_place-requires-then-line-eq5 : goal.row_place-requires-then-line-eq5
row_place-requires-then-line-eq5 c = (omega (arith, c.requires.model_len_bound.1.1.0), (c.requires.model_len_bound.1.1.1.0, c.requires.model_len_bound.1.1.1.1))

pub add_rates-requires : goal.add_rates-requires
unfolding line
add_rates-requires c = record { count_in_bounds = (c.requires.good_line.0.timed (omega (arith, c.if-line-eq5.true)) (omega (arith, c.if-line-eq5.true)), room-all 0 (c.args.n + c.args.n + 1) c.requires.good_line.1); numbers_in = (rw c.row_place-then-line-eq5.ensures (numbers-within c.args.version _ _ _ (c.requires.good_line.0.in_model (omega (arith, c.if-line-eq5.true)) c.if-line-eq1.false)), omega (arith, c.requires.model_len_bound.0)) }

pub returns-then-line-eq5 : goal.returns-then-line-eq5
returns-then-line-eq5 c =
    let a = c.args in
    let sums = a.sums.now in
    let rates = c.add_rates in
    ap (row_of rates.new.sums) (sent a.bound c.ranges.bound)
    ∙ rates-bound a.m sums rates.new.sums a.bound (row_in a.model.now c.row_place-then-line-eq5.result a.n) rates.ensures
    ∙ ap (λ (p : ℕ). add_row (row_of sums a.bound) a.m (on_change (row_in a.model.now p a.n))) c.row_place-then-line-eq5.ensures
    ∙ ap (add_row (row_of sums a.bound) a.m) (form-rates a.model.now a.second.now a.version a.n a.line.form a.line.place a.line.row c.if-line-eq5.true)

pub add_later-requires : goal.add_later-requires
unfolding line
add_later-requires c =
    let late : 6 ≤ c.args.line.form = omega (arith, c.if-line-eq5.false, c.if-line-eq4.false, c.if-line-lt4.false) in record { model_len_bound = (c.requires.model_len_bound.0, (c.requires.model_len_bound.1.1.0, (c.requires.model_len_bound.1.1.1.0, (c.requires.model_len_bound.1.1.1.1, late)))); good_line = (later-good (table_line c.args.line) c.args.model.now late c.requires.good_line.0, rw (sent c.args.bound c.ranges.bound) c.requires.good_line.1) }

pub shape_of-sums : goal.shape_of-sums
shape_of-sums c = c.add_later.auto.sums

pub returns : goal.returns
returns c =
    let a = c.args in
    let sums = a.sums.now in
    let late : 6 ≤ a.line.form = omega (arith, c.if-line-eq5.false, c.if-line-eq4.false, c.if-line-lt4.false) in
    let k = c.add_later in
    ap (row_of k.new.sums) (sent k.result (record { sfits = k.type_inv }))
    ∙ k.ensures
    ∙ ap₂ (λ (z : ℤ) (r : Row). add_row (row_of sums z) a.m r) (sent a.bound c.ranges.bound) (ap (strictly false) (later-row a.model.now a.second.now a.version a.n a.line.form a.line.place a.line.row late))
