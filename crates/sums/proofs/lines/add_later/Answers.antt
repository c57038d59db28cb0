-- One case for each form. Assumes nothing.
use mathlib.Core.Path.{◌≡◌, ap, ap₂, ◌∙◌}
use mathlib.Core.List.{[], ◌∷◌}
use Prim.Native.Nat.{ℕ, ◌+◌, ◌*◌, ◌≤◌}
use native.Mathlib.Omega.{arith}
use lib.IntN.{ℤ, pos, neg_ℤ}
use Rattle.farkas.specs.Rows.{row_of, onward}
use Rattle.farkas.specs.Words.{row_in}
use Rattle.farkas.specs.Farkas.{add_row}
use Rattle.farkas.specs.Sums.{plus_from}
use Rattle.farkas.proofs.Promise.{room-all}
use Rattle.hypotheses.specs.Tables.{keeps, line}
use Rattle.sums.proofs.RowLaws.{form-time, form-jump, form-keeps, time-added, sent, sent-size}
use Rattle.formats.proofs.Versions.{numbers-within}
use Rattle.sums.proofs.lines.add_later.Goals as goal

pub add_one-requires : goal.add_one-requires
unfolding line
add_one-requires c =
    (omega (arith, c.requires.good_line.0.timed (omega (arith, c.if-line-eq6.true)) (omega (arith, c.if-line-eq6.true))), rw (sent-size c.opposite.result _ (record { sfits = c.opposite.type_inv }) c.opposite.ensures.1) (room-all (c.args.n + c.args.n) 1 c.requires.good_line.1))

pub returns-then-line-eq6 : goal.returns-then-line-eq6
unfolding line
returns-then-line-eq6 c =
    let a = c.args in
    let sums = a.sums.now in
    let less = sent c.opposite.result (record { sfits = c.opposite.type_inv }) ∙ c.opposite.ensures.0 in
    let one : c.add_one.new.sums ≡ plus_from (a.n + a.n) (neg_ℤ (pos a.m)) sums (pos 1 ∷ []) = c.add_one.ensures ∙ ap (λ (z : ℤ). plus_from (a.n + a.n) z sums (pos 1 ∷ [])) less in
    ap₂ row_of one (sent c.args.bound c.ranges.bound)
    ∙ time-added a.n a.m sums a.bound (c.requires.good_line.0.timed (omega (arith, c.if-line-eq6.true)) (omega (arith, c.if-line-eq6.true)))
    ∙ ap (add_row (row_of sums a.bound) a.m) (form-time a.model.now a.model.now a.version a.n a.line.form a.line.place a.line.row c.if-line-eq6.true)

pub row_place-requires : goal.row_place-requires
row_place-requires c = (omega (arith, c.requires.model_len_bound.1.0), (c.requires.model_len_bound.1.1.0, c.requires.model_len_bound.1.1.1.0))

pub add_row-requires : goal.add_row-requires
unfolding line
add_row-requires c =
    let wide = c.requires.good_line.0.after (omega (arith, c.if-line-eq7.true)) in record { count_in_bounds = (omega (arith, wide), rw (sent c.args.bound c.ranges.bound) c.requires.good_line.1); numbers_in = (rw c.row_place.ensures (numbers-within c.args.version _ _ _ (c.requires.good_line.0.jump c.if-line-eq7.true)), omega (arith, c.requires.model_len_bound.0)) }

pub returns-then-line-eq7 : goal.returns-then-line-eq7
returns-then-line-eq7 c =
    let a = c.args in
    let sums = a.sums.now in
    let told = sent c.add_row.result (record { sfits = c.add_row.type_inv }) in
    ap (row_of c.add_row.new.sums) told
    ∙ c.add_row.ensures
    ∙ ap₂ (λ (z : ℤ) (p : ℕ). add_row (row_of sums z) a.m (onward 0 (row_in a.model.now p (2 * a.n)))) (sent c.args.bound c.ranges.bound) c.row_place.ensures
    ∙ ap (add_row (row_of sums a.bound) a.m) (form-jump a.model.now a.model.now a.version a.n a.line.form a.line.place a.line.row c.if-line-eq7.true)

pub add_staying-requires : goal.add_staying-requires
unfolding line
add_staying-requires c =
    let late : 8 ≤ c.args.line.form = omega (arith, c.if-line-eq7.false, c.if-line-eq6.false, c.requires.model_len_bound.1.1.1.1) in record { n_bound = (c.requires.model_len_bound.1.0, (c.requires.good_line.0.staying late, c.requires.good_line.0.after (omega arith))); spare = rw (sent c.args.bound c.ranges.bound) c.requires.good_line.1 }

pub returns : goal.returns
returns c =
    let a = c.args in
    let sums = a.sums.now in
    let late : 8 ≤ a.line.form = omega (arith, c.if-line-eq7.false, c.if-line-eq6.false, c.requires.model_len_bound.1.1.1.1) in
    let told = sent c.add_staying.result (record { sfits = c.add_staying.type_inv }) in
    ap (row_of c.add_staying.new.sums) told
    ∙ c.add_staying.ensures
    ∙ ap (λ (z : ℤ). add_row (row_of sums z) a.m (keeps a.n a.line.place a.line.row)) (sent c.args.bound c.ranges.bound)
    ∙ ap (add_row (row_of sums a.bound) a.m) (form-keeps a.model.now a.model.now a.version a.n a.line.form a.line.place a.line.row late)
