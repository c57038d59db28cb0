-- One coefficient at the variable's value after, and one at its value before. Assumes nothing.
use mathlib.Core.Path.{◌≡◌, sym, ap, ap₂, ◌∙◌}
use mathlib.Core.List.{List, [], ◌∷◌}
use Prim.Native.Nat.{ℕ, suc, ◌+◌, ◌-◌}
use native.Mathlib.Omega.{arith}
use lib.IntN.{ℤ, pos, neg_ℤ}
use mir.Syntax.{w64}
use mir.Val.{to_z, of_z}
use Rattle.farkas.specs.Rows.{row_of}
use Rattle.farkas.specs.Farkas.{add_row}
use Rattle.farkas.specs.Sums.{plus_from}
use Rattle.farkas.proofs.Promise.{room-all, room-before}
use Rattle.hypotheses.specs.Tables.{keeps}
use Rattle.sums.proofs.RowLaws.{up-added, down-added, sent, sent-size}
use Rattle.sums.proofs.lines.add_staying.Goals.{After-add_one, After-add_one-2, After-times}
use Rattle.sums.proofs.lines.add_staying.Goals as goal

-- how often, as it is handed on; and the sums after the first call
often : (c : After-times) → to_z w64 (of_z w64 c.times.result) ≡ pos c.args.m
often c = sent c.times.result (record { sfits = c.times.type_inv }) ∙ c.times.ensures.0

after : (c : After-add_one) → c.add_one.new.sums ≡ plus_from (c.args.n + c.args.v) (pos c.args.m) c.args.sums.now (pos 1 ∷ [])
after c =
    let a = c.args in
    c.add_one.ensures ∙ ap (λ (z : ℤ). plus_from (a.n + a.v) z a.sums.now (pos 1 ∷ [])) (often (goal.at.After-add_one c).After-times)

after_less_lem : (c : After-add_one-2) → c.add_one-2.new.sums ≡ plus_from (c.args.n + c.args.v) (neg_ℤ (pos c.args.m)) c.args.sums.now (pos 1 ∷ [])
after_less_lem c =
    let a = c.args in
    let less = sent c.opposite-2.result (record { sfits = c.opposite-2.type_inv }) ∙ c.opposite-2.ensures.0 in
    c.add_one-2.ensures ∙ ap (λ (z : ℤ). plus_from (a.n + a.v) z a.sums.now (pos 1 ∷ [])) less

pub add_one-requires : goal.add_one-requires
add_one-requires c =
    (omega (arith, c.requires.n_bound.1.0, c.requires.n_bound.1.1), rw (sent-size c.times.result _ (record { sfits = c.times.type_inv }) c.times.ensures.1) (room-all (c.args.n + c.args.v) 1 c.requires.spare))

pub add_one-requires-then-row-eq0 : goal.add_one-requires-then-row-eq0
add_one-requires-then-row-eq0 c =
    let a = c.args in (
      omega (arith, c.add_one.auto.sums, c.requires.n_bound.1.0, c.requires.n_bound.1.1),
      rw (sent-size c.opposite.result _ (record { sfits = c.opposite.type_inv }) c.opposite.ensures.1, after (goal.at.add_one-requires-then-row-eq0 c).After-add_one)
          (room-before (a.n + a.v) (pos a.m) (pos 1 ∷ []) (omega (arith, c.requires.n_bound.1.0)) (room-all a.v 1 c.requires.spare)),
    )

pub shape_of-sums-then-row-eq0 : goal.shape_of-sums-then-row-eq0
shape_of-sums-then-row-eq0 c = c.add_one-then-row-eq0.auto.sums ∙ c.add_one.auto.sums

pub returns-then-row-eq0 : goal.returns-then-row-eq0
returns-then-row-eq0 c =
    let a = c.args in
    let sums = a.sums.now in
    let less : to_z w64 (of_z w64 c.opposite.result) ≡ neg_ℤ (pos a.m) = sent c.opposite.result (record { sfits = c.opposite.type_inv }) ∙ c.opposite.ensures.0 in
    let both : c.add_one-then-row-eq0.new.sums ≡ plus_from a.v (neg_ℤ (pos a.m)) (plus_from (a.n + a.v) (pos a.m) sums (pos 1 ∷ [])) (pos 1 ∷ []) =
    c.add_one-then-row-eq0.ensures ∙ ap₂ (λ (z : ℤ) (ys : List ℤ). plus_from a.v z ys (pos 1 ∷ [])) less (after (goal.at.returns-then-row-eq0 c).After-add_one) in
    ap₂ row_of both (sent c.args.bound c.ranges.bound)
    ∙ up-added a.n a.m sums a.bound a.v c.requires.n_bound.1.0 c.requires.n_bound.1.1
    ∙ ap (λ (row : ℕ). add_row (row_of sums a.bound) a.m (keeps a.n a.v row)) (sym c.if-row-eq0.true)

pub add_one-requires-2 : goal.add_one-requires-2
add_one-requires-2 c =
    (omega (arith, c.requires.n_bound.1.0, c.requires.n_bound.1.1), rw (sent-size c.opposite-2.result _ (record { sfits = c.opposite-2.type_inv }) c.opposite-2.ensures.1) (room-all (c.args.n + c.args.v) 1 c.requires.spare))

pub add_one-requires-3 : goal.add_one-requires-3
add_one-requires-3 c =
    let a = c.args in (
      omega (arith, c.add_one-2.auto.sums, c.requires.n_bound.1.0, c.requires.n_bound.1.1),
      rw (sent-size c.times-2.result _ (record { sfits = c.times-2.type_inv }) c.times-2.ensures.1, after_less_lem (goal.at.add_one-requires-3 c).After-add_one-2)
          (room-before (a.n + a.v) (neg_ℤ (pos a.m)) (pos 1 ∷ []) (omega (arith, c.requires.n_bound.1.0)) (room-all a.v 1 c.requires.spare)),
    )

pub shape_of-sums : goal.shape_of-sums
shape_of-sums c = c.add_one-3.auto.sums ∙ c.add_one-2.auto.sums

pub returns : goal.returns
returns c =
    let a = c.args in
    let sums = a.sums.now in
    let more : to_z w64 (of_z w64 c.times-2.result) ≡ pos a.m = sent c.times-2.result (record { sfits = c.times-2.type_inv }) ∙ c.times-2.ensures.0 in
    let both : c.add_one-3.new.sums ≡ plus_from a.v (pos a.m) (plus_from (a.n + a.v) (neg_ℤ (pos a.m)) sums (pos 1 ∷ [])) (pos 1 ∷ []) =
    c.add_one-3.ensures ∙ ap₂ (λ (z : ℤ) (ys : List ℤ). plus_from a.v z ys (pos 1 ∷ [])) more (after_less_lem (goal.at.returns c).After-add_one-2) in
    let some : suc (a.row - 1) ≡ a.row = omega (arith, c.if-row-eq0.false) in
    ap₂ row_of both (sent c.args.bound c.ranges.bound)
    ∙ down-added a.n a.m sums a.bound a.v c.requires.n_bound.1.0 c.requires.n_bound.1.1 (a.row - 1)
    ∙ ap (λ (row : ℕ). add_row (row_of sums a.bound) a.m (keeps a.n a.v row)) some
