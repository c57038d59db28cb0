-- Each way the two rows stand to each other: what stays, and what is carried on. Assumes nothing.
use mathlib.Core.Path.{◌≡◌, sym, ap, ap₂, ◌∙◌}
use Prim.Native.Nat.{ℕ, ◌*◌}
use lib.ListN.{get_or, set}
use lib.Seq.{set-get_or}
use Rattle.fair_rows.specs.FairRows.{Order, order}
use Rattle.fair_conditions.specs.Held.{kept_numbers, standing, carried_on, left_behind}
use Rattle.fair_conditions.proofs.SortLaws.{stands-lower, stands-same, stands-higher}
use Rattle.fair_conditions.proofs.sorting.meet.Goals.{After-compare}
use Rattle.fair_conditions.proofs.sorting.meet.Goals as goal

-- how the two rows stand to each other
abbrev stood : After-compare → Order
stood c =
    let a = c.args in
    order (kept_numbers a.kept.now (17 * a.carried) a.count) (kept_numbers a.kept.now (17 * get_or a.sorted.now a.i 0) a.count)

told : (c : After-compare) → c.compare.result ≡ standing (stood c)
told c =
    let a = c.args in
    c.compare.ensures ∙ ap₂ (λ (x y : ℕ). standing (order (kept_numbers a.kept.now x a.count) (kept_numbers a.kept.now y a.count))) c.row_base.ensures c.row_base-2.ensures

pub returns-in-Less : goal.returns-in-Less
unfolding carried_on left_behind
returns-in-Less c =
    let a = c.args in
    let met = get_or a.sorted.now a.i 0 in
    let after = (goal.at.returns-in-Less c).After-compare in
    let o = stands-lower (stood after) (sym c.in-Less.is ∙ told after) in record { value = ap (λ (x : Order). carried_on x a.carried met) (sym o); sorted_after = ap (λ (x : Order). set a.sorted.now a.i (left_behind x a.carried met)) (sym o) }

pub returns-in-Equal : goal.returns-in-Equal
unfolding carried_on left_behind
returns-in-Equal c =
    let a = c.args in
    let met = get_or a.sorted.now a.i 0 in
    let after = (goal.at.returns-in-Equal c).After-compare in
    let o = stands-same (stood after) (sym c.in-Equal.is ∙ told after) in record { value = ap (λ (x : Order). carried_on x a.carried met) (sym o); sorted_after = sym (set-get_or a.sorted.now a.i 0) ∙ ap (λ (x : Order). set a.sorted.now a.i (left_behind x a.carried met)) (sym o) }

pub returns-in-Greater : goal.returns-in-Greater
unfolding carried_on left_behind
returns-in-Greater c =
    let a = c.args in
    let met = get_or a.sorted.now a.i 0 in
    let after = (goal.at.returns-in-Greater c).After-compare in
    let o = stands-higher (stood after) (sym c.in-Greater.is ∙ told after) in record { value = ap (λ (x : Order). carried_on x a.carried met) (sym o); sorted_after = sym (set-get_or a.sorted.now a.i 0) ∙ ap (λ (x : Order). set a.sorted.now a.i (left_behind x a.carried met)) (sym o) }
