-- Each turn lets the lower of two rows stay and carries the other on. Assumes nothing.
use mathlib.Core.Path.{◌≡◌, sym, ap, ◌∙◌, subst}
use mathlib.Core.List.{List}
use Prim.Native.Nat.{ℕ, ◌+◌, ◌*◌, ◌<◌}
use lib.ListN.{get_or, take}
use lib.Seq.{get_or-set_other}
use Rattle.std.specs.Prelude.{Some}
use Rattle.fair_rows.specs.FairRows.{Order, order}
use Rattle.fair_conditions.specs.Held.{kept_numbers, kept_row, carried_on, slip}
use Rattle.fair_conditions.proofs.SortLaws.{Through, rows-order, among-at, through-starts, through-stops, through-goes-on, through-ends, carried-small}
use native.Mathlib.Omega.{arith}
use Rattle.fair_conditions.proofs.sorting.insert.Goals.{After-meet}
use Rattle.fair_conditions.proofs.sorting.insert.Goals as goal

pub loop-i-init : goal.loop-i-init
loop-i-init c =
    (c.requires.count_in_bounds.1.0, (λ j h l. among-at c.args.count c.args.sorted.now c.requires.count_in_bounds.1.1 (omega arith) j l, through-starts (kept_row c.args.kept.now c.args.n) c.args.sorted.now c.args.count c.args.k))

-- how the two rows stand to each other
abbrev stood : After-meet → Order
stood c =
    let a = c.args in
    let l = c.loop-i in
    order (kept_numbers a.kept.now (17 * l.carried) (a.n + 1)) (kept_numbers a.kept.now (17 * get_or l.sorted l.i 0) (a.n + 1))

pub returns-in_default-clause-sorted_after : goal.returns-in_default-clause-sorted_after
returns-in_default-clause-sorted_after c =
    let a = c.args in
    let l = c.loop-i in
    let m = c.meet in
    let f = kept_row a.kept.now a.n in
    ap (take a.count) m.ensures.sorted_after
    ∙ through-stops f (slip f a.k (take a.count a.sorted.now)) l.sorted a.count l.i l.carried (omega arith) c.loop-i-test.true
    (stood (goal.at.returns-in_default-clause-sorted_after c).After-meet) (rows-order a.kept.now a.n l.carried (get_or l.sorted l.i 0)) (sym m.ensures.value ∙ c.in_default.is) l.invariant.1.1

pub loop-i-preserved : goal.loop-i-preserved
loop-i-preserved c =
    let a = c.args in
    let l = c.loop-i in
    let m = c.meet in
    let f = kept_row a.kept.now a.n in
    let o = stood (goal.at.loop-i-preserved c).After-meet in
    let met = get_or l.sorted l.i 0 in
    let next = c.in-Some.next in
    let on : carried_on o l.carried met ≡ Some next = sym m.ensures.value ∙ c.in-Some.is in (
      carried-small o l.carried met next l.invariant.0 (l.invariant.1.0 l.i (omega arith) c.loop-i-test.true) on,
      (
        λ j h u. subst (λ (k : ℕ). k < 8) (sym (ap (λ (x : List ℕ). get_or x j 0) m.ensures.sorted_after ∙ get_or-set_other l.sorted l.i j _ 0 (λ e. omega (arith, e)))) (l.invariant.1.0 j (omega arith) u),
        subst (λ (x : List ℕ). Through f (slip f a.k (take a.count a.sorted.now)) x a.count (l.i + 1) next) (sym m.ensures.sorted_after) (through-goes-on f (slip f a.k (take a.count a.sorted.now)) l.sorted a.count l.i l.carried (omega arith) c.loop-i-test.true o next (rows-order a.kept.now a.n l.carried met) on l.invariant.1.1),
      ),
    )

pub returns-clause-sorted_after : goal.returns-clause-sorted_after
returns-clause-sorted_after c =
    let a = c.args in
    let l = c.loop-i in
    through-ends (kept_row a.kept.now a.n) _ l.sorted a.count l.i l.carried (omega arith) (omega arith) (omega arith) l.invariant.1.1
