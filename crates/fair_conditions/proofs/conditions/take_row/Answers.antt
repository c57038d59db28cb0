-- A row that is dropped leaves the order as it was; one that is taken goes through it. Assumes nothing.
use mathlib.Core.Path.{◌≡◌, subst}
use mathlib.Core.List.{map}
use Prim.Native.Nat.{ℕ, ◌+◌, ◌*◌}
use lib.ListN.{take}
use Rattle.farkas.specs.Words.{numbers_at}
use Rattle.fair_rows.specs.FairRows.{quotient}
use Rattle.fair_conditions.specs.Held.{kept_numbers, KeptOutside, kept_row}
use Rattle.fair_conditions.proofs.GatherLaws.{row-dropped, row-taken, among-stays, among-slips, among-all}
use native.Mathlib.Omega.{arith}
use Rattle.fair_conditions.proofs.conditions.take_row.Goals as goal

pub returns-then-divisor-eq0 : goal.returns-then-divisor-eq0
returns-then-divisor-eq0 c =
    let a = c.args in
    let d = c.row_divisor-divisor in record { result_after = λ rows e. row-dropped a.s.now a.at a.n d.result rows _ d.ensures c.if-divisor-eq0.true e; upper_bound = (omega arith, among-stays c.requires.in_bounds.1.1) }

pub insert-requires : goal.insert-requires
insert-requires c = record { in_bounds = (omega (arith, c.keep_divided.auto.kept, c.requires.numbers_in, c.requires.in_bounds), c.requires.numbers_in.1.0); count_in_bounds = (c.requires.in_bounds.1.0, (c.requires.numbers_in.1.1, among-all c.requires.in_bounds.1.1)) }

pub returns : goal.returns
returns c =
    let a = c.args in
    let d = c.row_divisor-divisor in
    let k = c.keep_divided in
    let i = c.insert in
    let base = c.row_base.ensures in
    let after = k.new.kept in
    let numbers : kept_numbers after (17 * a.j) (a.n + 1) ≡ map (quotient d.result) (numbers_at a.s.now a.at (a.n + 1)) = subst (λ (b : ℕ). kept_numbers after b (a.n + 1) ≡ map (quotient d.result) (numbers_at a.s.now a.at (a.n + 1))) base k.ensures.count_after in
    let outside : KeptOutside (17 * a.j) (a.n + 1) a.kept.now after = subst (λ (b : ℕ). KeptOutside b (a.n + 1) a.kept.now after) base k.ensures.kept_outside in record { result_after = λ rows e. row-taken a.s.now a.at a.n d.result a.kept.now after a.j c.requires.numbers_in.1.0 d.ensures c.if-divisor-eq0.false numbers outside (take a.count a.sorted.now) _ c.requires.in_bounds.1.1 i.ensures.sorted_after rows e; upper_bound = (i.ensures.upper_bound, among-slips (kept_row after a.n) a.j (take a.count a.sorted.now) _ c.requires.numbers_in.1.1 c.requires.in_bounds.1.1 i.ensures.sorted_after) }
