-- The rows that are left hold exactly when all do. Assumes nothing.
use mathlib.Core.Path.{◌≡◌, refl, ap, ◌∙◌}
use mathlib.Core.Bool.{Bool}
use Prim.Native.Nat.{ℕ, ◌+◌, ◌*◌}
use native.Mathlib.Omega.{arith}
use lib.ListN.{take}
use Rattle.farkas.specs.Lists.{every}
use Rattle.farkas.specs.Rows.{row_holds}
use Rattle.fields.specs.Places.{row_at}
use Rattle.formats.specs.Joint.{count_up}
use Rattle.formats.specs.Versions.{row_bytes}
use Rattle.models.specs.Index.{entry, span_rows}
use Rattle.rules.specs.Runs as runs
use Rattle.steps.proofs.ValueLoops.{each-pass, each-fail, each_none}
use Rattle.steps.proofs.ValueLaws.{rows-range}
use Rattle.steps.proofs.rows.condition_holds.Goals.{After-number_at-first, After-row_holds}
use Rattle.steps.proofs.rows.condition_holds.Goals as goal

-- what is asked of a row, and of all
abbrev test : After-number_at-first → ℕ → Bool
test c j =
    let a = c.args in
    row_holds a.q (take a.count a.point.now) (row_at a.s.now c.version_of-version.result a.count (c.number_at-first.result + row_bytes c.version_of-version.result a.count * j)).row

whole : (c : After-number_at-first) → every (test c) (count_up 0 c.number_at-rows.result) ≡ runs.condition_holds c.args.q (take c.args.count c.args.point.now) (span_rows c.args.s.now (entry c.args.index.now 11) c.args.count c.args.index.now c.args.place)
whole c =
    let a = c.args in
    let version = c.version_of-version in
    let first = c.number_at-first in
    ap (λ (n : ℕ). every (test c) (count_up 0 n)) c.number_at-rows.ensures
    ∙ rows-range a.s.now (entry a.index.now 11) a.count a.q (take a.count a.point.now) a.index.now a.place version.result first.result (row_bytes version.result a.count) version.ensures first.ensures refl

-- what a turn tells of its row
told : (c : After-row_holds) → c.row_holds.result ≡ test (goal.at.After-row_holds c).After-number_at-first c.loop-j.j
told c =
    let a = c.args in
    c.row_holds.ensures
    ∙ ap (λ (size : ℕ). row_holds a.q (take a.count a.point.now) (row_at a.s.now c.version_of-version.result a.count (c.number_at-first.result + size * c.loop-j.j)).row) c.row_bytes.ensures

pub returns-then-not-row_holds : goal.returns-then-not-row_holds
returns-then-not-row_holds c =
    let start = (goal.at.returns-then-not-row_holds c).After-number_at-first in
    let rows = c.number_at-rows.result in
    each-fail (test start) rows c.loop-j.j (every (test start) (count_up 0 rows)) c.row_holds.result c.loop-j-test.true (told (goal.at.returns-then-not-row_holds c).After-row_holds) c.if-not-row_holds.true c.loop-j.invariant ∙ whole start

pub loop-j-preserved : goal.loop-j-preserved
loop-j-preserved c =
    let start = (goal.at.loop-j-preserved c).After-number_at-first in
    let rows = c.number_at-rows.result in
    each-pass (test start) rows c.loop-j.j (every (test start) (count_up 0 rows)) c.row_holds.result c.loop-j-test.true (told (goal.at.loop-j-preserved c).After-row_holds) c.if-not-row_holds.false c.loop-j.invariant

pub returns : goal.returns
returns c =
    let start = (goal.at.returns c).After-number_at-first in
    let rows = c.number_at-rows.result in
    each_none (test start) rows c.loop-j.j (every (test start) (count_up 0 rows)) (omega arith) c.loop-j.invariant ∙ whole start
