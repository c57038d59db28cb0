-- The read-loop law: the switches so far, in front of those to come, are all of them. Assumes nothing.
use Rattle.std.proofs.Common.{rules, Err, ◌≡◌}
use Prim.Native.Nat.{◌+◌, ◌*◌}
use native.Mathlib.Omega.{arith}
use Rattle.models.specs.Index.{switch_from, switch_place}
use Rattle.fields.specs.Answers.{got_as}
use Rattle.models.proofs.IndexLaws.{agree-low, switch-same}
use Rattle.formats.specs.Model.{read_switch}
use Rattle.models.proofs.FillLoop.{fill-starts, fill_stops, fill-goes-on, fill-ends}
use Rattle.models.proofs.model.switches_into.Goals as goal

pub loop-j-init : goal.loop-j-init
loop-j-init c =
    let a = c.args in
    let s = a.s.now in
    fill-starts (read_switch a.version a.n a.may.alphabet a.may.modes) (λ x i. switch_from s a.version a.n x (switch_place a.block i)) a.count s a.at (a.block + 59) (a.block + 219) a.index.now

pub overflow_add-block : goal.overflow_add-block
overflow_add-block c = omega (arith, c.requires.n_bound)

pub overflow_mul-j : goal.overflow_mul-j
overflow_mul-j c = omega (arith, c.requires.n_bound, c.loop-j-test.true)

pub overflow_add-block-in-loop-j : goal.overflow_add-block-in-loop-j
overflow_add-block-in-loop-j c = omega (arith, c.requires.n_bound, c.loop-j-test.true)

pub switch_into-requires : goal.switch_into-requires
switch_into-requires c = record { sized = record { short = c.requires.sized.short; long = omega (arith, c.requires.sized.long, c.loop-j.invariant.1.0) }; n_bound = (c.requires.n_bound.0, (c.requires.n_bound.1.0, omega (arith, c.requires.n_bound, c.loop-j-test.true))) }

pub returns-in_err-place : goal.returns-in_err-place
unfolding got_as switch_place
returns-in_err-place c =
    let a = c.args in
    let s = a.s.now in
    let loop = c.loop-j in
    let into = c.switch_into in
    let x = loop.index in
    let y = into.new.index in let same : c.from_residual.result ≡ Err c.in_err-place.field-0.0 = search rules in
    let both = fill_stops (read_switch a.version a.n a.may.alphabet a.may.modes) (λ x i. switch_from s a.version a.n x (switch_place a.block i)) a.count s a.at (a.block + 59) (a.block + 219) a.index.now x y loop.j loop.place loop.invariant c.loop-j-test.true into.result into.ensures.result_after (a.block + 59 + 5 * loop.j) (a.block + 59 + 5 * loop.j + 5) (omega arith) (omega (arith, c.requires.n_bound, c.loop-j-test.true)) into.ensures.kept c.in_err-place.was same in
    record { result_after = both.0; kept = both.1 }

pub loop-j-preserved : goal.loop-j-preserved
unfolding switch_place
loop-j-preserved c =
    let a = c.args in
    let s = a.s.now in
    let loop = c.loop-j in
    let into = c.switch_into in
    let x = loop.index in
    let y = into.new.index in
    fill-goes-on (read_switch a.version a.n a.may.alphabet a.may.modes) (λ x i. switch_from s a.version a.n x (switch_place a.block i)) a.count s a.at (a.block + 59) (a.block + 219) a.index.now x y loop.j loop.place loop.invariant c.loop-j-test.true into.result into.ensures.result_after (a.block + 59 + 5 * loop.j) (a.block + 59 + 5 * loop.j + 5) (omega arith) (omega (arith, c.requires.n_bound, c.loop-j-test.true)) into.ensures.kept c.in_ok-place.was
    into.auto.index
    (λ i h. switch-same s a.version a.n x y (a.block + 59 + 5 * i) (agree-low into.ensures.kept (omega arith)))

pub shape_of-index : goal.shape_of-index
shape_of-index c = c.loop-j.invariant.1.0

pub returns : goal.returns
unfolding got_as
returns c =
    let a = c.args in
    let s = a.s.now in
    let loop = c.loop-j in let both = fill-ends (read_switch a.version a.n a.may.alphabet a.may.modes) (λ x i. switch_from s a.version a.n x (switch_place a.block i)) a.count s a.at (a.block + 59) (a.block + 219) a.index.now loop.index loop.j loop.place loop.invariant (omega (arith, c.loop-j-test.false)) in record { result_after = both.0; kept = both.1 }
