-- The read-loop law: the components so far, in front of those to come, are all of them. Assumes nothing.
use Rattle.std.proofs.Common.{rules, Err, ◌≡◌}
use Prim.Native.Nat.{◌+◌, ◌*◌}
use native.Mathlib.Omega.{arith}
use Rattle.models.specs.Index.{component_from, component_place}
use Rattle.fields.specs.Answers.{got_as}
use Rattle.fields.proofs.ChainLaws.{told_at}
use Rattle.models.proofs.IndexLaws.{agree-low}
use Rattle.formats.specs.Model.{read_component}
use Rattle.models.proofs.FillLoop.{fill-starts, fill_stops, fill-goes-on, fill-ends}
use Rattle.models.proofs.ComponentLaws.{component-same, blocks-next}
use Rattle.models.proofs.model.components_into.Goals as goal

pub loop-k-init : goal.loop-k-init
loop-k-init c =
    let a = c.args in
    let s = a.s.now in
    (fill-starts (read_component a.version a.n) (λ x i. component_from s a.version a.n x (component_place i)) a.count s a.at 16 892 a.index.now, (λ i h. absurd (omega arith)))

pub overflow_mul-k : goal.overflow_mul-k
overflow_mul-k c = omega (arith, c.requires.n_bound, c.loop-k-test.true)

pub component_into-requires : goal.component_into-requires
component_into-requires c = record { sized = record { short = c.requires.sized.short; long = omega (arith, c.requires.sized.long, c.loop-k.invariant.0.1.0) }; n_bound = (c.requires.n_bound.0, omega (arith, c.requires.n_bound, c.loop-k-test.true)) }

pub returns-in_err-place : goal.returns-in_err-place
unfolding got_as component_place
returns-in_err-place c =
    let a = c.args in
    let s = a.s.now in
    let loop = c.loop-k in
    let into = c.component_into in
    let x = loop.index in
    let y = into.new.index in let same : c.from_residual.result ≡ Err c.in_err-place.field-0.0 = search rules in
    let both = fill_stops (read_component a.version a.n) (λ x i. component_from s a.version a.n x (component_place i)) a.count s a.at 16 892 a.index.now x y loop.k loop.place loop.invariant.0 c.loop-k-test.true into.result into.ensures.result_after (16 + 219 * loop.k) (16 + 219 * loop.k + 219) (omega arith) (omega (arith, c.requires.n_bound, c.loop-k-test.true)) into.ensures.kept c.in_err-place.was same in
    record { result_after = both.0; kept = both.1 }

pub loop-k-preserved : goal.loop-k-preserved
unfolding component_place
loop-k-preserved c =
    let a = c.args in
    let s = a.s.now in
    let loop = c.loop-k in
    let into = c.component_into in
    let x = loop.index in
    let y = into.new.index in
    let read = told_at (component_from s a.version a.n y (16 + 219 * loop.k)) (read_component a.version a.n s loop.place) into.ensures.result_after c.in_ok-place.was in (
      fill-goes-on (read_component a.version a.n) (λ x i. component_from s a.version a.n x (component_place i)) a.count s a.at 16 892 a.index.now x y loop.k loop.place loop.invariant.0 c.loop-k-test.true into.result into.ensures.result_after (16 + 219 * loop.k) (16 + 219 * loop.k + 219) (omega arith) (omega (arith, c.requires.n_bound, c.loop-k-test.true)) into.ensures.kept c.in_ok-place.was
          into.auto.index
          (λ i h. component-same s a.version a.n x y (16 + 219 * i) (loop.invariant.1 i h).0 (loop.invariant.1 i h).1 (agree-low into.ensures.kept (omega arith))),
      blocks-next s a.version a.n x y loop.k loop.place c.in_ok-place.place loop.invariant.1 into.ensures.kept read,
    )

pub shape_of-index : goal.shape_of-index
shape_of-index c = c.loop-k.invariant.0.1.0

pub returns : goal.returns
unfolding got_as
returns c =
    let a = c.args in
    let s = a.s.now in
    let loop = c.loop-k in let both = fill-ends (read_component a.version a.n) (λ x i. component_from s a.version a.n x (component_place i)) a.count s a.at 16 892 a.index.now loop.index loop.k loop.place loop.invariant.0 (omega (arith, c.loop-k-test.false)) in record { result_after = both.0; kept = both.1 }
