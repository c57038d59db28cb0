-- The read-loop law; the components are the same at each turn, since only numbers after their blocks change. Assumes nothing.
use Rattle.std.proofs.Common.{rules, Err, ◌≡◌, subst}
use mathlib.Core.List.{List}
use Prim.Native.Nat.{ℕ, ◌+◌, ◌*◌}
use native.Mathlib.Omega.{arith}
use Rattle.formats.specs.Model.{Unsafe, read_unsafe}
use Rattle.models.specs.Index.{component_place, unsafe_place, unsafe_from, components_from}
use Rattle.fields.specs.Answers.{got_as}
use Rattle.models.proofs.IndexLaws.{kept_at, agree-low}
use Rattle.models.proofs.FillLoop.{fill-starts, fill_stops, fill-goes-on, fill-ends}
use Rattle.models.proofs.UnsafeLaws.{unsafe-same, components-same}
use Rattle.models.proofs.unsafes.unsafes_into.Goals.{After-unsafe_into, Start}
use Rattle.models.proofs.unsafes.unsafes_into.Goals as goal

-- how an index tells an unsafe condition by its number
abbrev told-by : Start → List ℕ → ℕ → Unsafe
told-by s x j = unsafe_from s.args.s.now s.args.version s.args.n s.args.c x (unsafe_place j)

-- what a turn read is told of the components as they were before the loop
module _ (c : After-unsafe_into) where
  told : got_as (unsafe_from c.args.s.now c.args.version c.args.n c.args.c c.unsafe_into.new.index (892 + 6 * c.loop-u.u)) c.unsafe_into.result ≡ read_unsafe c.args.version c.args.n (components_from c.args.s.now c.args.index.now) c.args.s.now c.loop-u.place
  told =
      let l = c.loop-u in
      subst (λ all. got_as (unsafe_from c.args.s.now c.args.version c.args.n c.args.c c.unsafe_into.new.index (892 + 6 * l.u)) c.unsafe_into.result ≡ read_unsafe c.args.version c.args.n all c.args.s.now l.place)
      (components-same c.args.s.now c.args.index.now l.index (omega (arith, c.requires.n_bound)) (λ j l. c.requires.by_index j (omega (arith, c.requires.n_bound))) (agree-low l.invariant.1.1.1 (omega arith)))
      c.unsafe_into.ensures.result_after

pub loop-u-init : goal.loop-u-init
loop-u-init c =
    let a = c.args in
    let s = a.s.now in
    let old = a.index.now in
    fill-starts (read_unsafe a.version a.n (components_from s old)) (λ x j. unsafe_from s a.version a.n a.c x (unsafe_place j)) a.count s a.at 892 988 old

pub overflow_mul-u : goal.overflow_mul-u
overflow_mul-u c = omega (arith, c.requires.n_bound, c.loop-u-test.true)

pub unsafe_into-requires : goal.unsafe_into-requires
unfolding component_place
unsafe_into-requires c =
    let kept = c.loop-u.invariant.1.1.1 in
    let p = c.requires.n_bound in
    let ones = kept_at kept 1 (λ h l. omega arith) in record { sized = record { short = c.requires.sized.short; long = omega (arith, c.requires.sized.long, c.loop-u.invariant.1.0) }; n_bound = (p.0, (omega (arith, p.1.0, ones), (p.1.1.0, (omega arith, omega (arith, p.1.1.1, c.loop-u-test.true))))); by_index = λ k l. omega (arith, kept_at kept (16 + 219 * k + 1) (λ h m. omega (arith, p.1.1.0)), (c.requires.by_index k l).0) }

pub returns-in_err-place : goal.returns-in_err-place
unfolding got_as unsafe_place
returns-in_err-place c =
    let l = c.loop-u in
    let taken = c.loop-u-test.true in let same : c.from_residual.result ≡ Err c.in_err-place.field-0.0 = search rules in
    let both = fill_stops _ (told-by (goal.at.returns-in_err-place c).Start) _ _ _ 892 988 _ _ _ l.u _ l.invariant taken _ (told (goal.at.returns-in_err-place c).After-unsafe_into) (892 + 6 * l.u) (892 + 6 * l.u + 6) (omega arith) (omega (arith, c.requires.n_bound, taken)) c.unsafe_into.ensures.kept c.in_err-place.was same in
    record { result_after = both.0; kept = both.1 }

pub loop-u-preserved : goal.loop-u-preserved
unfolding unsafe_place
loop-u-preserved c =
    let a = c.args in
    let l = c.loop-u in
    let taken = c.loop-u-test.true in
    let into = c.unsafe_into in
    fill-goes-on _ (told-by (goal.at.loop-u-preserved c).Start) _ _ _ 892 988 _ _ _ l.u _ l.invariant taken _ (told (goal.at.loop-u-preserved c).After-unsafe_into) (892 + 6 * l.u) (892 + 6 * l.u + 6) (omega arith) (omega (arith, c.requires.n_bound, taken)) into.ensures.kept c.in_ok-place.was
    into.auto.index
    (λ j h. unsafe-same a.s.now a.version a.n a.c l.index into.new.index (892 + 6 * j) c.requires.n_bound.1.1.0 (agree-low into.ensures.kept (omega arith)))

pub shape_of-index : goal.shape_of-index
shape_of-index c = c.loop-u.invariant.1.0

pub returns : goal.returns
unfolding got_as
returns c =
    let a = c.args in
    let s = a.s.now in
    let old = a.index.now in
    let loop = c.loop-u in let both = fill-ends (read_unsafe a.version a.n (components_from s old)) (λ x j. unsafe_from s a.version a.n a.c x (unsafe_place j)) a.count s a.at 892 988 old loop.index loop.u loop.place loop.invariant (omega (arith, c.loop-u-test.false)) in record { result_after = both.0; kept = both.1 }
