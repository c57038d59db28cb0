-- Counts, modes and switches in a chain; each keeps the numbers of those before it. Assumes nothing.
use Rattle.std.proofs.Common.{rules, Err, ◌≡◌, sym, ap, ◌∙◌}
use native.Mathlib.Omega.{arith}
use Rattle.formats.specs.Reading.{got, many}
use Rattle.models.specs.Index.{entry, mode_from, mode_place, switch_from, switch_place, Counts, read_counts, counts_from}
use Rattle.fields.specs.Answers.{got_as}
use Rattle.fields.proofs.ChainLaws.{told_at, told-refused}
use Rattle.fields.proofs.AnswerLaws.{next-refused}
use Rattle.fields.specs.Causes.{number_of}
use Rattle.models.proofs.IndexLaws.{kept_then, kept-wider}
use Rattle.formats.specs.Model.{read_mode}
use Rattle.formats.specs.Joint.{count_up}
use mathlib.Core.List.{map}
use Rattle.models.proofs.ComponentLaws.{SmallCounts, counts-small, component-first, component-second, component-read, component-whole}
use Rattle.models.proofs.model.component_into.Goals.{In_ok-second}
use Rattle.models.proofs.model.component_into.Goals as goal

-- the counts that were read, and that they are small
module _ (c : In_ok-second) where
  abbrev counts : Counts
  counts = counts_from c.counts_into.new.index c.args.block

  one : read_counts c.args.s.now c.args.at ≡ got counts c.in_ok-second.second
  one = told_at counts (read_counts c.args.s.now c.args.at) c.counts_into.ensures.result_after c.in_ok-second.was

  small : SmallCounts counts
  small = counts-small _ _ _ _ one

pub bounds-index-block : goal.bounds-index-block
bounds-index-block c = omega (arith, c.requires.sized.long, c.requires.n_bound, c.counts_into.auto.index)

pub bounds-index-block-2 : goal.bounds-index-block-2
bounds-index-block-2 c = omega (arith, c.requires.sized.long, c.requires.n_bound, c.counts_into.auto.index)

pub bounds-index-block-3 : goal.bounds-index-block-3
bounds-index-block-3 c = omega (arith, c.requires.sized.long, c.requires.n_bound, c.counts_into.auto.index)

pub overflow_cast-modes : goal.overflow_cast-modes
unfolding entry counts_from
overflow_cast-modes c = omega (arith, (small (goal.at.overflow_cast-modes c).In_ok-second).most)

pub modes_into-requires : goal.modes_into-requires
unfolding entry counts_from
modes_into-requires c = let p = c.requires in record { sized = record { short = p.sized.short; long = omega (arith, p.sized.long, c.counts_into.auto.index) }; n_bound = (omega (arith, p.n_bound), (p.n_bound.1, (small (goal.at.modes_into-requires c).In_ok-second).most)) }

pub switches_into-requires : goal.switches_into-requires
unfolding entry counts_from
switches_into-requires c =
    let p = c.requires in
    let few = small (goal.at.switches_into-requires c).In_ok-second in record { sized = record { short = p.sized.short; long = omega (arith, p.sized.long, c.counts_into.auto.index, c.modes_into.auto.index) }; n_bound = (p.n_bound.0, (few.most, (p.n_bound.1, few.few))) }

pub returns-in_err-second : goal.returns-in_err-second
unfolding got_as
returns-in_err-second c =
    let a = c.args in
    let s = a.s.now in
    let x = c.counts_into.new.index in
    let same : c.from_residual.result ≡ Err c.in_err-second.field-0.0 = search rules in
    record { result_after = next-refused _ same ∙ sym (component-first a.version a.n s a.at (number_of c.in_err-second.field-0.0.0) c.in_err-second.field-0.0.1 (told-refused (counts_from x a.block) (read_counts s a.at) c.counts_into.ensures.result_after c.in_err-second.was)); kept = kept-wider (omega arith) (omega arith) c.counts_into.ensures.kept }

pub returns-in_err-third : goal.returns-in_err-third
unfolding got_as entry counts_from
returns-in_err-third c =
    let a = c.args in
    let size = (counts (goal.at.returns-in_err-third c).In_ok-second).modes in
    let modes = c.modes_into in
    let ms = map (λ j. mode_from a.s.now a.version a.n modes.new.index (mode_place a.block j)) (count_up 0 size) in
    let same : c.from_residual-in_err-third.result ≡ Err c.in_err-third.field-0.0 = search rules in
    record { result_after = next-refused _ same ∙ sym (component-second _ _ _ _ _ _ (one (goal.at.returns-in_err-third c).In_ok-second) _ _ (told-refused ms (many size (read_mode a.version a.n) a.s.now c.in_ok-second.second) modes.ensures.result_after c.in_err-third.was)); kept = kept_then (kept-wider (omega arith) (omega arith) c.counts_into.ensures.kept) (kept-wider (omega arith) (omega arith) modes.ensures.kept) }

pub returns : goal.returns
unfolding entry counts_from
returns c =
    let a = c.args in
    let modes = c.modes_into in
    let switches = c.switches_into in
    let size = (counts (goal.at.returns c).In_ok-second).modes in
    let x = c.counts_into.new.index in
    let y = modes.new.index in
    let z = switches.new.index in
    let ms = map (λ j. mode_from a.s.now a.version a.n y (mode_place a.block j)) (count_up 0 size) in
    let third = c.in_ok-third.third in
    let two : many size (read_mode a.version a.n) a.s.now c.in_ok-second.second ≡ got ms third = told_at ms (many size (read_mode a.version a.n) a.s.now c.in_ok-second.second) modes.ensures.result_after c.in_ok-third.was in
    let ws = map (λ i. switch_from a.s.now a.version a.n z (switch_place a.block i)) (count_up 0 (counts (goal.at.returns c).In_ok-second).switches) in
    let e = component-read a.version a.n a.s.now a.at (counts (goal.at.returns c).In_ok-second) c.in_ok-second.second (one (goal.at.returns c).In_ok-second) ms third two ws switches.result switches.ensures.result_after in record { result_after = ap (λ w. got_as w switches.result) (component-whole a.s.now a.version a.n x y z a.block (small (goal.at.returns c).In_ok-second) modes.ensures.kept switches.ensures.kept) ∙ e; kept = kept_then (kept-wider (omega arith) (omega arith) c.counts_into.ensures.kept) (kept_then (kept-wider (omega arith) (omega arith) modes.ensures.kept) (kept-wider (omega arith) (omega arith) switches.ensures.kept)) }
