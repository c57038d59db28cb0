-- Owners alone where no blank is kept; else all that a jump keeps. Assumes nothing.
use mathlib.Core.Path.{◌≡◌, sym, ap, ◌∙◌}
use mathlib.Core.Bool.{Bool}
use Prim.Native.Nat.{ℕ, ◌≤◌}
use native.Mathlib.Omega.{arith}
use borrow.Author.Rules.{rules}
use borrow.Author.Tests.{tests}
use lib.ListN.{length}
use Rattle.farkas.specs.Lists.{every}
use Rattle.formats.specs.Joint.{count_up}
use Rattle.formats.specs.Versions.{keeps_blanks}
use Rattle.models.specs.Index.{model_from, entry}
use Rattle.models.specs.Counts.{per_component}
use Rattle.papers.specs.Blanks.{rests_at, stays_at, KnownIn, keeps_at}
use Rattle.rules.specs.Runs as runs
use Rattle.steps.specs.Held.{state_of, values_after, kept_at}
use Rattle.std.proofs.lemmas.Iterator.{serves_from_Range}
use Rattle.steps.proofs.ValueLaws.{kept_of}
use Rattle.steps.proofs.ValueLoops.{all-range}
use Rattle.steps.proofs.ValueStates.{owned-all, staying-told}
use Rattle.steps.proofs.values.staying_kept.Goals.{Start}
use Rattle.steps.proofs.values.staying_kept.Goals as goal

-- how long the array is
switches-length : (c : Start) → length c.args.switches ≡ 4
switches-length c = search rules

-- what is asked of a variable
abbrev asked : Start → ℕ → Bool
asked c = kept_at (rests_at c.args.model.now c.args.index.now c.args.switches) (entry c.args.index.now 0) c.args.state.now

-- all variables, as the definition has them
whole_is : (c : Start) (location : ℕ) → every (asked c) (count_up 0 (entry c.args.index.now 0)) ≡ runs.staying_kept (model_from c.args.model.now c.args.index.now) (state_of c.args.index.now location c.args.state.now) (per_component c.args.index.now c.args.switches) (values_after c.args.index.now c.args.state.now)
whole_is c location =
    let long : entry c.args.index.now 1 ≤ length c.args.switches = omega (arith, switches-length c, c.requires.good_index.0.few) in
    staying-told c.requires.good_index.0 c.args.switches c.requires.known_switches.0 long location c.args.state.now

pub returns-then-not-keeps_blanks : goal.returns-then-not-keeps_blanks
returns-then-not-keeps_blanks c =
    let a = c.args in
    let index = a.index.now in
    let n = c.number_at-n in
    let keeps = c.keeps_blanks in
    let free : keeps.result ≡ keeps_blanks (entry index 11) = keeps.ensures ∙ ap keeps_blanks c.version_of.ensures in
    λ location.
    all-range (kept_at (stays_at index a.switches) (entry index 0) a.state.now) n.result (entry index 0) n.ensures c.all.ensures.ran (λ x b q k. search (rules, tests, kept_of))
    ∙ owned-all a.model.now index a.switches (entry index 0) a.state.now (sym free ∙ c.if-not-keeps_blanks.true) ∙ whole_is (goal.at.returns-then-not-keeps_blanks c).Start location

pub all-requires-2-clause-callable : goal.all-requires-2-clause-callable
unfolding KnownIn
all-requires-2-clause-callable c = serves_from_Range (λ x q k. search (rules, tests)) (λ x low high. search rules)

pub returns : goal.returns
unfolding keeps_at
returns c =
    let a = c.args in
    let index = a.index.now in
    let n = c.number_at-n in
    let rests = rests_at a.model.now index a.switches in
    λ location.
    all-range (kept_at rests (entry index 0) a.state.now) n.result (entry index 0) n.ensures c.all-2.ensures.ran (λ x b q k. search (rules, tests, kept_of))
    ∙ whole_is (goal.at.returns c).Start location
