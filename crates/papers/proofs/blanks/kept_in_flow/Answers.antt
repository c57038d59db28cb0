-- In a version that keeps blanks, the rows of the owner's mode. Assumes nothing.
use mathlib.Core.Bool.{not}
use mathlib.Core.Path.{◌≡◌, sym, ap, ◌∙◌, subst}
use Prim.Native.Nat.{ℕ, ◌+◌, ◌<◌}
use native.Mathlib.Omega.{arith}
use lib.ListN.{get_or}
use Rattle.formats.specs.Versions.{keeps_blanks}
use Rattle.models.specs.Index.{entry, owner_place, component_place, mode_place, span_rows, GoodSpan}
use Rattle.rules.specs.Runs as runs
use Rattle.rules.proofs.ListFacts.{test-failed, test-passed, first-fails, first_passes}
use Rattle.papers.specs.Blanks.{owner_in, still_at}
use Rattle.papers.proofs.StandingLaws.{mode-within}
use Rattle.papers.proofs.blanks.kept_in_flow.Goals.{After-keeps_blanks, After-number_at-owner}
use Rattle.papers.proofs.blanks.kept_in_flow.Goals as goal

pub version_of-requires : goal.version_of-requires
version_of-requires c = tt

pub keeps_blanks-requires : goal.keeps_blanks-requires
keeps_blanks-requires c = tt

-- what the version says
keeps : (c : After-keeps_blanks) → c.keeps_blanks.result ≡ keeps_blanks (entry c.args.index.now 11)
keeps c = c.keeps_blanks.ensures ∙ ap keeps_blanks c.version_of.ensures

pub returns-then-not-keeps_blanks : goal.returns-then-not-keeps_blanks
unfolding still_at
returns-then-not-keeps_blanks c = first-fails _ _ (test-failed c.keeps_blanks.result (ap not c.if-not-keeps_blanks.true) (keeps (goal.at.returns-then-not-keeps_blanks c).After-keeps_blanks))

pub overflow_add-v : goal.overflow_add-v
overflow_add-v c = omega (arith, c.requires.known_modes.1, c.requires.good_index.0.most)

pub number_at-owner-requires : goal.number_at-owner-requires
number_at-owner-requires c = omega (arith, c.requires.known_modes.1, c.requires.good_index.0.most)

-- the owner is one of the components
owner-is : (c : After-number_at-owner) → c.number_at-owner.result ≡ owner_in c.args.index.now c.args.v
unfolding owner_place
owner-is c = c.number_at-owner.ensures

owner-known : (c : After-number_at-owner) → c.number_at-owner.result < entry c.args.index.now 1
owner-known c =
    omega (arith, owner-is c, c.requires.good_index.0.owners c.args.v c.requires.known_modes.1)

pub bounds-modes-owner : goal.bounds-modes-owner
bounds-modes-owner c = omega (arith, owner-known c, c.requires.good_index.0.few)

pub mode_place-place-requires : goal.mode_place-place-requires
mode_place-place-requires c = (omega (arith, owner-known c, c.requires.good_index.0.few), omega arith)

pub number_at-requires : goal.number_at-requires
number_at-requires c = omega arith

pub unmentioned-requires : goal.unmentioned-requires
unmentioned-requires c =
    let g = c.requires.good_index.0 in
    let index = c.args.index.now in
    let k = c.number_at-owner.result in
    let h = owner-known (goal.at.unmentioned-requires c).After-number_at-owner in
    let known = c.requires.known_modes.0.known k h in
    let place = c.mode_place-place in
    let room : place.result + 1 < 1004 = omega (arith, place.ensures, mode-within k (get_or c.args.modes k 0) 5 (omega (arith, h, g.few)) (omega (arith, known, (g.blocks k h).most)) (omega arith)) in
    let span = ((g.blocks k h).modes (get_or c.args.modes k 0) known).flow in
    let there = subst (λ (i : ℕ). GoodSpan c.args.model.now (entry index 11) (entry index 0) index i) (sym place.ensures) span in record { s_len_bound = (c.requires.good_index.1, (room, subst (λ (n : ℕ). GoodSpan c.args.model.now (entry index 11) n index place.result) (sym c.number_at.ensures) there)); i_lt_count = (omega (arith, c.requires.known_modes.1, c.number_at.ensures), omega (arith, c.number_at.ensures, g.most)) }

pub returns : goal.returns
unfolding still_at
returns c =
    let a = c.args in
    let index = a.index.now in
    let k = c.number_at-owner.result in
    let told : c.unmentioned.result ≡ runs.unmentioned a.v (span_rows a.model.now (entry index 11) (entry index 0) index (mode_place (component_place (owner_in index a.v)) (get_or a.modes (owner_in index a.v) 0) + 5)) =
    c.unmentioned.ensures
    ∙ ap (λ (n : ℕ). runs.unmentioned a.v (span_rows a.model.now (entry index 11) n index c.mode_place-place.result)) c.number_at.ensures
    ∙ ap (λ (p : ℕ). runs.unmentioned a.v (span_rows a.model.now (entry index 11) (entry index 0) index p)) c.mode_place-place.ensures
    ∙ ap (λ (o : ℕ). runs.unmentioned a.v (span_rows a.model.now (entry index 11) (entry index 0) index (mode_place (component_place o) (get_or a.modes o 0) + 5))) (owner-is (goal.at.returns c).After-number_at-owner) in
    first_passes _ _ (test-passed c.keeps_blanks.result (ap not c.if-not-keeps_blanks.false) (keeps (goal.at.returns c).After-keeps_blanks)) told
