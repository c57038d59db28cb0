-- In a version that keeps blanks, the rows of the switch. Assumes nothing.
use mathlib.Core.Bool.{not}
use mathlib.Core.Path.{◌≡◌, sym, ap, ◌∙◌, subst}
use Prim.Native.Nat.{ℕ, ◌+◌, ◌*◌, ◌<◌}
use native.Mathlib.Omega.{arith}
use Rattle.formats.specs.Versions.{keeps_blanks}
use Rattle.models.specs.Index.{entry, component_place, switch_place, span_rows, GoodSpan}
use Rattle.rules.specs.Runs as runs
use Rattle.rules.proofs.ListFacts.{test-failed, test-passed, first-fails, first_passes}
use Rattle.papers.specs.Blanks.{lands_at}
use Rattle.papers.proofs.StandingLaws.{switch-within}
use Rattle.papers.proofs.blanks.blank_in_jump.Goals.{After-keeps_blanks}
use Rattle.papers.proofs.blanks.blank_in_jump.Goals as goal

pub version_of-requires : goal.version_of-requires
version_of-requires c = tt

pub keeps_blanks-requires : goal.keeps_blanks-requires
keeps_blanks-requires c = tt

-- what the version says
keeps : (c : After-keeps_blanks) → c.keeps_blanks.result ≡ keeps_blanks (entry c.args.index.now 11)
keeps c = c.keeps_blanks.ensures ∙ ap keeps_blanks c.version_of.ensures

pub returns-then-not-keeps_blanks : goal.returns-then-not-keeps_blanks
unfolding lands_at
returns-then-not-keeps_blanks c = first-fails _ _ (test-failed c.keeps_blanks.result (ap not c.if-not-keeps_blanks.true) (keeps (goal.at.returns-then-not-keeps_blanks c).After-keeps_blanks))

pub switch_place-place-requires : goal.switch_place-place-requires
switch_place-place-requires c = omega (arith, c.requires.owner_bound.0, c.requires.good_index.0.few)

pub number_at-n-requires : goal.number_at-n-requires
number_at-n-requires c = omega arith

pub overflow_mul-n : goal.overflow_mul-n
overflow_mul-n c = omega (arith, c.number_at-n.ensures, c.requires.good_index.0.most)

pub overflow_add-n : goal.overflow_add-n
overflow_add-n c = omega (arith, c.number_at-n.ensures, c.requires.good_index.0.most, c.requires.owner_bound.1.1)

pub unmentioned-requires : goal.unmentioned-requires
unmentioned-requires c =
    let a = c.args in
    let g = c.requires.good_index.0 in
    let index = a.index.now in
    let h = c.requires.owner_bound.0 in
    let place = c.switch_place-place in
    let n = c.number_at-n in
    let room : place.result + 1 < 1004 = omega (arith, place.ensures, switch-within a.owner a.i (omega (arith, h, g.few)) (omega (arith, c.requires.owner_bound.1.0, (g.blocks a.owner h).few))) in
    let span = ((g.blocks a.owner h).switches a.i c.requires.owner_bound.1.0).jump in
    let there = subst (λ (i : ℕ). GoodSpan a.model.now (entry index 11) (2 * entry index 0) index i) (sym place.ensures) span in record { s_len_bound = (c.requires.good_index.1, (room, subst (λ (m : ℕ). GoodSpan a.model.now (entry index 11) (2 * m) index place.result) (sym n.ensures) there)); i_lt_count = (omega (arith, c.requires.owner_bound.1.1, n.ensures), omega (arith, n.ensures, g.most)) }

pub returns : goal.returns
unfolding lands_at
returns c =
    let a = c.args in
    let index = a.index.now in
    let told : c.unmentioned.result ≡ runs.unmentioned (entry index 0 + a.v) (span_rows a.model.now (entry index 11) (2 * entry index 0) index (switch_place (component_place a.owner) a.i + 3)) =
    c.unmentioned.ensures
    ∙ ap (λ (n : ℕ). runs.unmentioned (n + a.v) (span_rows a.model.now (entry index 11) (2 * n) index c.switch_place-place.result)) c.number_at-n.ensures
    ∙ ap (λ (p : ℕ). runs.unmentioned (entry index 0 + a.v) (span_rows a.model.now (entry index 11) (2 * entry index 0) index p)) c.switch_place-place.ensures in
    first_passes _ _ (test-passed c.keeps_blanks.result (ap not c.if-not-keeps_blanks.false) (keeps (goal.at.returns c).After-keeps_blanks)) told
