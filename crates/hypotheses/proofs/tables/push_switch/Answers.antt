-- Nothing for a component that stays, else the rows of its switch. Assumes nothing.
use mathlib.Core.Path.{◌≡◌, sym, ap, ◌∙◌, subst}
use mathlib.Core.Bool.{false}
use Prim.Native.Nat.{ℕ, ◌+◌, ◌≤◌}
use native.Mathlib.Omega.{arith}
use borrow.Author.Tests.{eq-eqb, ne_eqb}
use lib.Dec.{eqb}
use lib.ListN.{length}
use Rattle.formats.specs.Joint.{stays}
use Rattle.models.specs.Index.{entry, component_place, switch_place}
use Rattle.hypotheses.specs.Listing.{kept_lines}
use Rattle.hypotheses.proofs.TableLaws.{pushed, pushed_none, pushed-as, as-promised}
use Rattle.hypotheses.proofs.ModeLines.{switch-within, switch-stays, switch-moves}
use borrow.Author.Rules.{rules}
use Rattle.hypotheses.proofs.tables.push_switch.Goals as goal

pub returns : goal.returns
unfolding stays
returns c =
    let index = c.args.index.now in
    let moves : eqb c.args.i stays ≡ false = ne_eqb c.args.i 255 c.if-i-eq255.false in let both = as-promised (pushed-as (ap (kept_lines 7 c.args.k index) c.switch_place.ensures ∙ sym (switch-moves index c.args.k c.args.i moves)) (pushed (c.push_kept.ensures.result_after, c.push_kept.ensures.onto))) in record { result_after = both.0; onto = both.1 }

pub returns-then-i-eq255 : goal.returns-then-i-eq255
unfolding stays
returns-then-i-eq255 c = let a = c.args in let both = as-promised (pushed-as (sym (switch-stays a.index.now a.k a.i (eq-eqb a.i 255 c.if-i-eq255.true))) (pushed_none a.table.now a.at 1 c.requires.in_bounds.1.1)) in record { result_after = both.0; onto = both.1 }

pub push_kept-requires : goal.push_kept-requires
unfolding stays
push_kept-requires c =
    let index = c.args.index.now in
    let moves : eqb c.args.i stays ≡ false = ne_eqb c.args.i 255 c.if-i-eq255.false in
    let e : c.switch_place.result ≡ switch_place (component_place c.args.k) c.args.i + 3 = c.switch_place.ensures in
    let long : 1004 ≤ length index = search rules in
    let fits = switch-within c.args.k c.args.i c.requires.k_bound.0 (c.requires.k_bound.1.small moves) in
    let few : entry index (c.switch_place.result + 1) ≤ 8 = subst (λ (p : ℕ). entry index (p + 1) ≤ 8) (sym e) (c.requires.k_bound.1.few moves) in record { kept_in_bounds = (omega (arith, e, fits, long), omega (arith, few)); in_bounds = c.requires.in_bounds }
