-- Alphabet, counts, modes, switches. Assumes nothing.
use mathlib.Core.Path.{◌≡◌, sym, subst}
use Prim.Native.Nat.{ℕ, ◌+◌, ◌*◌, ◌<◌}
use Rattle.models.specs.Index.{entry, component_place, GoodBlock}
use Rattle.writing.specs.Writing.{half}
use Rattle.buffers.specs.Written.{Written}
use Rattle.buffers.proofs.WritingLaws.{left-all, left-on, left-last, left_as, as-half}
use Rattle.fair_copies.specs.declared.parts.Items.{Items}
use Rattle.fair_copies.specs.Items.{items_bytes, GoodItems}
use Rattle.fair_copies.proofs.PartLaws.{component-parts, two-small, modes-good, switches-good}
use native.Mathlib.Omega.{arith}
use Rattle.fair_copies.proofs.parts.put_component.Goals.{Start}
use Rattle.fair_copies.proofs.parts.put_component.Goals as goal

-- there are at most four components
few : (s : Start) → s.args.k < 4
few s = omega (arith, s.requires.copyable.1, s.requires.copyable.0.good.few)

blocked : (s : Start) → GoodBlock s.args.model.now (entry s.args.index.now 11) (entry s.args.index.now 0) s.args.index.now (component_place s.args.k)
blocked s = s.requires.copyable.0.good.blocks s.args.k s.requires.copyable.1

onward : (block : ℕ) → block + 2 ≡ block + 1 + 1
onward block = omega arith

pub put_entries-counts-requires : goal.put_entries-counts-requires
unfolding component_place
put_entries-counts-requires c =
    let g = blocked (goal.at.put_entries-counts-requires c).Start in
    let block = 16 + 219 * c.args.k in
    (omega (arith, c.put_half-alphabet.ensures.0, c.requires.at_bound), (omega (arith, few (goal.at.put_entries-counts-requires c).Start), two-small c.args.index.now (block + 1) (omega (arith, g.most)) (subst (λ (p : ℕ). entry c.args.index.now p < 256) (onward block) (omega (arith, g.few)))))

pub put_items-modes-requires : goal.put_items-modes-requires
unfolding component_place
put_items-modes-requires c =
    let g = c.requires.copyable.0 in record { model_len_bound = (g.short, subst (λ (x : Items). GoodItems c.args.model.now c.args.index.now x) (sym c.modes_of.ensures) (modes-good c.args.model.now c.args.index.now g c.args.k c.requires.copyable.1)); at_bound = omega (arith, c.put_entries-counts.ensures.value, c.put_half-alphabet.ensures.0, c.requires.at_bound) }

pub put_items-requires : goal.put_items-requires
unfolding component_place
put_items-requires c =
    let g = c.requires.copyable.0 in
    let m = c.put_items-modes in record { model_len_bound = (g.short, subst (λ (x : Items). GoodItems c.args.model.now c.args.index.now x) (sym c.switches_of.ensures) (switches-good c.args.model.now c.args.index.now g c.args.k c.requires.copyable.1)); at_bound = omega (arith, m.ensures.upper_bound, c.put_entries-counts.ensures.value, c.put_half-alphabet.ensures.0, c.requires.at_bound) }

pub returns : goal.returns
unfolding component_place entry
returns c =
    let a = c.args in
    let model = a.model.now in
    let index = a.index.now in
    let alphabet = c.put_half-alphabet in
    let counts = c.put_entries-counts in
    let modes = c.put_items-modes in
    let switches = c.put_items in
    let first = subst (λ (x : ℕ). Written a.out.now a.at (half x) alphabet.new.out alphabet.result) c.from.ensures (as-half _ alphabet.ensures) in
    let third = subst (λ (x : Items). Written counts.new.out counts.result (items_bytes model index x) modes.new.out modes.result) c.modes_of.ensures modes.ensures.written in
    let fourth = subst (λ (x : Items). Written modes.new.out modes.result (items_bytes model index x) switches.new.out switches.result) c.switches_of.ensures switches.ensures.written in record { written = left-last _ (left-on _ _ (left-on _ _ (left-on _ _ (left_as (component-parts model index a.k) (left-all a.out.now a.at _)) first) counts.ensures.written) third) fourth; upper_bound = omega (arith, switches.ensures.upper_bound, modes.ensures.upper_bound, counts.ensures.value, alphabet.ensures.0) }
