-- Counts, owners, components, unsafe conditions. Assumes nothing.
use mathlib.Core.Path.{sym, subst}
use Prim.Native.Nat.{ℕ}
use Rattle.models.specs.Index.{owner_place}
use Rattle.buffers.specs.Written.{Written}
use Rattle.buffers.proofs.WritingLaws.{left-all, left-on, left-last, left_as}
use Rattle.fair_copies.specs.Copyable.{entries}
use Rattle.fair_copies.specs.declared.parts.Items.{Items}
use Rattle.fair_copies.specs.Items.{items_bytes, GoodItems}
use Rattle.fair_copies.proofs.PartLaws.{conditions-good}
use Rattle.fair_copies.proofs.CopyLaws.{fields-parts}
use native.Mathlib.Omega.{arith}
use Rattle.fair_copies.proofs.copies.put_fields.Goals as goal

pub put_entries-owners-requires : goal.put_entries-owners-requires
unfolding owner_place
put_entries-owners-requires c =
    let g = c.requires.copyable.good in
    (omega (arith, c.requires.at_bound, c.put_entries-counts.ensures.value), (omega (arith, c.number_at.ensures, g.most), λ k h. omega (arith, g.owners k (omega (arith, c.number_at.ensures)), g.few)))

pub put_items-requires : goal.put_items-requires
put_items-requires c =
    let w = c.put_components-components in record { model_len_bound = (c.requires.copyable.short, subst (λ (x : Items). GoodItems c.args.model.now c.args.index.now x) (sym c.conditions_of.ensures) (conditions-good c.args.model.now c.args.index.now c.requires.copyable)); at_bound = omega (arith, c.requires.at_bound, w.ensures.upper_bound, c.put_entries-counts.ensures.value, c.put_entries-owners.ensures.value, c.number_at.ensures, c.requires.copyable.good.most) }

pub returns : goal.returns
returns c =
    let a = c.args in
    let counts = c.put_entries-counts in
    let owners = c.put_entries-owners in
    let components = c.put_components-components in
    let conditions = c.put_items in
    let n = c.number_at.ensures in
    let second = subst (λ (k : ℕ). Written counts.new.out counts.result (entries a.index.now 3 k) owners.new.out owners.result) n owners.ensures.written in
    let fourth = subst (λ (x : Items). Written components.new.out components.result (items_bytes a.model.now a.index.now x) conditions.new.out conditions.result) c.conditions_of.ensures conditions.ensures.written in record { written = left-last _ (left-on _ _ (left-on _ _ (left-on _ _ (left_as (fields-parts a.model.now a.index.now) (left-all a.out.now a.at _)) counts.ensures.written) second) components.ensures.written) fourth; upper_bound = omega (arith, conditions.ensures.upper_bound, components.ensures.upper_bound, owners.ensures.value, counts.ensures.value, n, c.requires.copyable.good.most) }
