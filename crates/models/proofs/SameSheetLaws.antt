-- Indices that say the same of a sheet: what is counted beside it changes nothing of the model that they give back. Assumes nothing.
use mathlib.Core.Path.{◌≡◌, refl, ap, ap₂, ◌∙◌}
use mathlib.Core.List.{List, map}
use Prim.Native.Nat.{ℕ, ◌+◌, ◌*◌, ◌≤◌}
use native.Mathlib.Omega.{arith}
use Rattle.formats.specs.Joint.{count_up}
use Rattle.models.specs.Index.{entry, owner_place, component_place, unsafe_place, component_from, unsafe_from, components_from, model_from, Kept, SameSheet, GoodIndex}
use Rattle.fields.proofs.ReadLoop.{up_to, up-to-same}
use Rattle.models.proofs.ComponentLaws.{component-same}
use Rattle.models.proofs.UnsafeLaws.{unsafe-same}

pub model-same : {s xs ys : List ℕ} → GoodIndex s xs → SameSheet xs ys → model_from s ys ≡ model_from s xs
unfolding model_from components_from owner_place component_place unsafe_place up_to
model-same {s} {xs} {ys} g w =
    let version : entry ys 11 ≡ entry xs 11 = w.front 11 (omega arith) in
    let n : entry ys 0 ≡ entry xs 0 = w.front 0 (omega arith) in
    let c : entry ys 1 ≡ entry xs 1 = w.front 1 (omega arith) in
    let u : entry ys 2 ≡ entry xs 2 = w.front 2 (omega arith) in
    let os : map (λ v. entry ys (3 + v)) (count_up 0 (entry ys 0)) ≡ map (λ v. entry xs (3 + v)) (count_up 0 (entry xs 0)) =
    ap (λ (m : ℕ). map (λ v. entry ys (3 + v)) (count_up 0 m)) n
    ∙ up-to-same (λ v. entry ys (3 + v)) (λ v. entry xs (3 + v)) (entry xs 0) (λ v h. w.front (3 + v) (omega (arith, g.most))) in
    let cs : map (λ k. component_from s (entry ys 11) (entry ys 0) ys (16 + 219 * k)) (count_up 0 (entry ys 1)) ≡ map (λ k. component_from s (entry xs 11) (entry xs 0) xs (16 + 219 * k)) (count_up 0 (entry xs 1)) =
    ap (λ (v : ℕ). map (λ k. component_from s v (entry ys 0) ys (16 + 219 * k)) (count_up 0 (entry ys 1))) version
    ∙ ap (λ (m : ℕ). map (λ k. component_from s (entry xs 11) m ys (16 + 219 * k)) (count_up 0 (entry ys 1))) n
    ∙ ap (λ (m : ℕ). map (λ k. component_from s (entry xs 11) (entry xs 0) ys (16 + 219 * k)) (count_up 0 m)) c
    ∙ up-to-same (λ k. component_from s (entry xs 11) (entry xs 0) ys (16 + 219 * k)) (λ k. component_from s (entry xs 11) (entry xs 0) xs (16 + 219 * k)) (entry xs 1)
    (λ k h. component-same s (entry xs 11) (entry xs 0) xs ys (16 + 219 * k) (g.blocks k h).most (g.blocks k h).few (λ i p q. w.body i (omega arith) (omega (arith, g.few)))) in
    let us : map (λ i. unsafe_from s (entry ys 11) (entry ys 0) (entry ys 1) ys (892 + 6 * i)) (count_up 0 (entry ys 2)) ≡ map (λ i. unsafe_from s (entry xs 11) (entry xs 0) (entry xs 1) xs (892 + 6 * i)) (count_up 0 (entry xs 2)) =
    ap (λ (v : ℕ). map (λ i. unsafe_from s v (entry ys 0) (entry ys 1) ys (892 + 6 * i)) (count_up 0 (entry ys 2))) version
    ∙ ap (λ (m : ℕ). map (λ i. unsafe_from s (entry xs 11) m (entry ys 1) ys (892 + 6 * i)) (count_up 0 (entry ys 2))) n
    ∙ ap (λ (m : ℕ). map (λ i. unsafe_from s (entry xs 11) (entry xs 0) m ys (892 + 6 * i)) (count_up 0 (entry ys 2))) c
    ∙ ap (λ (m : ℕ). map (λ i. unsafe_from s (entry xs 11) (entry xs 0) (entry xs 1) ys (892 + 6 * i)) (count_up 0 m)) u
    ∙ up-to-same (λ i. unsafe_from s (entry xs 11) (entry xs 0) (entry xs 1) ys (892 + 6 * i)) (λ i. unsafe_from s (entry xs 11) (entry xs 0) (entry xs 1) xs (892 + 6 * i)) (entry xs 2)
    (λ v h. unsafe-same s (entry xs 11) (entry xs 0) (entry xs 1) xs ys (892 + 6 * v) g.few (λ i p q. w.body i (omega arith) (omega (arith, g.conditions)))) in
    let paper : entry ys 12 * 65536 + entry ys 13 ≡ entry xs 12 * 65536 + entry xs 13 = ap₂ (λ (a b : ℕ). a * 65536 + b) (w.front 12 (omega arith)) (w.front 13 (omega arith)) in
    λ i. record { version = version i; paper = paper i; variables = n i; owners = os i; components = cs i; unsafe = us i }

pub components-same : {s xs ys : List ℕ} → GoodIndex s xs → SameSheet xs ys → components_from s ys ≡ components_from s xs
unfolding model_from
components-same g w = ap (λ m. m.components) (model-same g w)

-- nothing has changed; what follows; a store of what is counted
pub same_none : (xs : List ℕ) → SameSheet xs xs
same_none xs = record { front = λ i h. refl; body = λ i h l. refl }

pub same_then : {xs ys zs : List ℕ} → SameSheet xs ys → SameSheet ys zs → SameSheet xs zs
same_then v w = record { front = λ i h. w.front i h ∙ v.front i h; body = λ i h l. w.body i h l ∙ v.body i h l }

pub same_kept : {from until : ℕ} {xs ys : List ℕ} → (14 ≤ from) × (until ≤ 16) → Kept from until xs ys → SameSheet xs ys
same_kept h w = record { front = λ i l. w.kept i (λ p q. omega arith); body = λ i l m. w.kept i (λ p q. omega arith) }

pub same_after : {until : ℕ} {xs ys : List ℕ} → Kept 988 until xs ys → SameSheet xs ys
same_after w = record { front = λ i l. w.kept i (λ p q. omega arith); body = λ i l m. w.kept i (λ p q. omega arith) }
