-- The numbers of an index after stores: what a store leaves as it was, and that what is read back from numbers depends on them alone.
-- Assumes nothing.
use mathlib.Core.Path.{◌≡◌, refl, sym, ◌∙◌, subst}
use mathlib.Core.List.{List}
use Prim.Native.Nat.{ℕ, ◌+◌, ◌*◌, ◌≤◌, ◌<◌}
use native.Mathlib.Omega.{arith}
use lib.ListN.{length, set, length-set}
use lib.Seq.{get_or-set_same, get_or-set_other}
use Rattle.fields.specs.Places.{rows_from}
use Rattle.models.specs.Index.{entry, span_rows, mode_from, switch_from, Kept}

-- stores
pub entry-same : (xs : List ℕ) (i v : ℕ) → i < length xs → entry (set xs i v) i ≡ v
unfolding entry
entry-same xs i v h = get_or-set_same xs i v 0 h

pub entry_other : (xs : List ℕ) (i j v : ℕ) → (j ≡ i → ⊥) → entry (set xs i v) j ≡ entry xs j
unfolding entry
entry_other xs i j v h = get_or-set_other xs i j v 0 h

pub kept-none : (from until : ℕ) (xs : List ℕ) → Kept from until xs xs
kept-none from until xs = record { kept = λ i h. refl }

pub kept_set : (from until : ℕ) (xs : List ℕ) (i v : ℕ) → from ≤ i → i < until → Kept from until xs (set xs i v)
kept_set from until xs i v h k = record { kept = λ j w. entry_other xs i j v (λ e. w (omega arith) (omega arith)) }

pub kept_then : {from until : ℕ} {xs ys zs : List ℕ} → Kept from until xs ys → Kept from until ys zs → Kept from until xs zs
kept_then a b = record { kept = λ i h. b.kept i h ∙ a.kept i h }

pub kept-wider : {a b c d : ℕ} {xs ys : List ℕ} → a ≤ c → d ≤ b → Kept c d xs ys → Kept a b xs ys
kept-wider h k w = record { kept = λ i f. w.kept i (λ p q. f (omega arith) (omega arith)) }

-- what stands at other numbers is kept
pub kept_at : {from until : ℕ} {xs ys : List ℕ} → Kept from until xs ys → (i : ℕ) → (from ≤ i → i < until → ⊥) → entry ys i ≡ entry xs i
kept_at w i h = w.kept i h

-- what is read back depends on its numbers alone: two indices that agree on them give the same
abbrev pub AgreeOn : ℕ → ℕ → List ℕ → List ℕ → Type 0
AgreeOn from until xs ys = (i : ℕ) → from ≤ i → i < until → entry ys i ≡ entry xs i

-- numbers that a change elsewhere left alone
pub agree-low : {from until a b : ℕ} {xs ys : List ℕ} → Kept from until xs ys → b ≤ from → AgreeOn a b xs ys
agree-low w h i p q = w.kept i (λ x y. omega arith)

pub span_same : (s : List ℕ) (version n : ℕ) (xs ys : List ℕ) (i : ℕ) → AgreeOn i (i + 2) xs ys → span_rows s version n ys i ≡ span_rows s version n xs i
unfolding span_rows
span_same s version n xs ys i h = rw (h i (omega arith) (omega arith), h (i + 1) (omega arith) (omega arith)) refl

pub mode-same : (s : List ℕ) (version n : ℕ) (xs ys : List ℕ) (i : ℕ) → AgreeOn i (i + 7) xs ys → mode_from s version n ys i ≡ mode_from s version n xs i
unfolding mode_from
mode-same s version n xs ys i h =
    let a : entry ys i ≡ entry xs i = h i (omega arith) (omega arith) in
    let b : span_rows s version n ys (i + 1) ≡ span_rows s version n xs (i + 1) = span_same s version n xs ys (i + 1) (λ j p q. h j (omega arith) (omega arith)) in
    let c : span_rows s version n ys (i + 3) ≡ span_rows s version n xs (i + 3) = span_same s version n xs ys (i + 3) (λ j p q. h j (omega arith) (omega arith)) in
    let d : span_rows s version n ys (i + 5) ≡ span_rows s version n xs (i + 5) = span_same s version n xs ys (i + 5) (λ j p q. h j (omega arith) (omega arith)) in
    λ k. record { start = a k; initial = b k; invariant = c k; flow = d k }

pub switch-same : (s : List ℕ) (version n : ℕ) (xs ys : List ℕ) (i : ℕ) → AgreeOn i (i + 5) xs ys → switch_from s version n ys i ≡ switch_from s version n xs i
unfolding switch_from
switch-same s version n xs ys i h =
    let a : entry ys i ≡ entry xs i = h i (omega arith) (omega arith) in
    let b : entry ys (i + 1) ≡ entry xs (i + 1) = h (i + 1) (omega arith) (omega arith) in
    let c : entry ys (i + 2) ≡ entry xs (i + 2) = h (i + 2) (omega arith) (omega arith) in
    let d : span_rows s version (2 * n) ys (i + 3) ≡ span_rows s version (2 * n) xs (i + 3) = span_same s version (2 * n) xs ys (i + 3) (λ j p q. h j (omega arith) (omega arith)) in
    λ k. record { source = a k; target = b k; label = c k; jump = d k }

-- a span that was put
pub span-put : (s : List ℕ) (version n : ℕ) (xs ys : List ℕ) (i from count : ℕ) → i + 1 < length xs → ys ≡ set (set xs i from) (i + 1) count → (span_rows s version n ys i ≡ rows_from s version n from count) × Kept i (i + 2) xs ys
unfolding span_rows
span-put s version n xs ys i from count h e =
    let put = set (set xs i from) (i + 1) count in
    let long : i + 1 < length (set xs i from) = simp length-set h in
    let first : entry put i ≡ from = entry_other (set xs i from) (i + 1) i count (λ q. omega arith) ∙ entry-same xs i from (omega arith) in
    let second : entry put (i + 1) ≡ count = entry-same (set xs i from) (i + 1) count long in
    let rows : rows_from s version n (entry put i) (entry put (i + 1)) ≡ rows_from s version n from count = rw (first, second) refl in
    subst (λ zs. (rows_from s version n (entry zs i) (entry zs (i + 1)) ≡ rows_from s version n from count) × Kept i (i + 2) xs zs) (sym e)
    (rows, kept_then (kept_set i (i + 2) xs i from (omega arith) (omega arith)) (kept_set i (i + 2) (set xs i from) (i + 1) count (omega arith) (omega arith)))
