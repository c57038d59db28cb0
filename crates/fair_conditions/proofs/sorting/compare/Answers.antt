-- The library's order of two parts. Assumes nothing.
use Rattle.std.proofs.Common.{rules, ◌≡◌, ◌∙◌, ap₂, ℕ, ◌+◌, ◌-◌, take, drop, arith}
use Rattle.std.specs.Ordering.{nat_cmp}
use Rattle.std.specs.Cmp.Lexicographic.{slice_cmp}
use Rattle.fair_conditions.proofs.SortLaws.{compared}
use Rattle.fair_conditions.proofs.sorting.compare.Goals as goal

some_long : (at count : ℕ) → at + count - at ≡ count
some_long at count = omega arith

pub returns : goal.returns
returns c =
    let a = c.args in
    let kept = a.kept.now in
    let parts : c.cmp.result ≡ slice_cmp nat_cmp (take (a.a + a.count - a.a) (drop a.a kept)) (take (a.b + a.count - a.b) (drop a.b kept)) = search rules in
    parts
    ∙ ap₂ (λ (i j : ℕ). slice_cmp nat_cmp (take i (drop a.a kept)) (take j (drop a.b kept))) (some_long a.a a.count) (some_long a.b a.count)
    ∙ compared kept a.a a.b a.count c.requires.0 c.requires.1
