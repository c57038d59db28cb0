-- Three calls add −a on x, a on x', −b on d; each finds its unknowns as they were. Assumes nothing.
use mathlib.Core.Path.{◌≡◌, refl, sym, ap, ap₂, ◌∙◌, subst}
use mathlib.Core.List.{List, [], ◌∷◌}
use Prim.Native.Nat.{◌+◌, ◌*◌, ◌≤◌}
use native.Mathlib.Omega.{arith}
use lib.IntN.{ℤ, pos, neg_ℤ, nat_abs, ◌-ℤ◌}
use lib.ListN.{length}
use mir.Syntax.{w64}
use mir.Val.{to_z, of_z}
use mir.Facts.{to_z-of_z}
use Rattle.farkas.specs.Rows.{row_of, on_change}
use Rattle.farkas.specs.Words.{signed_at, numbers_at, row_in}
use Rattle.farkas.specs.Sums.{plus_from, RoomAt}
use Rattle.farkas.proofs.SumLaws.{plus-rates, numbers-length, rates-second, rates-third, no_bound, add-plain, opposite-bits, opposite-size}
use Rattle.farkas.proofs.add_rates.Goals.{After-add_numbers, After-add_numbers-2, After-from-more, Start}
use Rattle.farkas.proofs.add_rates.Goals as goal

-- the row's coefficients
abbrev row : Start → List ℤ
row s = numbers_at s.args.words.now s.args.at s.args.count

as_many : (s : Start) → length (row s) ≡ s.args.count
as_many s = numbers-length s.args.words.now s.args.at s.args.count

-- m as it is handed over, and its opposite
more : (c : After-from-more) → to_z w64 (of_z w64 c.from-more.result) ≡ pos c.args.m
more c = to_z-of_z {w = w64} {z = c.from-more.result} (record { sfits = c.from-more.type_inv }) ∙ c.from-more.ensures

less : (c : After-from-more) → to_z w64 (of_z w64 (pos 0 -ℤ to_z w64 (of_z w64 c.from-more.result))) ≡ neg_ℤ (pos c.args.m)
less c = ap (λ (z : ℤ). to_z w64 (of_z w64 (pos 0 -ℤ z))) (more c) ∙ opposite-bits c.args.m (omega arith)

more-size : (c : After-from-more) → nat_abs (to_z w64 (of_z w64 c.from-more.result)) ≡ c.args.m
more-size c = ap nat_abs (more c)

less-size : (c : After-from-more) → nat_abs (to_z w64 (of_z w64 (pos 0 -ℤ to_z w64 (of_z w64 c.from-more.result)))) ≡ c.args.m
less-size c = ap nat_abs (less c) ∙ opposite-size c.args.m

-- the sums after the first call, and after the second
first : (c : After-add_numbers) → c.add_numbers.new.sums ≡ plus_from 0 (neg_ℤ (pos c.args.m)) c.args.sums.now (row (goal.at.After-add_numbers c).Start)
first c =
    c.add_numbers.ensures ∙ ap (λ (m : ℤ). plus_from 0 m c.args.sums.now (row (goal.at.After-add_numbers c).Start)) (less (goal.at.After-add_numbers c).After-from-more)

second : (c : After-add_numbers-2) → c.add_numbers-2.new.sums ≡ plus_from c.args.count (pos c.args.m) c.add_numbers.new.sums (row (goal.at.After-add_numbers-2 c).Start)
second c =
    c.add_numbers-2.ensures ∙ ap (λ (m : ℤ). plus_from c.args.count m c.add_numbers.new.sums (row (goal.at.After-add_numbers-2 c).Start)) (more (goal.at.After-add_numbers-2 c).After-from-more)

both : (c : After-add_numbers-2) → c.add_numbers-2.new.sums ≡ plus_from c.args.count (pos c.args.m) (plus_from 0 (neg_ℤ (pos c.args.m)) c.args.sums.now (row (goal.at.After-add_numbers-2 c).Start)) (row (goal.at.After-add_numbers-2 c).Start)
both c =
    second c ∙ ap (λ (ys : List ℤ). plus_from c.args.count (pos c.args.m) ys (row (goal.at.After-add_numbers-2 c).Start)) (first (goal.at.After-add_numbers-2 c).After-add_numbers)

pub add_numbers-requires-2 : goal.add_numbers-requires-2
add_numbers-requires-2 c =
    let n = c.args.count in
    let r = rates-second c.args.m n (neg_ℤ (pos c.args.m)) (pos 0) c.args.sums.now (row (goal.at.add_numbers-requires-2 c).Start) (as_many (goal.at.add_numbers-requires-2 c).Start) c.requires.count_in_bounds.0 c.requires.count_in_bounds.1 in record {
      count_in_bounds = subst (λ (ys : List ℤ). (n + n ≤ length ys) × RoomAt (nat_abs (to_z w64 (of_z w64 c.from-more.result))) n n ys) (sym (first (goal.at.add_numbers-requires-2 c).After-add_numbers))
          (r.0, rw (more-size (goal.at.add_numbers-requires-2 c).After-from-more) r.1);
      numbers_in = (omega arith, c.requires.numbers_in.1);
    }

pub add_numbers-requires-3 : goal.add_numbers-requires-3
add_numbers-requires-3 c =
    let n = c.args.count in
    let r = rates-third c.args.m n (neg_ℤ (pos c.args.m)) (pos c.args.m) c.args.sums.now (row (goal.at.add_numbers-requires-3 c).Start) (as_many (goal.at.add_numbers-requires-3 c).Start) c.requires.count_in_bounds.0 c.requires.count_in_bounds.1 in record {
      count_in_bounds = subst (λ (ys : List ℤ). (n + n + 1 ≤ length ys) × RoomAt (nat_abs (to_z w64 (of_z w64 (pos 0 -ℤ to_z w64 (of_z w64 c.from-more.result))))) (n + n) 1 ys) (sym (both (goal.at.add_numbers-requires-3 c).After-add_numbers-2))
          (r.0, rw (less-size (goal.at.add_numbers-requires-3 c).After-from-more) r.1);
      numbers_in = (omega arith, c.requires.numbers_in.1);
    }

pub returns : goal.returns
unfolding on_change row_in numbers_at
returns c =
    let n = c.args.count in
    let b = signed_at c.args.words.now (c.args.at + 4 * n) in
    ap₂ row_of
    (c.add_numbers-3.ensures
    ∙ ap₂ (λ (m : ℤ) (ys : List ℤ). plus_from (n + n) m ys (b ∷ [])) (less (goal.at.returns c).After-from-more) (both (goal.at.returns c).After-add_numbers-2)
    ∙ sym (plus-rates c.args.m c.args.sums.now (row (goal.at.returns c).Start) b n (as_many (goal.at.returns c).Start) c.requires.count_in_bounds.0))
    (no_bound (pos 0) c.args.m)
    ∙ add-plain c.args.sums.now (pos 0) c.args.m (on_change (row_in c.args.words.now c.args.at n)) refl
