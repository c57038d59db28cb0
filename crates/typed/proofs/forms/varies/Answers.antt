-- Some coefficient is not 0, where not every one is. Assumes nothing.
use mathlib.Core.Path.{◌≡◌, refl, sym, ap}
use mathlib.Core.Bool.{Bool, true, false, not}
use mathlib.Core.List.{List}
use Prim.Native.Nat.{ℕ, ◌<◌}
use native.Mathlib.Omega.{arith}
use borrow.Author.Rules.{rules}
use lib.IntN.{ℤ, pos}
use lib.ListN.{length}
use Rattle.std.proofs.Common.{tests, MatchBool}
use Rattle.std.specs.List.{HoldsAt, AllWithin}
use Rattle.std.proofs.lemmas.Iterator.{cases_from_any, YieldsList-from_slice}
use Rattle.std.proofs.lemmas.List.Recursion.{and_fails_at, and_from_places}
use Rattle.farkas.specs.Lists.{every}
use Rattle.typed.specs.Forms.{is_zero, varies}
use Rattle.typed.proofs.CombineLaws.{zero-yes, zero-no}
use Rattle.typed.proofs.forms.varies.Goals as goal

-- what the call's two answers say
by_answer : (b : Bool) (xs : List ℤ) → MatchBool b ((k : ℕ) × (k < length xs) × HoldsAt (λ z. z ≡ pos 0 → ⊥) xs k) (AllWithin (λ z. z ≡ pos 0) xs 0 (length xs)) → b ≡ not (every is_zero xs)
unfolding every
by_answer true xs h = sym (ap not (and_fails_at (every is_zero) is_zero refl (λ x ys. refl) xs h.0 (pos 0) h.1 (zero-no _ (h.2 (pos 0)))))
by_answer false xs h = sym (ap not (and_from_places (every is_zero) is_zero refl (λ x ys. refl) xs (pos 0) (λ i l. zero-yes _ (h i (pos 0) (omega arith) l))))

pub returns : goal.returns
unfolding varies
returns c =
    let xs = c.args.form.coefficients in
    by_answer _ xs (cases_from_any _ _ _ (λ z. z ≡ pos 0 → ⊥) (λ z. z ≡ pos 0) c.any.ensures.ran (YieldsList-from_slice xs cc) (λ x q k. search (rules, tests)) (λ x q k. search (rules, tests)))
