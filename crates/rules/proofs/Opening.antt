-- How a call begins: every case of its stated limits and its model, and how its second sheet opens. Assumes nothing.
use mathlib.Core.Path.{◌≡◌, refl, sym, ap₂, subst}
use mathlib.Core.Bool.{Bool, true, false}
use mathlib.Core.List.{List}
use Prim.Native.Nat.{ℕ, ◌≤◌}
use native.Mathlib.Omega.{arith}
use lib.Dec.{T}
use lib.ListN.{length}
use Rattle.formats.specs.Reading.{Got, got, refused}
use Rattle.formats.specs.Model.{Model}
use Rattle.formats.specs.declared.Limits.{Limits}
use Rattle.formats.specs.ModelSheet.{limits_fit, read_model}
use Rattle.formats.proofs.Placed.{Fine, PlacedTo, placed-up, placed-then, placed-give, placed-expect, placed-must, placed-headed, placed-paper, model-fine}
use Rattle.rules.specs.declared.Answer.{Answer}
use Rattle.rules.specs.Opening.{ModelOpened, opens, shut, open_as, open_model, open_second}
use Rattle.rules.specs.Marking.{answer, with_model}
use Rattle.rules.proofs.ListFacts.{is_true}

-- by the limits, then by the sheet
module _ (limits : Limits) (s : List ℕ) where
  open-so : (b : Bool) (g : Got Model) → limits_fit limits ≡ b → read_model limits s ≡ g → open_model limits s ≡ open_as b g
  unfolding open_model
  open-so b g e r = ap₂ open_as e r

  pub unfit-shut : limits_fit limits ≡ false → open_model limits s ≡ shut 5 2 0
  unfolding open_as
  unfit-shut e = open-so false (read_model limits s) e refl

  pub unread-shut : (number at : ℕ) → T (limits_fit limits) → read_model limits s ≡ refused number at → open_model limits s ≡ shut number 0 at
  unfolding open_as
  unread-shut number at t r = open-so true (refused number at) (is_true (limits_fit limits) t) r

  pub read-opens : (m : Model) (end : ℕ) → T (limits_fit limits) → read_model limits s ≡ got m end → open_model limits s ≡ opens m
  unfolding open_as
  read-opens m end t r = open-so true (got m end) (is_true (limits_fit limits) t) r

-- and there are no other cases
pub data Begins (limits : Limits) (s : List ℕ) (o : ModelOpened) : Type 0 where
  unfit : limits_fit limits ≡ false → o ≡ shut 5 2 0 → Begins limits s o
  unread : (number at : ℕ) → T (limits_fit limits) → read_model limits s ≡ refused number at → o ≡ shut number 0 at → Begins limits s o
  begun : (m : Model) (end : ℕ) → T (limits_fit limits) → read_model limits s ≡ got m end → o ≡ opens m → Begins limits s o

pub begins : (limits : Limits) (s : List ℕ) → Begins limits s (open_model limits s)
begins limits s = go (limits_fit limits) refl (read_model limits s) refl
  where
    go : (b : Bool) → limits_fit limits ≡ b → (g : Got Model) → read_model limits s ≡ g → Begins limits s (open_model limits s)
    go false e g r = Begins.unfit e (unfit-shut limits s e)
    go true e (refused number at) r = let t = subst T (sym e) tt in Begins.unread number at t r (unread-shut limits s number at t r)
    go true e (got m end) r = let t = subst T (sym e) tt in Begins.begun m end t r (read-opens limits s m end t r)

-- the limits go first, then the model: a refusal with nothing done, or what follows has the property
pub with-model : (P : Answer → Type 0) (limits : Limits) (model : List ℕ) (f : Model → Answer) → P (answer 5 2 0 0 0) → ((number at : ℕ) → 1 ≤ number → number ≤ 9 → at ≤ length model → P (answer number 0 at 0 0)) → ((m : Model) (next : ℕ) → T (limits_fit limits) → read_model limits model ≡ got m next → P (f m)) → P (with_model (open_model limits model) f)
unfolding with_model
with-model P limits model f unfits refusal value = go (begins limits model)
  where
    go : Begins limits model (open_model limits model) → P (with_model (open_model limits model) f)
    go (Begins.unfit e o) = subst (λ x. P (with_model x f)) (sym o) unfits
    go (Begins.unread number at t e o) =
        let w = subst (Fine model 0) e (model-fine limits model) in
        subst (λ x. P (with_model x f)) (sym o) (refusal number at w.0 w.1 w.2)
    go (Begins.begun m end t e o) = subst (λ x. P (with_model x f)) (sym o) (value m end t e)

-- the second sheet: where its own fields begin, and the place of a refusal, are in the sheet, and a refusal has a number
pub placed-second : {least : ℕ} (kind : ℕ) (m : Model) → PlacedTo 18 least (open_second kind m)
unfolding open_second
placed-second kind m =
    placed-headed kind (omega arith)
    (λ version.
    placed-then (placed-expect _ 18 2 (omega arith) (omega arith) (omega arith))
    (placed-then (placed-must _ 18 (omega arith) (omega arith) (placed-up (omega arith) (placed-paper version))) (placed-give version)))
