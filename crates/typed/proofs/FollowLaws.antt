-- How what the readers promise is put together: an operand and what follows it, an operator with its right operand and what follows
-- that, and a turn that ends. Assumes nothing.
use mathlib.Core.Path.{◌≡◌, sym, ap, ◌∙◌}
use Prim.Native.Nat.{ℕ, zero, suc, ◌+◌, ◌*◌, ◌-◌, ◌≤◌, ◌<◌}
use native.Mathlib.Omega.{arith}
use Rattle.typed.specs.declared.forms.Form.{Form}
use Rattle.typed.specs.Forms.{Reading, reaches, refused}
use Rattle.typed.specs.Following.{Follows}
use Rattle.typed.proofs.PlaceLaws.{no}

-- a reading ends between two places
abbrev pub Lies : ℕ → ℕ → Reading → Type 0
Lies least end r = (q : ℕ) (x : Form) → r ≡ reaches q x → (least ≤ q) × (q ≤ end)

-- what was refused ends nowhere
pub refused-lies : {least end p : ℕ} {r : Reading} → r ≡ refused p → Lies least end r
refused-lies e = λ q x f. no (sym e ∙ f)

-- the end of a text
module _ (end : ℕ) where
  -- a turn whose result is known at every number of steps
  pub turn : (steps least : ℕ) (whole : ℕ → Reading) {r : Reading} → ((j : ℕ) → steps ≤ j → whole (suc j) ≡ r) → Lies least end r → Follows steps least end whole r
  turn steps least whole {r} is h = record {
    same = λ k. elim k as (λ k. steps < k → r ≡ whole k) [ zero ↦ λ g. absurd (omega arith) | suc j ↦ λ g. sym (is j (omega arith)) ];
    place = h;
  }

  -- an operand that is refused
  pub operand-refused :
      (at s steps p : ℕ) (first : ℕ → Reading) (rest : ℕ → Reading → Reading) (whole : ℕ → Reading) {left r : Reading}
      → ((j : ℕ) → whole (suc j) ≡ rest j (first j))
      → ((j : ℕ) → rest j (refused p) ≡ refused p)
      → s < steps
      → Follows s (at + 1) end first left
      → left ≡ refused p
      → r ≡ refused p
      → Follows steps (at + 1) end whole r
  operand-refused at s steps p first rest whole is stays l f e g =
      turn steps (at + 1) whole (λ j h. is j ∙ ap (rest j) (sym (f.same j (omega arith)) ∙ e) ∙ stays j ∙ sym g) (refused-lies g)

  -- an operand, and what follows it
  pub operand :
      (at s steps q : ℕ) (x : Form) (first : ℕ → Reading) (rest : ℕ → Reading → Reading) (whole : ℕ → Reading) {left r : Reading}
      → ((j : ℕ) → whole (suc j) ≡ rest j (first j))
      → s < steps
      → 3 * (end - (at + 1)) + 1 < steps
      → Follows s (at + 1) end first left
      → left ≡ reaches q x
      → Follows (3 * (end - q) + 1) q end (λ k. rest k (reaches q x)) r
      → Follows steps (at + 1) end whole r
  operand at s steps q x first rest whole is l m f e g =
      let b = f.place q x e in
      turn steps (at + 1) whole (λ j h. is j ∙ ap (rest j) (sym (f.same j (omega arith)) ∙ e) ∙ sym (g.same j (omega arith)))
      (λ p y h. let i = g.place p y h in (omega arith, i.1))

  -- an operator at a place, its right operand, and what follows that
  module _
      (q place s : ℕ) (first : ℕ → Reading) (join : Reading → Reading) (rest : ℕ → Reading → Reading) (whole : ℕ → Reading)
      (is : (j : ℕ) → whole (suc j) ≡ rest j (join (first j)))
      (l : q ≤ place) (m : place < end) (n : s ≤ 3 * (end - (place + 1)) + 2)
      {right : Reading} (f : Follows s (place + 1 + 1) end first right)
    where
      before : (j : ℕ) → 3 * (end - q) + 1 ≤ j → whole (suc j) ≡ rest j (join right)
      before j h = is j ∙ ap (λ v. rest j (join v)) (sym (f.same j (omega arith)))

      -- the operand or the operator is refused
      pub operator-refused : (p : ℕ) {r : Reading} → join right ≡ refused p → ((j : ℕ) → rest j (refused p) ≡ refused p) → r ≡ refused p → Follows (3 * (end - q) + 1) q end whole r
      operator-refused p e stays g = turn (3 * (end - q) + 1) q whole (λ j h. before j h ∙ ap (rest j) e ∙ stays j ∙ sym g) (refused-lies g)

      pub operator : (z : ℕ) (y : Form) {r : Reading} → join right ≡ reaches z y → (place + 1 + 1 ≤ z) × (z ≤ end) → Follows (3 * (end - z) + 1) z end (λ k. rest k (reaches z y)) r → Follows (3 * (end - q) + 1) q end whole r
      operator z y e b g =
          turn (3 * (end - q) + 1) q whole (λ j h. before j h ∙ ap (rest j) e ∙ sym (g.same j (omega arith)))
          (λ p x h. let i = g.place p x h in (omega arith, i.1))
