-- What the readers promise: the working-out of Working at every number of steps that suffices, and where they stop. Assumes nothing.
use Rattle.std.specs.Prelude.{◌≡◌, List, ℕ, ◌+◌, ◌*◌, ◌-◌, ◌<◌, ◌≤◌, length, Ok}
use Rattle.typed.specs.declared.forms.Form.{Form}
use Rattle.typed.specs.declared.forms.Worked.{Worked}
use Rattle.typed.specs.Forms.{Reading, reaches, refused}
use Rattle.typed.specs.Working.{expression_at, sums_at, term_at, products_at, factor_at}

-- the same as f at every number of steps above these, and what was worked out ends between two places
pub record Follows (steps least end : ℕ) (f : ℕ → Reading) (r : Reading) : Type 0 where
  pub same : (k : ℕ) → steps < k → r ≡ f k
  pub place : (q : ℕ) (x : Form) → r ≡ reaches q x → (least ≤ q) × (q ≤ end)

-- what was refused stands before this place
pub record FaultBelow (end : ℕ) (r : Reading) : Type 0 where
  pub place : (p : ℕ) → r ≡ refused p → p < end

-- each reader from a place on, and what goes on from an operand that was read
abbrev pub ReadsExpression : ℕ → List ℕ → ℕ → Reading → Type 0
ReadsExpression n text at r = Follows (3 * (length text - at) + 3) (at + 1) (length text) (λ k. expression_at k n text at) r

abbrev pub ReadsSums : ℕ → List ℕ → Worked → Reading → Type 0
ReadsSums n text left r = Follows (3 * (length text - left.next) + 1) left.next (length text) (λ k. sums_at k n text (Ok left)) r

abbrev pub ReadsTerm : ℕ → List ℕ → ℕ → Reading → Type 0
ReadsTerm n text at r = Follows (3 * (length text - at) + 2) (at + 1) (length text) (λ k. term_at k n text at) r

abbrev pub ReadsProducts : ℕ → List ℕ → Worked → Reading → Type 0
ReadsProducts n text left r = Follows (3 * (length text - left.next) + 1) left.next (length text) (λ k. products_at k n text (Ok left)) r

abbrev pub ReadsFactor : ℕ → List ℕ → ℕ → Reading → Type 0
ReadsFactor n text at r = Follows (3 * (length text - at) + 1) (at + 1) (length text) (λ k. factor_at k n text at) r
