-- How many joint switches lead into a location, from one component on: what the loops keep up, and how large the numbers get.
-- Assumes nothing.
use mathlib.Core.Path.{◌≡◌, refl, sym, ap, ap₂, ◌∙◌}
use mathlib.Core.Bool.{Bool, true, false, cond}
use mathlib.Core.List.{List, [], ◌∷◌}
use Prim.Native.Nat.{ℕ, zero, suc, ◌+◌, ◌*◌, ◌-◌, ◌^◌, ◌≤◌, ◌<◌}
use native.Mathlib.Nat.{le_trans, mul-le-mul, pow-succ', pow-le-pow_right}
use native.Mathlib.Omega.{arith}
use lib.Dec.{eqb}
use lib.ListN.{length, get_or}
use Rattle.farkas.specs.Lists.{All, none, more}
use Rattle.formats.specs.Model.{Component, has_event}
use Rattle.formats.specs.Joint.{mover_count, count_up}
use Rattle.formats.specs.JointTotals.{sum_over, together_total, event_total, entering, arrivals, together_into, silent_into, event_into, joints_into}
use Rattle.models.specs.Index.{entry, GoodIndex, components_from}
use Rattle.models.specs.Counts.{component_at, per_component}
use Rattle.formats.proofs.WellFormed.{GoodComponent}
use Rattle.formats.proofs.SumLaws.{sum-most}
use Rattle.models.proofs.GoodIndexLaws.{components-back, components-end, few-components}
use Rattle.joint_switches.proofs.JointLoops.{components_on, numbers_on, per-component-back}
use Rattle.joint_switches.proofs.NumberedLaws.{entering-few}
use Rattle.joint_switches.proofs.TotalLaws.{good-on, either-few, few-or-none}

pub arrivals-few : {n : ℕ} (c : Component) (mode e : ℕ) → GoodComponent n c → arrivals c mode e ≤ 32
unfolding arrivals
arrivals-few c mode e g = either-few (has_event c.alphabet e) (entering c mode e) 1 (omega (arith, entering-few c mode e, g.few)) (omega arith)

-- in how many ways a component arrives, by whether it is in the scope
pub arrivals-member : (c : Component) (mode e : ℕ) {b : Bool} → b ≡ has_event c.alphabet e → b ≡ true → arrivals c mode e ≡ entering c mode e
unfolding arrivals
arrivals-member c mode e p q = ap (λ b. cond b (entering c mode e) 1) (sym p ∙ q)

pub arrivals-other : (c : Component) (mode e : ℕ) {b : Bool} → b ≡ has_event c.alphabet e → b ≡ false → arrivals c mode e ≡ 1
unfolding arrivals
arrivals-other c mode e p q = ap (λ b. cond b (entering c mode e) 1) (sym p ∙ q)

together-most : {n : ℕ} {components : List Component} → All (GoodComponent n) components → (modes : List ℕ) (e : ℕ) → together_into components modes e ≤ 32 ^ length components
unfolding together_into
together-most none modes e = omega arith
together-most (more {xs = components} g rest) [] e = omega arith
together-most (more {a = c} {xs = components} g rest) (mode ∷ modes) e = rw pow-succ' (mul-le-mul (arrivals-few c mode e g) (together-most rest modes e))

silent-most : {n : ℕ} {components : List Component} → All (GoodComponent n) components → (modes : List ℕ) → silent_into components modes ≤ 32 * length components
unfolding silent_into
silent-most none modes = omega arith
silent-most (more g rest) [] = omega arith
silent-most (more {a = c} g rest) (mode ∷ modes) = omega (arith, entering-few c mode 0, g.few, silent-most rest modes)

module _ {s index : List ℕ} (g : GoodIndex s index) (modes : List ℕ) (long : entry index 1 ≤ length modes) where
  pub together-starts : (e : ℕ) → 1 ≡ together_into (components_on s index (entry index 1)) (numbers_on index modes (entry index 1)) e
  unfolding together_into
  together-starts e = sym (ap (λ components. together_into components (numbers_on index modes (entry index 1)) e) (components-end s index))

  pub together-goes-on : (e k n count : ℕ) → 0 < k → k ≤ entry index 1 → n ≡ arrivals (component_at s index (k - 1)) (get_or modes (k - 1) 0) e → count ≡ together_into (components_on s index k) (numbers_on index modes k) e → n * count ≡ together_into (components_on s index (k - 1)) (numbers_on index modes (k - 1)) e
  unfolding together_into
  together-goes-on e k n count h l p q =
      rw (p, q) (sym (ap₂ (λ components ms. together_into components ms e) (components-back s index k h l) (per-component-back index modes long k h l)))

  pub together-few : (e k : ℕ) → together_into (components_on s index k) (numbers_on index modes k) e ≤ 1048576
  together-few e k = le_trans (together-most (good-on g k) (numbers_on index modes k) e) (pow-le-pow_right {n = 32} (omega arith) (few-components g k))

  pub silent-starts : 0 ≡ silent_into (components_on s index (entry index 1)) (numbers_on index modes (entry index 1))
  unfolding silent_into
  silent-starts = sym (ap (λ components. silent_into components (numbers_on index modes (entry index 1))) (components-end s index))

  pub silent-goes-on : (k n count : ℕ) → 0 < k → k ≤ entry index 1 → n ≡ entering (component_at s index (k - 1)) (get_or modes (k - 1) 0) 0 → count ≡ silent_into (components_on s index k) (numbers_on index modes k) → n + count ≡ silent_into (components_on s index (k - 1)) (numbers_on index modes (k - 1))
  unfolding silent_into
  silent-goes-on k n count h l p q =
      rw (p, q) (sym (ap₂ silent_into (components-back s index k h l) (per-component-back index modes long k h l)))

  pub silent-few : (k : ℕ) → silent_into (components_on s index k) (numbers_on index modes k) ≤ 128
  silent-few k = omega (arith, silent-most (good-on g k) (numbers_on index modes k), few-components g k)

  -- any event
  pub event-few : (e : ℕ) → event_into (components_from s index) (per_component index modes) e ≤ 1048576
  unfolding event_into
  event-few zero = omega (arith, silent-few 0)
  event-few (suc e) = few-or-none (eqb (mover_count (components_from s index) (suc e)) 0) (together_into (components_from s index) (per_component index modes) (suc e)) 1048576 (together-few (suc e) 0)

  -- all events
  pub into_few : joints_into (components_from s index) (per_component index modes) ≤ 16777216
  unfolding joints_into
  into_few = sum-most (event_into (components_from s index) (per_component index modes)) 1048576 event-few 16

-- event 0 alone
pub event-starts : (components : List Component) (modes : List ℕ) (count : ℕ) → count ≡ silent_into components modes → count ≡ sum_over (event_into components modes) (count_up 0 1)
unfolding sum_over count_up event_into
event-starts components modes count h = omega (arith, h)

-- an event from 1 that has joint switches: some component is in the scope
both_some : (b : Bool) (all into : ℕ) → (cond b 0 all ≡ 0 → ⊥) → into ≡ cond b 0 into
both_some true all into h = absurd (h refl)
both_some false all into h = refl

pub event-some : (components : List Component) (modes : List ℕ) (e : ℕ) → 1 ≤ e → (event_total components e ≡ 0 → ⊥) → together_into components modes e ≡ event_into components modes e
unfolding event_total event_into
event-some components modes zero h f = absurd (omega arith)
event-some components modes (suc e) h f = both_some (eqb (mover_count components (suc e)) 0) (together_total components (suc e)) (together_into components modes (suc e)) f

-- the sum over all events is the number
pub into-counted : (components : List Component) (modes : List ℕ) (e count : ℕ) → e ≡ 16 → count ≡ sum_over (event_into components modes) (count_up 0 e) → count ≡ joints_into components modes
unfolding joints_into
into-counted components modes e count whole h = h ∙ ap (λ (n : ℕ). sum_over (event_into components modes) (count_up 0 n)) whole
