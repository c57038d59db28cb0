-- The model's body (01, Model), field by field. Assumes nothing.
use Rattle.std.specs.Prelude.{Bool, cond, ◌||◌, List, ℕ, ◌*◌, ◌/◌, ◌%◌, ◌^◌, ltb, eqb, length}
use Rattle.formats.specs.Reading.{Reader, ◌>>=◌, give, u8, u16, must, within, below, many, each}
use Rattle.formats.specs.Rows.{Condition, read_condition}

-- "Per mode: u8 start, 0 or 1; initial, invariant and flow condition"
pub record Mode : Type 0 where
  pub start : ℕ
  pub initial : Condition
  pub invariant : Condition
  pub flow : Condition

-- "Per switch: u8 source and target mode; u8 label, 0..15; a jump condition"
pub record Switch : Type 0 where
  pub source : ℕ
  pub target : ℕ
  pub label : ℕ
  pub jump : Condition

pub record Component : Type 0 where
  pub alphabet : ℕ
  pub modes : List Mode
  pub switches : List Switch

-- "Per unsafe condition: c bytes, a mode or 255 for any; 0..8 rows"
pub record Unsafe : Type 0 where
  pub modes : List ℕ
  pub rows : Condition

pub record Model : Type 0 where
  pub version : ℕ
  pub paper : ℕ
  pub variables : ℕ
  pub owners : List ℕ
  pub components : List Component
  pub unsafe : List Unsafe

-- "u16 alphabet (bit e for event e, bit 0 clear)"
unfoldable pub has_event : ℕ → ℕ → Bool
has_event alphabet e = eqb (alphabet / 2 ^ e % 2) 1

-- "each 0..8 rows (the initial count is 0 where start is 0)"
unfoldable pub read_mode : ℕ → ℕ → Reader Mode
read_mode version n = do
  start ← within 0 1 u8
  initial ← read_condition version (cond (eqb start 0) 0 8) n
  invariant ← read_condition version 8 n
  flow ← read_condition version 8 n
  give (record { start = start; initial = initial; invariant = invariant; flow = flow })

-- "a jump condition of 0..8 rows with 2n coefficients, values before, then after"; 6, "label from 1 not in its alphabet"
unfoldable pub read_switch : ℕ → ℕ → ℕ → ℕ → Reader Switch
read_switch version n alphabet modes = do
  source ← below modes u8
  target ← below modes u8
  label ← must (λ v. eqb v 0 || has_event alphabet v) 6 (within 0 15 u8)
  jump ← read_condition version 8 (2 * n)
  give (record { source = source; target = target; label = label; jump = jump })

-- "Per component: u16 alphabet ..; u8 modes, 1..8; u8 switches, 0..32. Per mode .. Per switch .."
unfoldable pub read_component : ℕ → ℕ → Reader Component
read_component version n = do
  alphabet ← must (λ v. eqb (v % 2) 0) 5 u16
  mode_count ← within 1 8 u8
  switch_count ← within 0 32 u8
  modes ← many mode_count (read_mode version n)
  switches ← many switch_count (read_switch version n alphabet mode_count)
  give (record { alphabet = alphabet; modes = modes; switches = switches })

unfoldable pub read_unsafe : ℕ → ℕ → List Component → Reader Unsafe
read_unsafe version n components = do
  modes ← each (λ c. must (λ v. ltb v (length c.modes) || eqb v 255) 5 u8) components
  rows ← read_condition version 8 n
  give (record { modes = modes; rows = rows })

-- after the header and the paper number: "u8 variables n, 1..8; u8 components c, 1..4; u8 unsafe conditions, 0..16. n bytes: each
-- variable's owner, 0..c−1. Per component .. Per unsafe condition .."
unfoldable pub read_model_body : ℕ → ℕ → Reader Model
read_model_body version paper = do
  n ← within 1 8 u8
  c ← within 1 4 u8
  conditions ← within 0 16 u8
  owners ← many n (below c u8)
  components ← many c (read_component version n)
  unsafe ← many conditions (read_unsafe version n components)
  give (record { version = version; paper = paper; variables = n; owners = owners; components = components; unsafe = unsafe })
