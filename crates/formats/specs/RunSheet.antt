-- The run sheet's fields (01, Run sheet). Assumes nothing.
use Rattle.std.specs.Prelude.{◌||◌, List, ℕ, zero, suc, ◌-◌, ◌^◌, ltb, eqb, ℤ, pos, negsuc, length}
use Rattle.formats.specs.Reading.{Reader, ◌>>=◌, give, here, u8, u16, u32, s32, must, within, within_signed, below, many, each}
use Rattle.formats.specs.Model.{Model}
use Rattle.formats.specs.Locations.{location_count}
use Rattle.formats.specs.Joint.{stays}

-- "each step is a flow with a whole δ or a jump by a joint switch, and has its new p" (01, Runs). A jump has its event and a switch
-- number per component, 255 where it stays
pub data Step : Type 0 where
  flow : ℕ → List ℤ → Step
  jump : ℕ → List ℕ → List ℤ → Step

-- "n s32 p, −2^27..2^27"
unfoldable pub read_values : ℕ → Reader (List ℤ)
read_values n = many n (within_signed (negsuc (2 ^ 27 - 1)) (pos (2 ^ 27)) s32)

-- "u32 q, 1..2^24−1; u16 steps, 0..4,095; u8 location; n s32 p"; the location's place is that of 12
pub record Opening : Type 0 where
  pub q : ℕ
  pub steps : ℕ
  pub place : ℕ
  pub location : ℕ
  pub values : List ℤ

unfoldable pub read_opening : Model → Reader Opening
read_opening m = do
  q ← within 1 (2 ^ 24 - 1) u32
  steps ← within 0 4095 u16
  place ← here
  location ← below (location_count m.components) u8
  values ← read_values m.variables
  give (record { q = q; steps = steps; place = place; location = location; values = values })

-- "u8 0, u32 δ, 0..2^24−1, new p"
unfoldable pub read_flow : Model → Reader Step
read_flow m = do
  δ ← within 0 (2 ^ 24 - 1) u32
  values ← read_values m.variables
  give (flow δ values)

-- "u8 1, u8 event 0..15, c bytes (one of the component's switches, or 255 where it stays), new p"
unfoldable pub read_jump : Model → Reader Step
read_jump m = do
  event ← within 0 15 u8
  switches ← each (λ c. must (λ v. ltb v (length c.switches) || eqb v stays) 5 u8) m.components
  values ← read_values m.variables
  give (jump event switches values)

unfoldable pub read_step_of : Model → ℕ → Reader Step
read_step_of m zero = read_flow m
read_step_of m (suc kind) = read_jump m

unfoldable pub read_step : Model → Reader Step
read_step m = within 0 1 u8 >>= read_step_of m
