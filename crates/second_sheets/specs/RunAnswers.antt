-- What the readings of a run sheet answer with: steps and openings, the values that stand beside them in a lent slice, and the four switches
-- that the code holds. Assumes nothing.
use Rattle.std.specs.Prelude.{Result, Ok, Err, ◌||◌, List, [], ◌∷◌, ◌≡◌, ℕ, ◌+◌, ◌-◌, ◌^◌, ltb, eqb, ℤ, pos, negsuc, get_or, take, drop}
use Rattle.second_sheets.specs.declared.Switches.{Switches}
use Rattle.second_sheets.specs.declared.Step as coded
use Rattle.second_sheets.specs.declared.Step.TheVariants as step
use Rattle.second_sheets.specs.declared.Opening as opening
use Rattle.fields.specs.declared.Refusal.{Refusal}
use Rattle.fields.specs.Causes.{number_of}
use Rattle.formats.specs.Reading.{Got, got, refused, Reader, ◌>>=◌, give, here, u8, u16, u32, s32, must, within, within_signed, below, each}
use Rattle.formats.specs.Joint.{stays, count_up}
use Rattle.models.specs.Index.{entry, component_place}
use Rattle.formats.specs.RunSheet.{Step, flow, jump, read_values, Opening}

-- a value of a state: "s32 p, −2^27..2^27"
unfoldable pub read_value : Reader ℤ
read_value = within_signed (negsuc (2 ^ 27 - 1)) (pos (2 ^ 27)) s32

-- nothing of a slice has changed outside a range of its numbers
pub record KeptValues (from until : ℕ) (before after : List ℤ) : Type 0 where
  pub front : take from after ≡ take from before
  pub rest : drop until after ≡ drop until before

-- four switch numbers, 255 for an absent component
unfoldable pub switches_in : Switches → List ℕ
switches_in w = w.a ∷ w.b ∷ w.c ∷ w.d ∷ []

unfoldable pub held_switches : List ℕ → Switches
held_switches xs = record { a = get_or xs 0 stays; b = get_or xs 1 stays; c = get_or xs 2 stays; d = get_or xs 3 stays }

-- a switch byte: "one of the component's switches, or 255 where it stays"
unfoldable pub switch_byte : ℕ → Reader ℕ
switch_byte count = must (λ v. ltb v count || eqb v stays) 5 u8

-- the switch bytes of a jump, by the numbers of switches that an index has
unfoldable pub switch_bytes : List ℕ → Reader (List ℕ)
switch_bytes index = each (λ k. switch_byte (entry index (component_place k + 2))) (count_up 0 (entry index 1))

unfoldable pub held_bytes : Got (List ℕ) → Got Switches
held_bytes (got ws p) = got (held_switches ws) p
held_bytes (refused number place) = refused number place

-- a step of a model with c components, its new values beside it
unfoldable pub step_of : ℕ → coded.Step → List ℤ → Step
step_of c (step.Flow δ) xs = flow δ xs
step_of c (step.Jump event w) xs = jump event (take c (switches_in w)) xs

-- its new values are read, and stand beside it
unfoldable pub read_with : ℕ → ℕ → coded.Step → Reader Step
read_with n c st = read_values n >>= λ xs. give (step_of c st xs)

unfoldable pub step_as : ℕ → List ℤ → Result (coded.Step × ℕ) Refusal → Got Step
step_as c xs (Ok read) = got (step_of c read.0 xs) read.1
step_as c xs (Err r) = refused (number_of r.0) r.1

-- the same by the numbers of an index: the values are the first numbers of a slice
abbrev pub step_in : List ℕ → List ℤ → Result (coded.Step × ℕ) Refusal → Got Step
step_in index values r = step_as (entry index 1) (take (entry index 0) values) r

-- a step that was read, as the code holds it, all of it: past its c switches stands 255
unfoldable pub held_with : coded.Step → Got (List ℤ) → Got coded.Step
held_with st (got xs p) = got st p
held_with st (refused number place) = refused number place

unfoldable pub held_step : Got Step → Got coded.Step
held_step (got (flow δ xs) p) = got (step.Flow δ) p
held_step (got (jump event ws xs) p) = got (step.Jump event (held_switches ws)) p
held_step (refused number place) = refused number place

-- an opening read from a place on: its location byte stands six bytes after that
unfoldable pub opening_as : List ℤ → ℕ → Result (opening.Opening × ℕ) Refusal → Got Opening
opening_as xs at (Ok read) = got (record { q = read.0.q; steps = read.0.steps; place = at + 6; location = read.0.location; values = xs }) read.1
opening_as xs at (Err r) = refused (number_of r.0) r.1

-- the same by the numbers of an index: the values are the first numbers of a slice
abbrev pub opening_in : List ℕ → List ℤ → ℕ → Result (opening.Opening × ℕ) Refusal → Got Opening
opening_in index values at r = opening_as (take (entry index 0) values) at r

-- an opening's fields before its values
unfoldable pub read_opening_fields : ℕ → Reader Opening
read_opening_fields locations = do
  q ← within 1 (2 ^ 24 - 1) u32
  steps ← within 0 4095 u16
  place ← here
  location ← below locations u8
  give (record { q = q; steps = steps; place = place; location = location; values = [] })

-- and the whole, for a model with so many locations and n variables
unfoldable pub read_opening_of : ℕ → ℕ → Reader Opening
read_opening_of locations n = do
  o ← read_opening_fields locations
  xs ← read_values n
  give (record { q = o.q; steps = o.steps; place = o.place; location = o.location; values = xs })
