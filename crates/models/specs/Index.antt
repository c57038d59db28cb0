-- The index of a model sheet: numbers that keep what the sheet's fields say and where its rows stand, and the model that they give
-- back. Components count from 0 and have blocks of one size; so have modes, switches and unsafe conditions. Assumes nothing.
use Rattle.std.specs.Prelude.{◌||◌, List, map, ◌≡◌, ℕ, ◌+◌, ◌*◌, ◌%◌, ◌≤◌, ◌<◌, T, eqb, ltb, length, get_or}
use Rattle.formats.specs.Reading.{Reader, ◌>>=◌, give, u8, u16, must, within, many, each}
use Rattle.formats.specs.Rows.{Condition, read_condition}
use Rattle.formats.specs.Model.{Mode, Switch, Component, Unsafe, Model, has_event, read_component, read_unsafe}
use Rattle.formats.specs.Joint.{count_up}
use Rattle.fields.specs.Places.{rows_from}
use Rattle.formats.specs.Versions.{version_fits, row_bytes}

-- the i-th number of an index
unfoldable pub entry : List ℕ → ℕ → ℕ
entry index i = get_or index i 0

-- How the index is laid out; the code has the same names for these numbers (src/layout.rt)
abbrev pub index_length : ℕ
index_length = 1004

-- first how many variables, components and unsafe conditions there are
abbrev pub variables_in : List ℕ → ℕ
variables_in index = entry index 0

abbrev pub components_in : List ℕ → ℕ
components_in index = entry index 1

abbrev pub conditions_in : List ℕ → ℕ
conditions_in index = entry index 2

-- then the variables' owners
abbrev pub first_owner : ℕ
first_owner = 3

unfoldable pub owner_place : ℕ → ℕ
owner_place v = first_owner + v

-- then the sheet's version
abbrev pub version_at : ℕ
version_at = 11

abbrev pub version_in : List ℕ → ℕ
version_in index = entry index version_at

-- then its paper number, in two halves; 0 and 0 where the version has none
abbrev pub paper_at : ℕ
paper_at = 12

abbrev pub paper_in : List ℕ → ℕ
paper_in index = entry index paper_at * 65536 + entry index (paper_at + 1)

-- then, once they are counted, how many joint switches and locations there are
abbrev pub joints_at : ℕ
joints_at = 14

abbrev pub locations_at : ℕ
locations_at = 15

-- then a block for each component
abbrev pub first_block : ℕ
first_block = 16

abbrev pub block_length : ℕ
block_length = 219

unfoldable pub component_place : ℕ → ℕ
component_place k = first_block + block_length * k

-- in a block: alphabet, mode count, switch count; then the modes, then the switches
abbrev pub mode_count_in : List ℕ → ℕ → ℕ
mode_count_in index k = entry index (component_place k + 1)

abbrev pub switch_count_in : List ℕ → ℕ → ℕ
switch_count_in index k = entry index (component_place k + 2)

abbrev pub first_mode : ℕ
first_mode = 3

abbrev pub mode_length : ℕ
mode_length = 7

unfoldable pub mode_place : ℕ → ℕ → ℕ
mode_place block j = block + first_mode + mode_length * j

abbrev pub first_switch : ℕ
first_switch = 59

abbrev pub switch_length : ℕ
switch_length = 5

unfoldable pub switch_place : ℕ → ℕ → ℕ
switch_place block i = block + first_switch + switch_length * i

-- last the unsafe conditions: 4 mode bytes, and the rows
abbrev pub first_unsafe : ℕ
first_unsafe = 892

abbrev pub unsafe_length : ℕ
unsafe_length = 6

unfoldable pub unsafe_place : ℕ → ℕ
unsafe_place u = first_unsafe + unsafe_length * u

-- and after all that the sheet says, once they are counted, how many joint switches each event has
abbrev pub first_total : ℕ
first_total = 988

-- where rows are kept: in a mode, in a switch, in an unsafe condition
abbrev pub initial_at : ℕ
initial_at = 1

abbrev pub invariant_at : ℕ
invariant_at = 3

abbrev pub flow_at : ℕ
flow_at = 5

abbrev pub jump_at : ℕ
jump_at = 3

abbrev pub unsafe_rows_at : ℕ
unsafe_rows_at = 4

-- rows are kept as the place of the first and how many there are
unfoldable pub span_rows : List ℕ → ℕ → ℕ → List ℕ → ℕ → Condition
span_rows s version n index i = rows_from s version n (entry index i) (entry index (i + 1))

-- the three conditions of a mode: how they are read, and where they are kept
pub record Three : Type 0 where
  pub initial : Condition
  pub invariant : Condition
  pub flow : Condition

unfoldable pub read_three : ℕ → ℕ → ℕ → Reader Three
read_three version most n = do
  initial ← read_condition version most n
  invariant ← read_condition version 8 n
  flow ← read_condition version 8 n
  give (record { initial = initial; invariant = invariant; flow = flow })

unfoldable pub three_from : List ℕ → ℕ → ℕ → List ℕ → ℕ → Three
three_from s version n index i =
    record { initial = span_rows s version n index i; invariant = span_rows s version n index (i + 2); flow = span_rows s version n index (i + 4) }

unfoldable pub mode_from : List ℕ → ℕ → ℕ → List ℕ → ℕ → Mode
mode_from s version n index i =
    record {
      start = entry index i;
      initial = span_rows s version n index (i + initial_at);
      invariant = span_rows s version n index (i + invariant_at);
      flow = span_rows s version n index (i + flow_at);
    }

-- a switch's label and jump condition: how they are read, and where they are kept
pub record Labelled : Type 0 where
  pub label : ℕ
  pub jump : Condition

unfoldable pub read_label : ℕ → Reader ℕ
read_label alphabet = must (λ v. eqb v 0 || has_event alphabet v) 6 (within 0 15 u8)

unfoldable pub read_labelled : ℕ → ℕ → ℕ → Reader Labelled
read_labelled version n alphabet = do
  label ← read_label alphabet
  jump ← read_condition version 8 (2 * n)
  give (record { label = label; jump = jump })

unfoldable pub labelled_from : List ℕ → ℕ → ℕ → List ℕ → ℕ → Labelled
labelled_from s version n index i = record { label = entry index i; jump = span_rows s version (2 * n) index (i + 1) }

unfoldable pub switch_from : List ℕ → ℕ → ℕ → List ℕ → ℕ → Switch
switch_from s version n index i =
    record {
      source = entry index i;
      target = entry index (i + 1);
      label = entry index (i + 2);
      jump = span_rows s version (2 * n) index (i + jump_at);
    }

-- a component's alphabet and counts: how they are read, and where they are kept
pub record Counts : Type 0 where
  pub alphabet : ℕ
  pub modes : ℕ
  pub switches : ℕ

unfoldable pub read_alphabet : Reader ℕ
read_alphabet = must (λ v. eqb (v % 2) 0) 5 u16

unfoldable pub read_counts : Reader Counts
read_counts = do
  alphabet ← read_alphabet
  modes ← within 1 8 u8
  switches ← within 0 32 u8
  give (record { alphabet = alphabet; modes = modes; switches = switches })

unfoldable pub counts_from : List ℕ → ℕ → Counts
counts_from index block = record { alphabet = entry index block; modes = entry index (block + 1); switches = entry index (block + 2) }

unfoldable pub component_from : List ℕ → ℕ → ℕ → List ℕ → ℕ → Component
component_from s version n index block =
    record {
      alphabet = entry index block;
      modes = map (λ j. mode_from s version n index (mode_place block j)) (count_up 0 (entry index (block + 1)));
      switches = map (λ i. switch_from s version n index (switch_place block i)) (count_up 0 (entry index (block + 2)));
    }

-- an unsafe condition's modes, one of a component's or 255: how they are read, and where they are kept
abbrev pub read_unsafe_modes : List Component → Reader (List ℕ)
read_unsafe_modes = each (λ (c : Component). must (λ v. ltb v (length c.modes) || eqb v 255) 5 u8)

abbrev pub unsafe_modes_from : ℕ → List ℕ → ℕ → List ℕ
unsafe_modes_from c index i = map (λ k. entry index (i + k)) (count_up 0 c)

unfoldable pub unsafe_from : List ℕ → ℕ → ℕ → ℕ → List ℕ → ℕ → Unsafe
unsafe_from s version n c index i =
    record {
      modes = unsafe_modes_from c index i;
      rows = span_rows s version n index (i + unsafe_rows_at);
    }

-- so many unsafe conditions
abbrev pub unsafes_from : List ℕ → ℕ → ℕ → ℕ → ℕ → List ℕ → List Unsafe
unsafes_from s version n c conditions index = map (λ u. unsafe_from s version n c index (unsafe_place u)) (count_up 0 conditions)

-- the components of an index, and its model
unfoldable pub components_from : List ℕ → List ℕ → List Component
components_from s index = map (λ k. component_from s (version_in index) (entry index 0) index (component_place k)) (count_up 0 (entry index 1))

unfoldable pub model_from : List ℕ → List ℕ → Model
model_from s index =
    record {
      version = version_in index;
      paper = paper_in index;
      variables = entry index 0;
      owners = map (λ v. entry index (owner_place v)) (count_up 0 (entry index 0));
      components = components_from s index;
      unsafe = unsafes_from s (version_in index) (entry index 0) (entry index 1) (entry index 2) index;
    }

-- a model's three counts, and its components with its unsafe conditions: how they are read, and where they are kept
pub record Totals : Type 0 where
  pub variables : ℕ
  pub components : ℕ
  pub conditions : ℕ

unfoldable pub read_totals : Reader Totals
read_totals = do
  n ← within 1 8 u8
  c ← within 1 4 u8
  conditions ← within 0 16 u8
  give (record { variables = n; components = c; conditions = conditions })

unfoldable pub totals_from : List ℕ → Totals
totals_from index = record { variables = entry index 0; components = entry index 1; conditions = entry index 2 }

pub record BodyParts : Type 0 where
  pub components : List Component
  pub unsafe : List Unsafe

unfoldable pub read_parts : ℕ → ℕ → ℕ → ℕ → Reader BodyParts
read_parts version n c conditions = do
  components ← many c (read_component version n)
  unsafe ← many conditions (read_unsafe version n components)
  give (record { components = components; unsafe = unsafe })

unfoldable pub parts_from : List ℕ → ℕ → ℕ → ℕ → ℕ → List ℕ → BodyParts
parts_from s version n c conditions index =
    record {
      components = map (λ k. component_from s version n index (component_place k)) (count_up 0 c);
      unsafe = unsafes_from s version n c conditions index;
    }

-- nothing outside a range of numbers has changed
pub record Kept (from until : ℕ) (before after : List ℕ) : Type 0 where
  pub kept : (i : ℕ) → (from ≤ i → i < until → ⊥) → entry after i ≡ entry before i

-- two indices say the same of a sheet: all but what is counted is equal
pub record SameSheet (before after : List ℕ) : Type 0 where
  pub front : (i : ℕ) → i ≤ paper_at + 1 → entry after i ≡ entry before i
  pub body : (i : ℕ) → first_block ≤ i → i < first_total → entry after i ≡ entry before i

-- a sheet of a right length, and an index with all its numbers
pub record Sized (s index : List ℕ) : Type 0 where
  pub short : length s ≤ 32768
  pub long : index_length ≤ length index

-- What holds of the index of every model that reads well: counts and numbers in their ranges, rows within the sheet
pub record GoodSpan (s : List ℕ) (version n : ℕ) (index : List ℕ) (i : ℕ) : Type 0 where
  pub few : entry index (i + 1) ≤ 8
  pub within : (j : ℕ) → j < entry index (i + 1) → entry index i + row_bytes version n * (j + 1) ≤ length s

pub record GoodModeAt (s : List ℕ) (version n : ℕ) (index : List ℕ) (i : ℕ) : Type 0 where
  pub initial : GoodSpan s version n index (i + initial_at)
  pub invariant : GoodSpan s version n index (i + invariant_at)
  pub flow : GoodSpan s version n index (i + flow_at)

pub record GoodSwitchAt (s : List ℕ) (version n modes : ℕ) (index : List ℕ) (i : ℕ) : Type 0 where
  pub source : entry index i < modes
  pub target : entry index (i + 1) < modes
  pub label : entry index (i + 2) ≤ 15
  pub jump : GoodSpan s version (2 * n) index (i + jump_at)

pub record GoodBlock (s : List ℕ) (version n : ℕ) (index : List ℕ) (block : ℕ) : Type 0 where
  pub least : 1 ≤ entry index (block + 1)
  pub most : entry index (block + 1) ≤ 8
  pub few : entry index (block + 2) ≤ 32
  pub modes : (j : ℕ) → j < entry index (block + 1) → GoodModeAt s version n index (mode_place block j)
  pub switches : (i : ℕ) → i < entry index (block + 2) → GoodSwitchAt s version n (entry index (block + 1)) index (switch_place block i)

pub record GoodIndex (s index : List ℕ) : Type 0 where
  pub version : T (version_fits 1 (version_in index))
  pub least : 1 ≤ entry index 0
  pub most : entry index 0 ≤ 8
  pub some : 1 ≤ entry index 1
  pub few : entry index 1 ≤ 4
  pub conditions : entry index 2 ≤ 16
  pub owners : (v : ℕ) → v < entry index 0 → entry index (owner_place v) < entry index 1
  pub blocks : (k : ℕ) → k < entry index 1 → GoodBlock s (version_in index) (entry index 0) index (component_place k)
  pub unsafe : (u : ℕ) → u < entry index 2 → GoodSpan s (version_in index) (entry index 0) index (unsafe_place u + unsafe_rows_at)
