-- Items that an index keeps one after the other, modes, switches or unsafe conditions: their bytes in the copy, and what the walk asks of
-- them. Assumes nothing.
use Rattle.std.specs.Prelude.{List, ◌++◌, ℕ, ◌+◌, ◌*◌, ◌≤◌, ◌<◌}
use Rattle.formats.specs.Joint.{count_up, join_all}
use Rattle.models.specs.Index.{entry, variables_in, components_in, conditions_in, version_in, index_length, first_mode, mode_length, first_switch, switch_length, first_unsafe, unsafe_length, initial_at, jump_at, unsafe_rows_at, span_rows, GoodSpan}
use Rattle.writing.specs.Writing.{write_condition}
use Rattle.fair_models.specs.FairCopy.{fair_condition}
use Rattle.fair_copies.specs.declared.parts.Items.{Items}
use Rattle.fair_copies.specs.Copyable.{entries}

-- the modes and the switches of the component whose block begins here, and the unsafe conditions
abbrev pub mode_items : List ℕ → ℕ → Items
mode_items index block =
    record {
      n = variables_in index;
      first = block + first_mode;
      step = mode_length;
      count = entry index (block + 1);
      head = initial_at;
      rows = initial_at;
      spans = 3;
    }

abbrev pub switch_items : List ℕ → ℕ → Items
switch_items index block =
    record {
      n = 2 * variables_in index;
      first = block + first_switch;
      step = switch_length;
      count = entry index (block + 2);
      head = jump_at;
      rows = jump_at;
      spans = 1;
    }

abbrev pub condition_items : List ℕ → Items
condition_items index =
    record {
      n = variables_in index;
      first = first_unsafe;
      step = unsafe_length;
      count = conditions_in index;
      head = components_in index;
      rows = unsafe_rows_at;
      spans = 1;
    }

-- a condition that is kept at a place, those of an item, an item, and all of them
abbrev pub span_bytes : List ℕ → List ℕ → ℕ → ℕ → List ℕ
span_bytes model index n place = write_condition (version_in index) (fair_condition (span_rows model (version_in index) n index place))

abbrev pub spans_bytes : List ℕ → List ℕ → Items → ℕ → List ℕ
spans_bytes model index items place = join_all (λ i. span_bytes model index items.n (place + 2 * i)) (count_up 0 items.spans)

abbrev pub item_bytes : List ℕ → List ℕ → Items → ℕ → List ℕ
item_bytes model index items place = entries index place items.head ++ spans_bytes model index items (place + items.rows)

abbrev pub items_bytes : List ℕ → List ℕ → Items → List ℕ
items_bytes model index items = join_all (λ i. item_bytes model index items (items.first + items.step * i)) (count_up 0 items.count)

-- the rows of an item stand within the sheet
abbrev pub GoodSpans : List ℕ → List ℕ → Items → ℕ → Type 0
GoodSpans model index items place = (i : ℕ) → i < items.spans → GoodSpan model (version_in index) items.n index (place + 2 * i)

-- an item: its first numbers are bytes, and it stands within the index
pub record GoodItem (model index : List ℕ) (items : Items) (place : ℕ) : Type 0 where
  pub bytes : (k : ℕ) → k < items.head → entry index (place + k) < 256
  pub spans : GoodSpans model index items (place + items.rows)
  pub within : place + 8 ≤ index_length
  pub heads : items.head ≤ 4
  pub few : items.rows + 2 * items.spans ≤ 8
  pub conditions : items.spans ≤ 3
  pub wide : items.n ≤ 16

pub record GoodItems (model index : List ℕ) (items : Items) : Type 0 where
  pub each : (i : ℕ) → i < items.count → GoodItem model index items (items.first + items.step * i)
  pub few : items.count ≤ 32
