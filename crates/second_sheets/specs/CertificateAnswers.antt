-- What the readings of a certificate answer with: regions by the places that the code keeps, how a proof begins, and its entries. Assumes
-- nothing.
use Rattle.std.specs.Prelude.{Result, Ok, Err, Bool, cond, List, map, ℕ, ◌+◌, ◌*◌, ◌-◌, ◌^◌, ◌≤◌, ◌<◌, eqb, length}
use Rattle.farkas.specs.Farkas.{Entry}
use Rattle.second_sheets.specs.declared.Head.{Head}
use Rattle.second_sheets.specs.declared.Entry as coded
use Rattle.fields.specs.declared.Refusal.{Refusal}
use Rattle.fields.specs.Causes.{number_of}
use Rattle.formats.specs.Reading.{Got, got, refused, Reader, ◌>>=◌, give, u8, u32, must, within, many}
use Rattle.formats.specs.Rows.{Condition, read_condition}
use Rattle.formats.specs.Joint.{count_up}
use Rattle.models.specs.Index.{entry, span_rows}
use Rattle.formats.specs.Versions.{row_bytes}

-- the regions of a certificate, location by location: the rows of location l are kept at numbers 2 l and 2 l + 1
unfoldable pub regions_from : List ℕ → ℕ → ℕ → List ℕ → ℕ → List Condition
regions_from s version n regions count = map (λ l. span_rows s version n regions (2 * l)) (count_up 0 count)

-- "u8 locations, equal to the model's; per location a region of 0..16 rows", by the numbers of locations and of variables alone
unfoldable pub regions_for : ℕ → ℕ → ℕ → Reader (List Condition)
regions_for locations version n = do
  count ← must (λ v. eqb v locations) 5 u8
  many count (read_condition version 16 n)

-- what holds of the places of regions that were read: at most 16 rows each, and every row within the sheet
pub record GoodRegions (s : List ℕ) (version n count : ℕ) (regions : List ℕ) : Type 0 where
  pub few : (l : ℕ) → l < count → entry regions (2 * l + 1) ≤ 16
  pub within : (l : ℕ) → l < count → (j : ℕ) → j < entry regions (2 * l + 1) → entry regions (2 * l) + row_bytes version n * (j + 1) ≤ length s

-- how a proof begins: "u32 k, 0..2^24−1; u8 entries, 0..128", and "An unsafe goal has k = 0 only, else 5 at k"
unfoldable pub read_head : Bool → Reader Head
read_head unsafe = do
  k ← within 0 (cond unsafe 0 (2 ^ 24 - 1)) u32
  count ← within 0 128 u8
  give (record { k = k; count = count })

-- an entry that the code read, as the test of a proof has it
unfoldable pub got_entry : Result (coded.Entry × ℕ) Refusal → Got Entry
got_entry (Ok read) = got (record { hypothesis = read.0.hypothesis; multiplier = read.0.multiplier }) read.1
got_entry (Err r) = refused (number_of r.0) r.1
