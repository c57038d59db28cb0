-- Records of the joint list, packed in words and told in batches. Assumes nothing.
use Rattle.std.specs.Prelude.{◌≡◌, List, [], ◌∷◌, ◌++◌, map, ℕ, ◌+◌, ◌/◌, ◌%◌, ◌≤◌, ◌<◌, length, get_or, take}
use Rattle.models.specs.Index.{components_from}
use Rattle.joint_switches.specs.declared.Slot.{Slot}
use Rattle.joint_switches.specs.declared.Landing.{Landing}
use Rattle.joint_switches.specs.declared.slots.Way.{Way}
use Rattle.joint_switches.specs.Slots.{landing_in, Ready}
use Rattle.rules.specs.declared.Joint.{Joint}
use Rattle.rules.specs.Beside.{record_of}
use Rattle.joint_lists.specs.declared.Batch.{Batch}
use Rattle.joint_lists.specs.declared.Filled.{Filled}
use Rattle.joint_lists.specs.Records.{slot_joints, records_from, no_joint}

-- the record that is packed in a word: a byte for each of its numbers
unfoldable pub unpacked_of : ℕ → Joint
unpacked_of w =
    record {
      source = w % 256;
      event = w / 256 % 256;
      switches = w / 65536 % 256 ∷ w / 16777216 % 256 ∷ w / 4294967296 % 256 ∷ w / 1099511627776 % 256 ∷ [];
      target = w / 281474976710656 % 256;
    }

-- the record of a joint switch of a slot, by what is found of it
abbrev pub record_by : ℕ → Landing → Joint
record_by at landing = record { source = at / 16; event = at % 16; switches = landing.switches; target = landing.target }

-- the records that the first words tell
unfoldable pub records_in : List ℕ → ℕ → List Joint
records_in words count = map unpacked_of (take count words)

-- and after them those from a place on
abbrev pub records_with : List ℕ → List ℕ → List ℕ → Filled → List Joint
records_with model index words f = records_in words f.count ++ records_from model index f.slot f.x

-- a table that tells the joint switches of a slot
pub record Tells (model index : List ℕ) (at : ℕ) (slot : Slot) (ways : List Way) : Type 0 where
  pub ready : Ready index slot ways
  pub counted : slot.count ≡ length (slot_joints (components_from model index) at)
  pub small : (x : ℕ) → x < slot.count → (landing_in index slot ways x).target < 256
  pub records : (x : ℕ) → x < slot.count → record_by at (landing_in index slot ways x) ≡ record_of (get_or (slot_joints (components_from model index) at) x no_joint)

-- a slot is passed, or the words are full
pub record Further (at from : ℕ) (f : Filled) : Type 0 where
  pub most : f.count ≤ 64
  pub words : from ≤ f.count
  pub slots : f.slot ≤ at + 1
  pub on : at + from < f.slot + f.count

-- a batch tells the records from a place on, up to its own place, and at least one if there is one
abbrev pub Told : List ℕ → List ℕ → ℕ → ℕ → Batch → Type 0
Told model index slot x b =
    (records_from model index slot x ≡ records_in b.words b.count ++ records_from model index b.slot b.x)
    × ((b.count ≤ 64) × (0 < length (records_from model index slot x) → 0 < b.count))
