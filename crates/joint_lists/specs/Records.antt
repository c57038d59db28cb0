-- What the joint list's contracts name besides the definitions of 01: the list by its slots, a slot being an event in a location; what is
-- left of it from a place on; and the index of a sheet. Assumes nothing.
use Rattle.std.specs.Prelude.{◌≡◌, List, [], map, ℕ, ◌*◌, ◌-◌, ◌/◌, ◌%◌, drop}
use Rattle.formats.specs.Model.{Component, Model}
use Rattle.formats.specs.Locations.{location_count}
use Rattle.formats.specs.Joint.{JointSwitch, joints_of, count_up, join_all}
use Rattle.formats.specs.declared.Limits.{Limits}
use Rattle.models.specs.Index.{components_from}
use Rattle.rules.specs.declared.Joint.{Joint}
use Rattle.rules.specs.Opening.{opens, open_model}
use Rattle.papers.specs.Opening.{ModelOpen}
use Rattle.rules.specs.Beside.{record_of}

-- the joint switches of a slot: sixteen events to a location
unfoldable pub slot_joints : List Component → ℕ → List JointSwitch
slot_joints components slot = joints_of components (slot / 16) (slot % 16)

-- the joint switches from a slot on, but for the first x of them
unfoldable pub joints_from : List Component → ℕ → ℕ → List JointSwitch
joints_from components slot x = drop x (join_all (slot_joints components) (count_up slot (16 * location_count components - slot)))

-- their records, by an index
unfoldable pub records_from : List ℕ → List ℕ → ℕ → ℕ → List Joint
records_from model index slot x = map record_of (joints_from (components_from model index) slot x)

unfoldable pub no_joint : JointSwitch
no_joint = record { source = 0; event = 0; switches = []; target = 0 }

-- the index of a sheet: where the sheet opens as a model, it has the model; else it is free
pub record SheetIndex (limits : Limits) (model index : List ℕ) : Type 0 where
  pub holds : (m : Model) → open_model limits model ≡ opens m → ModelOpen limits model index
