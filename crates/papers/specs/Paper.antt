-- A paper once its sheets are read, as the contracts name it: a model by its index, and the regions by the places
-- that the code keeps. Assumes nothing.
use Rattle.std.specs.Prelude.{List, ℕ, ◌≤◌, length}
use Rattle.formats.specs.Reading.{got, refused, Got}
use Rattle.formats.specs.Rows.{Condition}
use Rattle.formats.specs.Locations.{location_count}
use Rattle.formats.specs.Joint.{joints, JointSwitch}
use Rattle.papers.specs.declared.Paper as declared
use Rattle.models.specs.Index.{version_in, entry, components_from, GoodIndex, model_from}
use Rattle.joint_switches.specs.Counted.{Counted}
use Rattle.second_sheets.specs.CertificateAnswers.{regions_from}
use Rattle.rules.specs.Obligations.{region_of, Obligation, obligations, location_obligations, jumps_obligations}

-- a model that was read: its index is good and has its counts, its sheet is short, and its locations and joint switches are no more than
-- the exam allows
pub record Accepted (model index : List ℕ) : Type 0 where
  pub good : GoodIndex model index
  pub short : length model ≤ 32768
  pub few : location_count (components_from model index) ≤ 64
  pub joined : length (joints (components_from model index)) ≤ 4096
  pub counted : Counted model index

-- the regions of a certificate, by the places that the code keeps
unfoldable pub regions_of : List ℕ → List ℕ → List ℕ → List ℕ → ℕ → Condition
regions_of model index second regions = region_of (regions_from second (version_in index) (entry index 0) regions (location_count (components_from model index)))

-- what a paper has to prove: all of it, for so many locations; at a location; by joint switches, of which so many come before these
abbrev pub obligations_for : List ℕ → List ℕ → List ℕ → List ℕ → ℕ → List Obligation
obligations_for model index second regions locations = obligations (model_from model index) (regions_from second (version_in index) (entry index 0) regions locations)

abbrev pub location_obligations_for : List ℕ → List ℕ → List ℕ → List ℕ → ℕ → List Obligation
location_obligations_for model index second regions = location_obligations (model_from model index) (regions_of model index second regions)

abbrev pub jumps_obligations_for : List ℕ → List ℕ → List ℕ → List ℕ → ℕ → List JointSwitch → List Obligation
jumps_obligations_for model index second regions = jumps_obligations (model_from model index) (regions_of model index second regions)

-- where reading went on, whatever was read, or the refusal
unfoldable pub held_next : {A : Type 0} → Got A → Got (Unit {0})
held_next (got a p) = got tt p
held_next (refused number place) = refused number place

-- what is said of a paper's sheets, said of the paper as the code hands it on: a value, or a fact
abbrev pub of_paper : {A : Type 0} → (List ℕ → List ℕ → List ℕ → List ℕ → A) → declared.Paper → A
of_paper f p = f p.model.now p.index.now p.second.now p.regions.now

abbrev pub on_paper : {A : Type 1} → (List ℕ → List ℕ → List ℕ → List ℕ → A) → declared.Paper → A
on_paper f p = f p.model.now p.index.now p.second.now p.regions.now
