-- What holds of a paper once its sheets are read. Assumes nothing.
use Rattle.std.specs.Prelude.{List, ℕ, ◌≤◌, length}
use Rattle.formats.specs.Locations.{location_count}
use Rattle.models.specs.Index.{version_in, entry, components_from, GoodIndex}
use Rattle.joint_switches.specs.Counted.{Counted}
use Rattle.second_sheets.specs.CertificateAnswers.{GoodRegions}

-- a model and a certificate's regions that were read, and their places
pub record GoodPaper (model index second regions : List ℕ) : Type 0 where
  pub good : GoodIndex model index
  pub placed : GoodRegions second (version_in index) (entry index 0) (location_count (components_from model index)) regions
  pub short : length model ≤ 32768
  pub brief : length second ≤ 32768
  pub few : location_count (components_from model index) ≤ 64
  pub counted : Counted model index
