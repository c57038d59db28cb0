-- How a model sheet opens: its header, then its paper number; an index keeps its version and that number. Assumes nothing.
use Rattle.std.specs.Prelude.{List, ℕ}
use Rattle.formats.specs.Reading.{Reader, ◌>>=◌, give, header, read_paper}
use Rattle.models.specs.Index.{version_in, paper_in}

-- what stands before n's byte
pub record Opening : Type 0 where
  pub version : ℕ
  pub paper : ℕ

unfoldable pub read_opening : Reader Opening
read_opening = do
  version ← header 1
  paper ← read_paper version
  give (record { version = version; paper = paper })

-- as an index keeps it
unfoldable pub opening_from : List ℕ → Opening
opening_from index = record { version = version_in index; paper = paper_in index }
