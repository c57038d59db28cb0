-- T, C and runs as sheets of version 3 (02, order 7): the same fields behind a paper number. Sheets as bytes. Assumes nothing.
use Rattle.std.specs.Prelude.{List, [], ◌∷◌, ◌++◌, ℕ, ◌+◌, get_or, take, drop}
use Rattle.rules.specs.PairPaper.{word}

-- a sheet of less than 252 bytes with a paper number up to 127 behind its header, as one of version 3
unfoldable pub with_number : ℕ → List ℕ → List ℕ
with_number paper s = (0 ∷ (get_or s 1 0 + 4) ∷ 3 ∷ get_or s 3 0 ∷ []) ++ (word paper ++ drop 4 s)

-- the same cut within the paper number: two bytes of it
unfoldable pub cut_number : List ℕ → List ℕ
cut_number s = (0 ∷ 4 ∷ []) ++ take 4 (drop 2 s)
