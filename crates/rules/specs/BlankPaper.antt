-- A paper with blanks (02, order 6): one variable x that neither the flow nor the jump mentions, so that in version 2 it never changes. The
-- same bytes but for the version are a paper in which x is free. Sheets as bytes. Assumes nothing.
use Rattle.std.specs.Prelude.{List, [], ◌∷◌, ℕ}
use Rattle.rules.specs.PairPaper.{word, words, parts, once_entry}

-- the model, of a version: x begins at 5; one mode without flow rows, one switch without rows; unsafe from 6 on
unfoldable pub blank : ℕ → List ℕ
blank version =
    parts (
    -- 46 bytes; 1 variable, 1 component, 1 unsafe condition; owner 0
    (0 ∷ 44 ∷ version ∷ 1 ∷ 1 ∷ 1 ∷ 1 ∷ 0 ∷ [])
    -- alphabet 0; 1 mode, 1 switch. A start mode with initial x ≤ 5, −x ≤ −5
    ∷ (0 ∷ 0 ∷ 1 ∷ 1 ∷ 1 ∷ 2 ∷ []) ∷ words (1 ∷ 5 ∷ 255 ∷ 251 ∷ [])
    -- no invariant, no flow rows; the switch, alone, without rows
    ∷ (0 ∷ 0 ∷ []) ∷ (0 ∷ 0 ∷ 0 ∷ 0 ∷ [])
    -- unsafe in mode 0: −x ≤ −6
    ∷ (0 ∷ 1 ∷ []) ∷ words (255 ∷ 250 ∷ [])
    ∷ [])

-- the certificate, of a version: region x ≤ 5, and a proof for each of the four obligations
unfoldable pub blank_proofs : ℕ → List ℕ
blank_proofs version =
    parts (
    (0 ∷ 67 ∷ version ∷ 2 ∷ 1 ∷ 1 ∷ []) ∷ words (1 ∷ 5 ∷ [])
    -- start: the first initial row
    ∷ word 1 ∷ (1 ∷ []) ∷ once_entry 0
    -- flow: the region on x, and x' − x ≤ 0, after the time row
    ∷ word 1 ∷ (2 ∷ []) ∷ once_entry 0 ∷ once_entry 2
    -- unsafe, k 0: the region, the unsafe row
    ∷ word 0 ∷ (2 ∷ []) ∷ once_entry 0 ∷ once_entry 1
    -- jump: the region on x, and x' − x ≤ 0
    ∷ word 1 ∷ (2 ∷ []) ∷ once_entry 0 ∷ once_entry 1
    ∷ [])
