-- A paper beside the twelve, the smallest whose proofs need rows of every kind: two components that share event 1, a variable each, and
-- a switch by which component 0 moves alone while component 1's variable stays. Sheets as bytes. Assumes nothing.
use Rattle.std.specs.Prelude.{true, false, List, [], ◌∷◌, ℕ, ltb, set}
use Rattle.formats.specs.Joint.{join_all}

-- numbers of four bytes from −128 to 127, by their last byte: −1 is 255, −2 is 254
unfoldable pub word : ℕ → List ℕ
word b = elim (ltb b 128) [ true ↦ 0 ∷ 0 ∷ 0 ∷ b ∷ [] | false ↦ 255 ∷ 255 ∷ 255 ∷ b ∷ [] ]

unfoldable pub words : List ℕ → List ℕ
words bytes = join_all word bytes

unfoldable pub parts : List (List ℕ) → List ℕ
parts all = join_all (λ part. part) all

-- the model: x is component 0's, y component 1's; one mode each, so one location
unfoldable pub pair : List ℕ
pair =
    parts (
    -- 160 bytes; 2 variables, 2 components, 1 unsafe condition; owners 0 and 1
    (0 ∷ 158 ∷ 1 ∷ 1 ∷ 2 ∷ 2 ∷ 1 ∷ 0 ∷ 1 ∷ [])
    -- component 0: its alphabet has event 1; 1 mode, 2 switches. A start mode with initial x ≤ 0
    ∷ (0 ∷ 2 ∷ 1 ∷ 2 ∷ 1 ∷ 1 ∷ []) ∷ words (1 ∷ 0 ∷ 0 ∷ [])
    -- no invariant; the rate of x at most −1
    ∷ (0 ∷ 1 ∷ []) ∷ words (1 ∷ 0 ∷ 255 ∷ [])
    -- switch 0, event 1: x' ≤ 0
    ∷ (0 ∷ 0 ∷ 1 ∷ 1 ∷ []) ∷ words (0 ∷ 0 ∷ 1 ∷ 0 ∷ 0 ∷ [])
    -- switch 1, alone: x' − x ≤ 0
    ∷ (0 ∷ 0 ∷ 0 ∷ 1 ∷ []) ∷ words (255 ∷ 0 ∷ 1 ∷ 0 ∷ 0 ∷ [])
    -- component 1: its alphabet has event 1; 1 mode, 1 switch. A start mode with initial y ≤ 0
    ∷ (0 ∷ 2 ∷ 1 ∷ 1 ∷ 1 ∷ 1 ∷ []) ∷ words (0 ∷ 1 ∷ 0 ∷ [])
    -- no invariant; the rate of y at most 0
    ∷ (0 ∷ 1 ∷ []) ∷ words (0 ∷ 1 ∷ 0 ∷ [])
    -- switch 0, event 1: y' ≤ 0
    ∷ (0 ∷ 0 ∷ 1 ∷ 1 ∷ []) ∷ words (0 ∷ 0 ∷ 0 ∷ 1 ∷ 0 ∷ [])
    -- unsafe, in mode 0 of component 0 and any of component 1: −x − y ≤ −2
    ∷ (0 ∷ 255 ∷ 1 ∷ []) ∷ words (255 ∷ 255 ∷ 254 ∷ [])
    ∷ [])

-- a proof's once_entry with multiplier 1
unfoldable pub once_entry : ℕ → List ℕ
once_entry h = h ∷ word 1

-- the certificate: region x + y ≤ 1, and a proof for each of the five obligations
unfoldable pub pair_proofs : List ℕ
pair_proofs =
    parts (
    (0 ∷ 106 ∷ 1 ∷ 2 ∷ 1 ∷ 1 ∷ []) ∷ words (1 ∷ 1 ∷ 1 ∷ [])
    -- start: the two initial rows
    ∷ word 1 ∷ (2 ∷ []) ∷ once_entry 0 ∷ once_entry 1
    -- flow: the region on x, the two flow rows, the time row
    ∷ word 1 ∷ (4 ∷ []) ∷ once_entry 0 ∷ once_entry 1 ∷ once_entry 2 ∷ once_entry 3
    -- unsafe, k 0: the region, the unsafe row
    ∷ word 0 ∷ (2 ∷ []) ∷ once_entry 0 ∷ once_entry 1
    -- component 0 alone: the region on x, the jump row, y' − y ≤ 0
    ∷ word 1 ∷ (3 ∷ []) ∷ once_entry 0 ∷ once_entry 1 ∷ once_entry 2
    -- event 1: both jump rows
    ∷ word 1 ∷ (2 ∷ []) ∷ once_entry 1 ∷ once_entry 2
    ∷ [])

-- with the other staying row, y − y' ≤ 0, in the fourth proof
unfoldable pub pair_turned : List ℕ
pair_turned = set pair_proofs 88 3

-- with the time row twice in the flow's proof
unfoldable pub pair_twice : List ℕ
pair_twice = set pair_proofs 57 2
