-- The papers of document 01's table that are proved as a group ("To prove as a group"): sheets as bytes. Assumes nothing.
use Rattle.std.specs.Prelude.{List, [], ◌∷◌, ◌++◌, ℕ, set, take}

-- a row of one coefficient and its bound, by their last bytes: where both are from 0 to 255, and where both are from −256 to −1
unfoldable pub upper_row : ℕ → ℕ → List ℕ
upper_row a b = 0 ∷ 0 ∷ 0 ∷ a ∷ 0 ∷ 0 ∷ 0 ∷ b ∷ []

unfoldable pub down : ℕ → ℕ → List ℕ
down a b = 255 ∷ 255 ∷ 255 ∷ a ∷ 255 ∷ 255 ∷ 255 ∷ b ∷ []

-- T: "one variable and mode; start x ≤ 5, −x ≤ −5; invariant x ≤ 10; rate at most 2, at least 0; unsafe −x ≤ −11 in mode 0; no
-- switches, alphabet 0; 66 bytes". −1 is byte 255, −5 is 251, −9 is 247, −11 is 245
unfoldable pub t_until : List ℕ
t_until =
    (0 ∷ 64 ∷ 1 ∷ 1 ∷ 1 ∷ 1 ∷ 1 ∷ 0 ∷ 0 ∷ 0 ∷ 1 ∷ 0 ∷ 1 ∷ 2 ∷ [])
    ++ (upper_row 1 5
    ++ (down 255 251
    ++ ((1 ∷ [])
    ++ (upper_row 1 10
    ++ ((2 ∷ [])
    ++ (upper_row 1 2
    ++ ((255 ∷ 255 ∷ 255 ∷ 255 ∷ 0 ∷ 0 ∷ 0 ∷ 0 ∷ [])
    ++ (0 ∷ 1 ∷ []))))))))

unfoldable pub t : List ℕ
t = t_until ++ down 255 245

-- T with unsafe −x ≤ −9
unfoldable pub t_nine : List ℕ
t_nine = t_until ++ down 255 247

-- T less its last byte, L 63
unfoldable pub t_cut : List ℕ
t_cut = set (take 65 t) 1 63

-- C: "region x ≤ 10 and proofs (k; hypothesis:multiplier) 1; 2:1, then 1; 2:1, then 0; 0:1, 2:1, at bytes 14, 24, 34 of 49"
unfoldable pub one : List ℕ
one = 0 ∷ 0 ∷ 0 ∷ 1 ∷ []

unfoldable pub c : List ℕ
c =
    (0 ∷ 47 ∷ 1 ∷ 2 ∷ 1 ∷ 1 ∷ [])
    ++ (upper_row 1 10
    ++ (one ++ ((1 ∷ 2 ∷ []) ++ (one
    ++ (one ++ ((1 ∷ 2 ∷ []) ++ (one
    ++ ((0 ∷ 0 ∷ 0 ∷ 0 ∷ 2 ∷ 0 ∷ []) ++ (one ++ ((2 ∷ []) ++ one))))))))))

-- C's last proof as 2, 0
unfoldable pub c_turned : List ℕ
c_turned = set (set c 39 2) 44 0

-- C's first multiplier 2
unfoldable pub c_twice : List ℕ
c_twice = set c 23 2

-- C with region bound 9
unfoldable pub c_nine : List ℕ
c_nine = set c 13 9

-- runs with q 1 from a value in location 0; no steps, or one flow with its δ and new value
unfoldable pub still : ℕ → List ℕ
still x = 0 ∷ 13 ∷ 1 ∷ 3 ∷ 0 ∷ 0 ∷ 0 ∷ 1 ∷ 0 ∷ 0 ∷ 0 ∷ 0 ∷ 0 ∷ 0 ∷ x ∷ []

unfoldable pub flowing : ℕ → ℕ → ℕ → List ℕ
flowing x δ next =
    (0 ∷ 22 ∷ 1 ∷ 3 ∷ 0 ∷ 0 ∷ 0 ∷ 1 ∷ 0 ∷ 1 ∷ 0 ∷ 0 ∷ 0 ∷ 0 ∷ x ∷ []) ++ (0 ∷ upper_row δ next)
