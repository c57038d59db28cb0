-- The certificate sheet's fields (01, Certificate): regions, then proofs. Assumes nothing.
use Rattle.std.specs.Prelude.{Bool, cond, List, [], ◌∷◌, ℕ, zero, suc, ◌-◌, ◌^◌, leb, eqb}
use Rattle.farkas.specs.Farkas.{Entry, Proof}
use Rattle.formats.specs.Reading.{Reader, ◌>>=◌, give, u8, u32, must, within, below, many}
use Rattle.formats.specs.Rows.{Condition, read_condition}
use Rattle.formats.specs.Model.{Model}
use Rattle.formats.specs.Locations.{location_count}

-- "u8 locations, equal to the model's; per location a region of 0..16 rows"
unfoldable pub read_regions : Model → Reader (List Condition)
read_regions m = do
  count ← must (λ v. eqb v (location_count m.components)) 5 u8
  many count (read_condition m.version 16 m.variables)

-- "per entry a u8 hypothesis, below the obligation's count of them, and a u32 multiplier, 1..2^24−1"; "hypotheses strictly ascending":
-- 9, "hypotheses not ascending". `least` is one more than the hypothesis before, 0 at first
unfoldable pub read_entry : ℕ → ℕ → Reader Entry
read_entry hypotheses least = do
  hypothesis ← must (λ v. leb least v) 9 (below hypotheses u8)
  multiplier ← within 1 (2 ^ 24 - 1) u32
  give (record { hypothesis = hypothesis; multiplier = multiplier })

unfoldable pub read_entries : ℕ → ℕ → ℕ → Reader (List Entry)
read_entries hypotheses least zero = give []
read_entries hypotheses least (suc n) = do
  e ← read_entry hypotheses least
  rest ← read_entries hypotheses (suc e.hypothesis) n
  give (e ∷ rest)

-- "A proof is u32 k, 0..2^24−1; u8 entries, 0..128". "An unsafe goal has k = 0 only, else 5 at k"
unfoldable pub read_proof : ℕ → Bool → Reader Proof
read_proof hypotheses unsafe = do
  k ← within 0 (cond unsafe 0 (2 ^ 24 - 1)) u32
  count ← within 0 128 u8
  entries ← read_entries hypotheses 0 count
  give (record { k = k; entries = entries })
