-- The word's bytes, lowest first. Assumes nothing.
use mathlib.Core.Path.{ap}
use mathlib.Core.List.{List, [], ◌∷◌}
use Prim.Native.Nat.{ℕ}
use lib.ListN.{get_or}
use Rattle.joint_lists.specs.Batches.{unpacked_of}
use Rattle.joint_lists.proofs.records.unpacked.Goals as goal

pub returns : goal.returns
unfolding unpacked_of
returns c =
    ap (λ (bs : List ℕ). record { source = get_or bs 0 0; event = get_or bs 1 0; switches = get_or bs 2 0 ∷ get_or bs 3 0 ∷ get_or bs 4 0 ∷ get_or bs 5 0 ∷ []; target = get_or bs 6 0 }) c.to_le_bytes.ensures
