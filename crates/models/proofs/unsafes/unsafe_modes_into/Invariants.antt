use mathlib.Core.Path.{◌≡◌}
use Prim.Native.Nat.{◌+◌, ◌≤◌}
use lib.ListN.{length}
use Rattle.formats.specs.Reading.{each}
use Rattle.models.specs.Index.{entry, components_from, Kept}
use Rattle.models.proofs.UnsafeLaws.{ReadingEach, read_mode_byte}
use Rattle.models.proofs.unsafes.unsafe_modes_into.Given as goal

abbrev pub invariant-loop-k : goal.invariant-loop-k
invariant-loop-k l =
    (l.k ≤ l.c) × ((length l.index ≡ length l.initial.index) × (ReadingEach read_mode_byte (components_from l.s l.initial.index) l.s (each read_mode_byte (components_from l.s l.initial.index) l.s l.at) (λ j. entry l.index (l.i + j)) l.k l.place × Kept l.i (l.i + 4) l.initial.index l.index))
