use mathlib.Core.Path.{◌≡◌}
use lib.ListN.{length}
use Rattle.formats.specs.ModelSheet.{stated}
use Rattle.entries.proofs.ListPlan.{Plan, Written}
use Rattle.entries.proofs.table.silfoddra_joint_list.Given as goal

-- as many records as were written are those of the list, and the batch goes on with the others
abbrev pub invariant-loop-i : goal.invariant-loop-i
invariant-loop-i l =
    (p : Plan (stated l.locations l.joints) l.model l.index l.count l.initial.table) × (Written p l.i l.j l.at l.table × (length l.at.words ≡ 64))
