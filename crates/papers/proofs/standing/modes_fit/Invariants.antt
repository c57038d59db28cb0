use mathlib.Core.Path.{◌≡◌}
use Rattle.models.specs.Index.{unsafe_place}
use Rattle.papers.proofs.StandingLaws.{fit_on}
use Rattle.papers.proofs.standing.modes_fit.Given as goal

abbrev pub invariant-loop-k : goal.invariant-loop-k
invariant-loop-k l = fit_on l.index l.modes (unsafe_place l.u) l.k ≡ fit_on l.index l.modes (unsafe_place l.u) 0
