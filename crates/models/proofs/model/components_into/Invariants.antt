use Rattle.models.specs.Index.{component_from, component_place}
use Rattle.formats.specs.Model.{read_component}
use Rattle.models.proofs.FillLoop.{Filled}
use Rattle.models.proofs.ComponentLaws.{Blocks}
use Rattle.models.proofs.model.components_into.Given as goal

abbrev pub invariant-loop-k : goal.invariant-loop-k
invariant-loop-k l =
    Filled (read_component l.version l.n) (λ x i. component_from l.s l.version l.n x (component_place i)) l.count l.s l.at 16 892 l.initial.index l.index l.k l.place × Blocks l.index l.k
