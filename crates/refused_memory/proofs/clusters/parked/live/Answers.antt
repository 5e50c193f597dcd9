use Rattle.std.proofs.Common.{List, [], ◌∷◌, ◌++◌, ap, ◌∙◌}
use Rattle.silo_loops.specs.Lines.{QueuePass}
use Rattle.refused_memory.proofs.Retiring.{first-caller, some-silo}
use Rattle.refused_memory.proofs.clusters.parked.live.Goals as goal

pub retire-requires-clause-some : goal.retire-requires-clause-some
retire-requires-clause-some g c =
    some-silo c.new-config.result c.in_ok-cluster.cluster c.in_ok-cluster.caller c.in_ok-cluster.crew.items c.new-config.ensures.config.silos.0 c.in_ok-cluster.ensures

pub retire-requires-clause-callers : goal.retire-requires-clause-callers
retire-requires-clause-callers g c =
    let all = c.push_reserved.ensures.items ∙ ap (λ (before : List (List QueuePass)). before ++ c.in_ok-cluster.caller ∷ []) c.in_ok-callers.ensures.items in
    first-caller c.new-config.result c.in_ok-cluster.cluster c.in_ok-cluster.caller c.in_ok-cluster.crew.items c.push_reserved.new.self.items all c.in_ok-cluster.ensures
