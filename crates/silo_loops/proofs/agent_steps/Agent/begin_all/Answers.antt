use Rattle.silo_loops.proofs.Prelude.{ap, ◌∙◌}
use Rattle.silo_loops.specs.declared.agent_walk.Visit.{Visit}
use Rattle.silo_loops.proofs.Advancing.{none-pulled}
use Rattle.silo_loops.proofs.agent_steps.Agent.begin_all.Goals as goal

pub returns-clause-none : goal.returns-clause-none
returns-clause-none g c =
    none-pulled c.next_held.result c.self.inside.lines.items c.next_held.new.held.items (ap (λ (v : Visit). v.at) c.begin.ensures) (c.next_held.ensures.same ∙ c.self.invariant.0) c.next_held.ensures.none
