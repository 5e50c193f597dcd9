use Rattle.silo_loops.proofs.Prelude.{ap, length, refl, sym, true, ◌∙◌, length-map}
use Rattle.silo_loops.specs.Lines.{rested}
use Rattle.silo_loops.proofs.Naming.{visiting-rested}
use Rattle.silo_loops.proofs.agent_steps.Agent.rest.Goals as goal

pub invariant_of-self : goal.invariant_of-self
invariant_of-self g c = (
  c.self.invariant.0 ∙ sym (ap (λ ls. length ls) c.rest_all.ensures ∙ length-map c.self.inside.lines.items rested),
  visiting-rested c.self.inside.visit (record c.self.inside.visit { changed = true }) c.self.inside.lines.items c.rest_all.new.lines.items c.rest_all.ensures refl c.self.invariant.1,
)
