use Rattle.std.proofs.Common.{arith, refl, rules}
use Rattle.std.proofs.lemmas.Grind.{common_steps}
use Rattle.stream_cluster_tests.proofs.Whole.{whole-step}
use Rattle.stream_cluster_tests.proofs.parked.Parked.advance.Goals as goal

pub invariant_of-self : goal.invariant_of-self
invariant_of-self g c =
    whole-step c.self.inside.cluster c.self.inside.caller c.self.inside.crew.items _ c.args.at c.index_mut-loops.result.now c.step.new.loops (first_of (omega arith, search rules, grind (arith, common_steps))) c.index_mut-loops.ensures.value c.step.ensures refl c.self.invariant
