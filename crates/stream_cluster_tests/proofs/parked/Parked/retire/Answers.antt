use Rattle.std.proofs.Common.{arith, rules}
use Rattle.std.proofs.lemmas.Grind.{common_steps}
use Rattle.stream_cluster_tests.proofs.Whole.{runs-at, whole-after, whole-lives}
use Rattle.stream_cluster_tests.proofs.parked.Parked.retire.Goals as goal

pub retire-requires-clause-live : goal.retire-requires-clause-live
retire-requires-clause-live g c κs within =
    λ goes. whole-lives c.self.inside.cluster c.self.inside.caller c.self.inside.crew.items c.args.at c.remove-loops.result (first_of (omega arith, search rules, grind (arith, common_steps))) c.remove-loops.ensures.value c.self.invariant goes

pub retire-requires-clause-at : goal.retire-requires-clause-at
retire-requires-clause-at g c κs within =
    runs-at c.self.inside.cluster c.self.inside.crew.items c.args.at c.remove-loops.result (first_of (omega arith, search rules, grind (arith, common_steps))) c.remove-loops.ensures.value c.self.invariant.runs

pub invariant_of-self : goal.invariant_of-self
invariant_of-self g c =
    whole-after c.self.inside.cluster c.retire.new.self c.self.inside.caller c.self.inside.crew.items c.remove-loops.new.self.items c.sort_out.new.crew.items c.args.at c.remove-loops.result c.retire.result
    (first_of (omega arith, search rules, grind (arith, common_steps))) c.remove-loops.ensures.value c.remove-loops.ensures.items c.retire.ensures c.sort_out.ensures c.self.invariant
