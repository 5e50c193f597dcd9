use Rattle.std.proofs.Common.{arith, rules}
use Rattle.std.proofs.lemmas.Grind.{common_steps}
use Rattle.stream_cluster_tests.proofs.Whole.{whole-put-back}
use Rattle.stream_cluster_tests.proofs.parked.Parked.go_by_hints.Goals as goal

pub invariant_of-self : goal.invariant_of-self
invariant_of-self g c =
    whole-put-back c.self.inside.cluster c.self.inside.caller c.self.inside.crew.items c.remove.new.self.items _ c.args.at c.remove.result c.by_hints-loops.result
    (first_of (omega arith, search rules, grind (arith, common_steps))) c.remove.ensures.value c.remove.ensures.items c.by_hints-loops.ensures c.put_back.ensures c.self.invariant
