use Rattle.silo_threads.proofs.Prelude.{SiloView, ◌≡◌, List, false, refl, subst, sym, true, ◌∙◌}
use Rattle.silo_operators.specs.Operators.{OperatorView}
use Rattle.silo_threads.specs.Clusters.{AreFresh, IsOpened, RunsOn}
use Rattle.silo_threads.proofs.Standing.{ends-none}
use Rattle.silo_threads.proofs.cluster.Cluster.parked.Goals as goal

pub returns : goal.returns
returns g c =
    let opened = subst (λ (o : OperatorView). IsOpened c.args.config.now o c.in_ok-operator.caller) (sym c.in_ok-loops.ensures.same) c.in_ok-operator.ensures in
    let made = c.in_ok-loops.ensures.made in
    record { opened = opened; parked = refl; goes_on = refl; none = ends-none c.default.result c.default.ensures.0 c.default.ensures.1.0 c.default.ensures.1.1; rounds = refl; looks = refl; silos = made.0 ∙ sym opened.live; fresh = made.1; at = made.2 }

pub invariant_of-cluster : goal.invariant_of-cluster
invariant_of-cluster g c =
    record {
      at = subst (λ (ss : List SiloView). RunsOn c.make_all.new.operator ss) (sym c.new.ensures.items) tt;
      fresh = subst (λ (ss : List SiloView). AreFresh c.args.config.now.rounds ss) (sym c.new.ensures.items) tt;
      loops = λ fixed. let differ : true ≡ false = fixed in absurd (cc (differ));
      parked = λ is. c.new.ensures.items;
    }
