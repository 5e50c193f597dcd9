use Rattle.silo_threads.proofs.Prelude.{◌≡◌, false, refl, subst, sym, true, ◌∙◌}
use Rattle.silo_operators.specs.Operators.{OperatorView}
use Rattle.silo_threads.specs.Clusters.{IsOpened}
use Rattle.silo_threads.proofs.Standing.{ends-none}
use Rattle.silo_threads.proofs.cluster.Cluster.new.Goals as goal

pub returns : goal.returns
returns g c =
    let opened = subst (λ (o : OperatorView). IsOpened c.args.config.now o c.in_ok-operator.caller) (sym c.in_ok-silos.ensures.same) c.in_ok-operator.ensures in
    let started = c.in_ok-silos.ensures.started in
    record { opened = opened; loops = started.0 ∙ sym opened.live; fresh = started.1; goes_on = refl; none = ends-none c.default.result c.default.ensures.0 c.default.ensures.1.0 c.default.ensures.1.1; rounds = refl; looks = refl }

pub invariant_of-cluster : goal.invariant_of-cluster
invariant_of-cluster g c =
    let opened = subst (λ (o : OperatorView). IsOpened c.args.config.now o c.in_ok-operator.caller) (sym c.in_ok-silos.ensures.same) c.in_ok-operator.ensures in
    let started = c.in_ok-silos.ensures.started in
    record { at = started.2; fresh = started.1; loops = λ fixed. started.0 ∙ sym opened.live; parked = λ is. let differ : false ≡ true = is in absurd (cc (differ)) }
