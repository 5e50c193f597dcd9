use Rattle.silo_operators.proofs.Prelude.{HasNoDoubles, Contains, List, subst, sym, ℕ}
use Rattle.silo_operators.specs.Operators.{OperatorView}
use Rattle.silo_operators.proofs.Spreading.{one-more}
use Rattle.silo_operators.proofs.operator.Operator.enlist.Goals as goal

pub invariant_of-self-2 : goal.invariant_of-self-2
invariant_of-self-2 g c =
    let none : Contains c.self.inside.live.items c.args.silo → ⊥ = λ here. c.requires (subst (λ (v : OperatorView). Contains v.live c.args.silo) c.self.view_is here) in
    record {
      some = c.self.invariant.some;
      assigned = c.self.invariant.assigned;
      once = subst (λ (live : List ℕ). HasNoDoubles live) (sym c.in_ok-push.ensures.items) (one-more c.self.inside.live.items c.args.silo c.self.invariant.once none);
    }
