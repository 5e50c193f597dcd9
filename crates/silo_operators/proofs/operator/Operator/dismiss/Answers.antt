use Rattle.silo_operators.proofs.Prelude.{HasNoDoubles, ◌≢◌, ◌<◌, List, length, subst, sym, ℕ}
use Rattle.std.proofs.lemmas.List.Quantifiers.{all_pairs_remove}
use Rattle.silo_operators.specs.Operators.{OperatorView}
use Rattle.silo_operators.proofs.operator.Operator.dismiss.Goals as goal

pub invariant_of-self : goal.invariant_of-self
invariant_of-self g c =
    let within : c.args.at < length c.self.inside.live.items = subst (λ (v : OperatorView). c.args.at < length v.live) (sym c.self.view_is) c.requires in
    record {
      some = c.self.invariant.some;
      assigned = c.self.invariant.assigned;
      once =
          subst (λ (live : List ℕ). HasNoDoubles live) (sym c.remove.ensures.items)
          (all_pairs_remove (λ (one other : ℕ). one ≢ other) c.self.inside.live.items c.args.at within c.self.invariant.once);
    }
