use Rattle.std.proofs.Common.{◌==◌, not, ℕ}
use Rattle.consumer_grain.proofs.NumberLemmas.{rises-filter}
use Rattle.consumer_grain.proofs.activation.Activation.forget.Goals as goal

pub invariant_of-self : goal.invariant_of-self
invariant_of-self c =
    rw c.remove_number.ensures (rises-filter (λ (n : ℕ). not (c.args.sub == n)) 0 c.self.inside.subs.items c.self.invariant)
