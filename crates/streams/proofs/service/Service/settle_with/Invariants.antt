use Rattle.streams.proofs.Prelude.{QueuePass, turnstiles, ◌≡◌, ◌-◌, List, Result}
use Rattle.streams.specs.declared.answers.SettleError.{SettleError}
use Rattle.streams.specs.Settling.{SettlesWith}
use Rattle.streams.proofs.service.Service.settle_with.Given as goal

-- what the rounds from here on come to is what all come to
abbrev pub invariant-loop-round : goal.invariant-loop-round
invariant-loop-round g l =
    record {
      cluster : l.self.cluster ≡ l.fn.self.cluster;
      at : turnstiles l.self.caller ≡ turnstiles l.fn.self.caller;
      rest : (result : Result Unit SettleError) (new : List QueuePass) → SettlesWith (l.fn.self.cluster.looks - l._round) l.fn.self.cluster.looks l.self.caller result new → SettlesWith l.fn.self.cluster.looks l.fn.self.cluster.looks l.fn.self.caller result new;
    }
