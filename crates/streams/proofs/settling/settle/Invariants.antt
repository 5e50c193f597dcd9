use Rattle.streams.proofs.Prelude.{QueuePass, turnstiles, ◌≡◌, ◌-◌, List, Result}
use Rattle.streams.specs.declared.answers.SettleError.{SettleError}
use Rattle.streams.specs.Settling.{Settles}
use Rattle.streams.proofs.settling.settle.Given as goal

-- what the rounds from here on come to is what all come to
abbrev pub invariant-loop-round : goal.invariant-loop-round
invariant-loop-round g l =
    record {
      at : turnstiles l.caller ≡ turnstiles l.fn.caller;
      rest : (result : Result Unit SettleError) (new : List QueuePass) → Settles (l.fn.looks - l._round) l.fn.looks l.caller result new → Settles l.fn.looks l.fn.looks l.fn.caller result new;
    }
