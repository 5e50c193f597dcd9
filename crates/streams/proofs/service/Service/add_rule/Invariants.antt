use Rattle.streams.proofs.Prelude.{QueuePass, turnstiles, ◌≡◌, ◌-◌, Bool, List, Result, length, AddRule}
use Rattle.streams.specs.declared.answers.CallError.{CallError}
use Rattle.streams.specs.Services.{AddsRule, TellsRule}
use Rattle.streams.proofs.service.Service.add_rule.Given as goal

-- what the queues from here on are told is told to all
abbrev pub invariant-loop-queue : goal.invariant-loop-queue
invariant-loop-queue g l =
    record {
      long : length l.self.caller ≡ length l.fn.self.caller;
      cluster : l.self.cluster ≡ l.fn.self.cluster;
      at : turnstiles l.self.caller ≡ turnstiles l.fn.self.caller;
      rest : (result : Result Bool CallError) (new : List QueuePass) → TellsRule (length l.fn.self.caller - l.queue) l.queue (AddRule l.fn.kind l.fn.namespace) l.is_new l.self.caller result new → AddsRule l.fn.self.caller l.fn.kind l.fn.namespace result new;
    }
