use Rattle.streams.proofs.Prelude.{turnstiles, ◌≡◌}
use Rattle.streams.specs.Settling.{PublishesSome}
use Rattle.streams.proofs.service.Service.publish_from.Given as goal

abbrev pub invariant-loop-published : goal.invariant-loop-published
invariant-loop-published g l =
    record {
      some : PublishesSome l.published l.fn.self.caller l.self.caller;
      cluster : l.self.cluster ≡ l.fn.self.cluster;
      at : turnstiles l.self.caller ≡ turnstiles l.fn.self.caller;
    }
