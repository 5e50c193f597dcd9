use Rattle.step_core.proofs.Prelude.{empty_mailboxes, open_names}
use Rattle.stream_model.specs.Draining.{serve_each}
use Rattle.step_core.specs.DrainPhases.{meant}
use Rattle.step_core.proofs.DrainSteps.{ends-then}
use Rattle.step_core.proofs.draining.drain_round.Goals as goal

pub returns : goal.returns
returns c =
    ends-then c.args.partition.now c.empty_mailboxes.new.partition c.serve_each.new.partition (meant c.serve_each.result) (empty_mailboxes c.args.partition.now) (λ q. serve_each (open_names q) q) c.in_ok-empty_mailboxes.ensures c.serve_each.ensures
