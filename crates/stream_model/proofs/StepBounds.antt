-- Each operation keeps the limits.
use Rattle.stream_model.specs.declared.op.Op.{Op}
use Rattle.stream_model.specs.declared.op.Op.TheVariants.{Publish, Subscribe, Unsubscribe, AddRule, Pull, Deliver, Retry, Ack, Purge, Begin, Commit, Deactivate, Move, Ready, Due, Quiet}
use Rattle.stream_model.specs.declared.plain.PlainPartition.{PlainPartition}
use Rattle.stream_model.specs.Bounds.{IsWithinLimits}
use Rattle.stream_model.specs.Step.{step}
use Rattle.stream_model.proofs.PublishingBounds.{bounds-publish, bounds-subscribe, bounds-unsubscribe, bounds-add_rule}
use Rattle.stream_model.proofs.PullingBounds.{bounds-pull, bounds-deliver, bounds-retry, bounds-ack, bounds-purge, bounds-move}
use Rattle.stream_model.proofs.TurnsBounds.{bounds-begin, bounds-commit, bounds-deactivate}

pub bounds-step : (p : PlainPartition) (op : Op) → IsWithinLimits p → IsWithinLimits (step p op).0
unfolding step
bounds-step p (Publish stream payloads) within = bounds-publish p stream payloads within
bounds-step p (Subscribe stream grain start) within = bounds-subscribe p stream grain start within
bounds-step p (Pull generation max_events) within = bounds-pull p generation max_events within
bounds-step p (Deliver generation sub) within = bounds-deliver p generation sub within
bounds-step p (Begin grain max_events) within = bounds-begin p grain max_events within
bounds-step p (Commit grain activation turn note) within = bounds-commit p grain activation turn note within
bounds-step p (Unsubscribe sub) within = bounds-unsubscribe p sub within
bounds-step p (AddRule kind namespace) within = bounds-add_rule p kind namespace within
bounds-step p (Retry generation sub) within = bounds-retry p generation sub within
bounds-step p (Ack generation sub token) within = bounds-ack p generation sub token within
bounds-step p (Purge generation keep) within = bounds-purge p generation keep within
bounds-step p (Deactivate grain) within = bounds-deactivate p grain within
bounds-step p (Move silo) within = bounds-move p silo within
bounds-step p (Ready after) within = within
bounds-step p (Due after) within = within
bounds-step p Quiet within = within
