use Rattle.queue_callers.proofs.Prelude.{QueuePass, subst}
use Rattle.queue_callers.specs.Calls.{QueueCalls}
use Rattle.queue_callers.proofs.queue_caller.QueueCaller.ask.Goals as goal

pub returns-clause-calls : goal.returns-clause-calls
returns-clause-calls g c =
    let calls = c.call_by-answer.ensures.calls in
    subst (λ (p : QueuePass). QueueCalls p c.args.op c.call_by-answer.result c.call_by-answer.new.handle) c.self.view_is
    (record { calls = calls; headline = c.call_by-answer.ensures.headline; stands = c.call_by-answer.ensures.stands calls.origin calls.of })
