use Rattle.step_core.proofs.Prelude.{sym, ◌∙◌, err_from_is_err_and, last_handled, sub_at}
use Rattle.stream_model.specs.Draining.{acknowledge, deliver_once_more}
use Rattle.step_core.specs.DrainPhases.{meant}
use Rattle.step_core.proofs.DrainSteps.{ends-halted, ends-then}
use Rattle.step_core.proofs.SettledOps.{settles-settled}
use Rattle.step_core.proofs.draining.settle.Goals as goal

pub returns-then-is_settled : goal.returns-then-is_settled
returns-then-is_settled c = settles-settled c.args.partition.now c.args.sub.now c.is_settled.ensures.reached (sym c.is_settled.ensures.settled ∙ c.if-is_settled.true)

pub returns-in_err-acknowledge : goal.returns-in_err-acknowledge
returns-in_err-acknowledge c =
    let e = err_from_is_err_and c.from_residual.result c.from_residual.ensures.1 in
    let p = c.args.partition.now in
    let s = c.args.sub.now in
    rw (e.1, e.2)
    (ends-halted p c.acknowledge.new.partition c.in_err-acknowledge.field-0.0 (acknowledge s p (last_handled p (sub_at p s))) (deliver_once_more s) c.in_err-acknowledge.ensures)

pub returns : goal.returns
returns c =
    let p = c.args.partition.now in
    let s = c.args.sub.now in
    ends-then p c.acknowledge.new.partition c.deliver_once_more.new.partition (meant c.deliver_once_more.result) (acknowledge s p (last_handled p (sub_at p s))) (deliver_once_more s)
    c.in_ok-acknowledge.ensures c.deliver_once_more.ensures
