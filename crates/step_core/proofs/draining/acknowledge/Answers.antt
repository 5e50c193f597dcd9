use Rattle.step_core.proofs.Prelude.{◌≡◌, Some, None, ap, sym, subst, ◌∙◌, true, false, Astray, after_ack, Ack}
use Rattle.stream_model.specs.Draining.{acknowledge}
use Rattle.stream_model.specs.Step.{step}
use Rattle.step_core.specs.DrainPhases.{Ends}
use Rattle.step_core.specs.Replied.{reply_of}
use Rattle.step_core.proofs.DrainReplies.{ack-where}
use Rattle.step_core.proofs.DrainSteps.{ends-done, ends-last}
use Rattle.step_core.proofs.draining.acknowledge.Goals as goal

pub returns-in_default : goal.returns-in_default
unfolding acknowledge
returns-in_default c = ends-done c.args.partition.now _ None (ap (acknowledge c.args.sub.now c.args.partition.now) (sym c.in_default.is ∙ c.last_handled.ensures))

pub returns-then-not-is_acknowledged : goal.returns-then-not-is_acknowledged
unfolding acknowledge
returns-then-not-is_acknowledged c =
    let p = c.args.partition.now in
    let new = c.ack-told.new.self in
    let answer = reply_of c.ack-told.result in
    let s = c.args.sub.now in
    let token = c.in-Some.token in
    let acked : (new, answer) ≡ step p (Ack p.generation s token) = c.ack-told.ensures in
    subst (λ found. Ends p new (Some (Some Astray)) (acknowledge s p found)) (sym c.in-Some.is ∙ c.last_handled.ensures)
    (ends-last p new (Some Astray) (Ack p.generation s token) answer after_ack acked
    (ack-where new answer false (sym c.is_acknowledged.ensures ∙ c.if-not-is_acknowledged.true)))

pub returns : goal.returns
unfolding acknowledge
returns c =
    let p = c.args.partition.now in
    let new = c.ack-told.new.self in
    let answer = reply_of c.ack-told.result in
    let s = c.args.sub.now in
    let token = c.in-Some.token in
    let acked : (new, answer) ≡ step p (Ack p.generation s token) = c.ack-told.ensures in
    subst (λ found. Ends p new (Some None) (acknowledge s p found)) (sym c.in-Some.is ∙ c.last_handled.ensures)
    (ends-last p new None (Ack p.generation s token) answer after_ack acked
    (ack-where new answer true (sym c.is_acknowledged.ensures ∙ c.if-not-is_acknowledged.false)))
