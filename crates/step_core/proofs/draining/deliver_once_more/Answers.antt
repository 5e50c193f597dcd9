use Rattle.step_core.proofs.Prelude.{Some, None, sym, ◌∙◌, true, false, Astray, after_last_deliver, Deliver}
use Rattle.stream_model.specs.Draining.{deliver_once_more}
use Rattle.step_core.specs.Replied.{reply_of}
use Rattle.step_core.proofs.DrainReplies.{last-where}
use Rattle.step_core.proofs.DrainSteps.{ends-last, ends-unchanged}
use Rattle.step_core.proofs.draining.deliver_once_more.Goals as goal

pub returns-then-is_nothing : goal.returns-then-is_nothing
unfolding deliver_once_more
returns-then-is_nothing c =
    let p = c.args.partition.now in
    let new = c.deliver.new.self in
    let answer = reply_of c.in-Ok.told in
    ends-last p new None (Deliver p.generation c.args.sub.now) answer after_last_deliver c.in-Ok.ensures.performs
    (last-where new answer true (sym c.is_nothing.ensures ∙ c.if-is_nothing.true))

pub returns-else-is_nothing : goal.returns-else-is_nothing
unfolding deliver_once_more
returns-else-is_nothing c =
    let p = c.args.partition.now in
    let new = c.deliver.new.self in
    let answer = reply_of c.in-Ok.told in
    ends-last p new (Some Astray) (Deliver p.generation c.args.sub.now) answer after_last_deliver c.in-Ok.ensures.performs
    (last-where new answer false (sym c.is_nothing.ensures ∙ c.if-is_nothing.false))

pub returns-in-Err : goal.returns-in-Err
unfolding deliver_once_more
returns-in-Err c =
    let p = c.args.partition.now in
    ends-unchanged p c.deliver.new.self (Deliver p.generation c.args.sub.now) after_last_deliver c.in-Err.ensures.performs c.in-Err.ensures.memory
