use Rattle.queue_callers.proofs.Prelude.{QueuePass, ◌∙◌, List, ap, subst, sym}
use Rattle.queue_callers.specs.Calls.{JoinsAll, turnstiles}
use Rattle.queue_callers.proofs.Splitting.{all-whole, front-alike, turnstiles-joined}
use Rattle.queue_callers.proofs.caller.Caller.join.Goals as goal

pub join_all-requires-after_bounds : goal.join_all-requires-after_bounds
join_all-requires-after_bounds g c = λ κs bounds.
    front-alike c.self.inside.queues.items c.into_queues.result.items
    (ap (λ (ps : List QueuePass). turnstiles ps) c.into_queues.ensures ∙ c.requires ∙ ap (λ (ps : List QueuePass). turnstiles ps) (sym c.self.view_is))

pub returns : goal.returns
returns g c =
    let old = c.args.self.now in
    let new = c.join_all.new.queues.items in
    let all : JoinsAll old c.args.other new = subst (λ (ps : List QueuePass). JoinsAll ps c.args.other new) c.self.view_is (subst (λ (qs : List QueuePass). JoinsAll c.self.inside.queues.items qs new) c.into_queues.ensures c.join_all.ensures) in
    let joined = all-whole old c.args.other new all in
    record { joined = joined; agree = all; turnstiles = ap (λ (ps : List QueuePass). turnstiles ps) joined ∙ turnstiles-joined old c.args.other }
