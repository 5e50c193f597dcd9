use Rattle.queue_callers.proofs.Splitting.{turnstiles-set}
use Rattle.queue_callers.proofs.caller.Caller.subscription.Goals as goal

pub returns-clause-turnstiles : goal.returns-clause-turnstiles
returns-clause-turnstiles g c =
    let one = c.subscription_at.ensures in
    turnstiles-set _ _ _ _ _ _ c.self.view_is one.had one.whole one.looks.looks.only
