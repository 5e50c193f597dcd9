use Rattle.queue_callers.proofs.Prelude.{QueuePass, ◌≡◌, subst}
use Rattle.step_core.specs.Figures.{subscription_figures_of}
use Rattle.queue_callers.specs.Calls.{QueueLooks}
use Rattle.queue_callers.proofs.queue_caller.QueueCaller.subscription.Goals as goal

pub returns : goal.returns
returns g c =
    let looks = c.subscription_by.ensures.looks in
    subst (λ (p : QueuePass). QueueLooks p (λ s. c.subscription_by.result ≡ subscription_figures_of s c.args.sub.now) c.subscription_by.new.handle) c.self.view_is
    (record { looks = looks; headline = c.subscription_by.ensures.headline; stands = c.subscription_by.ensures.stands looks.origin looks.of })
