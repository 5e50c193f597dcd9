use Rattle.queue_callers.proofs.Prelude.{QueuePass, ◌≡◌, subst}
use Rattle.step_core.specs.Figures.{figures_of}
use Rattle.queue_callers.specs.Calls.{QueueLooks}
use Rattle.queue_callers.proofs.queue_caller.QueueCaller.figures.Goals as goal

pub returns : goal.returns
returns g c =
    let looks = c.figures_by.ensures.looks in
    subst (λ (p : QueuePass). QueueLooks p (λ s. c.figures_by.result ≡ figures_of s) c.figures_by.new.handle) c.self.view_is
    (record { looks = looks; headline = c.figures_by.ensures.headline; stands = c.figures_by.ensures.stands looks.origin looks.of })
