use Rattle.silo_threads.proofs.Prelude.{ap, ◌∙◌}
use Rattle.silo_threads.proofs.opening.open_queue.Goals as goal

pub new-requires-4-clause-empty : goal.new-requires-4-clause-empty
new-requires-4-clause-empty g c κs within =
    (c.args.config.now.blocks, c.args.config.now.limits, c.requires.blocks.0, ap (λ t. t.start.state) c.in_ok-shared.ensures.ok ∙ ap (λ x. x.state) c.in_ok-turnstile.ensures.start ∙ c.in_ok-empty.ensures)
