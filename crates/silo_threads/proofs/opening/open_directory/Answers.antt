use Rattle.silo_threads.proofs.Prelude.{ap, ◌∙◌}
use Rattle.silo_threads.proofs.opening.open_directory.Goals as goal

pub new-requires-3-clause-empty : goal.new-requires-3-clause-empty
new-requires-3-clause-empty g c = (4000000, ap (λ t. t.start.state) c.in_ok-shared.ensures.ok ∙ ap (λ x. x.state) c.in_ok-turnstile.ensures.start ∙ c.new-empty.ensures)
