use Rattle.std.proofs.Common.{◌∙◌, ap}
use Rattle.silo_loop_tests.proofs.fresh.partition.Goals as goal

pub returns : goal.returns
returns g c =
    let made = c.in_ok-turnstile.ensures in
    (ap (λ p. p.turnstile) made.pass, (_, _, c.requires.some, ap (λ x. x.state) made.start ∙ c.in_ok-shared.ensures), ap (λ p. p.seen) made.pass)
