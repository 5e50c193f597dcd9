use Rattle.std.proofs.Common.{◌∙◌, ap}
use Rattle.stream_cluster_tests.proofs.parts.places.Goals as goal

pub returns : goal.returns
returns g c =
    let made = c.in_ok-turnstile.ensures in
    (ap (λ p. p.turnstile) made.pass, (_, ap (λ x. x.state) made.start ∙ c.new.ensures))
