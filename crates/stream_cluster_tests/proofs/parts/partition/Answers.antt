use Rattle.std.proofs.Common.{◌∙◌, ap, arith}
use Rattle.stream_cluster_tests.proofs.parts.partition.Goals as goal

pub returns : goal.returns
returns g c =
    let made = c.in_ok-turnstile.ensures in
    (ap (λ p. p.turnstile) made.pass, (1, _, omega arith, ap (λ x. x.state) made.start ∙ c.in_ok-shared.ensures), ap (λ p. p.seen) made.pass)
