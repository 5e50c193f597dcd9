use Rattle.pulling_agent.proofs.Prelude.{◌∙◌, ap, arith, same_token}
use Rattle.pulling_agent.proofs.HandledLemmas.{found_at, not_there}
use Rattle.pulling_agent.proofs.subscriptions.handled_at.Goals as goal

pub returns-in_err-position-clause-found : goal.returns-in_err-position-clause-found
returns-in_err-position-clause-found c =
    let end = c.in_err-position.ensures.lookup.3 in
    c.from_residual.ensures
    ∙ not_there c.args.handled.now c.args.queue.now c.args.token.now c.lower_bound-place.result c.requires.rising c.requires.there c.requires.tokens c.lower_bound-place.ensures (λ within. absurd (omega (arith, end, within)))

pub returns-clause-found : goal.returns-clause-found
returns-clause-found c =
    let at = c.in_ok-position.ensures.lookup.3 in
    c.then_some.ensures
    ∙ found_at c.args.handled.now c.args.queue.now c.args.token.now c.lower_bound-place.result c.in_ok-position.field-0.now c.eq.result c.requires.rising c.requires.there c.requires.tokens c.lower_bound-place.ensures at.0 (at.1 0) (c.eq.ensures ∙ ap (λ t. same_token t c.args.token.now) c.token_at.ensures)
