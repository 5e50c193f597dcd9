use Rattle.step_core.proofs.Prelude.{high, ◌≡◌, ◌∙◌, ap, sym, unwrap_or, least_resume, leaves_of}
use Rattle.step_core.proofs.LeafOps.{slowest-is}
use Rattle.step_core.proofs.reading.least_resume.Goals as goal

pub returns : goal.returns
returns c =
    let parts = c.args.parts.now in
    let end : c.high-high.result ≡ high parts.agent.cache = c.high-high.ensures ∙ ap high c.cache.ensures in
    c.unwrap_or.ensures
    ∙ ap (λ resume. unwrap_or resume c.high-high.result) c.least_resume.ensures
    ∙ ap (unwrap_or (least_resume (leaves_of parts.subs.registry.names parts.subs.states))) end
    ∙ sym (slowest-is parts)
