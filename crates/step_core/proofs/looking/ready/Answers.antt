use Rattle.step_core.proofs.Prelude.{ready_after, ◌∙◌, ap, sym, ready_reply}
use Rattle.step_core.proofs.LookOps.{ready-is}
use Rattle.step_core.proofs.looking.ready.Goals as goal

pub returns-in-Some-clause-reply : goal.returns-in-Some-clause-reply
returns-in-Some-clause-reply c =
    let parts = c.args.parts.now in
    let found = c.in-Some.ensures ∙ ap (ready_after parts.grains) c.as_ref.ensures.value in
    ap ready_reply found ∙ sym (ready-is parts c.args.after)

pub returns-in-None-clause-reply : goal.returns-in-None-clause-reply
returns-in-None-clause-reply c =
    let parts = c.args.parts.now in
    let found = c.in-None.ensures ∙ ap (ready_after parts.grains) c.as_ref.ensures.value in
    ap ready_reply found ∙ sym (ready-is parts c.args.after)
