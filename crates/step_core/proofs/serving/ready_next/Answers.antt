use Rattle.step_core.proofs.Prelude.{SubState, ◌≡◌, ◌∙◌, ap, sym, arith, past, next-bounds}
use Rattle.step_core.specs.PlainOf.{plain_of}
use Rattle.step_core.specs.Records.{record_of}
use Rattle.step_core.proofs.PendingOps.{next-open}
use Rattle.step_core.proofs.serving.ready_next.Goals as goal

pub returns : goal.returns
returns c =
    let p = plain_of c.args.parts.now in
    let r = record_of c.args.parts.now c.args.number in
    let position = c.in_ok-position.position in
    let handled : c.past-handled.result ≡ past r.handled = c.past-handled.ensures ∙ ap (λ (state : SubState). past state.handled) c.state.ensures in
    let rests = c.rests.ensures c.if-not-rests.false in
    let next = next-open p r position (sym c.next_of.ensures ∙ c.in_ok-position.was) in
    record {
      is_open = next.0;
      next = next.1;
      some = omega (arith, c.if-handled-eq0.false, handled);
      fresh = omega (arith, c.if-position-handled.false, handled);
      within = (next-bounds p r position next.1).1;
      activation = rests.0;
      rests = rests.1;
    }
