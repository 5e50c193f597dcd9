use Rattle.step_core.proofs.Prelude.{SubState, ◌≡◌, ◌∙◌, ap, arith, registration_at, state_at}
use Rattle.step_core.proofs.reading.summary_of.Goals as goal

pub returns : goal.returns
returns c =
    let t = c.args.parts.now.subs in
    let number = c.args.number in
    let records = c.requires.agrees.records in
    let started : c.state-state.result.now.start ≡ (registration_at t number).start =
    ap (λ (state : SubState). state.start) c.state-state.ensures ∙ records.starts number (omega (arith, c.requires.within, records.long)) in
    let opened : c.state-state.result.now.live ≡ (state_at t number).live = ap (λ (state : SubState). state.live) c.state-state.ensures in
    λ i. record { name = c.args.name; stream = c.stream.ensures i; grain = c.grain.ensures i; start = started i; is_open = opened i }
