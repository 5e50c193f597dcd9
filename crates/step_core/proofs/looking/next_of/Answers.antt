use Rattle.step_core.proofs.Prelude.{SubState, ◌∙◌, ap, sym}
use Rattle.step_core.proofs.HandOps.{Stands, cursor-low, sought-next}
use Rattle.step_core.proofs.looking.next_of.Goals as goal

pub next-requires-clause-low : goal.next-requires-clause-low
next-requires-clause-low c =
    let stands : Stands c.args.parts.now c.args.number = record { agrees = c.requires.agrees; within = c.requires.number } in
    let is_open = ap (λ (state : SubState). state.live) (sym c.state-state.ensures) ∙ c.if-not-state.false in
    rw (c.cache-cache.ensures, c.state-state.ensures) (cursor-low c.args.parts.now c.args.number stands is_open)

pub returns : goal.returns
returns c =
    let stands : Stands c.args.parts.now c.args.number = record { agrees = c.requires.agrees; within = c.requires.number } in
    let is_open = ap (λ (state : SubState). state.live) (sym c.state-state.ensures) ∙ c.if-not-state.false in
    let read = rw (c.cache-cache.ensures, c.state-state.ensures, c.stream-stream.ensures) at c.next.ensures.next in
    rw is_open (sym (sought-next c.args.parts.now c.args.number c.next.result stands is_open (sym read)))
