use Rattle.step_core.proofs.Prelude.{high, PlainCache, SubState, ◌≡◌, ◌∙◌, ap, sym, arith, next-bounds, next_note, state_at}
use Rattle.step_core.specs.PlainOf.{plain_of}
use Rattle.step_core.specs.Records.{record_of}
use Rattle.step_core.proofs.CatchOps.{handled}
use Rattle.step_core.proofs.HandOps.{Stands, cursor-low, high-few}
use Rattle.step_core.proofs.serving.handle_next.Goals as goal

pub handle-requires-clause-cursor : goal.handle-requires-clause-cursor
handle-requires-clause-cursor c = λ is_open.
    let parts = c.args.parts.now in
    let stands : Stands parts c.args.number = record { agrees = c.requires.agrees; within = c.requires.number } in
    let low = cursor-low parts c.args.number stands is_open in
    let next = next-bounds (plain_of parts) (record_of parts c.args.number) c.args.position c.requires.ready.next in
    omega (arith, low, next.0, ap (λ (cache : PlainCache). cache.low) c.cache.ensures)

pub handle-requires-clause-room : goal.handle-requires-clause-room
handle-requires-clause-room c = omega (arith, high-few c.args.parts.now c.requires.agrees, c.requires.ready.within)

pub handle-requires-clause-high : goal.handle-requires-clause-high
handle-requires-clause-high c = omega (arith, ap high c.cache.ensures, high-few c.args.parts.now c.requires.agrees)

pub returns-in-Ok : goal.returns-in-Ok
returns-in-Ok c =
    let parts = c.args.parts.now in
    let note = c.next_note-note.result in
    let stands : Stands parts c.args.number = record { agrees = c.requires.agrees; within = c.requires.number } in
    let is_note : note ≡ next_note (state_at parts.subs c.args.number).note = c.next_note-note.ensures ∙ ap (λ (s : SubState). next_note s.note) c.state.ensures in
    let made =
    handled parts c.args.number c.args.position note stands is_note (sym c.is_spent.ensures ∙ c.if-is_spent.false) c.requires.ready c.handle.new.self c.in-Ok.sought c.cache.result.now c.cache.ensures c.in-Ok.ensures.sought in
    record { assembled = made.0; told = made.1 }
