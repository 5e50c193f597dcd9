use Rattle.turnstile.proofs.Prelude.{rules, ◌≡◌, ◌<◌, length, Some, refl}
use Rattle.turnstile.specs.Plays.{Applied}
use Rattle.turnstile.specs.Turns.{start_of}
use Rattle.turnstile.proofs.Phases.{applied, noted_view, turn_noted}
use Rattle.turnstile.proofs.turnstile.Turnstile.call_lent.Goals as goal

pub note-requires-clause-held : goal.note-requires-clause-held
note-requires-clause-held g c =
    let pass = c.pass.inside in
    let held = c.unwrap-held.result.now in
    let is : c.turn.inside.slot ≡ Some held = search rules in
    let turn = rw (← c.self.view_is, ← c.pass.view_is, ← c.turn.view_is, is) at c.requires.turn in
    applied _ g.T.Replays.state_of _ _ _ _ _ pass.seat.me held record { history = c.push.new.self; object = c.apply.new.self } pass.number c.in-Some.call.op c.in-Ok.reply turn c.pass.invariant.past c.pass.invariant.numbers (search rules) (search rules)

pub returns-clause-turn : goal.returns-clause-turn
returns-clause-turn g c =
    let pass = c.pass.inside in
    let held = c.unwrap-held.result.now in
    let start = start_of g.T.Replays.state_of c.self.inside.lock.table.shared.key in
    let is : c.turn.inside.slot ≡ Some held = search rules in
    let did : Applied g.T.History.StoredHistory.entries g.T.Replays.state_of g.T.Replays.replied g.T.Replays.after held pass.number c.in-Some.call.op c.in-Ok.reply record { history = c.push.new.self; object = c.apply.new.self } = search rules in
    let room : length (g.T.History.StoredHistory.entries held.history) < start.limit = search rules in
    turn_noted g.T.History.StoredHistory.entries g.T.Replays.state_of g.T.Replays.replied g.T.Replays.after start c.args.self.now c.args.pass.now _ held _ pass.number c.in-Some.call.op c.in-Ok.reply (rw (← c.turn.view_is, is) at c.requires.turn) did (rw (← c.self.view_is) room)
    (noted_view g.T.History.StoredHistory.entries g.T.Replays.state_of g.T.Replays.replied g.T.Replays.after start _ _ pass.seat.table_id c.note.new.seat.table_id pass.seat.me c.note.new.seat.me pass.number _ c.pass.view_is refl c.note.ensures.same.0 c.note.ensures.noted)
