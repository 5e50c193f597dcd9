use Rattle.turnstile.proofs.Prelude.{◌≡◌, ◌≤◌, ◌∙◌, rules, arith, length, ap}
use Rattle.turnstile.specs.Calls.{numbers_of}
use Rattle.turnstile.specs.Closing.{IsTrace}
use Rattle.turnstile.specs.Turns.{start_of}
use Rattle.turnstile.proofs.Keeps.{shows}
use Rattle.turnstile.proofs.Phases.{seated, shown}
use Rattle.turnstile.proofs.turnstile.Turnstile.end.Goals as goal

pub returns : goal.returns
returns g c =
    let pass = c.pass.inside in
    let held = c.in_ok-history.field-0 in
    let here = seated _ _ _ _ pass.seat.me.0 pass.number _ c.pass.view_is c.self.view_is c.requires.pass in
    let named : length pass.seat.me.0.numbers ≡ length (numbers_of c.args.pass) = ap length c.pass.invariant.numbers ∙ ap (λ q. length (numbers_of q)) c.pass.view_is in
    let few : c.word-all.result ≤ length pass.seat.me.0.numbers = omega (arith, c.requires.all, named, c.if-all-made.false) in
    shown (λ x q. IsTrace g.T.Replays.replied g.T.Replays.after g.T.Replays.state_of x q (g.T.History.StoredHistory.entries held.history) held.object) _ _ pass.seat.table_id _ pass.seat.me.0 pass.number _ c.pass.view_is c.self.view_is
    (shows g.T.History.StoredHistory.entries g.T.Replays.state_of g.T.Replays.replied g.T.Replays.after (start_of g.T.Replays.state_of c.self.inside.lock.table.shared.key) pass.seat.table_id pass.seat.id pass.seat.me.0 pass.number _ _ c.word-all.result held
    c.close_with-closed.ensures.values.2 c.word-all.ensures (search rules) (c.pass.invariant.rests here.2).1 c.pass.invariant.numbers few)
