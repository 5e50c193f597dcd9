use Rattle.turnstile.proofs.Prelude.{◌≡◌, refl}
use Rattle.std.specs.Arc.{arc_value}
use Rattle.std.specs.Fn.{FnOnceReturnsAt}
use Rattle.turnstile.proofs.Handles.{looks-held}
use Rattle.turnstile.proofs.handle.Handle.look.Goals as goal

pub returns : goal.returns
returns g c =
    rw (← c.self.view_is)
    (looks-held g.T.Replays.replied g.T.Replays.after (arc_value c.self.inside.turnstile) c.self.inside.pass c.take_turn-turn.new.pass c.settle.new.pass
    (λ state. (object : g.row.T.Denot) × (state ≡ g.T.Replays.state_of object) × FnOnceReturnsAt g.F.FnOnce c.args.read object c.read-seen.result)
    c.take_turn-turn.result (g.T.Replays.state_of c.object.result.now)
    (rw c.deref.ensures at c.take_turn-turn.ensures.pass) c.take_turn-turn.ensures.seen (rw c.deref.ensures at c.take_turn-turn.ensures.turn) c.object.ensures
    (c.object.result.now, refl, (c.object.result, c.read-seen.ensures, refl))
    (rw c.deref-2.ensures at c.settle.ensures.pass))
