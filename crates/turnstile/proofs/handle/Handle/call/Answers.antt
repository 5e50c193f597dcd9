use Rattle.std.specs.Arc.{arc_value}
use Rattle.turnstile.proofs.Handles.{called-held}
use Rattle.turnstile.proofs.handle.Handle.call.Goals as goal

pub returns-clause-calls : goal.returns-clause-calls
returns-clause-calls g c =
    rw (← c.self.view_is)
    (called-held g.T.Replays.replied g.T.Replays.after (arc_value c.self.inside.turnstile) c.self.inside.pass c.take_turn-turn.new.pass c.call_lent-answer.new.pass c.args.op c.call_lent-answer.result c.call_lent-answer.new.turn c.settle.new.pass
    (rw c.deref.ensures at c.take_turn-turn.ensures.pass) c.take_turn-turn.ensures.seen c.call_lent-answer.ensures.pass (rw c.deref-2.ensures at c.call_lent-answer.ensures.call) (rw c.deref-2.ensures at c.call_lent-answer.ensures.turn)
    (rw c.deref-3.ensures at c.settle.ensures.pass))
