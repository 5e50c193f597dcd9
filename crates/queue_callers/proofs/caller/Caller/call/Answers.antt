use Rattle.queue_callers.proofs.Prelude.{List, subst, sym, Reply, ◌≤◌, vec_capacity}
use Rattle.stream_ident.specs.declared.event.Event.{Event}
use Rattle.step_core.specs.Replied.{HasEvents, Shows}
use Rattle.queue_callers.proofs.Splitting.{turnstiles-set}
use Rattle.std.specs.Global.{Vec}
use Rattle.stream_ident.specs.declared.limits.TheConstants.{TURN_EVENTS}
use Rattle.stream_model.specs.declared.reply.Reply.TheVariants as reply
use Rattle.queue_callers.proofs.caller.Caller.call.Goals as goal

-- with room for sixteen, it has the events of the turn
has-events : (old new : Vec Event) (r : Reply) → Shows old new r → TURN_EVENTS ≤ vec_capacity old → HasEvents r new.items
has-events old new (reply.Turn sub activation turn events note) shows room = shows.0 room
has-events old new _ shows room = tt

pub returns-in_err-answer-clause-turnstiles : goal.returns-in_err-answer-clause-turnstiles
returns-in_err-answer-clause-turnstiles g c =
    let one = c.ask_at.ensures.calls in
    turnstiles-set _ _ _ _ _ _ c.self.view_is one.had one.whole one.calls.calls.only

pub reply-requires : goal.reply-requires
reply-requires g c =
    subst (λ (events : List Event). HasEvents c.in_ok-answer.answer events) (sym c.deref-2.ensures.value) (has-events c.self.inside.events c.ask_at.new.events c.in_ok-answer.answer c.in_ok-answer.ensures.shows c.self.invariant)

pub returns-clause-turnstiles : goal.returns-clause-turnstiles
returns-clause-turnstiles g c =
    let one = c.ask_at.ensures.calls in
    turnstiles-set _ _ _ _ _ _ c.self.view_is one.had one.whole one.calls.calls.only
