use Rattle.streams.proofs.Prelude.{◌≡◌, Some, ap, inl}
use Rattle.streams.specs.Answers as read
use Rattle.streams.specs.Services.{ServiceView}
use Rattle.streams.proofs.service.Service.subscribe.Goals as goal

pub returns-clause-subscribes : goal.returns-clause-subscribes
returns-clause-subscribes g c =
    let comes = rw (ap (λ (s : ServiceView). s.caller) c.self-2.view_is) at c.subscribed.ensures.comes in
    let starts : read.start_for c.args.stream c.args.from ≡ Some c.in-Some.start = cc (c.in-Some.is, c.start_for.ensures) in
    rw (← c.queue_of-queue.ensures.place)
    (inl (c.in-Some.start, c.next_below.new.self.caller, starts, c.in_default-next_below.ensures.sees, record { answer = c.ask-reply.result; mid = c.ask-reply.new.self.caller; calls = c.ask-reply.ensures.calls; is = comes }))
