use Rattle.streams.proofs.Prelude.{inl}
use Rattle.turnstile.specs.Recorded.{recorded}
use Rattle.streams.proofs.service.Service.close.Goals as goal

pub returns-in-Ok : goal.returns-in-Ok
returns-in-Ok g c =
    let ended = rw (c.push_reserved.ensures.items, c.self.invariant.1) at c.in-Ok.ensures in
    rw (← c.self.view_is) (inl (recorded c.in-Ok.ended.loops, c.in-Ok.ended.finished, ended, c.closing.ensures))
