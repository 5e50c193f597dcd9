use Rattle.turnstile.proofs.Prelude.{arith}
use Rattle.turnstile.proofs.Keeps.{counts}
use Rattle.turnstile.proofs.Phases.{seated}
use Rattle.turnstile.proofs.turnstile.Turnstile.count.Goals as goal

pub load-pass-inside-requires : goal.load-pass-inside-requires
load-pass-inside-requires g c =
    let here = seated _ _ _ _ c.pass.inside.seat.me.0 c.pass.inside.number _ c.pass.view_is c.self.view_is c.requires in
    (here.0, omega (arith, c.self.inside.lock.shape), counts _ _ _ _ _ _ _ _ here.2)
