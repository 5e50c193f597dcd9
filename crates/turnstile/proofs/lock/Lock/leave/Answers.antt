use Rattle.turnstile.proofs.Prelude.{arith, ◌∙◌}
use Rattle.turnstile.proofs.Phases.{may_leave, has_left}
use Rattle.turnstile.proofs.lock.Lock.leave.Goals as goal

pub fetch_add-requires : goal.fetch_add-requires
fetch_add-requires g c =
    let exchanged = c.exchange-none.ensures in
    let shape = c.args.self.now.shape in
    (exchanged.0 ∙ c.requires.table, omega (arith, shape), may_leave _ _ _ _ _ _ _ c.args.seat.now.me _ c.args.held shape.1 c.requires.held exchanged.3)

pub returns-clause-gone : goal.returns-clause-gone
returns-clause-gone g c = has_left _ _ _ _ _ c.args.seat.now.me c.exchange-none.new.seat.me _ c.args.held c.requires.held c.exchange-none.ensures.3 c.fetch_add.ensures.2
