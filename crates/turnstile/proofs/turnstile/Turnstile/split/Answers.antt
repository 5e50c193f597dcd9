use Rattle.turnstile.proofs.Prelude.{rules, arith, ap}
use Rattle.turnstile.proofs.Keeps.{splits, draws_first, joins_back, tells}
use Rattle.turnstile.proofs.Phases.{seated}
use Rattle.turnstile.proofs.turnstile.Turnstile.split.Goals as goal

pub split_seat-seat-requires : goal.split_seat-seat-requires
split_seat-seat-requires g c =
    let here = seated _ _ _ _ c.pass.inside.seat.me.0 c.pass.inside.number _ c.pass.view_is c.self.view_is c.requires in
    (here.0, omega (arith, c.self.inside.lock.shape), splits _ _ _ _ _ _ _ here.2)

pub compare_exchange-found-requires : goal.compare_exchange-found-requires
compare_exchange-found-requires g c =
    (search rules, omega (arith, c.self.inside.lock.shape), draws_first _ _ _ _ _ _ _ _ c.split_seat-seat.new.seat.me.0 c.loop-made.made c.loop-made.invariant.1 c.loop-made-test.true)

pub join_seat-requires : goal.join_seat-requires
join_seat-requires g c =
    (search rules, search rules, ap (λ m. m.1) c.loop-made.invariant.1, omega (arith, c.self.inside.lock.shape), joins_back _ _ _ _ _ _ _ _ c.loop-made.seat.me c.split_seat-seat.new.seat.me.0 _ (search rules) c.loop-made.invariant.1)

pub load-requires : goal.load-requires
load-requires g c =
    (search rules, omega (arith, c.self.inside.lock.shape), tells _ _ _ _ _ _ _ _ (search rules))
