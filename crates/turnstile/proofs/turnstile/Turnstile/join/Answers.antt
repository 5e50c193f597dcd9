use Rattle.turnstile.proofs.Prelude.{rules, arith, ◌∙◌}
use Rattle.turnstile.proofs.Joining.{agree}
use Rattle.turnstile.proofs.Keeps.{joins, tells}
use Rattle.turnstile.proofs.Phases.{seated}
use Rattle.turnstile.proofs.turnstile.Turnstile.join.Goals as goal

pub join_seat-requires : goal.join_seat-requires
join_seat-requires g c =
    let one = seated _ _ _ _ c.pass.inside.seat.me.0 c.pass.inside.number _ c.pass.view_is c.self.view_is c.requires.pass in
    let other = seated _ _ _ _ c.other.inside.seat.me.0 c.other.inside.number _ c.other.view_is c.self.view_is c.requires.other in
    (one.0, other.0, (c.other.invariant.rests other.2).0, omega (arith, c.self.inside.lock.shape), joins _ _ _ _ _ _ _ _ _ one.2 (c.other.invariant.rests other.2).1 other.2)

pub load-pass-inside-requires : goal.load-pass-inside-requires
load-pass-inside-requires g c =
    let here = seated _ _ _ _ c.pass.inside.seat.me.0 c.pass.inside.number _ c.pass.view_is c.self.view_is c.requires.pass in
    (c.join_seat.ensures.0 ∙ here.0, omega (arith, c.self.inside.lock.shape), tells _ _ _ _ _ _ _ _ (search rules))

pub returns-clause-agree : goal.returns-clause-agree
returns-clause-agree g c =
    let pass = c.pass.inside in
    let other = c.other.inside in
    agree c.args.pass.now c.args.other pass.seat.table_id other.seat.table_id c.load-pass-inside.new.seat.table_id pass.seat.me.0 other.seat.me.0 pass.number other.number c.join_seat.new.seat.me c.load-pass-inside.new.seat.me
    c.pass.view_is c.other.view_is c.pass.invariant.numbers c.other.invariant.numbers (search rules) c.load-pass-inside.ensures.2.0 c.load-pass-inside.ensures.2.1
