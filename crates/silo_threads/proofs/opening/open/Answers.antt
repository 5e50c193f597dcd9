use Rattle.silo_threads.proofs.Standing.{opened-whole}
use Rattle.silo_threads.proofs.opening.open.Goals as goal

pub returns-in-Ok : goal.returns-in-Ok
returns-in-Ok g c =
    opened-whole c.args.config.now c.in_ok-lines.lines.items c.split_lines.new.lines.items c.in_ok-own.own.items _ c.in_ok-operator.operator c.enlist_first.new.operator c.spread.new.self c.in_ok-caller.caller c.in_ok-own.ensures.same c.in_ok-lines.ensures.many
    c.in_ok-lines.ensures.at c.in_ok-lines.ensures.unseen c.in_ok-own.ensures.new c.in_ok-caller.ensures.passes c.in_ok-directory.ensures c.in_ok-operator.ensures c.in_ok-enlist_first.ensures c.spread.ensures.on c.spread.ensures.live c.in-Ok.ensures.spread c.in-Ok.ensures.stayed
