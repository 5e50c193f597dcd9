use Rattle.silo_loops.proofs.Prelude.{sym, ◌∙◌}
use Rattle.silo_loops.proofs.Going.{front-alike, front-whole, goes-places}
use Rattle.silo_loops.proofs.crew.lines.join_lines.Goals as goal

pub join_front-requires-after_bounds : goal.join_front-requires-after_bounds
join_front-requires-after_bounds g c κs within = front-alike c.args.lines.now.items c.args.others.items c.requires

pub returns-clause-taken : goal.returns-clause-taken
returns-clause-taken g c = front-whole c.join_front.new.lines.items c.args.others.items (c.requires ∙ sym (goes-places c.args.lines.now.items c.join_front.new.lines.items c.join_front.ensures.go_on)) c.join_front.ensures.taken
