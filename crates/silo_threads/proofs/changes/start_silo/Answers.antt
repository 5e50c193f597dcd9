use Rattle.silo_threads.proofs.Prelude.{AreSplitOff, subst, sym}
use Rattle.silo_threads.proofs.Standing.{only-trans, same-at}
use Rattle.silo_threads.proofs.changes.start_silo.Goals as goal

pub take_back-requires-after_bounds : goal.take_back-requires-after_bounds
take_back-requires-after_bounds g c κs within = same-at c.make_loops.new.self.lines c.make_loops.new.self.directory c.in_ok-loops.loops c.in-Err.back c.in_ok-loops.ensures.at c.in-Err.ensures

pub returns-in-Err-clause-only : goal.returns-in-Err-clause-only
returns-in-Err-clause-only g c = only-trans c.args.operator.now c.make_loops.new.self c.take_back.new.self c.make_loops.ensures.only c.take_back.ensures.only

pub returns-in-Ok-clause-split : goal.returns-in-Ok-clause-split
returns-in-Ok-clause-split g c = subst (AreSplitOff c.args.operator.now.lines c.args.operator.now.directory) (sym c.in-Ok.ensures) c.in_ok-loops.ensures.split
