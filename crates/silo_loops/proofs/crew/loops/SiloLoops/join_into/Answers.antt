use Rattle.silo_loops.proofs.Prelude.{subst, sym}
use Rattle.silo_loops.specs.Silos.{IsWorkerAt, SiloView}
use Rattle.silo_loops.proofs.Going.{goes-trans, silent-refl, silent-trans, silents-trans, taken-goes, taken-lines, worker-still}
use Rattle.silo_loops.proofs.crew.loops.SiloLoops.join_into.Goals as goal

pub join_worker-requires-after_bounds : goal.join_worker-requires-after_bounds
join_worker-requires-after_bounds g c κs within =
    let at = subst (λ (s : SiloView). IsWorkerAt c.args.lines.now.items c.args.directory.now s.first) (sym c.self.view_is) c.requires.first in
    worker-still _ _ _ _ c.self.inside.first at c.join_agent.ensures.go_on (silent-refl c.args.directory.now)

pub join_worker-requires-2-after_bounds : goal.join_worker-requires-2-after_bounds
join_worker-requires-2-after_bounds g c κs within =
    let at = subst (λ (s : SiloView). IsWorkerAt c.args.lines.now.items c.args.directory.now s.second) (sym c.self.view_is) c.requires.second in
    worker-still _ _ _ _ c.self.inside.second at (goes-trans _ _ _ c.join_agent.ensures.go_on c.join_worker.ensures.go_on) c.join_worker.ensures.directory

pub returns-clause-go_on : goal.returns-clause-go_on
returns-clause-go_on g c = goes-trans _ _ _ (goes-trans _ _ _ c.join_agent.ensures.go_on c.join_worker.ensures.go_on) c.join_worker-2.ensures.go_on

pub returns-clause-directory : goal.returns-clause-directory
returns-clause-directory g c = silent-trans _ _ _ c.join_worker.ensures.directory c.join_worker-2.ensures.directory

pub returns-clause-taken : goal.returns-clause-taken
returns-clause-taken g c =
    rw (← c.self.view_is)
    (record {
      agent = taken-lines _ _ _ (goes-trans _ _ _ c.join_worker.ensures.go_on c.join_worker-2.ensures.go_on) c.join_agent.ensures.taken;
      first = taken-lines _ _ _ c.join_worker-2.ensures.go_on c.join_worker.ensures.taken;
      second = c.join_worker-2.ensures.taken;
      first_asks = taken-goes _ _ _ c.join_worker.ensures.asks c.join_worker-2.ensures.directory.on;
      second_asks = c.join_worker-2.ensures.asks;
    })

pub returns-clause-silent : goal.returns-clause-silent
returns-clause-silent g c = silents-trans _ _ _ (silents-trans _ _ _ c.join_agent.ensures.silent c.join_worker.ensures.silent) c.join_worker-2.ensures.silent
