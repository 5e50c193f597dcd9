use Rattle.silo_loops.proofs.Prelude.{◌∙◌, List, subst, AllZip}
use Rattle.silo_loops.specs.Lines.{LineView}
use Rattle.silo_loops.specs.Silos.{IsSplitLine}
use Rattle.silo_loops.proofs.Going.{goes-trans, silent-refl, silent-trans, worker-still}
use Rattle.silo_loops.proofs.crew.loops.SiloLoops.new.Goals as goal

pub join_worker-requires-after_bounds : goal.join_worker-requires-after_bounds
join_worker-requires-after_bounds g c κs within =
    worker-still _ _ _ _ c.in_ok-first.first c.in_ok-first.ensures.first.1 c.make_agent.ensures.go_on (silent-refl c.make_workers.new.directory)

pub join_worker-requires-in-Err-after_bounds : goal.join_worker-requires-in-Err-after_bounds
join_worker-requires-in-Err-after_bounds g c κs within =
    worker-still _ _ _ _ c.in_ok-first.second c.in_ok-first.ensures.second.1 (goes-trans _ _ _ c.make_agent.ensures.go_on c.join_worker.ensures.go_on) c.join_worker.ensures.directory

pub returns-in-Ok-clause-go_on : goal.returns-in-Ok-clause-go_on
returns-in-Ok-clause-go_on g c = goes-trans _ _ _ c.make_workers.ensures.go_on c.make_agent.ensures.go_on

pub returns-in-Ok-clause-at : goal.returns-in-Ok-clause-at
returns-in-Ok-clause-at g c =
    let on = c.make_agent.ensures.go_on in
    record {
      agent = c.in-Ok.ensures.fresh.1;
      first = worker-still _ _ _ _ c.in_ok-first.first c.in_ok-first.ensures.first.1 on (silent-refl c.make_workers.new.directory);
      second = worker-still _ _ _ _ c.in_ok-first.second c.in_ok-first.ensures.second.1 on (silent-refl c.make_workers.new.directory);
    }

pub returns-in-Err-clause-go_on : goal.returns-in-Err-clause-go_on
returns-in-Err-clause-go_on g c =
    goes-trans _ _ _ (goes-trans _ _ _ c.make_workers.ensures.go_on c.make_agent.ensures.go_on) (goes-trans _ _ _ c.join_worker.ensures.go_on c.join_worker-in-Err.ensures.go_on)

pub returns-in-Err-clause-directory : goal.returns-in-Err-clause-directory
returns-in-Err-clause-directory g c = silent-trans _ _ _ (silent-trans _ _ _ c.make_workers.ensures.directory c.join_worker.ensures.directory) c.join_worker-in-Err.ensures.directory

pub returns-in-Ok-clause-same : goal.returns-in-Ok-clause-same
returns-in-Ok-clause-same g c = (c.in-Ok.ensures.same ∙ c.in_ok-first.ensures.same.0, c.in_ok-first.ensures.same.1)

pub returns-in-Ok-clause-split : goal.returns-in-Ok-clause-split
returns-in-Ok-clause-split g c =
    record {
      agent = subst (λ (ls : List LineView). AllZip IsSplitLine ls c.in-Ok.agent.lines) c.in_ok-first.ensures.same.0 c.in-Ok.ensures.split;
      first = c.in_ok-first.ensures.split.0;
      second = c.in_ok-first.ensures.split.1;
    }
