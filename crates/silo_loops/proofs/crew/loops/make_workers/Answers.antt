use Rattle.silo_loops.proofs.Prelude.{◌∙◌}
use Rattle.silo_loops.proofs.Going.{goes-some, goes-trans, silent-trans, split-same, worker-still}
use Rattle.silo_loops.proofs.crew.loops.make_workers.Goals as goal

pub make_worker-requires-2-clause-some : goal.make_worker-requires-2-clause-some
make_worker-requires-2-clause-some g c κs within = goes-some _ _ c.make_worker.ensures.go_on c.requires.some

pub join_worker-requires-after_bounds : goal.join_worker-requires-after_bounds
join_worker-requires-after_bounds g c κs within = worker-still _ _ _ _ c.in_ok-first.first c.in_ok-first.ensures.fresh.1 c.make_worker-2.ensures.go_on c.make_worker-2.ensures.directory

pub returns-in-Ok-clause-go_on : goal.returns-in-Ok-clause-go_on
returns-in-Ok-clause-go_on g c = goes-trans _ _ _ c.make_worker.ensures.go_on c.make_worker-2.ensures.go_on

pub returns-in-Ok-clause-first : goal.returns-in-Ok-clause-first
returns-in-Ok-clause-first g c =
    (c.in_ok-first.ensures.fresh.0, worker-still _ _ _ _ c.in_ok-first.first c.in_ok-first.ensures.fresh.1 c.make_worker-2.ensures.go_on c.make_worker-2.ensures.directory)

pub returns-in-Err-clause-go_on : goal.returns-in-Err-clause-go_on
returns-in-Err-clause-go_on g c = goes-trans _ _ _ (goes-trans _ _ _ c.make_worker.ensures.go_on c.make_worker-2.ensures.go_on) c.join_worker.ensures.go_on

pub returns-in-Err-clause-directory : goal.returns-in-Err-clause-directory
returns-in-Err-clause-directory g c = silent-trans _ _ _ (silent-trans _ _ _ c.make_worker.ensures.directory c.make_worker-2.ensures.directory) c.join_worker.ensures.directory

pub returns-in-Ok-clause-directory : goal.returns-in-Ok-clause-directory
returns-in-Ok-clause-directory g c = silent-trans _ _ _ c.make_worker.ensures.directory c.make_worker-2.ensures.directory

pub returns-in-Ok-clause-same : goal.returns-in-Ok-clause-same
returns-in-Ok-clause-same g c = (c.in-Ok.ensures.same.0 ∙ c.in_ok-first.ensures.same.0, c.in-Ok.ensures.same.1 ∙ c.in_ok-first.ensures.same.1)

pub returns-in-Ok-clause-split : goal.returns-in-Ok-clause-split
returns-in-Ok-clause-split g c = (c.in_ok-first.ensures.split, split-same _ _ _ _ c.in-Ok.second c.in_ok-first.ensures.same c.in-Ok.ensures.split)
