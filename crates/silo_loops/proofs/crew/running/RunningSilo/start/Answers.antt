use Rattle.silo_loops.proofs.Prelude.{refl, subst}
use Rattle.silo_loops.specs.Chains.{Stays}
use Rattle.silo_loops.specs.Workers.{WorkerRuns, WorkerView}
use Rattle.silo_loops.proofs.crew.running.RunningSilo.start.Goals as goal

pub returns-in_default : goal.returns-in_default
returns-in_default g c = record { silo = refl; agent = Stays; follows = g.G.Gate.follows; first = Stays; second = Stays }

pub returns-in-Err : goal.returns-in-Err
returns-in-Err g c = rw (← c.loops.view_is) (record { silo = refl; agent = Stays; follows = g.G.Gate.follows; first = c.in-Err.ensures.first; second = c.in-Err.ensures.second })

pub returns-in-Err-start_agent : goal.returns-in-Err-start_agent
returns-in-Err-start_agent g c =
    rw (← c.loops.view_is)
    (record {
      silo = refl;
      agent = c.in-Err-start_agent.ensures;
      follows = g.G.Gate.follows;
      first = subst (λ (w : WorkerView). WorkerRuns g.G.Gate.follows w c.join.result) c.in-Ok-start_workers.ensures.first c.join.ensures;
      second = subst (λ (w : WorkerView). WorkerRuns g.G.Gate.follows w c.join-in-Err-start_agent.result) c.in-Ok-start_workers.ensures.second c.join-in-Err-start_agent.ensures;
    })
