-- Runs of steps, put together.
use Rattle.silo_loops.proofs.Prelude.{refl, ◌∙◌}
use Rattle.silo_loops.specs.declared.advance.Advance.{Advance}
use Rattle.silo_loops.specs.declared.advance.Advance.TheVariants.{Did}
use Rattle.silo_loops.specs.Agents.{AgentRuns, AgentView, HasSamePlaces}
use Rattle.silo_loops.specs.Chains.{Chain, Stays, Steps}
use Rattle.silo_loops.specs.Workers.{Follows, IsBeside, WorkerRuns, WorkerView}
use Rattle.silo_loops.proofs.Advancing.{agent-beside, beside-after, worker-beside}

pub chain-on : {A : Type 0} (Step : A → A → Type 0) (u v w : A) → Chain Step u v → Chain Step v w → Chain Step u w
chain-on Step u v w Stays later = later
chain-on Step u v w (Steps {u = m} step rest) later = Steps step (chain-on Step m v w rest later)

-- a visit is a run
pub visited : {V : Type 0} (advances : Advance → V → V → Type 0) (did : Advance) (v u w : V) → Chain (advances Did) v u → advances did u w → Chain (λ v w. (did : Advance) × advances did v w) v w
visited advances did v u w Stays last = Steps (did, last) Stays
visited advances did v u w (Steps {u = m} step rest) last = Steps (Did, step) (visited advances did m u w rest last)

-- a run leaves a loop at its turnstiles
pub agent-stays : (v w : AgentView) → AgentRuns v w → HasSamePlaces v w
agent-stays v w Stays = refl
agent-stays v w (Steps {u = m} step rest) = agent-stays m w rest ∙ agent-beside v.over step.0 v m step.1

pub worker-stays : {follows : Follows} (v w : WorkerView) → WorkerRuns follows v w → IsBeside v w
worker-stays v w Stays = record { lines = refl; directory = refl }
worker-stays {follows} v w (Steps {u = m} step rest) = beside-after v m w (worker-beside follows v.over step.0 v m step.1) (worker-stays m w rest)
