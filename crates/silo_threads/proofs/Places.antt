-- A change of silos leaves the turnstiles of the queues.
use Rattle.silo_threads.proofs.Prelude.{goes-places, places, ◌≡◌, ℕ, Result, Ok, ap, AllocError}
use Rattle.silo_threads.specs.Clusters.{AnswersDown, AnswersUp, ClusterView}
use Rattle.silo_threads.specs.declared.cluster.SiloDown.{SiloDown}
use Rattle.silo_threads.specs.declared.cluster.SiloDown.TheVariants as down
use Rattle.silo_threads.specs.declared.cluster.SiloUp.{SiloUp}
use Rattle.silo_threads.specs.declared.cluster.SiloUp.TheVariants as up

-- a cluster that is the same has the same turnstiles
same-places : (v w : ClusterView) → w ≡ v → places w.operator.lines ≡ places v.operator.lines
same-places v w same = ap (λ (c : ClusterView). places c.operator.lines) same

pub up-places : (v w : ClusterView) (silo : ℕ) (result : Result SiloUp AllocError) → AnswersUp v silo result w → places w.operator.lines ≡ places v.operator.lines
up-places v w silo (Ok up.Halted) answers = same-places v w answers.1
up-places v w silo (Ok up.Already) answers = same-places v w answers.2
up-places v w silo _ answers = goes-places v.operator.lines w.operator.lines answers.2.on.lines

pub down-places : (v w : ClusterView) (silo : ℕ) (result : Result SiloDown AllocError) → AnswersDown v silo result w → places w.operator.lines ≡ places v.operator.lines
down-places v w silo (Ok down.Halted) answers = same-places v w answers.1
down-places v w silo (Ok down.NotLive) answers = same-places v w answers.2
down-places v w silo (Ok down.LastSilo) answers = same-places v w answers.2
down-places v w silo _ answers = goes-places v.operator.lines w.operator.lines answers.2.on.lines
