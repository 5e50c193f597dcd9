-- A parked cluster, and all that was handed out with it.
use Rattle.std.specs.Prelude.{◌≡◌, ℕ, true, false, List, map, insert, Result, Ok, Err}
use Rattle.std.specs.declared.alloc.AllocError.{AllocError}
use Rattle.queue_balancer.specs.Balance.{HasNoDoubles}
use Rattle.silo_loops.specs.Lines.{QueuePass, places}
use Rattle.queue_callers.specs.Calls.{turnstiles}
use Rattle.silo_loops.specs.Silos.{SiloView}
use Rattle.silo_threads.specs.Clusters.{ClusterView, RunsOn}
use Rattle.silo_threads.specs.declared.cluster.Retired.{Retired}
use Rattle.silo_threads.specs.declared.cluster.Retired.TheVariants as retired

-- the silos of these loops, in their order
abbrev pub silos_of : List SiloView → List ℕ
silos_of crew = map (λ (s : SiloView). s.silo) crew

-- A parked cluster, a caller of it, and the loops of its silos that weren't given back: those of the silos that live, in
-- their order, unless a change was broken off.
pub record IsWhole (c : ClusterView) (caller : List QueuePass) (crew : List SiloView) : Type 0 where
  pub parked : c.is_parked ≡ true
  pub runs : RunsOn c.operator crew
  pub live : c.is_halted ≡ false → silos_of crew ≡ c.operator.live
  pub once : HasNoDoubles (silos_of crew)
  pub beside : turnstiles caller ≡ places c.operator.lines

-- loops that are handed out again come to their place
abbrev pub IsLeft : {G H D : Type 0} → Result (Retired G H D) AllocError → ℕ → List SiloView → List SiloView → Type 0
IsLeft (Ok (retired.LastSilo back)) at old new = new ≡ insert old at back
IsLeft (Ok (retired.Halted back)) at old new = new ≡ insert old at back
IsLeft (Ok retired.Down) at old new = new ≡ old
IsLeft (Ok retired.Limit) at old new = new ≡ old
IsLeft (Err e) at old new = new ≡ old
