-- What the operator of a cluster holds, and what a change of silos leaves.
use Rattle.std.specs.Prelude.{◌≡◌, ◌⊎◌, ℕ, ◌<◌, List, [], length}
use Rattle.queue_balancer.specs.Balance.{HasNoDoubles, IsBalanced}
use Rattle.silo_loops.specs.Lines.{DirectoryPass, LineView}
use Rattle.silo_loops.specs.Silos.{GoOn, GoesOn}
use Rattle.silo_operators.specs.declared.halt.Halt.{Halt}
use Rattle.silo_operators.specs.declared.halt.Halt.TheVariants as halt
use Rattle.silo_operators.specs.Changes.{HaveMoved, StaysBehind}

-- a cluster's own pass of each queue and its own at the directory, the silos that live, and the silo of each queue
pub record OperatorView : Type 0 where
  pub lines : List LineView
  pub directory : DirectoryPass
  pub live : List ℕ
  pub assignment : List ℕ

-- what every operator keeps
pub record IsOperator (v : OperatorView) : Type 0 where
  pub some : 0 < length v.lines
  pub assigned : length v.assignment ≡ length v.lines
  pub once : HasNoDoubles v.live

-- passes of an operator have seen as much or more
pub record OperatorGoesOn (v w : OperatorView) : Type 0 where
  pub lines : GoOn v.lines w.lines
  pub directory : GoesOn v.directory w.directory

-- only the passes of the operator have changed, and have seen as much or more
pub record HasOnlyGoneOn (v w : OperatorView) : Type 0 where
  pub on : OperatorGoesOn v w
  pub live : w.live ≡ v.live
  pub assignment : w.assignment ≡ v.assignment

-- queues are balanced anew over the silos that live, and those that have another silo than before were moved
-- there
pub record HasSpread (v w : OperatorView) : Type 0 where
  pub balanced : IsBalanced v.assignment w.live w.assignment
  pub moved : HaveMoved v.lines w.lines v.assignment w.assignment

-- Why queues weren't spread anew over these silos: one wasn't moved where it is to go. Or no line has
-- changed, since no silo lives or the call failed to allocate.
abbrev pub IsUnspread : Halt → List ℕ → List ℕ → List LineView → List LineView → Type 0
IsUnspread why assignment live old new =
    ((new ≡ old) × (why ≡ halt.Limit → live ≡ [])) ⊎ ((fresh : List ℕ) × IsBalanced assignment live fresh × StaysBehind why old new assignment fresh)
