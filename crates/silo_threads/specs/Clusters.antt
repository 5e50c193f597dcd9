-- What contracts see of a cluster, and what its calls say.
use Rattle.std.specs.Prelude.{◌≡◌, ◌≢◌, ◌⊎◌, ℕ, ◌-◌, ◌^◌, ◌≤◌, ◌<◌, Bool, true, false, ◌||◌, List, [], ◌∷◌, ◌++◌, length, map, remove, replicate, slice_get, slice_index, Contains, Some, Result, Ok, Err, IsErr}
use Rattle.std.specs.List.{AllByRecursion, AllZip, range_with_len}
use Rattle.std.specs.declared.alloc.AllocError.{AllocError}
use Rattle.stream_ident.specs.declared.limits.TheConstants.{MOST_BLOCKS, MOST_EVENTS, MOST_PERMITS, MOST_QUEUES, MOST_RISES, MOST_RULES, MOST_SILOS, MOST_SUBS}
use Rattle.stream_model.specs.Bounds.{AreLimits}
use Rattle.stream_model.specs.declared.limits.Limits.{Limits}
use Rattle.stream_model.specs.declared.op.Op.{Op}
use Rattle.stream_model.specs.Replies.{Reply}
use Rattle.stream_model.specs.Positions.{empty}
use Rattle.stream_model.specs.declared.plain.PlainPartition.{PlainPartition}
use Rattle.activation_directory.specs.Plain.{PlainDirectory}
use Rattle.activation_directory.specs.Plain as directory
use Rattle.turnstile.specs.declared.history.Entry.{Entry}
use Rattle.turnstile.specs.Passes.{Origin}
use Rattle.turnstile.specs.declared.view.Start.{Start}
use Rattle.queue_balancer.specs.Balance.{IsBalanced}
use Rattle.silo_loops.specs.Lines.{DirectoryPass, LineView, QueuePass, places}
use Rattle.silo_loops.specs.Passes.{OwnsNone}
use Rattle.queue_callers.specs.Calls.{IsUnused, turnstiles}
use Rattle.silo_loops.specs.Silos.{AreSplitOff, AreTakenIn, GoOn, GoesOn, HasRun, HaveCauses, IsFresh, IsSiloAt, SiloView}
use Rattle.queue_callers.specs.declared.ends.LoopEnds.{LoopEnds}
use Rattle.queue_callers.specs.declared.finishing.Finished.{Finished}
use Rattle.queue_callers.specs.Ends.{ends_with}
use Rattle.queue_callers.specs.Finishing.{CallersAloneProduce, HaveBegun, IsFinished, OnHistories}
use Rattle.queue_callers.specs.Gathering.{gathered, passes_of}
use Rattle.silo_operators.specs.declared.halt.Halt.{Halt}
use Rattle.silo_operators.specs.declared.halt.Halt.TheVariants as halt
use Rattle.silo_operators.specs.Changes.{AreDeactivated, HasFound, HasMade, HasMadeLast, HasSince, HaveOnlySeen, HaveStayed, IsMove, IsNoneLeft, IsSpentMove, is_move}
use Rattle.silo_operators.specs.Operators.{HasSpread, OperatorGoesOn, OperatorView}
use Rattle.silo_threads.specs.declared.config.Config.{Config}
use Rattle.silo_threads.specs.declared.cluster.Retired.{Retired}
use Rattle.silo_threads.specs.declared.cluster.Retired.TheVariants as retired
use Rattle.silo_threads.specs.declared.cluster.SiloDown.{SiloDown}
use Rattle.silo_threads.specs.declared.cluster.SiloDown.TheVariants as down
use Rattle.silo_threads.specs.declared.cluster.SiloUp.{SiloUp}
use Rattle.silo_threads.specs.declared.cluster.SiloUp.TheVariants as up

-- a configuration that a cluster may have
pub record IsConfig (config : Config) : Type 0 where
  pub queues : (1 ≤ config.queues) × (config.queues ≤ MOST_QUEUES)
  pub blocks : (1 ≤ config.blocks) × (config.blocks ≤ MOST_BLOCKS)
  pub silos : (1 ≤ config.silos) × (config.silos ≤ MOST_SILOS)
  pub limits : AreLimits config.limits
  pub rises : 1 ≤ config.limits.rises
  pub history : 1 ≤ config.history

-- the greatest limits that a partition may have
abbrev pub greatest_limits : Limits
greatest_limits = record { events = MOST_EVENTS; subs = MOST_SUBS; rules = MOST_RULES; rises = MOST_RISES }

-- the configuration of a service that stays up
abbrev pub standing_config : ℕ → ℕ → Config
standing_config queues silos =
    record {
      queues = queues;
      blocks = 4;
      silos = silos;
      limits = greatest_limits;
      history = 2 ^ 64 - 1;
      rounds = 2 ^ 64 - 1;
      looks = 100000;
    }

-- how the turnstile of each queue begins
abbrev pub opening : Config → Start PlainPartition
opening config = record { state = empty config.blocks config.limits; limit = config.history }

-- a pass of a turnstile that began so
abbrev pub IsAtQueue : Config → QueuePass → Type 0
IsAtQueue config p = (t : Origin PlainPartition) × (p.turnstile ≡ Some t) × (t.start ≡ opening config)

-- how the turnstile of the directory begins: without grains, and with as many permits as a directory may give
abbrev pub opening_directory : Config → Start PlainDirectory
opening_directory config = record { state = directory.empty MOST_PERMITS; limit = config.history }

-- a pass of a turnstile that began so
abbrev pub IsAtDirectory : Config → DirectoryPass → Type 0
IsAtDirectory config d = (t : Origin PlainDirectory) × (d.turnstile ≡ Some t) × (t.start ≡ opening_directory config)

-- A cluster: what its operator holds, the silos whose loops run, as they were started, how those have ended that came
-- back, whether the loops were given to whoever made it, whether a change of silos was broken off, how many rounds each
-- loop may begin, and how often a drain looks at the queues.
pub record ClusterView : Type 0 where
  pub operator : OperatorView
  pub silos : List SiloView
  pub ends : LoopEnds
  pub is_parked : Bool
  pub is_halted : Bool
  pub rounds : ℕ
  pub looks : ℕ

-- the set of silos is frozen, or the cluster parked
abbrev pub is_fixed : ClusterView → Bool
is_fixed c = c.is_parked || c.is_halted

-- the loops of each live silo run, and no other
abbrev pub RunLoops : ClusterView → Type 0
RunLoops c = map (λ (s : SiloView). s.silo) c.silos ≡ c.operator.live

-- the passes of the silos' loops are at the operator's turnstiles
abbrev pub RunsOn : OperatorView → List SiloView → Type 0
RunsOn o silos = AllByRecursion (IsSiloAt o.lines o.directory) silos

-- so many silos were started, numbered from 0 on
abbrev pub AreStarted : ℕ → List SiloView → Type 0
AreStarted many silos = map (λ (s : SiloView). s.silo) silos ≡ range_with_len 0 many

-- the loops of each silo have done nothing yet
abbrev pub AreFresh : ℕ → List SiloView → Type 0
AreFresh rounds silos = AllByRecursion (λ (s : SiloView). IsFresh rounds s.silo s) silos

-- what every cluster keeps
pub record IsCluster (c : ClusterView) : Type 0 where
  pub at : RunsOn c.operator c.silos
  pub fresh : AreFresh c.rounds c.silos
  pub loops : is_fixed c ≡ false → RunLoops c
  pub parked : c.is_parked ≡ true → c.silos ≡ []

-- how loops have ended, and then those of this silo
abbrev pub noted : LoopEnds → SiloView → LoopEnds
noted ends s = ends_with (ends_with (ends_with ends s.agent.over) s.first.over) s.second.over

-- how loops have ended, and then those of each of these silos
abbrev pub all_noted : LoopEnds → List SiloView → LoopEnds
all_noted ends [] = ends
all_noted ends (s ∷ ss) = all_noted (noted ends s) ss

-- no loop has ended by itself so far
abbrev pub none_ended : LoopEnds
none_ended = record { memory = false; limit = false; rounds = false }

-- The loops of the silo came back so: their passes were taken in by those of these lines and by this one at the
-- directory, and each that has ended has a cause.
pub record HaveComeBack (lines : List LineView) (d : DirectoryPass) (s : SiloView) : Type 0 where
  pub taken : AreTakenIn lines d s
  pub causes : HaveCauses s

-- the loops of these silos came back so, and it was noted how they have ended
abbrev pub HaveEnded : LoopEnds → List SiloView → List LineView → DirectoryPass → LoopEnds → Type 0
HaveEnded ends back lines d new = (new ≡ all_noted ends back) × AllByRecursion (HaveComeBack lines d) back

-- Calls were refused on the way: what was answered stands, each queue still counts for the silo that it had, and no silo
-- comes or goes any more.
pub record HasHalted (v w : ClusterView) : Type 0 where
  pub on : OperatorGoesOn v.operator w.operator
  pub assignment : w.operator.assignment ≡ v.operator.assignment
  pub same : (w.is_parked ≡ v.is_parked) × (w.rounds ≡ v.rounds) × (w.looks ≡ v.looks)
  pub halted : w.is_halted ≡ true

-- the operator's pass at this queue has found its history full, or one of its Moves was answered Spent since
pub record IsLimitedAt (v w : OperatorView) (queue : ℕ) : Type 0 where
  pub was : LineView
  pub is : LineView
  pub had : slice_get v.lines queue ≡ Some was
  pub has : slice_get w.lines queue ≡ Some is
  pub cause : HasFound halt.Limit is.pass ⊎ ((silo : ℕ) × HasSince was is (IsSpentMove silo))

-- a limit was met, at the directory or at a queue
abbrev pub HasMetLimit : OperatorView → OperatorView → Type 0
HasMetLimit v w = HasFound halt.Limit w.directory ⊎ ((queue : ℕ) × IsLimitedAt v w queue)

-- A silo came: its loops, which had done nothing and whose passes were split off from the operator's, were started, and
-- the queues are spread anew. A queue that stays on its silo was moved nowhere. No pass was joined to the operator's: at
-- the queues these have only made calls, and the one at the directory is as before.
pub record IsUp (v : ClusterView) (silo : ℕ) (w : ClusterView) : Type 0 where
  pub on : OperatorGoesOn v.operator w.operator
  pub seen : HaveOnlySeen v.operator.lines w.operator.lines
  pub directory : w.operator.directory ≡ v.operator.directory
  pub live : w.operator.live ≡ v.operator.live ++ silo ∷ []
  pub started : (s : SiloView) × (w.silos ≡ v.silos ++ s ∷ []) × IsFresh v.rounds silo s × AreSplitOff v.operator.lines v.operator.directory s
  pub spread : HasSpread v.operator w.operator
  pub stayed : HaveStayed v.operator.lines w.operator.lines v.operator.assignment w.operator.assignment
  pub ends : w.ends ≡ v.ends
  pub same : (w.is_parked ≡ v.is_parked) × (w.rounds ≡ v.rounds) × (w.looks ≡ v.looks)
  pub goes_on : w.is_halted ≡ false

-- the loops that run are those that ran, and at most those of this silo beside them
abbrev pub HasAtMostCome : ℕ → List SiloView → List SiloView → Type 0
HasAtMostCome silo old new = (new ≡ old) ⊎ ((s : SiloView) × (new ≡ old ++ s ∷ []) × (s.silo ≡ silo))

-- when each answer of `silo_up` comes, by the silos that live, and what it leaves
abbrev pub AnswersUp : ClusterView → ℕ → Result SiloUp AllocError → ClusterView → Type 0
AnswersUp v silo (Ok up.Halted) w = (is_fixed v ≡ true) × (w ≡ v)
AnswersUp v silo (Ok up.Already) w = (is_fixed v ≡ false) × Contains v.operator.live silo × (w ≡ v)
AnswersUp v silo (Ok up.Up) w = (is_fixed v ≡ false) × (¬ Contains v.operator.live silo) × IsUp v silo w
AnswersUp v silo (Ok up.Limit) w = (is_fixed v ≡ false) × (¬ Contains v.operator.live silo) × HasHalted v w × HasMetLimit v.operator w.operator × (w.ends ≡ v.ends) × HasAtMostCome silo v.silos w.silos
AnswersUp v silo (Err e) w = (is_fixed v ≡ false) × (¬ Contains v.operator.live silo) × HasHalted v w × (w.ends ≡ v.ends) × HasAtMostCome silo v.silos w.silos

-- how a change of silos that was broken off is answered, by what is answered where a limit was met
abbrev pub IsHaltedWith : {T : Type 0} → Halt → T → Result T AllocError → Type 0
IsHaltedWith halt.Limit limit result = result ≡ Ok limit
IsHaltedWith halt.Memory limit result = IsErr result

-- What is left once a silo went that stood at this place among those that live: no grain is left on it, each grain that
-- was taken from it is deactivated at each queue, and the queues are spread anew. A queue that stays on its silo was moved
-- nowhere.
pub record HasLeft (silo place : ℕ) (v w : OperatorView) : Type 0 where
  pub live : w.live ≡ remove v.live place
  pub none_left : HasMade (length v.directory.seen) w.directory (IsNoneLeft silo)
  pub deactivated : AreDeactivated silo v.directory w.directory v.lines w.lines
  pub spread : HasSpread v w
  pub stayed : HaveStayed v.lines w.lines v.assignment w.assignment

-- a silo went: its loops came back, and this is left
pub record IsDown (v : ClusterView) (silo : ℕ) (w : ClusterView) : Type 0 where
  pub on : OperatorGoesOn v.operator w.operator
  pub place : ℕ
  pub stood : slice_get v.operator.live place ≡ Some silo
  pub left : HasLeft silo place v.operator w.operator
  pub same : (w.is_parked ≡ v.is_parked) × (w.rounds ≡ v.rounds) × (w.looks ≡ v.looks)
  pub goes_on : w.is_halted ≡ false

-- Past all that the workers of the silo have seen and done at the directory, this pass has found it without a grain of
-- the silo.
abbrev pub IsEmptied : DirectoryPass → SiloView → Type 0
IsEmptied d s = HasMade (length s.first.directory.seen) d (IsNoneLeft s.silo) × HasMade (length s.second.directory.seen) d (IsNoneLeft s.silo)

-- the silo lives, and another one too
abbrev pub MayGo : ClusterView → ℕ → Type 0
MayGo v silo = Contains v.operator.live silo × (1 < length v.operator.live)

-- The loops of the silo, which had done nothing where they were started, came back, and it was noted how they have
-- ended. The others run as before.
pub record HasNoted (v : ClusterView) (silo : ℕ) (w : ClusterView) : Type 0 where
  pub place : ℕ
  pub started : SiloView
  pub stood : slice_get v.silos place ≡ Some started
  pub fresh : IsFresh v.rounds silo started
  pub others : w.silos ≡ remove v.silos place
  pub back : SiloView
  pub ran : HasRun started back
  pub come : HaveComeBack w.operator.lines w.operator.directory back
  pub ends : w.ends ≡ noted v.ends back

-- when each answer of `silo_down` comes, by the silos that live, and what it leaves: the grains of the silo
-- that went are deactivated, and the queues spread
abbrev pub AnswersDown : ClusterView → ℕ → Result SiloDown AllocError → ClusterView → Type 0
AnswersDown v silo (Ok down.Halted) w = (is_fixed v ≡ true) × (w ≡ v)
AnswersDown v silo (Ok down.NotLive) w = (is_fixed v ≡ false) × (¬ Contains v.operator.live silo) × (w ≡ v)
AnswersDown v silo (Ok down.LastSilo) w = (is_fixed v ≡ false) × (v.operator.live ≡ silo ∷ []) × (w ≡ v)
AnswersDown v silo (Ok down.Down) w = (is_fixed v ≡ false) × MayGo v silo × IsDown v silo w × (noted : HasNoted v silo w) × IsEmptied w.operator.directory noted.back
AnswersDown v silo (Ok down.Limit) w = (is_fixed v ≡ false) × MayGo v silo × HasHalted v w × HasNoted v silo w × HasMetLimit v.operator w.operator
AnswersDown v silo (Err e) w = (is_fixed v ≡ false) × MayGo v silo × HasHalted v w × HasNoted v silo w

-- these loops came back, and it was noted how they have ended
abbrev pub AreNoted : ClusterView → SiloView → ClusterView → Type 0
AreNoted v loops w = (w.ends ≡ noted v.ends loops) × HaveComeBack w.operator.lines w.operator.directory loops

-- the silo of these loops went, and no grain was left on it once they came back
abbrev pub IsRetired : ClusterView → SiloView → ClusterView → Type 0
IsRetired v loops w = (v.is_halted ≡ false) × MayGo v loops.silo × IsDown v loops.silo w × AreNoted v loops w × IsEmptied w.operator.directory loops

-- these loops came back, but their silo didn't go in full
abbrev pub IsBrokenOff : ClusterView → SiloView → ClusterView → Type 0
IsBrokenOff v loops w = (v.is_halted ≡ false) × MayGo v loops.silo × HasHalted v w × AreNoted v loops w

-- when each answer of `retire` comes for these loops, by the silos that live, and what it leaves
abbrev pub AnswersRetire : {G H D : Type 0} → ClusterView → SiloView → Result (Retired G H D) AllocError → ClusterView → Type 0
AnswersRetire v loops (Ok (retired.Halted back)) w = (v.is_halted ≡ true) × (back ≡ loops) × (w ≡ v)
AnswersRetire v loops (Ok (retired.LastSilo back)) w = (v.is_halted ≡ false) × (v.operator.live ≡ loops.silo ∷ []) × (back ≡ loops) × (w ≡ v)
AnswersRetire v loops (Ok retired.Down) w = IsRetired v loops w
AnswersRetire v loops (Ok retired.Limit) w = IsBrokenOff v loops w × HasMetLimit v.operator w.operator
AnswersRetire v loops (Err e) w = IsBrokenOff v loops w

-- a line for each of these lines is of a queue's turnstile
abbrev pub AreAtQueues : Config → List LineView → Type 0
AreAtQueues config lines = AllByRecursion (λ (l : LineView). IsAtQueue config l.pass) lines

-- each queue that is on another silo than the first was moved there, and nowhere after that
abbrev pub WereMoved : List LineView → List ℕ → Type 0
WereMoved lines assignment =
    (queue : ℕ) (l : LineView) → slice_get lines queue ≡ Some l → slice_index assignment queue ≢ 0 → HasMadeLast is_move 0 l.pass (IsMove (slice_index assignment queue))

-- each queue that is on the first silo was moved nowhere
abbrev pub WereLeft : List LineView → List ℕ → Type 0
WereLeft lines assignment =
    (queue : ℕ) (l : LineView) → slice_get lines queue ≡ Some l → slice_index assignment queue ≡ 0 → OwnsNone is_move (l.pass.number ∷ []) l.pass.seen

-- the pass of each line has seen nothing
abbrev pub HaveSeenNone : List LineView → Type 0
HaveSeenNone lines = AllByRecursion (λ (l : LineView). l.pass.seen ≡ []) lines

-- The operator of a new cluster and its caller: the first silos are to live, all queues are spread from silo 0 over them,
-- and those that stay there were moved nowhere. The directory has no grain, and the caller has a pass at each queue and
-- has made no call.
pub record IsOpened (config : Config) (o : OperatorView) (caller : List QueuePass) : Type 0 where
  pub live : o.live ≡ range_with_len 0 config.silos
  pub queues : length o.lines ≡ config.queues
  pub at : AreAtQueues config o.lines
  pub directory : IsAtDirectory config o.directory
  pub balanced : IsBalanced (replicate config.queues 0) o.live o.assignment
  pub moved : WereMoved o.lines o.assignment
  pub stayed : WereLeft o.lines o.assignment
  pub beside : turnstiles caller ≡ places o.lines
  pub each : length caller ≡ config.queues
  pub unused : AllByRecursion IsUnused caller

-- A new cluster with its caller. The loops of its silos run, and had done nothing where they began.
pub record IsNew (config : Config) (c : ClusterView) (caller : List QueuePass) : Type 0 where
  pub opened : IsOpened config c.operator caller
  pub loops : RunLoops c
  pub fresh : AreFresh config.rounds c.silos
  pub goes_on : is_fixed c ≡ false
  pub none : c.ends ≡ none_ended
  pub rounds : c.rounds ≡ config.rounds
  pub looks : c.looks ≡ config.looks

-- A new parked cluster with its caller, and the loops of the silos that live, in their order, at the
-- cluster's turnstiles. They have done nothing yet.
pub record IsNewParked (config : Config) (c : ClusterView) (caller : List QueuePass) (loops : List SiloView) : Type 0 where
  pub opened : IsOpened config c.operator caller
  pub parked : c.is_parked ≡ true
  pub goes_on : c.is_halted ≡ false
  pub none : c.ends ≡ none_ended
  pub rounds : c.rounds ≡ config.rounds
  pub looks : c.looks ≡ config.looks
  pub silos : map (λ (s : SiloView). s.silo) loops ≡ c.operator.live
  pub fresh : AreFresh config.rounds loops
  pub at : RunsOn c.operator loops

-- How a cluster has ended: its loops came back, of which Ended says how they have ended, and its own passes, as they
-- were then, were gathered with the callers'.
pub record HasEnded {H : Type 0} (entries : H → List (Entry Op Reply)) (c : ClusterView) (Ended : List LineView → DirectoryPass → LoopEnds → Type 0) (callers : List (List QueuePass)) (answer : Finished H) : Type 0 where
  pub lines : List LineView
  pub on : GoOn c.operator.lines lines
  pub directory : DirectoryPass
  pub asks : GoesOn c.operator.directory directory
  pub ends : LoopEnds
  pub ended : Ended lines directory ends
  pub finished : IsFinished entries ends (gathered (passes_of lines) callers) answer
  pub begun : OnHistories entries (HaveBegun (passes_of lines) callers) answer
  pub producers : OnHistories entries (CallersAloneProduce callers) answer

module _ {H : Type 0} (entries : H → List (Entry Op Reply)) where
  -- The cluster has ended, with these loops and callers. Its loops were threads, had done nothing where they
  -- were started, and came back as these.
  abbrev pub HasFinished : ClusterView → List (List QueuePass) → List SiloView → Finished H → Type 0
  HasFinished c callers back answer =
      HasEnded entries c (λ lines d ends. AreFresh c.rounds c.silos × AllZip HasRun c.silos back × HaveEnded c.ends back lines d ends) callers answer

  -- a parked cluster has ended, with these loops and callers
  abbrev pub HasFinishedParked : ClusterView → List SiloView → List (List QueuePass) → Finished H → Type 0
  HasFinishedParked c loops callers answer = HasEnded entries c (HaveEnded c.ends loops) callers answer
