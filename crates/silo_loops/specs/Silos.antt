-- What the making, starting and joining of a silo's loops says of the passes.
use Rattle.std.specs.Prelude.{◌≡◌, ℕ, List, [], ◌∷◌, ◌++◌, length, Contains, None}
use Rattle.std.specs.List.{AllByRecursion, AllZip}
use Rattle.turnstile.specs.declared.history.Entry.{Entry}
use Rattle.turnstile.specs.Calls.{IsSplitOff, joined_pass, numbers_of}
use Rattle.turnstile.specs.History.{Foreign}
use Rattle.turnstile.specs.Passes.{PassView}
use Rattle.silo_loops.specs.Agents.{AgentHasCause, AgentRuns, AgentView}
use Rattle.silo_loops.specs.Lines.{DirectoryPass, LineView, places}
use Rattle.silo_loops.specs.Passes.{CallsAlone, IsOtherIn}
use Rattle.silo_loops.specs.Walks.{Nothing}
use Rattle.silo_loops.specs.Workers.{Follows, WorkerHasCause, WorkerRuns, WorkerView}

-- The same pass later: it has each of its numbers, and has seen as much and more. No pass that was joined to it by then
-- has made a call since.
pub record GoesOn {O R S : Type 0} (p q : PassView O R S) : Type 0 where
  pub turnstile : q.turnstile ≡ p.turnstile
  pub number : q.number ≡ p.number
  pub numbers : (k : ℕ) → Contains (numbers_of p) k → Contains (numbers_of q) k
  pub more : List (Entry O R)
  pub seen : q.seen ≡ p.seen ++ more
  pub alone : CallsAlone p more

-- the same pass later, which has made no call since
pub record IsSilent {O R S : Type 0} (p q : PassView O R S) : Type 0 where
  pub on : GoesOn p q
  pub foreign : Foreign (p.number ∷ []) on.more

-- the pass of a line later
abbrev pub LineGoesOn : LineView → LineView → Type 0
LineGoesOn l m = GoesOn l.pass m.pass

-- the passes of lines have seen as much or more
abbrev pub GoOn : List LineView → List LineView → Type 0
GoOn old new = AllZip LineGoesOn old new

-- the same lines later, whose passes have made no call since
abbrev pub LineIsSilent : LineView → LineView → Type 0
LineIsSilent l m = IsSilent l.pass m.pass

-- the passes of lines have made no call since
abbrev pub AreSilent : List LineView → List LineView → Type 0
AreSilent old new = AllZip LineIsSilent old new

-- two lines at one turnstile
abbrev pub AreAlike : LineView → LineView → Type 0
AreAlike l m = m.pass.turnstile ≡ l.pass.turnstile

-- the pass of another line joined to this one's
abbrev pub joined_line : LineView → LineView → LineView
joined_line l m = record l { pass = joined_pass l.pass m.pass }

-- lines joined in order: the line at each place with the one at its place among the others, where there is
-- one
abbrev pub joined_lines : List LineView → List LineView → List LineView
joined_lines ls [] = ls
joined_lines [] (m ∷ ms) = []
joined_lines (l ∷ ls) (m ∷ ms) = joined_line l m ∷ joined_lines ls ms

-- nothing is new since the mark
abbrev pub IsMarked : LineView → Type 0
IsMarked l = l.mark ≡ length l.pass.seen

-- a line with a split pass, of which nothing is new
abbrev pub IsSplitLine : LineView → LineView → Type 0
IsSplitLine l m = IsSplitOff l.pass m.pass × IsMarked m

-- the passes of a worker were split off from those of these lines and from this one at the directory
abbrev pub IsSplitWorker : List LineView → DirectoryPass → WorkerView → Type 0
IsSplitWorker lines d w = AllZip IsSplitLine lines w.lines × IsSplitOff d w.directory

-- the three loops of a silo; of running ones, as they were started
pub record SiloView : Type 0 where
  pub silo : ℕ
  pub agent : AgentView
  pub first : WorkerView
  pub second : WorkerView

-- the loop has done nothing yet: nothing is new, nothing in hand, and it may begin so many rounds
abbrev pub IsFreshAgent : ℕ → AgentView → Type 0
IsFreshAgent rounds a = AllByRecursion IsMarked a.lines × (a.rounds ≡ rounds) × (a.over ≡ None)

abbrev pub IsFreshWorker : ℕ → ℕ → WorkerView → Type 0
IsFreshWorker rounds silo w = (w.silo ≡ silo) × AllByRecursion IsMarked w.lines × (w.work ≡ Nothing) × (w.rounds ≡ rounds) × (w.over ≡ None)

-- the three loops of a silo have done nothing: nothing is new, nothing in hand, and each may begin so many
-- rounds
abbrev pub IsFresh : ℕ → ℕ → SiloView → Type 0
IsFresh rounds silo s = (s.silo ≡ silo) × IsFreshAgent rounds s.agent × IsFreshWorker rounds silo s.first × IsFreshWorker rounds silo s.second

-- the agent's passes are of the turnstiles of these lines
abbrev pub IsAgentAt : List LineView → AgentView → Type 0
IsAgentAt lines a = places a.lines ≡ places lines

-- the worker's passes are of the turnstiles of these lines and of this pass at the directory
abbrev pub IsWorkerAt : List LineView → DirectoryPass → WorkerView → Type 0
IsWorkerAt lines d w = (places w.lines ≡ places lines) × (w.directory.turnstile ≡ d.turnstile)

-- the passes of all loops of a silo are at the turnstiles of these lines, and at this directory's
pub record IsSiloAt (lines : List LineView) (d : DirectoryPass) (s : SiloView) : Type 0 where
  pub agent : IsAgentAt lines s.agent
  pub first : IsWorkerAt lines d s.first
  pub second : IsWorkerAt lines d s.second

-- the passes of all loops of the silo were split off from those of these lines and from this one at the directory
pub record AreSplitOff (lines : List LineView) (d : DirectoryPass) (s : SiloView) : Type 0 where
  pub agent : AllZip IsSplitLine lines s.agent.lines
  pub first : IsSplitWorker lines d s.first
  pub second : IsSplitWorker lines d s.second

-- the passes of all loops of the silo were joined to those of these lines and to this pass at the directory
pub record HaveJoined (s : SiloView) (ls : List LineView) (d : DirectoryPass) (new : List LineView) (e : DirectoryPass) : Type 0 where
  pub lines : new ≡ joined_lines (joined_lines (joined_lines ls s.agent.lines) s.first.lines) s.second.lines
  pub directory : e ≡ joined_pass (joined_pass d s.first.directory) s.second.directory

-- a line's pass has taken in another's
abbrev pub HasTakenIn : LineView → LineView → Type 0
HasTakenIn l m = IsOtherIn m.pass l.pass

-- the passes of all loops of the silo were taken in by those of these lines and by this one at the directory
pub record AreTakenIn (lines : List LineView) (d : DirectoryPass) (s : SiloView) : Type 0 where
  pub agent : AllZip HasTakenIn lines s.agent.lines
  pub first : AllZip HasTakenIn lines s.first.lines
  pub second : AllZip HasTakenIn lines s.second.lines
  pub first_asks : IsOtherIn s.first.directory d
  pub second_asks : IsOtherIn s.second.directory d

-- the loops of the silo have made some steps, or none, both workers at a gate that isn't named
pub record HasRun (s t : SiloView) : Type 0 where
  pub silo : t.silo ≡ s.silo
  pub agent : AgentRuns s.agent t.agent
  pub follows : Follows
  pub first : WorkerRuns follows s.first t.first
  pub second : WorkerRuns follows s.second t.second

-- each loop of the silo that has ended has a cause
pub record HaveCauses (s : SiloView) : Type 0 where
  pub agent : AgentHasCause s.agent
  pub first : WorkerHasCause s.first
  pub second : WorkerHasCause s.second
