-- What an agent may do.
use Rattle.std.specs.Prelude.{◌≡◌, Bool, true, false, ℕ, ◌+◌, ◌<◌, ◌⊎◌, List, length, Option, Some, None, Result, slice_get, slice_index_or, map}
use Rattle.stream_ident.specs.declared.ident.SubName.{SubName}
use Rattle.stream_model.specs.declared.op.Op.{Op}
use Rattle.stream_model.specs.declared.op.Op.TheVariants.{Pull, Due, Ack, Deliver}
use Rattle.stream_model.specs.Replies.{Reply}
use Rattle.stream_model.specs.declared.reply.Reply.TheVariants.{DueSub}
use Rattle.turnstile.specs.declared.turnstile.Refusal.{Refusal}
use Rattle.silo_loops.specs.declared.advance.Advance.{Advance}
use Rattle.silo_loops.specs.declared.advance.Advance.TheVariants as advance
use Rattle.doorbells.specs.declared.loop_end.Over as why
use Rattle.doorbells.specs.declared.loop_end.Over.TheVariants as over
use Rattle.silo_loops.specs.Answers.{end_of}
use Rattle.silo_loops.specs.Lines.{CallsAt, HasPulled, LineIsAtLimit, LineView, QueuePass, places, rested}
use Rattle.silo_loops.specs.Passes.{LastOf}
use Rattle.silo_loops.specs.Chains.{Goes}

-- an agent: its lines in queue order, the generation under which it holds each queue, where it does, and at which queue it is
pub record AgentState : Type 0 where
  pub lines : List LineView
  pub held : List (Option ℕ)
  pub at : ℕ

-- the loop of an agent: its lines in queue order, the generation under which it holds each queue, where it does, how many
-- more rounds it may begin, and why it has ended
pub record AgentView : Type 0 where
  pub lines : List LineView
  pub held : List (Option ℕ)
  pub rounds : ℕ
  pub over : Option why.Over

-- the loop of this agent
abbrev pub agent_of : AgentState → ℕ → Option why.Over → AgentView
agent_of a rounds over = record { lines = a.lines; held = a.held; rounds = rounds; over = over }

-- a visit of a queue begins with a Pull, and then asks for one due subscription after another
abbrev pub is_pull_or_due : Op → Bool
is_pull_or_due (Pull generation most) = true
is_pull_or_due (Due last) = true
is_pull_or_due _ = false

-- the due subscription that a call names
abbrev pub named_by : Op → Reply → Option SubName
named_by (Due last) (DueSub sub ack) = Some sub
named_by _ _ = None

-- The due subscription that was named last at the queue of this pass since the pass pulled there, or none.
abbrev pub IsNamedLast : QueuePass → Option SubName → Type 0
IsNamedLast p last = (op : Op) × (reply : Reply) × LastOf is_pull_or_due p op reply × (last ≡ named_by op reply)

-- What an agent may ask of a queue that it holds: an agent's operations, under the generation that it was told; and for
-- the due subscription behind the one that was named last.
abbrev pub AgentMay : QueuePass → ℕ → Op → Type 0
AgentMay p generation (Pull named most) = (named ≡ generation) × (most ≡ 32)
AgentMay p generation (Deliver named sub) = named ≡ generation
AgentMay p generation (Ack named sub token) = named ≡ generation
AgentMay p generation (Due last) = IsNamedLast p last
AgentMay p generation _ = ⊥

-- a call of an agent
pub record AgentCalls (v w : AgentView) : Type 0 where
  pub at : ℕ
  pub op : Op
  pub result : Result Reply Refusal
  pub generation : ℕ
  pub holds : slice_get w.held at ≡ Some (Some generation)
  pub calls : CallsAt v.lines at op result w.lines
  pub may : AgentMay calls.was.pass generation op
  pub over : w.over ≡ end_of result

-- each queue that is held was pulled
abbrev pub OnesPulled : List LineView → List (Option ℕ) → Type 0
OnesPulled lines held =
    (at : ℕ) (line : LineView) (generation : ℕ) → at < length lines → slice_get held at ≡ Some (Some generation) → HasPulled (slice_index_or lines at line)

-- each queue that it then holds was pulled since the loop was made or last idle, and each line begins anew
pub record AgentRests (v w : AgentView) : Type 0 where
  pub pulled : OnesPulled v.lines w.held
  pub lines : w.lines ≡ map rested v.lines

-- no round is left; what it holds it may have asked anew
pub record AgentRanOut (v w : AgentView) : Type 0 where
  pub ended : w ≡ record v { held = w.held; over = Some over.Rounds }
  pub none : v.rounds ≡ 0

-- what a step may do, where the loop hasn't ended: it has no work but calls
abbrev pub AgentGoesOn : Advance → AgentView → AgentView → Type 0
AgentGoesOn advance.Did v w = (w.over ≡ None) × AgentCalls v w
AgentGoesOn advance.Idle v w = (w.over ≡ None) × AgentRests v w
AgentGoesOn (advance.Over end) v w = (w.over ≡ Some end) × (AgentCalls v w ⊎ AgentRanOut v w)

-- no round was begun, or one by a call
abbrev pub AgentCounts : AgentView → AgentView → Type 0
AgentCounts v w = (w.rounds ≡ v.rounds) ⊎ ((w.rounds + 1 ≡ v.rounds) × AgentCalls v w)

-- what a step may do; a loop that has ended stays so
abbrev pub AgentAdvancesFrom : Option why.Over → Advance → AgentView → AgentView → Type 0
AgentAdvancesFrom None did v w = AgentGoesOn did v w × AgentCounts v w
AgentAdvancesFrom (Some end) did v w = (did ≡ advance.Over end) × (w ≡ v)

-- one step of an agent: a call that it may make, nothing, or its end
abbrev pub AgentAdvances : Advance → AgentView → AgentView → Type 0
AgentAdvances did v w = AgentAdvancesFrom v.over did v w

-- some steps of an agent, or none
abbrev pub AgentRuns : AgentView → AgentView → Type 0
AgentRuns v w = Goes AgentAdvances v w

-- Why an agent has ended so: it may begin no more rounds; or a limit was met at one of its queues. Of a call that failed
-- to allocate nothing is seen.
abbrev pub AgentEndsBy : Option why.Over → AgentView → Type 0
AgentEndsBy (Some over.Rounds) a = a.rounds ≡ 0
AgentEndsBy (Some over.Limit) a = LineIsAtLimit a.lines
AgentEndsBy _ a = Unit {0}

-- An agent that ended for want of rounds has none left, and one that ended at a limit met it at one of its
-- queues. Of other ends nothing is said.
abbrev pub AgentHasCause : AgentView → Type 0
AgentHasCause a = AgentEndsBy a.over a

-- an agent is at the same turnstiles as before
abbrev pub HasSamePlaces : AgentView → AgentView → Type 0
HasSamePlaces v w = places w.lines ≡ places v.lines
