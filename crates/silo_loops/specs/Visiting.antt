-- Where an agent is, and what it does next.
use Rattle.std.specs.Prelude.{◌≡◌, ℕ, Option, Some, None, slice_get, List}
use Rattle.stream_ident.specs.declared.ident.SubName.{SubName}
use Rattle.stream_model.specs.declared.op.Op.{Op}
use Rattle.stream_model.specs.declared.op.Op.TheVariants as op
use Rattle.silo_loops.specs.declared.agent_walk.AgentStep.{AgentStep}
use Rattle.silo_loops.specs.declared.agent_walk.AgentStep.TheVariants as step
use Rattle.silo_loops.specs.declared.agent_walk.Visit.{Visit}
use Rattle.silo_loops.specs.declared.heard.Heard.{Heard}
use Rattle.silo_loops.specs.declared.heard.Heard.TheVariants as heard
use Rattle.silo_loops.specs.Agents.{IsNamedLast}
use Rattle.silo_loops.specs.Answers.{end_in}
use Rattle.silo_loops.specs.Lines.{LineView, QueuePass}

-- what it asks next, under this generation, where this subscription was named last
abbrev pub op_of : ℕ → AgentStep → Option SubName → Op
op_of generation step.Pull last = op.Pull generation 32
op_of generation step.Due last = op.Due last
op_of generation (step.Acknowledge sub token) last = op.Ack generation sub token
op_of generation (step.Deliver sub) last = op.Deliver generation sub

-- What an agent knows of a pass by what it does next there: behind the Pull, which subscription was named last.
abbrev pub Knows : AgentStep → Option SubName → QueuePass → Type 0
Knows step.Pull last p = last ≡ None
Knows _ last p = IsNamedLast p last

-- at its queue, where it is at one, an agent knows so
abbrev pub IsVisiting : Visit → List LineView → Type 0
IsVisiting visit lines = (line : LineView) → slice_get lines visit.at ≡ Some line → Knows visit.step visit.last line.pass

-- the subscription that was named last once it has had this answer and stays at its queue
abbrev pub NamesThen : AgentStep → Option SubName → Heard → Option SubName → Type 0
NamesThen step.Due last (heard.Due sub ack) next = next ≡ Some sub
NamesThen step.Due last _ next = ⊥
NamesThen _ last _ next = next ≡ last

-- After an answer it is to pull; or it stays at its queue, where the answer didn't end it.
abbrev pub GoesOnTo : AgentStep → Visit → Heard → Visit → Type 0
GoesOnTo step.Pull was answer visit = visit.last ≡ None
GoesOnTo _ was answer visit = (visit.at ≡ was.at) × (end_in answer ≡ None) × NamesThen was.step was.last answer visit.last
