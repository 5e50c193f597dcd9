-- What the steps of a worker do.
use Rattle.silo_loops.proofs.Prelude.{DirectoryReply, ◌≡◌, ℕ, suc, ◌<◌, ◌≤◌, ◌+◌, ◌⊎◌, inl, inr, true, List, ◌∷◌, length, drop, get_or, Option, Some, None, Result, refl, sym, ap, subst, ◌∙◌, add-one, drop_all, length-set, slice_get_within, slice_get, unwrap_or, Event, Reply, Op, Refusal}
use Rattle.std.proofs.Math.Seq.{drop-cons}
use Rattle.stream_ident.specs.declared.ident.GrainId.{GrainId}
use Rattle.stream_ident.specs.declared.ident.SubName.{SubName}
use Rattle.stream_ident.specs.declared.token.Token.{Token}
use Rattle.stream_ident.specs.declared.limits.TheConstants.{TURN_EVENTS}
use Rattle.stream_model.specs.declared.op.Op.TheVariants as op
use Rattle.activation_directory.specs.declared.op.DirectoryOp.{DirectoryOp}
use Rattle.activation_directory.specs.declared.op.DirectoryOp.TheVariants as asked
use Rattle.doorbells.specs.declared.loop_end.Over.{Over}
use Rattle.silo_loops.specs.declared.heard.Heard.{Heard}
use Rattle.silo_loops.specs.declared.worker_walk.Step.{Step}
use Rattle.silo_loops.specs.declared.worker_walk.Step.TheVariants as step
use Rattle.silo_loops.specs.declared.worker_walk.Turn.{Turn}
use Rattle.silo_loops.specs.Agents.{AgentCalls, AgentMay, AgentState, agent_of}
use Rattle.silo_loops.specs.Answers.{heard_of, end_in, end_of, end_of_asking}
use Rattle.silo_loops.specs.Lines.{DirectoryCalls, DirectoryPass, HearsAt, LineView, is_ready}
use Rattle.silo_loops.specs.Walks.{Fits, IsAt, IsFree, Nothing, Runs, Turning, WorkerState, step_after_begin, step_after_commit, step_after_enter, work_in}
use Rattle.silo_loops.specs.Workers.{Follows, HasWorked, IsFreeTo, WorkerAsks, WorkerCalls, WorkerLooks, WorkerMay, WorkerMayAsk, WorkerWorks, work_of, worker_of}
use Rattle.silo_loops.proofs.Working.{begun-fits, begun-work, committed-fits, committed-work, end-heard, entered-fits, entered-work, free-fits, free-work, get-set}

-- one place has one line
pub one-line : (lines : List LineView) (at : ℕ) (l m : LineView) → slice_get lines at ≡ Some l → slice_get lines at ≡ Some m → l ≡ m
one-line lines at l m a b = ap (λ o. unwrap_or o l) (sym a ∙ b)

-- a call ends a loop as its answer says
ends : (over : Option Over) (answer : Heard) (result : Result Reply Refusal) → over ≡ end_in answer → answer ≡ heard_of result → over ≡ end_of result
ends over answer result is heard = is ∙ ap end_in heard ∙ end-heard result

pub within : {at : ℕ} {s : Step} {lines : List LineView} {d : DirectoryPass} → IsAt at s lines d → at < length lines
within {at} {s} {lines} {d} here = slice_get_within lines at here.line here.had

-- a call leaves as many lines
pub length-called : (lines : List LineView) (at : ℕ) (o : Op) (new : List LineView) (room : ℕ) (old fresh : List Event) (answer : Heard) → HearsAt lines at o new room old fresh answer → length new ≡ length lines
length-called lines at o new room old fresh answer h = ap (λ ls. length ls) h.calls.whole ∙ length-set lines at h.calls.is

-- a worker as it was when it was called, whose parts are these
module _ {v was : WorkerState} (is : v ≡ was) where
  step-is : {s : Step} → was.step ≡ s → v.step ≡ s
  step-is due = ap (λ (w : WorkerState). w.step) is ∙ due

  -- what fits here, and what is in hand, where the next step is known
  fits-at : {s : Step} → was.step ≡ s → (here : IsAt v.at v.step v.lines v.directory) → Fits s v.directory here.line.pass
  fits-at {s} due here = subst (λ t. Fits t v.directory here.line.pass) (step-is due) here.fits

  in-hand : {s : Step} → was.step ≡ s → work_in v.at v.step v.events ≡ work_in v.at s v.events
  in-hand due = ap (λ t. work_in v.at t v.events) (step-is due)

  module _ (place : ℕ) (s : Step) {new : List LineView} {room : ℕ} {fresh : List Event} {answer : Heard} where
    -- the line at which a call was made
    at-call : {o : Op} (t : Step) → (h : HearsAt v.lines v.at o new room v.events fresh answer) → place ≡ v.at → s ≡ t → Fits t v.directory h.calls.is.pass → IsAt place s new v.directory
    at-call t h same next fits =
        record {
          line = h.calls.is;
          had = ap (λ k. slice_get new k) same ∙ ap (λ ls. slice_get ls v.at) h.calls.whole ∙ get-set v.lines v.at h.calls.was h.calls.is h.calls.had;
          fits = subst (λ t. Fits t v.directory h.calls.is.pass) (sym next) fits;
        }

    -- a call, where it is one that the worker may make then
    called : {over : Option Over} (o : Op) → (h : HearsAt v.lines v.at o new room v.events fresh answer) → WorkerMay v.directory h.calls.was.pass o → IsFreeTo o v.at (work_in v.at v.step v.events) → over ≡ end_in answer
        → work_in place s fresh ≡ work_of v.at o h.result → (rounds counted : ℕ) → (c : WorkerCalls (worker_of was rounds None) (worker_of (record v { lines = new; at = place; step = s; events = fresh }) counted over)) × (c.op ≡ o)
    called {over} o h may free ended work rounds counted =
        subst (λ x. (c : WorkerCalls (worker_of x rounds None) (worker_of (record v { lines = new; at = place; step = s; events = fresh }) counted over)) × (c.op ≡ o)) is (
          record {
            at = v.at;
            op = o;
            result = h.result;
            calls = h.calls;
            may = may;
            free = free;
            over = ends over answer h.result ended h.heard;
            work = work;
            directory = refl;
            silo = refl;
          },
          refl,
        )

    pub looked : {last : Option GrainId} {over : Option Over} → IsFree was.step → HearsAt v.lines v.at (op.Ready last) new room v.events fresh answer → over ≡ end_in answer → IsFree s
        → (rounds counted : ℕ) → WorkerLooks (worker_of was rounds None) (worker_of (record v { lines = new; at = place; step = s; events = fresh }) counted over)
    looked {last} {over} free h ended next rounds counted =
        let c = called {over = over} (op.Ready last) h tt (free-work v.at v.step v.events (subst IsFree (ap (λ (w : WorkerState). w.step) (sym is)) free)) ended (free-work place s fresh next) rounds counted in
        (c.0, ap is_ready c.1)

    pub begun : {grain : GrainId} {permit : ℕ} {over : Option Over} → was.step ≡ step.Begin grain permit → IsAt v.at v.step v.lines v.directory → TURN_EVENTS ≤ room
        → HearsAt v.lines v.at (op.Begin grain TURN_EVENTS) new room v.events fresh answer → place ≡ v.at → s ≡ step_after_begin grain permit answer → over ≡ end_in answer
        → (rounds counted : ℕ) → WorkerCalls (worker_of was rounds None) (worker_of (record v { lines = new; at = place; step = s; events = fresh }) counted over)
    begun {grain} {permit} {over} due here some h same next ended rounds counted =
        (called {over = over} (op.Begin grain TURN_EVENTS) h (refl, (permit, fits-at due here)) (in-hand due) ended
        (ap (λ k. work_in k s fresh) same ∙ ap (λ t. work_in v.at t fresh) (next ∙ ap (λ a. step_after_begin grain permit a) h.heard)
        ∙ ap (λ es. work_in v.at (step_after_begin grain permit (heard_of h.result)) es) (h.kept some) ∙ begun-work v.at grain permit v.events h.result) rounds counted).0

    pub begun-at : {grain : GrainId} {permit : ℕ} → was.step ≡ step.Begin grain permit → IsAt v.at v.step v.lines v.directory → HearsAt v.lines v.at (op.Begin grain TURN_EVENTS) new room v.events fresh answer → place ≡ v.at
        → s ≡ step_after_begin grain permit answer → IsAt place s new v.directory
    begun-at {grain} {permit} due here h same next =
        at-call (step_after_begin grain permit (heard_of h.result)) h same (next ∙ ap (λ a. step_after_begin grain permit a) h.heard)
        (begun-fits v.directory h.calls.was.pass h.calls.is.pass grain permit TURN_EVENTS h.result (fits-at due here) h.calls.calls.call)

    pub committed : {grain : GrainId} {permit : ℕ} {turn : Turn} {over : Option Over} → was.step ≡ step.Handle grain permit turn → length was.events ≤ turn.next → IsAt v.at v.step v.lines v.directory
        → HearsAt v.lines v.at (op.Commit grain turn.activation turn.number turn.note) new room v.events fresh answer → place ≡ v.at → s ≡ step_after_commit grain permit answer → over ≡ end_in answer
        → (rounds counted : ℕ) → WorkerCalls (worker_of was rounds None) (worker_of (record v { lines = new; at = place; step = s; events = fresh }) counted over)
    committed {grain} {permit} {turn} {over} due handled here h same next ended rounds counted =
        (called {over = over} (op.Commit grain turn.activation turn.number turn.note) h (
          turn.sub,
          subst (λ (l : LineView). Runs l.pass grain turn.sub turn.activation turn.number) (one-line v.lines v.at here.line h.calls.was here.had h.calls.had) (fits-at due here).1,
        )
        (in-hand due
        ∙ ap (λ es. Turning v.at es turn.note) (drop_all turn.next v.events (subst (λ (w : WorkerState). length w.events ≤ turn.next) (sym is) handled))) ended
        (ap (λ k. work_in k s fresh) same ∙ ap (λ t. work_in v.at t fresh) (next ∙ ap (λ a. step_after_commit grain permit a) h.heard) ∙ committed-work v.at grain permit fresh h.result) rounds counted).0

    pub committed-at : {grain : GrainId} {permit note : ℕ} {turn : Turn} → was.step ≡ step.Handle grain permit turn → IsAt v.at v.step v.lines v.directory
        → HearsAt v.lines v.at (op.Commit grain turn.activation turn.number note) new room v.events fresh answer → place ≡ v.at → s ≡ step_after_commit grain permit answer → IsAt place s new v.directory
    committed-at {grain} {permit} {note} {turn} due here h same next =
        at-call (step_after_commit grain permit (heard_of h.result)) h same (next ∙ ap (λ a. step_after_commit grain permit a) h.heard)
        (committed-fits v.directory h.calls.was.pass h.calls.is.pass grain permit (op.Commit grain turn.activation turn.number note) h.result (fits-at due here).0 h.calls.calls.call)

    pub again-at : {grain : GrainId} {permit : ℕ} {last : Option GrainId} → was.step ≡ step.Again grain permit → IsAt v.at v.step v.lines v.directory → HearsAt v.lines v.at (op.Ready last) new room v.events fresh answer → place ≡ v.at
        → (s ≡ step.Begin grain permit) ⊎ (s ≡ step.Leave grain permit) → IsAt place s new v.directory
    again-at {grain} {permit} due here h same next =
        elim next as (λ n. IsAt place s new v.directory) [ inl begin ↦ at-call (step.Begin grain permit) h same begin (fits-at due here) | inr leave ↦ at-call (step.Leave grain permit) h same leave (fits-at due here) ]

    pub asked-again : {grain : GrainId} {permit : ℕ} {last : Option GrainId} {over : Option Over} → was.step ≡ step.Again grain permit → HearsAt v.lines v.at (op.Ready last) new room v.events fresh answer → over ≡ end_in answer
        → (s ≡ step.Begin grain permit) ⊎ (s ≡ step.Leave grain permit)
        → (rounds counted : ℕ) → WorkerCalls (worker_of was rounds None) (worker_of (record v { lines = new; at = place; step = s; events = fresh }) counted over)
    asked-again {grain} {permit} {last} {over} due h ended next rounds counted =
        (called {over = over} (op.Ready last) h tt (in-hand due) ended
        (elim next as (λ n. work_in place s fresh ≡ Nothing) [ inl begin ↦ ap (λ t. work_in place t fresh) begin | inr leave ↦ ap (λ t. work_in place t fresh) leave ]) rounds counted).0

  module _ (place : ℕ) (s : Step) {e : DirectoryPass} {result : Result DirectoryReply Refusal} where
    -- a call at the directory, where it is one that the worker may make then
    asked-there : {over : Option Over} (o : DirectoryOp) → DirectoryCalls v.directory o result e → WorkerMayAsk v.silo v.directory o → work_in v.at v.step v.events ≡ Nothing → work_in place s v.events ≡ Nothing → over ≡ end_of_asking result
        → (rounds counted : ℕ) → WorkerAsks (worker_of was rounds None) (worker_of (record v { directory = e; at = place; step = s }) counted over)
    asked-there {over} o calls may free work ended rounds counted =
        subst (λ x. WorkerAsks (worker_of x rounds None) (worker_of (record v { directory = e; at = place; step = s }) counted over)) is
        (record { op = o; result = result; calls = calls; may = may; over = ended; work = (free, work); lines = refl; silo = refl })

    pub entered-at : {grain : GrainId} → DirectoryCalls v.directory (asked.Enter grain v.silo) result e → place ≡ v.at → s ≡ step_after_enter grain result → IsAt v.at v.step v.lines v.directory → IsAt place s v.lines e
    entered-at {grain} calls same next here =
        record {
          line = here.line;
          had = ap (λ k. slice_get v.lines k) same ∙ here.had;
          fits = subst (λ t. Fits t e here.line.pass) (sym next) (entered-fits v.directory e here.line.pass grain v.silo result calls.call);
        }

    pub entered : {grain : GrainId} {over : Option Over} → was.step ≡ step.Enter grain → DirectoryCalls v.directory (asked.Enter grain v.silo) result e → s ≡ step_after_enter grain result → over ≡ end_of_asking result
        → (rounds counted : ℕ) → WorkerAsks (worker_of was rounds None) (worker_of (record v { directory = e; at = place; step = s }) counted over)
    entered {grain} {over} due calls next ended =
        asked-there {over = over} (asked.Enter grain v.silo) calls refl (in-hand due)
        (ap (λ t. work_in place t v.events) next ∙ entered-work place grain v.events result) ended

    pub left : {grain : GrainId} {permit : ℕ} {over : Option Over} → was.step ≡ step.Leave grain permit → IsAt v.at v.step v.lines v.directory → DirectoryCalls v.directory (asked.Leave grain permit) result e → IsFree s → over ≡ end_of_asking result
        → (rounds counted : ℕ) → WorkerAsks (worker_of was rounds None) (worker_of (record v { directory = e; at = place; step = s }) counted over)
    left {grain} {permit} {over} due here calls free ended =
        asked-there {over = over} (asked.Leave grain permit) calls (fits-at due here) (in-hand due) (free-work place s v.events free) ended

  pub left-at : {e : DirectoryPass} {place : ℕ} {s : Step} → place ≡ v.at → IsFree s → IsAt v.at v.step v.lines v.directory → IsAt place s v.lines e
  left-at {e} {s = s} same free here = record { line = here.line; had = ap (λ k. slice_get v.lines k) same ∙ here.had; fits = free-fits s e here.line.pass free }

  pub handled-at : {grain : GrainId} {permit note next : ℕ} {turn : Turn} → was.step ≡ step.Handle grain permit turn → IsAt v.at v.step v.lines v.directory
      → IsAt v.at (step.Handle grain permit (record turn { note = note; next = next })) v.lines v.directory
  handled-at due here = record { line = here.line; had = here.had; fits = fits-at due here }

  pub told-at : {grain : GrainId} {permit : ℕ} {sub : SubName} {token : Token} → was.step ≡ step.Tell grain permit sub token → IsAt v.at v.step v.lines v.directory → IsAt v.at (step.Again grain permit) v.lines v.directory
  told-at due here = record { line = here.line; had = here.had; fits = (fits-at due here).0 }

  worked : {follows : Follows} {s : Step} (t : Step) → was.step ≡ s → HasWorked follows v.lines (work_in v.at s v.events) (work_in v.at t v.events) → (rounds counted : ℕ) → WorkerWorks follows (worker_of was rounds None) (worker_of (record v { step = t }) counted None)
  worked {follows} {s} t due does rounds counted =
      subst (λ x. WorkerWorks follows (worker_of x rounds None) (worker_of (record v { step = t }) counted None)) is
      (record {
        worked = subst (λ n. HasWorked follows v.lines (work_in v.at n v.events) (work_in v.at t v.events)) (sym (step-is due)) does;
        lines = refl;
        directory = refl;
        silo = refl;
      })

  pub handled : {follows : Follows} {grain : GrainId} {permit : ℕ} {turn : Turn} {note : ℕ} {event : Event} → was.step ≡ step.Handle grain permit turn → turn.next < length v.events → event ≡ get_or v.events turn.next event
      → follows grain turn.sub event turn.note note ≡ true → IsAt v.at v.step v.lines v.directory
      → (rounds counted : ℕ) → WorkerWorks follows (worker_of was rounds None) (worker_of (record v { step = step.Handle grain permit (record turn { note = note; next = turn.next + 1 }) }) counted None)
  handled {follows} {grain} {permit} {turn} {note} {event} due some read gives here =
      worked (step.Handle grain permit (record turn { note = note; next = turn.next + 1 })) due
      (subst (λ es. HasWorked follows v.lines (Turning v.at es turn.note) (Turning v.at (drop (turn.next + 1) v.events) note))
      (ap (λ e. e ∷ drop (suc turn.next) v.events) read ∙ sym (drop-cons v.events turn.next event some))
      (note, ap (λ n. Turning v.at (drop n v.events) note) (add-one turn.next), (grain, turn.sub, (here.line, here.had, (turn.activation, turn.number, (fits-at due here).1)), gives)))

  pub told : {follows : Follows} {grain : GrainId} {permit : ℕ} {sub : SubName} {token : Token} → was.step ≡ step.Tell grain permit sub token → IsAt v.at v.step v.lines v.directory
      → (rounds counted : ℕ) → WorkerWorks follows (worker_of was rounds None) (worker_of (record v { step = step.Again grain permit }) counted None)
  told {grain} {permit} {sub} {token} due here = worked {s = step.Tell grain permit sub token} (step.Again grain permit) due (refl, (here.line, here.had, (fits-at due here).1))

-- what an agent's call is
module _ {v was : AgentState} (is : v ≡ was) {generation : ℕ} (holds : slice_get was.held was.at ≡ Some (Some generation)) where
  held-here : slice_get v.held v.at ≡ Some (Some generation)
  held-here = ap (λ (a : AgentState). slice_get a.held a.at) is ∙ holds

  pub held-within : length v.held ≡ length v.lines → v.at < length v.lines
  held-within long = subst (λ n. v.at < n) long (slice_get_within v.held v.at (Some generation) held-here)

  pub agent-asked : {o : Op} {new : List LineView} {room : ℕ} {old fresh : List Event} {answer : Heard} {over : Option Over} → (h : HearsAt v.lines v.at o new room old fresh answer) → AgentMay h.calls.was.pass generation o → over ≡ end_in answer
      → (held : List (Option ℕ)) (rounds counted : ℕ) → AgentCalls (agent_of (record was { held = held }) rounds None) (record { lines = new; held = v.held; rounds = counted; over = over })
  agent-asked {o} {new} {answer = answer} {over = over} h may ended held rounds counted =
      subst (λ (a : AgentState). AgentCalls (agent_of (record a { held = held }) rounds None) (record { lines = new; held = v.held; rounds = counted; over = over })) is
      (record {
        at = v.at;
        op = o;
        result = h.result;
        generation = generation;
        holds = held-here;
        calls = h.calls;
        may = may;
        over = ends over answer h.result ended h.heard;
      })
