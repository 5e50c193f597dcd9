-- Why a loop has ended.
use Rattle.silo_loops.proofs.Prelude.{DirectoryReply, after, replied, ◌≡◌, inl, inr, Option, Some, None, Result, Ok, Err, refl, sym, ap, subst, ◌∙◌, slice_get, Reply, PassView, Refusal}
use Rattle.stream_model.specs.declared.reply.Reply.TheVariants as reply
use Rattle.activation_directory.specs.declared.reply.DirectoryReply.TheVariants as directory
use Rattle.shared_partition.specs.Directories as places
use Rattle.turnstile.specs.declared.turnstile.Refusal.TheVariants as refusal
use Rattle.silo_loops.specs.declared.advance.Advance.{Advance}
use Rattle.silo_loops.specs.declared.advance.Advance.TheVariants as advance
use Rattle.doorbells.specs.declared.loop_end.Over.{Over}
use Rattle.doorbells.specs.declared.loop_end.Over.TheVariants as over
use Rattle.silo_loops.specs.Agents.{AgentAdvancesFrom, AgentCalls, AgentEndsBy, AgentHasCause, AgentView}
use Rattle.silo_loops.specs.Answers.{end_by, end_of, end_of_asking}
use Rattle.silo_loops.specs.Passes.{CallsBy, IsAtLimit}
use Rattle.silo_loops.specs.Workers.{Follows, WorkerAdvancesFrom, WorkerAsks, WorkerCalls, WorkerEndsBy, WorkerHasCause, WorkerView}
use Rattle.silo_loops.proofs.Owning.{last-answered}
use Rattle.silo_loops.proofs.Working.{get-set}

-- an answer doesn't end a loop for want of rounds
called-rounds : (result : Result Reply Refusal) → end_of result ≡ Some over.Rounds → ⊥
called-rounds (Ok reply.TooMany) is = cc
called-rounds (Err refusal.Memory) is = cc
called-rounds _ is = cc

asked-rounds : (result : Result DirectoryReply Refusal) → end_of_asking result ≡ Some over.Rounds → ⊥
asked-rounds (Ok directory.Spent) is = cc
asked-rounds (Err refusal.Memory) is = cc
asked-rounds _ is = cc

-- a call that ends a loop at a limit
module _ {S O R : Type 0} (reply : S → O → R) (after : S → O → S) (end : Result R Refusal → Option Over) (refuses : (e : Refusal) → end (Err e) ≡ Some (end_by e)) where
  at-limit : (p : PassView O R S) (op : O) (result : Result R Refusal) (q : PassView O R S) → CallsBy reply after p op result q → end result ≡ Some over.Limit → IsAtLimit end q
  at-limit p op (Ok r) q calls ended = inl (op, r, last-answered reply after p op r q calls, ended)
  at-limit p op (Err refusal.HistoryFull) q calls ended = inr (calls.origin, ap (λ (w : PassView O R S). w.turnstile) calls.only ∙ calls.of, calls.call.4)
  at-limit p op (Err refusal.Memory) q calls ended = absurd (cc (refuses refusal.Memory, ended))

agent-called : (end : Option Over) (v w : AgentView) → (c : AgentCalls v w) → end ≡ end_of c.result → AgentEndsBy end w
agent-called (Some over.Rounds) v w c is = absurd (called-rounds c.result (sym is))
agent-called (Some over.Limit) v w c is =
    (c.at, c.calls.is, ap (λ ls. slice_get ls c.at) c.calls.whole ∙ get-set v.lines c.at c.calls.was c.calls.is c.calls.had, at-limit replied after end_of (λ e. refl) c.calls.was.pass c.op c.result c.calls.is.pass c.calls.calls.call (sym is))
agent-called _ v w c is = tt

-- a step that ends an agent has a cause
pub agent-cause : (from : Option Over) (did : Advance) (v w : AgentView) → AgentHasCause v → AgentAdvancesFrom from did v w → AgentHasCause w
agent-cause None (advance.Over end) v w cause ((ends, inl c), counts) = agent-called w.over v w c c.over
agent-cause None (advance.Over end) v w cause ((ends, inr k), counts) = subst (λ (u : AgentView). AgentHasCause u) (sym k.ended) k.none
agent-cause None _ v w cause a = subst (λ o. AgentEndsBy o w) (sym a.0.0) tt
agent-cause (Some end) did v w cause a = subst (λ (u : AgentView). AgentHasCause u) (sym a.1) cause

worker-called : (end : Option Over) (v w : WorkerView) → (c : WorkerCalls v w) → end ≡ end_of c.result → WorkerEndsBy end w
worker-called (Some over.Rounds) v w c is = absurd (called-rounds c.result (sym is))
worker-called (Some over.Limit) v w c is =
    inl (c.at, c.calls.is, ap (λ ls. slice_get ls c.at) c.calls.whole ∙ get-set v.lines c.at c.calls.was c.calls.is c.calls.had, at-limit replied after end_of (λ e. refl) c.calls.was.pass c.op c.result c.calls.is.pass c.calls.calls.call (sym is))
worker-called _ v w c is = tt

worker-asked : (end : Option Over) (v w : WorkerView) → (a : WorkerAsks v w) → end ≡ end_of_asking a.result → WorkerEndsBy end w
worker-asked (Some over.Rounds) v w a is = absurd (asked-rounds a.result (sym is))
worker-asked (Some over.Limit) v w a is = inr (at-limit places.replied places.after end_of_asking (λ e. refl) v.directory a.op a.result w.directory a.calls.call (sym is))
worker-asked _ v w a is = tt

-- a step that ends a worker has a cause
pub worker-cause : (follows : Follows) (from : Option Over) (did : Advance) (v w : WorkerView) → WorkerHasCause v → WorkerAdvancesFrom follows from did v w → WorkerHasCause w
worker-cause follows None (advance.Over end) v w cause ((ends, inl c), counts) = worker-called w.over v w c c.over
worker-cause follows None (advance.Over end) v w cause ((ends, inr (inl q)), counts) = worker-asked w.over v w q q.over
worker-cause follows None (advance.Over end) v w cause ((ends, inr (inr k)), counts) = subst (λ (u : WorkerView). WorkerHasCause u) (sym k.0) k.1
worker-cause follows None _ v w cause a = subst (λ o. WorkerEndsBy o w) (sym a.0.0) tt
worker-cause follows (Some end) did v w cause a = subst (λ (u : WorkerView). WorkerHasCause u) (sym a.1) cause
