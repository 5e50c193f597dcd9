-- The due subscription that an agent was named last, over its calls and its rests.
use Rattle.silo_loops.proofs.Prelude.{after, replied, ◌≡◌, ℕ, zero, suc, false, List, [], ◌∷◌, map, Option, Some, None, Result, Ok, Err, refl, sym, ap, subst, ◌∙◌, none-some, slice_get, unwrap_or, Event, Reply, Op, Refusal}
use Rattle.stream_ident.specs.declared.ident.SubName.{SubName}
use Rattle.stream_model.specs.declared.op.Op.TheVariants as op
use Rattle.stream_model.specs.declared.reply.Reply.TheVariants as reply
use Rattle.silo_loops.specs.declared.agent_walk.AgentStep.{AgentStep}
use Rattle.silo_loops.specs.declared.agent_walk.AgentStep.TheVariants as step
use Rattle.silo_loops.specs.declared.agent_walk.Visit.{Visit}
use Rattle.silo_loops.specs.declared.heard.Heard.{Heard}
use Rattle.silo_loops.specs.Agents.{AgentMay, IsNamedLast, is_pull_or_due}
use Rattle.silo_loops.specs.Answers.{end_by, end_in, heard_of}
use Rattle.silo_loops.specs.Lines.{HearsAt, LineView, QueuePass, rested}
use Rattle.silo_loops.specs.Passes.{CallsBy}
use Rattle.silo_loops.specs.Visiting.{GoesOnTo, IsVisiting, Knows, NamesThen, op_of}
use Rattle.silo_loops.proofs.Owning.{last-of-answered, last-of-called}
use Rattle.silo_loops.proofs.Stepping.{one-line}
use Rattle.silo_loops.proofs.Working.{get-set}

-- what it asks it may ask
pub may-ask : (generation : ℕ) (s : AgentStep) (last : Option SubName) (p : QueuePass) → Knows s last p → AgentMay p generation (op_of generation s last)
may-ask generation step.Pull last p knows = (refl, refl)
may-ask generation step.Due last p knows = knows
may-ask generation _ last p knows = refl

pub asks-may : (generation : ℕ) (visit : Visit) (lines new : List LineView) (o : Op) (room : ℕ) (old fresh : List Event) (answer : Heard) → (h : HearsAt lines visit.at o new room old fresh answer) → o ≡ op_of generation visit.step visit.last
    → IsVisiting visit lines → AgentMay h.calls.was.pass generation o
asks-may generation visit lines new o room old fresh answer h is visiting =
    subst (λ x. AgentMay h.calls.was.pass generation x) (sym is) (may-ask generation visit.step visit.last h.calls.was.pass (visiting h.calls.was h.calls.had))

-- a call that asks for no due subscription leaves the one that was named last
still-named : (p q : QueuePass) (o : Op) (r : Reply) (last next : Option SubName) → is_pull_or_due o ≡ false → CallsBy replied after p o (Ok r) q → IsNamedLast p last → next ≡ last → IsNamedLast q next
still-named p q o r last next none calls named same =
    (named.0, named.1, last-of-called replied after is_pull_or_due p o r q calls none named.0 named.1 named.2, same ∙ named.3)

-- which one is named last after an answer, where it stays
named-then : (generation : ℕ) (s : AgentStep) (last next : Option SubName) (p q : QueuePass) (result : Result Reply Refusal) → Knows s last p → CallsBy replied after p (op_of generation s last) result q → end_in (heard_of result) ≡ None
    → NamesThen s last (heard_of result) next → IsNamedLast q next
named-then generation s last next p q (Err e) knows calls goes names = absurd (none-some (end_by e) (sym goes))
named-then generation step.Pull last next p q (Ok r) knows calls goes names = (op.Pull generation 32, r, last-of-answered replied after is_pull_or_due p (op.Pull generation 32) r q calls refl, names ∙ knows)
named-then generation step.Due last next p q (Ok (reply.DueSub sub ack)) knows calls goes names =
    (op.Due last, reply.DueSub sub ack, last-of-answered replied after is_pull_or_due p (op.Due last) (reply.DueSub sub ack) q calls refl, names)
named-then generation step.Due last next p q (Ok _) knows calls goes names = absurd names
named-then generation s last next p q (Ok r) knows calls goes names = still-named p q (op_of generation s last) r last next refl calls knows names

-- what it knows where it goes on
knows-then : (s : AgentStep) (visit w : Visit) (answer : Heard) (p q : QueuePass) → (w.at ≡ visit.at → end_in answer ≡ None → NamesThen visit.step visit.last answer w.last → IsNamedLast p w.last) → (w.at ≡ visit.at → p ≡ q) → GoesOnTo s visit answer w
    → Knows s w.last q
knows-then step.Pull visit w answer p q named same goes = goes
knows-then _ visit w answer p q named same goes = subst (λ x. IsNamedLast x w.last) (same goes.0) (named goes.0 goes.1 goes.2)

-- a call leaves an agent knowing what it has to
pub visiting-on : (generation : ℕ) (visit w : Visit) (lines new : List LineView) (o : Op) (room : ℕ) (old fresh : List Event) (answer : Heard) → HearsAt lines visit.at o new room old fresh answer → o ≡ op_of generation visit.step visit.last
    → IsVisiting visit lines → GoesOnTo w.step visit answer w → IsVisiting w new
visiting-on generation visit w lines new o room old fresh answer h is visiting goes line had =
    let here : slice_get new visit.at ≡ Some h.calls.is = ap (λ ls. slice_get ls visit.at) h.calls.whole ∙ get-set lines visit.at h.calls.was h.calls.is h.calls.had in
    knows-then w.step visit w answer h.calls.is.pass line.pass
    (λ at goes names.
    named-then generation visit.step visit.last w.last h.calls.was.pass h.calls.is.pass h.result (visiting h.calls.was h.calls.had)
    (subst (λ x. CallsBy replied after h.calls.was.pass x h.result h.calls.is.pass) is h.calls.calls.call) (ap (λ a. end_in a) (sym h.heard) ∙ goes)
    (subst (λ a. NamesThen visit.step visit.last a w.last) h.heard names))
    (λ at. ap (λ (l : LineView). l.pass) (one-line new w.at h.calls.is line (ap (λ k. slice_get new k) at ∙ here) had)) goes

was-rested : (lines : List LineView) (k : ℕ) (l : LineView) → slice_get (map rested lines) k ≡ Some l → (was : LineView) × (slice_get lines k ≡ Some was) × (was.pass ≡ l.pass)
was-rested [] k l had = absurd (none-some l had)
was-rested (x ∷ xs) zero l had = (x, refl, ap (λ o. (unwrap_or o l).pass) had)
was-rested (x ∷ xs) (suc k) l had = was-rested xs k l had

-- and so does a rest
pub visiting-rested : (visit w : Visit) (lines new : List LineView) → new ≡ map rested lines → w ≡ record visit { changed = w.changed } → IsVisiting visit lines → IsVisiting w new
visiting-rested visit w lines new same is visiting =
    subst (λ ls. IsVisiting w ls) (sym same)
    (subst (λ (v : Visit). IsVisiting v (map rested lines)) (sym is)
    (λ line had.
    let was = was-rested lines visit.at line had in
    subst (λ p. Knows visit.step visit.last p) was.2 (visiting was.0 was.1)))
