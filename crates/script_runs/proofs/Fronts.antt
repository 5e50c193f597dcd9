-- What was told of a script up to the line that was stopped.
use Rattle.script_runs.proofs.Prelude.{owns-foreign, QueuePass, asks-foreign, all-at, QueueCalls, ProducesNone, ◌≡◌, inl, inr, if◌then◌else◌, ℕ, ◌<◌, ◌≤◌, true, arith, length, List, [], ◌∷◌, ◌++◌, Option, Some, None, Result, Ok, Err, IfOk, refl, sym, ap, subst, ◌∙◌, append-nil, slice_get_within, AllByRecursion, slice_get, AllocError, is_producer, Reply, Op, op_of, Command, EachOp, numbers_of, Entry, Refusal}
use Rattle.stream_model.specs.History as told
use Rattle.stream_script.specs.declared.parser.command.Command.TheVariants as command
use Rattle.script_runs.specs.declared.reader.line.Line.{Line}
use Rattle.script_runs.specs.Told as script
use Rattle.script_runs.proofs.Growing.{scripts-grow}
use Rattle.script_runs.specs.declared.producer.answer.Answer.{Answer}
use Rattle.script_runs.specs.declared.producer.answer.Answer.TheVariants as answer
use Rattle.script_runs.specs.Telling.{AloneProduces, AsksEachOnce, AsksOnce, AsksUpTo, BeginsEmpty, HasTold, IsNewNumber, ProducesAlone, TellsUnlessLimit, told_at, with_missed}
use Rattle.script_runs.proofs.Asked.{before-at, op-here, op-there}
use Rattle.script_runs.proofs.Placing.{set-at}
use Rattle.script_runs.proofs.Replying.{before-same}
use Rattle.script_runs.proofs.Seen.{called-told, none-told}
use Rattle.script_runs.specs.Lines.{IsToldInPart, IsToldOnce, TellsInPart}

-- ---- parts of a line

-- nothing was told at a queue where nothing was to be, or where the line didn't come
pub none-part : (at : ℕ) (asked : Command) (queue : ℕ) → (queue < at → script.op_at queue asked ≡ None) → IsToldInPart at asked queue []
none-part at asked queue none =
    record { before = λ less. subst (λ (o : Option Op). IsToldOnce o []) (sym (none less)) refl; here = λ same. inl refl; behind = λ past. refl }

-- all was, up to where the line has come
whole-part : (at : ℕ) (asked : Command) (queue : ℕ) (rest : List told.Entry) → queue ≤ at → IsToldOnce (script.op_at queue asked) rest → IsToldInPart at asked queue rest
whole-part at asked queue rest within once = record { before = λ _. once; here = λ same. inr once; behind = λ past. absurd (omega (arith, within, past)) }

-- ---- a line that was told as a whole

with-part : (missed : List ℕ) (before : List told.Entry) (number : ℕ) (asked : Option Op) → (rest : List told.Entry) × (script.with_told missed before number asked ≡ before ++ rest) × IsToldOnce asked rest
with-part missed before number None = ([], sym (append-nil before), refl)
with-part missed before number (Some op) =
    let r = script.told_reply missed before number op in
    (record { op = op; reply = r } ∷ [], refl, (r, refl))

pub told-part : (old new : List QueuePass) (asked : Command) (a : Answer)
    → (AllByRecursion BeginsEmpty old → AloneProduces new → (missed : List ℕ) (lines : List Line) (number : ℕ) → IsNewNumber number missed lines
    → HasTold missed lines old → HasTold (with_missed a number missed) (lines ++ record { number = number; command = asked } ∷ []) new)
    → TellsInPart old asked new
told-part old new asked a tells begins alone missed lines number fresh has = (
  length new,
  λ queue q at.
      let now = with_missed a number missed in
      let all = tells begins alone missed lines number fresh has in
      let part = with-part now (script.told missed queue lines) number (script.op_at queue asked) in (
        part.0,
        all queue q at
            ∙ scripts-grow.told now queue lines (record { number = number; command = asked })
            ∙ ap (λ (before : List told.Entry). script.with_told now before number (script.op_at queue asked)) (before-same a number missed queue lines fresh.0)
            ∙ part.1,
        whole-part (length new) asked queue part.0 (omega (arith, slice_get_within new queue q at)) part.2,
      ),
)

-- ---- a line that asks at one queue

-- at a queue the lines before were told, and a part of this one
abbrev ToldPart : ℕ → Command → ℕ → List told.Entry → QueuePass → Type 0
ToldPart at said queue before q = (rest : List told.Entry) × (told_at q ≡ before ++ rest) × IsToldInPart at said queue rest

-- at a queue that has answered
reply-part : (p q : QueuePass) (op : Op) (r : Reply) (said : Command) (at queue : ℕ) (before : List told.Entry) → queue ≤ at → script.op_at queue said ≡ Some op → is_producer op ≡ true → ProducesAlone q
    → QueueCalls p op (Ok r) q → told_at p ≡ before → ToldPart at said queue before q
reply-part p q op r said at queue before within asks produces alone calls so_far =
    let last : List told.Entry = record { op = op; reply = script.told_of r } ∷ [] in (
      last,
      (called-told p q op r produces calls alone).1 ∙ ap (λ (es : List told.Entry). es ++ last) so_far,
      whole-part at said queue last within (subst (λ (o : Option Op). IsToldOnce o last) (sym asks) (script.told_of r, refl)),
    )

-- at the queue of the last call
call-part : (p q : QueuePass) (op : Op) (outcome : Result Reply Refusal) (said : Command) (at queue : ℕ) (before : List told.Entry) → queue ≡ at → script.op_at queue said ≡ Some op → is_producer op ≡ true → ProducesAlone q
    → QueueCalls p op outcome q → told_at p ≡ before → ToldPart at said queue before q
call-part p q op (Ok r) said at queue before here asks produces alone calls so_far = reply-part p q op r said at queue before (omega (arith, here)) asks produces alone calls so_far
-- a call that was refused adds nothing
call-part p q op (Err refusal) said at queue before here asks produces alone calls so_far =
    let found = calls.calls.call in
    let none : ProducesNone p q = record {
      on = record { only = calls.calls.only; more = found.0; seen = found.1; own = asks-foreign (numbers_of p) found.0 found.2 };
      none = owns-foreign is_producer (numbers_of p) found.0 found.2;
    } in
    ([], none-told p q none alone ∙ so_far ∙ sym (append-nil before), none-part at said queue (λ less. absurd (omega (arith, less, here))))

pub step-part : (old new : List QueuePass) (queue : ℕ) (op : Op) (result : Result Answer AllocError) → is_producer op ≡ true → AsksOnce old queue op result new → TellsInPart old (command.Step queue op) new
step-part old new queue op result produces once begins alone missed lines number fresh has = (
  queue,
  λ other q at.
      let calls = once.calls in
      let was = calls.was in
      let asks = command.Step queue op in
      let before = script.told missed other lines in
      elim (set-at old queue other was calls.is q calls.had (ap (λ (es : List QueuePass). slice_get es other) (sym calls.whole) ∙ at)) as (λ s. ToldPart queue asks other before q) [
        | inl here ↦
            call-part was q op once.outcome asks queue other before here.0 (ap (λ k. script.op_at k asks) here.0 ∙ op-here queue op produces) produces (all-at ProducesAlone new other q alone at)
            (subst (λ (w : QueuePass). QueueCalls was op once.outcome w) (sym here.1) calls.calls) (has other was (ap (λ k. slice_get old k) here.0 ∙ calls.had))
        | inr there ↦ ([], has other q there.1 ∙ sym (append-nil before), none-part queue asks other (λ less. op-there queue other op there.0))
      ],
)

-- ---- a line that asks at each queue

-- what it asks for at each
op-each : (each : EachOp) (queue : ℕ) → is_producer (op_of each) ≡ true → script.op_at queue (command.Each each) ≡ Some (op_of each)
op-each each queue produces = ap (λ b. if b then Some (op_of each) else None) produces

upto-part : (old new : List QueuePass) (each : EachOp) (result : Result Answer AllocError) → is_producer (op_of each) ≡ true → AsksUpTo old (op_of each) result new → TellsInPart old (command.Each each) new
upto-part old new each result produces asks begins alone missed lines number fresh has = (
  asks.queue,
  λ queue q at.
      let op = op_of each in
      let asked = command.Each each in
      let last = asks.queue in
      let calls = asks.last.calls in
      let was = calls.was in
      let before = script.told missed queue lines in
      let alone_there = all-at ProducesAlone new queue q alone at in
      elim (set-at asks.before last queue was calls.is q calls.had (ap (λ (es : List QueuePass). slice_get es queue) (sym calls.whole) ∙ at)) as (λ s. ToldPart last asked queue before q) [
        | inl here ↦
            elim (before-at op last old asks.before last was asks.front calls.had) as (λ s. ToldPart last asked queue before q) [
              | inl less ↦ absurd (omega (arith, less.0))
              | inr past ↦
                  call-part was q op asks.last.outcome asked last queue before here.0 (op-each each queue produces) produces alone_there
                  (subst (λ (w : QueuePass). QueueCalls was op asks.last.outcome w) (sym here.1) calls.calls) (has queue was (ap (λ k. slice_get old k) here.0 ∙ past.1))
            ]
        | inr there ↦
            elim (before-at op last old asks.before queue q asks.front there.1) as (λ s. ToldPart last asked queue before q) [
              | inl less ↦ reply-part less.1 q op less.3.reply asked last queue before (omega (arith, less.0)) (op-each each queue produces) produces alone_there less.3.calls (has queue less.1 less.2)
              | inr past ↦ ([], has queue q past.1 ∙ sym (append-nil before), none-part last asked queue (λ less. absurd (omega (arith, less, past.0))))
            ]
      ],
)

pub each-part : (old new : List QueuePass) (each : EachOp) (result : Result Answer AllocError) → is_producer (op_of each) ≡ true → AsksEachOnce old (op_of each) result new
    → IfOk result (λ a. TellsUnlessLimit old (command.Each each) a new) → TellsInPart old (command.Each each) new
each-part old new each (Ok answer.Limit) produces once tells = upto-part old new each (Ok answer.Limit) produces once
each-part old new each (Ok a) produces once tells = told-part old new (command.Each each) a (tells (λ limit. absurd (cc limit))).told
each-part old new each (Err e) produces once tells = upto-part old new each (Err e) produces once

-- ---- a line that asks for nothing

pub silent-part : (passes : List QueuePass) (said : Command) → ((queue : ℕ) → script.op_at queue said ≡ None) → TellsInPart passes said passes
silent-part passes said none begins alone missed lines number fresh has = (0, λ queue q at. ([], has queue q at ∙ sym (append-nil (script.told missed queue lines)), none-part 0 said queue (λ less. none queue)))

-- ---- the lines that are left

pub none-left : (done left : List Line) → done ≡ done ++ left → left ≡ []
none-left [] left same = sym same
none-left (line ∷ done) left same = let rest : done ≡ done ++ left = cc in none-left done left rest
