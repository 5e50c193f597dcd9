-- A line that asks at one queue or at each.
use Rattle.script_runs.proofs.Prelude.{IsErrAnd, QueuePass, called-on, gone-refl, gone-trans, all-at, zip-at, zip-refl, zip-trans, CallerCalls, QueueCalls, HasGoneOn, ◌≡◌, ◌≢◌, ◌⊎◌, ℕ, zero, suc, ◌+◌, ◌<◌, ◌≤◌, inl, inr, true, if◌then◌else◌, List, [], ◌∷◌, ◌++◌, length, Some, None, Result, Ok, Err, IfOk, refl, sym, ap, subst, ◌∙◌, add-one, arith, eq-eqb, AllByRecursion, AllZip, slice_get, slice_set, AllocError, is_producer, Reply, Op, op_of, EachOp, Refusal, HistoryFull, Memory}
use Rattle.std.proofs.lemmas.Bool.Decides.{eqb_tells}
use Rattle.stream_script.specs.declared.parser.command.Command.TheVariants as command
use Rattle.stream_script.specs.declared.parser.command.EachOp.TheVariants as each
use Rattle.script_runs.specs.declared.reader.line.Line.{Line}
use Rattle.script_runs.specs.ScriptReport.{op_printed}
use Rattle.script_runs.specs.Told as script
use Rattle.script_runs.specs.declared.producer.answer.Answer.{Answer}
use Rattle.script_runs.specs.declared.producer.answer.Answer.TheVariants as answer
use Rattle.script_runs.specs.Telling.{AloneProduces, AreAskedBefore, AsksEachOnce, AsksLast, AsksOnce, AsksUpTo, BeginsEmpty, EndsAsking, HasTold, IsAnswered, IsAsked, IsNewNumber, ProducesAlone, Tells, TellsUnlessLimit, answer_of, printed_lines, told_at, with_missed}
use Rattle.silo_loops.proofs.Working.{get-set}
use Rattle.script_runs.proofs.Placing.{set-at, zip-set}
use Rattle.script_runs.proofs.Replying.{IsToldAlike, line-none, line-printed, line-told}

-- ---- one call

pub once-on : (old : List QueuePass) (queue : ℕ) (op : Op) (result : Result Answer AllocError) (new : List QueuePass) → is_producer op ≡ true → AsksOnce old queue op result new → AllZip HasGoneOn old new
once-on old queue op result new produces once =
    let calls = once.calls in
    subst (λ (es : List QueuePass). AllZip HasGoneOn old es) (sym calls.whole)
    (zip-set HasGoneOn gone-refl old queue calls.was calls.is calls.had (called-on calls.was calls.is op once.outcome (inl produces) calls.calls))

-- where no limit was reached, there was a reply
abbrev Replies : List QueuePass → ℕ → Op → Answer → List QueuePass → Type 0
Replies old queue op a new = (r : Reply) × CallerCalls old queue op (Ok r) new × (a ≡ answer_of r)

replied-so : (old : List QueuePass) (queue : ℕ) (op : Op) (outcome : Result Reply Refusal) (a : Answer) (new : List QueuePass) → CallerCalls old queue op outcome new → IsAnswered outcome (Ok a) → a ≢ answer.Limit
    → Replies old queue op a new
replied-so old queue op (Ok r) a new calls answered free = let same : a ≡ answer_of r = cc in (r, calls, same)
replied-so old queue op (Err HistoryFull) a new calls answered free = let same : a ≡ answer.Limit = cc in absurd (free same)
replied-so old queue op (Err Memory) a new calls answered free = let none : Ok a ≡ Err answered.0 = answered.1 in absurd (cc)

once-replied : (old : List QueuePass) (queue : ℕ) (op : Op) (a : Answer) (new : List QueuePass) → AsksOnce old queue op (Ok a) new → a ≢ answer.Limit → Replies old queue op a new
once-replied old queue op a new once free = replied-so old queue op once.outcome a new once.calls once.answered free

-- ---- a line at one queue

-- what it asks for there, and at the others
pub op-here : (queue : ℕ) (op : Op) → is_producer op ≡ true → script.op_at queue (command.Step queue op) ≡ Some op
op-here queue op produces =
    ap (λ b. if b then script.producer_op op else None) (eq-eqb queue queue refl)
    ∙ ap (λ b. if b then Some op else None) produces

pub op-there : (queue other : ℕ) (op : Op) → (other ≢ queue) → script.op_at other (command.Step queue op) ≡ None
op-there queue other op differs =
    elim (eqb_tells queue other) as (λ s. script.op_at other (command.Step queue op) ≡ None) [
      | inl same ↦ absurd (differs (sym same.1))
      | inr not ↦ ap (λ b. if b then script.producer_op op else None) not.0
    ]

step-tells : (old new : List QueuePass) (queue : ℕ) (op : Op) (r : Reply) → is_producer op ≡ true → answer_of r ≢ answer.Limit → CallerCalls old queue op (Ok r) new → Tells old (command.Step queue op) (answer_of r) new
step-tells old new queue op r produces free calls =
    let was = calls.was in
    let here : slice_get new queue ≡ Some calls.is = ap (λ (es : List QueuePass). slice_get es queue) calls.whole ∙ get-set old queue was calls.is calls.had in
    record {
      told = λ begins alone missed lines number fresh has other q at.
          let a = answer_of r in
          let asks = command.Step queue op in
          let alone_there = all-at ProducesAlone new other q alone at in
          elim (set-at old queue other was calls.is q calls.had (ap (λ (es : List QueuePass). slice_get es other) (sym calls.whole) ∙ at)) as (λ s. told_at q ≡ script.told (with_missed a number missed) other (lines ++ record { number = number; command = asks } ∷ [])) [
            | inl here ↦ line-told was q op r a number missed other lines asks (all-at BeginsEmpty old queue was begins calls.had) alone_there produces free fresh (ap (λ k. script.op_at k asks) here.0 ∙ op-here queue op produces)
                (λ before. refl)
                (subst (λ (w : QueuePass). QueueCalls was op (Ok r) w) (sym here.1) calls.calls)
                (has other was (ap (λ k. slice_get old k) here.0 ∙ calls.had))
            | inr there ↦ line-none q q a number missed other lines asks fresh (op-there queue other op there.0) refl (has other q there.1)
          ];
      printed = λ begins alone missed lines number fresh has silos.
          line-printed was calls.is op r number missed queue lines (all-at BeginsEmpty old queue was begins calls.had) (all-at ProducesAlone new queue calls.is alone here) produces free fresh calls.calls (has queue was calls.had);
    }

pub once-tells : (old : List QueuePass) (queue : ℕ) (op : Op) (result : Result Answer AllocError) (new : List QueuePass) → is_producer op ≡ true → AsksOnce old queue op result new
    → IfOk result (λ a. TellsUnlessLimit old (command.Step queue op) a new)
once-tells old queue op (Err e) new produces once = tt
once-tells old queue op (Ok a) new produces once = λ free.
    let replies = once-replied old queue op a new once free in
    subst (λ (b : Answer). Tells old (command.Step queue op) b new) (sym replies.2) (step-tells old new queue op replies.0 produces (λ limit. free (replies.2 ∙ limit)) replies.1)

-- ---- a line at each queue

module _ (op : Op) where
  asked-all : (n : ℕ) (old now : List QueuePass) → length old ≤ n → AreAskedBefore n op old now → AllZip (IsAsked op) old now
  asked-all zero [] now long same = subst (λ (es : List QueuePass). AllZip (IsAsked op) [] es) (sym same) tt
  asked-all zero (p ∷ old) now long same = absurd (omega arith)
  asked-all (suc n) (p ∷ old) (q ∷ now) long front = (front.0, asked-all n old now (omega arith) front.1)
  asked-all (suc n) _ _ long front = absurd front

  -- what was asked at a queue, by where the calls have come to
  pub before-at : (n : ℕ) (old now : List QueuePass) (k : ℕ) (q : QueuePass) → AreAskedBefore n op old now → slice_get now k ≡ Some q
      → ((k < n) × (p : QueuePass) × (slice_get old k ≡ Some p) × IsAsked op p q) ⊎ ((n ≤ k) × (slice_get old k ≡ Some q))
  before-at zero old now k q same at = inr (omega arith, ap (λ (es : List QueuePass). slice_get es k) (sym same) ∙ at)
  before-at (suc n) (p ∷ old) (r ∷ now) zero q front at = let same : r ≡ q = cc in inl (omega arith, p, refl, subst (λ (e : QueuePass). IsAsked op p e) same front.0)
  before-at (suc n) (p ∷ old) (r ∷ now) (suc k) q front at =
      elim (before-at n old now k q front.1 at) as (λ s. ((suc k < suc n) × (w : QueuePass) × (slice_get old k ≡ Some w) × IsAsked op w q) ⊎ ((suc n ≤ suc k) × (slice_get old k ≡ Some q))) [
        | inl below ↦ inl (omega (arith, below.0), below.1, below.2, below.3)
        | inr past ↦ inr (omega (arith, past.0), past.1)
      ]
  before-at (suc n) _ _ k q front at = absurd front

  pub before-on : is_producer op ≡ true → (n : ℕ) (old now : List QueuePass) → AreAskedBefore n op old now → AllZip HasGoneOn old now
  before-on produces zero old now same = subst (λ (es : List QueuePass). AllZip HasGoneOn old es) (sym same) (zip-refl HasGoneOn gone-refl old)
  before-on produces (suc n) (p ∷ old) (q ∷ now) front = (called-on p q op (Ok front.0.reply) (inl produces) front.0.calls, before-on produces n old now front.1)
  before-on produces (suc n) _ _ front = absurd front

  -- the last of the calls is the last since the first of them
  upto-last : (result : Result Answer AllocError) (old new : List QueuePass) → is_producer op ≡ true → AsksUpTo old op result new → AsksLast old op result new
  upto-last result old new produces asks = record { before = asks.before; on = before-on produces asks.queue old asks.before asks.front; queue = asks.queue; asks = asks.last }

  -- one queue more was asked
  before-set : (n : ℕ) (old now : List QueuePass) (p q : QueuePass) → AreAskedBefore n op old now → slice_get now n ≡ Some p → IsAsked op p q → AreAskedBefore (suc n) op old (slice_set now n q)
  before-set zero [] now p q same had asked =
      let none : slice_get [] 0 ≡ Some p = ap (λ (es : List QueuePass). slice_get es 0) (sym same) ∙ had in
      absurd (cc)
  before-set zero (z ∷ old) now p q same had asked =
      let some : Some z ≡ Some p = ap (λ (es : List QueuePass). slice_get es 0) (sym same) ∙ had in
      let is : p ≡ z = cc in
      subst (λ (es : List QueuePass). AreAskedBefore 1 op (z ∷ old) (slice_set es 0 q)) (sym same) (subst (λ (e : QueuePass). IsAsked op e q) is asked, refl)
  before-set (suc n) (z ∷ old) (w ∷ now) p q front had asked = (front.0, before-set n old now p q front.1 had asked)
  before-set (suc n) _ _ p q front had asked = absurd front

  before-next : (n : ℕ) (old now new : List QueuePass) (p q : QueuePass) → AreAskedBefore n op old now → slice_get now n ≡ Some p → new ≡ slice_set now n q → IsAsked op p q → AreAskedBefore (n + 1) op old new
  before-next n old now new p q front had put asked =
      subst (λ (es : List QueuePass). AreAskedBefore (n + 1) op old es) (sym put) (subst (λ m. AreAskedBefore m op old (slice_set now n q)) (sym (add-one n)) (before-set n old now p q front had asked))

  -- the call was answered, and met no limit
  abbrev asked-one : (a : Answer) (queue : ℕ) (now new : List QueuePass) → a ≢ answer.Limit → (replies : Replies now queue op a new) → IsAsked op replies.1.was replies.1.is
  asked-one a queue now new free replies = record { reply = replies.0; calls = replies.1.calls; free = λ limit. free (replies.2 ∙ limit) }

-- the first queue was asked, and its reply answers so
abbrev pub IsFirstAnswer : Answer → Op → List QueuePass → List QueuePass → Type 0
IsFirstAnswer first op [] now = ⊥
IsFirstAnswer first op (p ∷ old) [] = ⊥
IsFirstAnswer first op (p ∷ old) (q ∷ now) = (asked : IsAsked op p q) × (first ≡ answer_of asked.reply)

-- so far each queue before this one was asked, and the first one, where it is among them, answered so
pub record AsksSoFar (first : Answer) (op : Op) (queue : ℕ) (old now : List QueuePass) : Type 0 where
  pub asked : AreAskedBefore queue op old now
  pub first_is : 1 ≤ queue → IsFirstAnswer first op old now

-- what the first queue answered, once this queue has answered so
abbrev pub IsFirstAfter : ℕ → Answer → Answer → Answer → Type 0
IsFirstAfter queue first a after = ((queue ≡ 0) × (after ≡ a)) ⊎ ((1 ≤ queue) × (after ≡ first))

first-made : (first : Answer) (op : Op) (old : List QueuePass) (p q : QueuePass) → slice_get old 0 ≡ Some p → (asked : IsAsked op p q) → first ≡ answer_of asked.reply → IsFirstAnswer first op old (slice_set old 0 q)
first-made first op [] p q had asked is = absurd (cc)
first-made first op (z ∷ old) p q had asked is =
    let same : p ≡ z = cc in
    subst (λ (e : QueuePass). (one : IsAsked op e q) × (first ≡ answer_of one.reply)) same (asked, is)

first-after : (first a after : Answer) (op : Op) (queue : ℕ) (old now : List QueuePass) (p q : QueuePass) → AreAskedBefore queue op old now → slice_get now queue ≡ Some p → (asked : IsAsked op p q) → a ≡ answer_of asked.reply
    → (1 ≤ queue → IsFirstAnswer first op old now) → IsFirstAfter queue first a after → IsFirstAnswer after op old (slice_set now queue q)
first-after first a after op zero old now p q same had asked answers was (inl here) =
    subst (λ (es : List QueuePass). IsFirstAnswer after op old (slice_set es 0 q)) (sym same)
    (first-made after op old p q (ap (λ (es : List QueuePass). slice_get es 0) (sym same) ∙ had) asked (here.1 ∙ answers))
first-after first a after op zero old now p q same had asked answers was (inr kept) = absurd (omega (arith, kept.0))
first-after first a after op (suc n) old now p q front had asked answers was (inl here) = absurd (omega (arith, here.0))
first-after first a after op (suc n) (z ∷ old) (w ∷ now) p q front had asked answers was (inr kept) =
    subst (λ (e : Answer). IsFirstAnswer e op (z ∷ old) (w ∷ slice_set now n q)) (sym kept.1) (was kept.0)
first-after first a after op (suc n) _ _ p q front had asked answers was (inr kept) = absurd front

-- and that is no limit
first-free : (first : Answer) (op : Op) (old now : List QueuePass) → IsFirstAnswer first op old now → first ≢ answer.Limit
first-free first op (p ∷ old) (q ∷ now) is limit = is.0.free (sym is.1 ∙ limit)
first-free first op _ _ is limit = absurd is

pub each-next : (first a after : Answer) (asked op : Op) (queue : ℕ) (old now new : List QueuePass) → op ≡ asked → AsksSoFar first asked queue old now → AsksOnce now queue op (Ok a) new → a ≢ answer.Limit → IsFirstAfter queue first a after
    → AsksSoFar after asked (queue + 1) old new
each-next first a after asked op queue old now new is far once free keeps =
    let replies = once-replied now queue asked a new (subst (λ (o : Op). AsksOnce now queue o (Ok a) new) is once) free in
    let calls = replies.1 in
    let one = asked-one asked a queue now new free replies in
    record {
      asked = before-next asked queue old now new calls.was calls.is far.asked calls.had calls.whole one;
      first_is = λ _. subst (λ (es : List QueuePass). IsFirstAnswer after asked old es) (sym calls.whole) (first-after first a after asked queue old now calls.was calls.is far.asked calls.had one replies.2 far.first_is keeps);
    }

-- the calls so far, and one more
pub each-on : (asked op : Op) (queue : ℕ) (result : Result Answer AllocError) (old now new : List QueuePass) → op ≡ asked → is_producer asked ≡ true → AreAskedBefore queue asked old now → AsksOnce now queue op result new → AllZip HasGoneOn old new
each-on asked op queue result old now new is produces front once =
    zip-trans HasGoneOn HasGoneOn HasGoneOn gone-trans old now new (before-on asked produces queue old now front) (once-on now queue op result new (ap (λ o. is_producer o) is ∙ produces) once)

-- a rule is told without a look at the lines whose start token was refused
each-alike : (asked : EachOp) (a b : Answer) (number : ℕ) (missed : List ℕ) → is_producer (op_of asked) ≡ true → IsToldAlike a b number missed (op_of asked)
each-alike (each.Rule kind namespace) a b number missed produces = λ before. refl
each-alike each.Quiet a b number missed produces = absurd (cc)

-- the last of these calls was answered so
pub last-asked : (asked op : Op) (result : Result Answer AllocError) (queue : ℕ) (old now new : List QueuePass) → op ≡ asked → AreAskedBefore queue asked old now → AsksOnce now queue op result new → AsksUpTo old asked result new
last-asked asked op result queue old now new is front once =
    record { queue = queue; before = now; front = front; last = subst (λ (o : Op). AsksOnce now queue o result new) is once }

-- a call that `?` passes on
pub once-refused : (asked op : Op) (result : Result Answer AllocError) (e : AllocError) (queue : ℕ) (old now new : List QueuePass) → op ≡ asked → AreAskedBefore queue asked old now → IsErrAnd result (λ y. y ≡ e)
    → AsksOnce now queue op (Err e) new → AsksEachOnce old asked result new
once-refused asked op (Ok a) e queue old now new is front err once = absurd err
once-refused asked op (Err y) e queue old now new is front err once =
    subst (λ (z : AllocError). AsksUpTo old asked (Err z) new) (sym err) (last-asked asked op (Err e) queue old now new is front once)

-- so the calls end at once where one meets a limit or fails to allocate
pub once-ends : (op : Op) (result : Result Answer AllocError) (old new : List QueuePass) → is_producer op ≡ true → AsksEachOnce old op result new → EndsAsking old op result new
once-ends op (Ok answer.Limit) old new produces once = upto-last op (Ok answer.Limit) old new produces once
once-ends op (Ok a) old new produces once = tt
once-ends op (Err e) old new produces once = upto-last op (Err e) old new produces once

-- calls that have met no limit
pub once-free : (first : Answer) (op : Op) (queue : ℕ) (old new : List QueuePass) → 1 ≤ queue → length old ≤ queue → AsksSoFar first op queue old new → AsksEachOnce old op (Ok first) new
once-free answer.Limit op queue old new some long far = absurd (first-free answer.Limit op old new (far.first_is some) refl)
once-free first op queue old new some long far = asked-all op queue old new long far.asked

-- what the line prints is what the first queue says
first-printed : (first : Answer) (op : Op) (old new : List QueuePass) (number : ℕ) (missed : List ℕ) (lines : List Line) → is_producer op ≡ true → IsFirstAnswer first op old new → AllByRecursion BeginsEmpty old → AloneProduces new
    → IsNewNumber number missed lines → HasTold missed lines old → op_printed (with_missed first number missed) lines number 0 op ≡ printed_lines first number
first-printed first op (p ∷ old) (q ∷ new) number missed lines produces is begins alone fresh has =
    let one = is.0 in
    subst (λ (a : Answer). op_printed (with_missed a number missed) lines number 0 op ≡ printed_lines a number) (sym is.1)
    (line-printed p q op one.reply number missed 0 lines begins.0 alone.0 produces one.free fresh one.calls (has 0 p refl))
first-printed first op _ _ number missed lines produces is begins alone fresh has = absurd is

pub each-tells : (first : Answer) (asked : EachOp) (queues : ℕ) (old new : List QueuePass) → 1 ≤ queues → length old ≤ queues → is_producer (op_of asked) ≡ true → AsksSoFar first (op_of asked) queues old new
    → Tells old (command.Each asked) first new
each-tells first asked queues old new some long produces far =
    let op = op_of asked in
    let all = asked-all op queues old new long far.asked in
    record {
      told = λ begins alone missed lines number fresh has queue q at.
          let beside = zip-at (IsAsked op) old new queue q all at in
          let p = beside.0 in
          let one = beside.2 in
          line-told p q op one.reply first number missed queue lines (command.Each asked) (all-at BeginsEmpty old queue p begins beside.1) (all-at ProducesAlone new queue q alone at) produces one.free fresh
          (ap (λ b. if b then Some op else None) produces) (each-alike asked (answer_of one.reply) first number missed produces) one.calls (has queue p beside.1);
      printed = λ begins alone missed lines number fresh has silos. first-printed first op old new number missed lines produces (far.first_is some) begins alone fresh has;
    }
