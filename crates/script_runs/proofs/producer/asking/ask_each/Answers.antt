use Rattle.script_runs.proofs.Prelude.{◌≡◌, ◌≢◌, ◌≤◌, ◌∙◌, Ok, inl, inr, length, refl, rules, arith, subst, op_of}
use Rattle.script_runs.specs.declared.producer.answer.Answer.TheVariants as answer
use Rattle.script_runs.specs.declared.producer.answer.Answer.{Answer}
use Rattle.script_runs.specs.Telling.{AsksOnce}
use Rattle.queue_callers.proofs.Looking.{turnstiles-length}
use Rattle.script_runs.proofs.Asked.{IsFirstAfter, before-on, each-next, each-on, each-tells, last-asked, once-ends, once-free, once-refused}
use Rattle.script_runs.proofs.producer.asking.ask_each.Goals as goal
use Rattle.script_runs.proofs.producer.asking.ask_each.Goals.{then-queue-eq0, else-queue-eq0}

pub loop-queue-init : goal.loop-queue-init
loop-queue-init g c =
    record {
      far = record { asked = refl; first_is = λ some. absurd (omega (arith, some)) };
      at = refl;
    }

pub ask_once-requires-after_bounds : goal.ask_once-requires-after_bounds
ask_once-requires-after_bounds g c = λ κs bounds. omega (arith, c.loop-queue-test.true, c.queues-queue-end.ensures, turnstiles-length c.args.caller.now c.loop-queue.caller c.loop-queue.invariant.at)

pub loop-queue-preserved : goal.loop-queue-preserved
loop-queue-preserved g c =
    let free : c.in_ok-answer.answer ≢ answer.Limit = search (rules, c.eq.ensures, c.if-eq.false) in
    let keeps : IsFirstAfter c.loop-queue.queue c.loop-queue.first c.in_ok-answer.answer c.if-queue-eq0.first = elim c.if-queue-eq0.branch [
      | then-queue-eq0 w ↦ inl (w.if-queue-eq0.true, w.first-is)
      | else-queue-eq0 w ↦ inr (omega (arith, w.if-queue-eq0.false), w.first-is)
    ] in
    record {
      far = each-next c.loop-queue.first c.in_ok-answer.answer c.if-queue-eq0.first (op_of c.args.each.now) c.op.result c.loop-queue.queue c.args.caller.now c.loop-queue.caller c.ask_once.new.caller c.op.ensures c.loop-queue.invariant.far c.in_ok-answer.ensures.asks free keeps;
      at = c.ask_once.ensures.turnstiles ∙ c.loop-queue.invariant.at;
    }

pub returns-in_err-answer-clause-on : goal.returns-in_err-answer-clause-on
returns-in_err-answer-clause-on g c =
    each-on (op_of c.args.each.now) c.op.result c.loop-queue.queue c.ask_once.result c.args.caller.now c.loop-queue.caller c.ask_once.new.caller c.op.ensures c.requires.producer c.loop-queue.invariant.far.asked c.ask_once.ensures.asks

pub returns-in_err-answer-clause-turnstiles : goal.returns-in_err-answer-clause-turnstiles
returns-in_err-answer-clause-turnstiles g c = c.ask_once.ensures.turnstiles ∙ c.loop-queue.invariant.at

pub returns-in_err-answer-clause-once : goal.returns-in_err-answer-clause-once
returns-in_err-answer-clause-once g c =
    once-refused (op_of c.args.each.now) c.op.result c.from_residual.result c.in_err-answer.field-0.0 c.loop-queue.queue c.args.caller.now c.loop-queue.caller c.ask_once.new.caller c.op.ensures
    c.loop-queue.invariant.far.asked c.from_residual.ensures.1 c.in_err-answer.ensures.asks

pub returns-in_err-answer-clause-ends : goal.returns-in_err-answer-clause-ends
returns-in_err-answer-clause-ends g c = once-ends (op_of c.args.each.now) c.from_residual.result c.args.caller.now c.ask_once.new.caller c.requires.producer (returns-in_err-answer-clause-once g c)

pub returns-then-eq : goal.returns-then-eq
returns-then-eq g c =
    let op = op_of c.args.each.now in
    let queue = c.loop-queue.queue in
    let old = c.args.caller.now in
    let now = c.loop-queue.caller in
    let new = c.ask_once.new.caller in
    let front = c.loop-queue.invariant.far.asked in
    let limit : c.in_ok-answer.answer ≡ answer.Limit = search (rules, c.eq.ensures, c.if-eq.true) in
    let asks = subst (λ (a : Answer). AsksOnce now queue c.op.result (Ok a) new) limit c.in_ok-answer.ensures.asks in
    let once = last-asked op c.op.result (Ok answer.Limit) queue old now new c.op.ensures front asks in
    record {
      told = λ free. absurd (free refl);
      once = once;
      ends = once-ends op (Ok answer.Limit) old new c.requires.producer once;
      on = each-on op c.op.result queue (Ok answer.Limit) old now new c.op.ensures c.requires.producer front asks;
      turnstiles = c.ask_once.ensures.turnstiles ∙ c.loop-queue.invariant.at;
    }

pub returns : goal.returns
returns g c =
    let op = op_of c.args.each.now in
    let first = c.loop-queue.first in
    let queue = c.loop-queue.queue in
    let old = c.args.caller.now in
    let new = c.loop-queue.caller in
    let far = c.loop-queue.invariant.far in
    let all : length old ≤ queue = omega (arith, c.loop-queue-test.false, c.queues-queue-end.ensures) in
    let some : 1 ≤ queue = omega (arith, all, c.requires.some) in
    let once = once-free first op queue old new some all far in
    record {
      told = λ _. each-tells first c.args.each.now queue old new some all c.requires.producer far;
      once = once;
      ends = once-ends op (Ok first) old new c.requires.producer once;
      on = before-on op c.requires.producer queue old new far.asked;
      turnstiles = c.loop-queue.invariant.at;
    }
