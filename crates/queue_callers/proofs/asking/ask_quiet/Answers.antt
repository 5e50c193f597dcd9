use Rattle.queue_callers.proofs.Prelude.{◌≡◌, ◌∙◌, Result, Ok, Err, arith, ap, sym, subst, rules, common_steps, err_from_is_err_and, Reply, Refusal}
use Rattle.queue_callers.specs.declared.asking.Quiet.{Quiet}
use Rattle.queue_callers.specs.Asking.{AsksQuiet, AsksUpTo}
use Rattle.queue_callers.proofs.Looking.{asked-next, asks-look, pending-reply, quiet-all, quiet-next, quiet-told}
use Rattle.queue_callers.proofs.asking.ask_quiet.Goals as goal

pub returns-in_err-answer-clause-asks : goal.returns-in_err-answer-clause-asks
returns-in_err-answer-clause-asks g c =
    let p = err_from_is_err_and c.from_residual.result c.from_residual.ensures.1 in
    let same : p.0 ≡ c.in_err-answer.field-0.0 = p.2 in
    subst (λ (r : Result Quiet Refusal). AsksQuiet c.args.caller.now r c.ask.new.self) (sym (p.1 ∙ ap (λ (e : Refusal). Err e) same))
    (c.loop-queue.queue, asked-next c.loop-queue.queue (Err c.in_err-answer.field-0.0) c.args.caller.now c.loop-queue.caller c.ask.new.self c.loop-queue.invariant.quiet c.in_err-answer.ensures.calls)

pub returns-in-Some-clause-asks : goal.returns-in-Some-clause-asks
returns-in-Some-clause-asks g c =
    subst (λ (r : Reply). AsksUpTo c.loop-queue.queue (Ok r) c.args.caller.now c.ask.new.self) (pending-reply c.in_ok-answer.answer c.in-Some.why (sym c.pending_of.ensures ∙ c.in-Some.is))
    (asked-next c.loop-queue.queue (Ok c.in_ok-answer.answer) c.args.caller.now c.loop-queue.caller c.ask.new.self c.loop-queue.invariant.quiet c.in_ok-answer.ensures.calls)

pub loop-queue-preserved : goal.loop-queue-preserved
loop-queue-preserved g c =
    record {
      quiet = quiet-next c.loop-queue.queue c.in_ok-answer.answer c.args.caller.now c.loop-queue.caller c.ask.new.self c.loop-queue.invariant.quiet c.in_ok-answer.ensures.calls (quiet-told c.in_ok-answer.answer (asks-look c.in_ok-answer.answer _ _ c.in_ok-answer.ensures.calls.calls) (sym c.pending_of.ensures ∙ c.in-None.is));
      at = c.ask.ensures.turnstiles ∙ c.loop-queue.invariant.at;
    }

pub returns-clause-asks : goal.returns-clause-asks
returns-clause-asks g c =
    quiet-all c.loop-queue.queue c.args.caller.now c.loop-queue.caller (first_of (omega (arith, c.loop-queue-test.false, c.loop-queue.auto.queue-end, c.queues-queue-end.ensures), search rules, grind (arith, common_steps))) c.loop-queue.invariant.quiet
