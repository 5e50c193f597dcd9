use Rattle.step_core.proofs.Prelude.{◌≡◌, ◌∙◌, suc, ◌+◌, ◌-◌, Some, None, sym, subst, arith, err_from_is_err_and, Astray, least_waiting}
use Rattle.step_core.specs.DrainPhases.{Ends, halted}
use Rattle.step_core.proofs.DrainLoops.{turns-astray, turns-done, turns-halted, turns-more, turns_up_to}
use Rattle.step_core.proofs.draining.empty_mailboxes.Goals as goal

pub returns-in_default : goal.returns-in_default
returns-in_default c =
    let p = c.loop.partition in
    let none : None ≡ least_waiting p = sym c.in_default.is ∙ c.least_waiting.ensures in
    c.loop.invariant p (Some None) (turns-done (c.all_waiting-end.result - c.loop.counter) p none)

pub returns-in_err-take_turn : goal.returns-in_err-take_turn
returns-in_err-take_turn c =
    let e = err_from_is_err_and c.from_residual.result c.from_residual.ensures.1 in
    let why = c.in_err-take_turn.field-0.0 in
    let p = c.loop.partition in
    let g = c.in-Some.grain in
    let n = c.all_waiting-end.result - (c.loop.counter + 1) in
    let next : suc n ≡ c.all_waiting-end.result - c.loop.counter = omega arith in
    let waits : Some g ≡ least_waiting p = sym c.in-Some.is ∙ c.least_waiting.ensures in
    rw (e.1, e.2) (c.loop.invariant c.take_turn.new.partition (halted why)
    (subst (λ n. Ends p c.take_turn.new.partition (halted why) (turns_up_to n p)) next (turns-halted n g p c.take_turn.new.partition why waits c.in_err-take_turn.ensures)))

pub loop-preserved : goal.loop-preserved
loop-preserved c =
    let p = c.loop.partition in
    let g = c.in-Some.grain in
    let n = c.all_waiting-end.result - (c.loop.counter + 1) in
    let next : suc n ≡ c.all_waiting-end.result - c.loop.counter = omega arith in
    let waits : Some g ≡ least_waiting p = sym c.in-Some.is ∙ c.least_waiting.ensures in
    λ new end rest. c.loop.invariant new end
    (subst (λ n. Ends p new end (turns_up_to n p)) next (turns-more n g p c.take_turn.new.partition new end waits c.in_ok-take_turn.ensures rest))

pub returns-in-Some-least_waiting : goal.returns-in-Some-least_waiting
returns-in-Some-least_waiting c =
    let p = c.loop.partition in
    let none : 0 ≡ c.all_waiting-end.result - c.loop.counter = omega arith in
    let waits : Some c.in-Some-least_waiting.field-0 ≡ least_waiting p = sym c.in-Some-least_waiting.is ∙ c.least_waiting-2.ensures in
    c.loop.invariant p (Some (Some Astray))
    (subst (λ n. Ends p p (Some (Some Astray)) (turns_up_to n p)) none (turns-astray p c.in-Some-least_waiting.field-0 waits))

pub returns-in-None : goal.returns-in-None
returns-in-None c =
    let p = c.loop.partition in
    let none : None ≡ least_waiting p = sym c.in-None.is ∙ c.least_waiting-2.ensures in
    c.loop.invariant p (Some None) (turns-done (c.all_waiting-end.result - c.loop.counter) p none)
