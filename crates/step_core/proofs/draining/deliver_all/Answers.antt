use Rattle.step_core.proofs.Prelude.{◌≡◌, suc, ◌+◌, ◌-◌, Some, None, refl, subst, arith, err_from_is_err_and, Astray, deliver_up_to}
use Rattle.stream_model.specs.Draining.{take_turn}
use Rattle.step_core.specs.DrainPhases.{Ends, halted}
use Rattle.step_core.proofs.DrainLoops.{deliver-more, deliver-done, deliver-halted}
use Rattle.step_core.proofs.DrainReplies.{more_delivers}
use Rattle.step_core.proofs.DrainSteps.{ends-done, ends-halted, ends-then}
use Rattle.step_core.proofs.draining.deliver_all.Goals as goal

pub returns-in_err-deliver_next : goal.returns-in_err-deliver_next
returns-in_err-deliver_next c =
    let e = err_from_is_err_and c.from_residual.result c.from_residual.ensures.1 in
    let why = c.in_err-deliver_next.field-0.0 in
    rw (e.1, e.2) (c.loop.invariant c.deliver_next.new.partition (halted why) (deliver-halted (c.args.most - c.loop.counter) c.args.sub.now c.args.grain.now c.loop.partition c.deliver_next.new.partition why c.in_err-deliver_next.ensures))

pub returns-then-not-branch : goal.returns-then-not-branch
returns-then-not-branch c =
    c.loop.invariant c.deliver_next.new.partition (Some None)
    (deliver-done (c.args.most - c.loop.counter) c.args.sub.now c.args.grain.now c.loop.partition c.deliver_next.new.partition _ c.if-not-branch.true c.in_ok-deliver_next.ensures)

pub returns-in_err-take_turn : goal.returns-in_err-take_turn
returns-in_err-take_turn c =
    let e = err_from_is_err_and c.from_residual-in_err-take_turn.result c.from_residual-in_err-take_turn.ensures.1 in
    let why = c.in_err-take_turn.field-0.0 in
    let p = c.loop.partition in
    let mid = c.deliver_next.new.partition in
    let s = c.args.sub.now in
    let g = c.args.grain.now in
    let n = c.args.most - (c.loop.counter + 1) in
    let next : suc n ≡ c.args.most - c.loop.counter = omega arith in
    rw (e.1, e.2) (c.loop.invariant c.take_turn.new.partition (halted why)
    (subst (λ n. Ends p c.take_turn.new.partition (halted why) (deliver_up_to n s g p)) next
    (deliver-more (suc n) s g p mid c.take_turn.new.partition (halted why) _ c.if-not-branch.false c.in_ok-deliver_next.ensures (ends-halted mid c.take_turn.new.partition why (take_turn g mid) (deliver_up_to n s g) c.in_err-take_turn.ensures))))

pub loop-preserved : goal.loop-preserved
loop-preserved c =
    let p = c.loop.partition in
    let mid = c.deliver_next.new.partition in
    let s = c.args.sub.now in
    let g = c.args.grain.now in
    let n = c.args.most - (c.loop.counter + 1) in
    let next : suc n ≡ c.args.most - c.loop.counter = omega arith in
    λ new end rest. c.loop.invariant new end
    (subst (λ n. Ends p new end (deliver_up_to n s g p)) next
    (deliver-more (suc n) s g p mid new end _ c.if-not-branch.false c.in_ok-deliver_next.ensures (ends-then mid c.take_turn.new.partition new end (take_turn g mid) (deliver_up_to n s g) c.in_ok-take_turn.ensures rest)))

pub returns-in_err-deliver_next-2 : goal.returns-in_err-deliver_next-2
returns-in_err-deliver_next-2 c =
    let e = err_from_is_err_and c.from_residual-in_err-deliver_next-2.result c.from_residual-in_err-deliver_next-2.ensures.1 in
    let why = c.in_err-deliver_next-2.field-0.0 in
    rw (e.1, e.2) (c.loop.invariant c.deliver_next-2.new.partition (halted why) (deliver-halted (c.args.most - c.loop.counter) c.args.sub.now c.args.grain.now c.loop.partition c.deliver_next-2.new.partition why c.in_err-deliver_next-2.ensures))

pub returns-then-branch : goal.returns-then-branch
returns-then-branch c =
    let p = c.loop.partition in
    let mid = c.deliver_next-2.new.partition in
    let s = c.args.sub.now in
    let g = c.args.grain.now in
    let none : 0 ≡ c.args.most - c.loop.counter = omega arith in
    c.loop.invariant mid (Some (Some Astray))
    (subst (λ n. Ends p mid (Some (Some Astray)) (deliver_up_to n s g p)) none
    (deliver-more 0 s g p mid mid (Some (Some Astray)) _ c.if-branch.true c.in_ok-deliver_next-2.ensures (ends-done mid (more_delivers 0 s g mid) (Some Astray) refl)))

pub returns : goal.returns
returns c =
    c.loop.invariant c.deliver_next-2.new.partition (Some None)
    (deliver-done (c.args.most - c.loop.counter) c.args.sub.now c.args.grain.now c.loop.partition c.deliver_next-2.new.partition _ c.if-branch.false c.in_ok-deliver_next-2.ensures)
