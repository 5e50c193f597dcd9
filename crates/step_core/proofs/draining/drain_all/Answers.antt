use Rattle.step_core.proofs.Prelude.{◌≡◌, suc, ◌+◌, ◌-◌, length, Some, None, refl, subst, arith, err_from_is_err_and, Astray, ask, drain_round, Pull}
use Rattle.stream_model.specs.Draining.{after_pull}
use Rattle.step_core.specs.DrainPhases.{Ends, halted}
use Rattle.step_core.proofs.DrainLoops.{pull-more, pull-done, pull-halted}
use Rattle.step_core.proofs.DrainReplies.{more_rounds}
use Rattle.step_core.proofs.DrainRounds.{drain_all-rounds}
use Rattle.step_core.proofs.DrainSteps.{ends-done, ends-halted, ends-then}
use Rattle.step_core.proofs.draining.drain_all.Goals as goal

pub loop-init : goal.loop-init
loop-init c =
    let p = c.args.partition.now in
    let n = c.saturating_sub-rounds.result in
    let first : n ≡ length p.log - p.high = omega (arith, c.saturating_sub-rounds.ensures, c.queued.ensures, c.high.ensures) in
    let all : suc n - 0 ≡ suc n = omega arith in
    λ new end rest. subst (Ends p new end) (drain_all-rounds p n first) (subst (λ m. Ends p new end (more_rounds m p)) all rest)

pub returns-in_err-drain_round : goal.returns-in_err-drain_round
returns-in_err-drain_round c =
    let e = err_from_is_err_and c.from_residual.result c.from_residual.ensures.1 in
    let why = c.in_err-drain_round.field-0.0 in
    let p = c.loop.partition in
    let new = c.drain_round.new.partition in
    let n = c.saturating_sub-rounds.result - c.loop.counter in
    let next : suc n ≡ suc c.saturating_sub-rounds.result - c.loop.counter = omega arith in
    rw (e.1, e.2) (c.loop.invariant new (halted why)
    (subst (λ m. Ends p new (halted why) (more_rounds m p)) next
    (ends-halted p new why (drain_round p) (λ q. ask q (Pull q.generation 32) (after_pull n)) c.in_err-drain_round.ensures)))

pub returns-in_err-pull_next : goal.returns-in_err-pull_next
returns-in_err-pull_next c =
    let e = err_from_is_err_and c.from_residual-in_err-pull_next.result c.from_residual-in_err-pull_next.ensures.1 in
    let why = c.in_err-pull_next.field-0.0 in
    let p = c.loop.partition in
    let mid = c.drain_round.new.partition in
    let new = c.pull_next.new.partition in
    let n = c.saturating_sub-rounds.result - c.loop.counter in
    let next : suc n ≡ suc c.saturating_sub-rounds.result - c.loop.counter = omega arith in
    rw (e.1, e.2) (c.loop.invariant new (halted why)
    (subst (λ m. Ends p new (halted why) (more_rounds m p)) next
    (ends-then p mid new (halted why) (drain_round p) (λ q. ask q (Pull q.generation 32) (after_pull n)) c.in_ok-drain_round.ensures
    (pull-halted n mid new why c.in_err-pull_next.ensures))))

pub returns-then-not-branch : goal.returns-then-not-branch
returns-then-not-branch c =
    let p = c.loop.partition in
    let mid = c.drain_round.new.partition in
    let new = c.pull_next.new.partition in
    let n = c.saturating_sub-rounds.result - c.loop.counter in
    let next : suc n ≡ suc c.saturating_sub-rounds.result - c.loop.counter = omega arith in
    c.loop.invariant new (Some None)
    (subst (λ m. Ends p new (Some None) (more_rounds m p)) next
    (ends-then p mid new (Some None) (drain_round p) (λ q. ask q (Pull q.generation 32) (after_pull n)) c.in_ok-drain_round.ensures
    (pull-done n mid new _ c.if-not-branch.true c.in_ok-pull_next.ensures)))

pub loop-preserved : goal.loop-preserved
loop-preserved c =
    let p = c.loop.partition in
    let mid = c.drain_round.new.partition in
    let after = c.pull_next.new.partition in
    let n = c.saturating_sub-rounds.result - c.loop.counter in
    let next : suc n ≡ suc c.saturating_sub-rounds.result - c.loop.counter = omega arith in
    let left : suc c.saturating_sub-rounds.result - (c.loop.counter + 1) ≡ n = omega arith in
    λ new end rest. c.loop.invariant new end
    (subst (λ m. Ends p new end (more_rounds m p)) next
    (ends-then p mid new end (drain_round p) (λ q. ask q (Pull q.generation 32) (after_pull n)) c.in_ok-drain_round.ensures
    (pull-more n mid after new end _ c.if-not-branch.false c.in_ok-pull_next.ensures (subst (λ m. Ends after new end (more_rounds m after)) left rest))))

pub returns : goal.returns
returns c =
    let p = c.loop.partition in
    let none : 0 ≡ suc c.saturating_sub-rounds.result - c.loop.counter = omega arith in
    c.loop.invariant p (Some (Some Astray))
    (subst (λ m. Ends p p (Some (Some Astray)) (more_rounds m p)) none (ends-done p (more_rounds 0 p) (Some Astray) refl))

pub returns-else-not-branch : goal.returns-else-not-branch
returns-else-not-branch c =
    let p = c.loop.partition in
    let mid = c.drain_round.new.partition in
    let new = c.pull_next.new.partition in
    let last : 1 ≡ suc c.saturating_sub-rounds.result - c.loop.counter = omega arith in
    c.loop.invariant new (Some (Some Astray))
    (subst (λ m. Ends p new (Some (Some Astray)) (more_rounds m p)) last
    (ends-then p mid new (Some (Some Astray)) (drain_round p) (λ q. ask q (Pull q.generation 32) (after_pull 0)) c.in_ok-drain_round.ensures
    (pull-more 0 mid new new (Some (Some Astray)) _ c.if-not-branch.false c.in_ok-pull_next.ensures (ends-done new (more_rounds 0 new) (Some Astray) refl))))
