use Rattle.streams.proofs.Prelude.{ℕ, ◌+◌, ◌-◌, ◌<◌, ◌||◌, ◌∙◌, Err, add-one, arith, inl, inr, length, refl, subst, err_from_is_err_and, AddRule}
use Rattle.queue_callers.proofs.Looking.{turnstiles-length}
use Rattle.streams.specs.Services.{TellsRule}
use Rattle.streams.proofs.Rounds.{one-more}
use Rattle.streams.proofs.service.Service.add_rule.Goals as goal

pub returns-in_err-is_new-clause-adds : goal.returns-in_err-is_new-clause-adds
returns-in_err-is_new-clause-adds g c =
    let n = length c.args.self.now.caller in
    let queue = c.loop-queue.queue in
    let now = c.loop-queue.self.caller in
    let new = c.ask.new.self.caller in
    let rule = AddRule c.args.kind c.args.namespace in
    let e = c.in_err-is_new.field-0.0 in
    let within : queue < n = omega (arith, c.loop-queue-test.true, c.loop-queue.auto.queue-end, c.queues-queue-end.ensures.count) in
    let refused = one-more (λ k. TellsRule k queue rule c.loop-queue.is_new now (Err e) new) n queue within (inl (e, record { answer = c.ask.result; calls = c.ask.ensures.calls; is = c.in_err-is_new.ensures }, refl)) in
    let p = err_from_is_err_and c.from_residual.result c.from_residual.ensures.1 in
    rw (p.1, p.2) (c.loop-queue.invariant.rest (Err e) new refused)

pub loop-queue-preserved : goal.loop-queue-preserved
loop-queue-preserved g c =
    let n = length c.args.self.now.caller in
    let queue = c.loop-queue.queue in
    let now = c.loop-queue.self.caller in
    let mid = c.ask.new.self.caller in
    let rule = AddRule c.args.kind c.args.namespace in
    let added = c.in_ok-is_new.field-0 in
    let within : queue < n = omega (arith, c.loop-queue-test.true, c.loop-queue.auto.queue-end, c.queues-queue-end.ensures.count) in
    record {
      long = turnstiles-length now mid c.ask.ensures.turnstiles ∙ c.loop-queue.invariant.long;
      cluster = c.ask.ensures.cluster ∙ c.loop-queue.invariant.cluster;
      at = c.ask.ensures.turnstiles ∙ c.loop-queue.invariant.at;
      rest = λ result new told.
          let told_behind = subst (λ (k : ℕ). TellsRule (n - (queue + 1)) k rule (c.loop-queue.is_new || added) mid result new) (add-one queue) told in
          c.loop-queue.invariant.rest result new
          (one-more (λ k. TellsRule k queue rule c.loop-queue.is_new now result new) n queue within (inr (added, mid, record { answer = c.ask.result; calls = c.ask.ensures.calls; is = c.in_ok-is_new.ensures }, told_behind)));
    }
