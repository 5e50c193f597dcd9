use Rattle.streams.proofs.Prelude.{◌≡◌, ◌∙◌, ◌<◌, Ok, Err, ap, arith, inl, inr, refl, subst, err_from_is_err_and}
use Rattle.silo_threads.specs.Clusters.{ClusterView}
use Rattle.streams.specs.declared.answers.SettleError.TheVariants as settle
use Rattle.streams.specs.Services.{ServiceView}
use Rattle.streams.specs.Settling.{PublishesFrom, Settles, SettlesWith}
use Rattle.streams.proofs.Rounds.{one-more}
use Rattle.streams.proofs.service.Service.settle_with.Goals as goal

pub returns-in_err-settle-clause-settles : goal.returns-in_err-settle-clause-settles
returns-in_err-settle-clause-settles g c =
    let looks = c.args.self.now.cluster.looks in
    let round = c.loop-round._round in
    let within : round < looks = omega (arith, c.loop-round-test.true, c.looks-round-end.ensures, ap (λ (s : ServiceView). s.cluster.looks) c.self.view_is) in
    let now = c.loop-round.self.caller in
    let new = c.settle.new.self.caller in
    let e = c.in_err-settle.field-0.0 in
    let settles = subst (λ k. Settles k k now (Err e) new) (ap (λ (v : ClusterView). v.looks) c.loop-round.invariant.cluster) c.in_err-settle.ensures.settles in
    let p = err_from_is_err_and c.from_residual.result c.from_residual.ensures.1 in
    rw (p.1, p.2) (c.loop-round.invariant.rest (Err e) new (one-more (λ k. SettlesWith k looks now (Err e) new) looks round within (inl (e, settles, refl))))

pub returns-in-Ok-eq0-clause-settles : goal.returns-in-Ok-eq0-clause-settles
returns-in-Ok-eq0-clause-settles g c =
    let looks = c.args.self.now.cluster.looks in
    let round = c.loop-round._round in
    let within : round < looks = omega (arith, c.loop-round-test.true, c.looks-round-end.ensures, ap (λ (s : ServiceView). s.cluster.looks) c.self.view_is) in
    let now = c.loop-round.self.caller in
    let quiet = c.settle.new.self.caller in
    let new = c.publish_from.new.self.caller in
    let settles = subst (λ k. Settles k k now (Ok tt) quiet) (ap (λ (v : ClusterView). v.looks) c.loop-round.invariant.cluster) c.in_ok-settle.ensures.settles in
    let zero : c.in-Ok-eq0.field-0 ≡ 0 = omega (arith, c.in-Ok-eq0.field-0-test) in
    let none = subst (λ n. PublishesFrom quiet (Ok n) new) zero c.in-Ok-eq0.ensures.publishes in
    c.loop-round.invariant.rest (Ok tt) new (one-more (λ k. SettlesWith k looks now (Ok tt) new) looks round within (inr (quiet, settles, inl (none, refl))))

pub returns-in-Err-clause-settles : goal.returns-in-Err-clause-settles
returns-in-Err-clause-settles g c =
    let looks = c.args.self.now.cluster.looks in
    let round = c.loop-round._round in
    let within : round < looks = omega (arith, c.loop-round-test.true, c.looks-round-end.ensures, ap (λ (s : ServiceView). s.cluster.looks) c.self.view_is) in
    let now = c.loop-round.self.caller in
    let quiet = c.settle.new.self.caller in
    let new = c.publish_from.new.self.caller in
    let settles = subst (λ k. Settles k k now (Ok tt) quiet) (ap (λ (v : ClusterView). v.looks) c.loop-round.invariant.cluster) c.in_ok-settle.ensures.settles in
    let result = Err (settle.Unpublished c.in-Err.unpublished) in
    c.loop-round.invariant.rest result new (one-more (λ k. SettlesWith k looks now result new) looks round within (inr (quiet, settles, inr (inl (c.in-Err.unpublished, c.in-Err.ensures.publishes, refl)))))

pub loop-round-preserved : goal.loop-round-preserved
loop-round-preserved g c =
    let looks = c.args.self.now.cluster.looks in
    let round = c.loop-round._round in
    let within : round < looks = omega (arith, c.loop-round-test.true, c.looks-round-end.ensures, ap (λ (s : ServiceView). s.cluster.looks) c.self.view_is) in
    let now = c.loop-round.self.caller in
    let quiet = c.settle.new.self.caller in
    let sent = c.publish_from.new.self.caller in
    let settles = subst (λ k. Settles k k now (Ok tt) quiet) (ap (λ (v : ClusterView). v.looks) c.loop-round.invariant.cluster) c.in_ok-settle.ensures.settles in
    record {
      cluster = c.publish_from.ensures.cluster ∙ (c.settle.ensures.cluster ∙ c.loop-round.invariant.cluster);
      at = c.publish_from.ensures.turnstiles ∙ (c.settle.ensures.turnstiles ∙ c.loop-round.invariant.at);
      rest = λ result new more.
          c.loop-round.invariant.rest result new (one-more (λ k. SettlesWith k looks now result new) looks round within (inr (quiet, settles, inr (inr (c.in-Ok.field-0, sent, c.in-Ok.ensures.publishes, more)))));
    }
