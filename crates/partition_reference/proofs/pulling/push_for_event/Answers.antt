use Rattle.partition_reference.proofs.Prelude.{◌∙◌, ap, sym, fold, added-more, front-of-front, added, implied}
use Rattle.partition_reference.proofs.pulling.push_for_event.Goals as goal

pub returns-in_err-push_by_rule-clause-front : goal.returns-in_err-push_by_rule-clause-front
returns-in_err-push_by_rule-clause-front c =
    front-of-front c.args.subs.now.items c.loop-rule.subs.items c.push_by_rule.new.subs.items c.loop-rule.invariant.front c.push_by_rule.ensures.front

pub loop-rule-preserved : goal.loop-rule-preserved
loop-rule-preserved c =
    let made = implied c.args.position c.args.event.now in
    record {
      all =
          c.in_ok-push_by_rule.ensures.all
          ∙ ap (λ subs. fold added subs (made c.rule-item.result)) c.loop-rule.invariant.all
          ∙ sym (added-more made c.args.subs.now.items c.args.rules.now c.loop-rule.rule-index c.rule-item.result c.loop-rule-test.true c.rule-item.is);
      front = front-of-front c.args.subs.now.items c.loop-rule.subs.items c.push_by_rule.new.subs.items c.loop-rule.invariant.front c.push_by_rule.ensures.front;
    }
