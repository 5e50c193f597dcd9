use Rattle.pulling_agent.proofs.Prelude.{token_at, ◌≡◌, ◌+◌, ◌-◌, ◌/◌, ◌<◌, true, false, length, get_or, arith, token_lt}
use Rattle.pulling_agent.proofs.HandledLemmas.{less_below, others_above}
use Rattle.pulling_agent.proofs.subscriptions.lower_bound.Goals as goal

pub loop-low-preserved-then-is_before : goal.loop-low-preserved-then-is_before
loop-low-preserved-then-is_before c =
    let handled = c.args.handled.now in
    let queue = c.args.queue.now in
    let token = c.args.token.now in
    let middle = c.loop-low.low + (c.loop-low.high - c.loop-low.low) / 2 in
    let within : middle < length handled = omega (arith, c.loop-low.invariant.within, c.loop-low-test.true) in
    let less : token_lt (token_at queue (get_or handled middle 0)) token ≡ true = cc (c.token_at.ensures, c.is_before.ensures, c.if-is_before.true) in
    record {
      order = omega (arith, c.loop-low-test.true);
      within = c.loop-low.invariant.within;
      less = λ i below. less_below handled queue token middle i c.requires.rising c.requires.there c.requires.tokens within less below;
      others = c.loop-low.invariant.others;
    }

pub loop-low-preserved : goal.loop-low-preserved
loop-low-preserved c =
    let handled = c.args.handled.now in
    let queue = c.args.queue.now in
    let token = c.args.token.now in
    let middle = c.loop-low.low + (c.loop-low.high - c.loop-low.low) / 2 in
    let isnt : token_lt (token_at queue (get_or handled middle 0)) token ≡ false = cc (c.token_at.ensures, c.is_before.ensures, c.if-is_before.false) in
    record {
      order = omega arith;
      within = omega (arith, c.loop-low.invariant.within, c.loop-low-test.true);
      less = c.loop-low.invariant.less;
      others = λ i above within. others_above handled queue token middle i c.requires.rising c.requires.there c.requires.tokens isnt above within;
    }
