use Rattle.pulling_agent.proofs.BlockLemmas.{no_blocks, one_left, one_gone}
use Rattle.pulling_agent.proofs.agent.drop_blocks.Goals as goal

pub loop-init : goal.loop-init
loop-init c = no_blocks c.args.cache.now

pub drop_front-requires : goal.drop_front-requires
drop_front-requires c = one_left c.loop.counter c.args.blocks c.loop.cache c.args.cache.now c.loop.invariant c.loop-test.true c.requires

pub loop-preserved : goal.loop-preserved
loop-preserved c = one_gone c.loop.counter c.drop_front.new.self c.loop.cache c.args.cache.now c.drop_front.ensures c.loop.invariant
