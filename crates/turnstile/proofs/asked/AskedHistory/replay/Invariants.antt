use Rattle.turnstile.specs.Recorded.{recorded}
use Rattle.turnstile.proofs.Answering.{Again}
use Rattle.turnstile.proofs.asked.AskedHistory.replay.Given as goal

-- the calls so far were done again
abbrev pub invariant-loop-asked : goal.invariant-loop-asked
invariant-loop-asked g l = Again g.T.Replays.replied g.T.Replays.after (g.T.Replays.state_of l.fn.object) l.self.asked.items (recorded l.self.replies) l.asked-index l.replies.items (g.T.Replays.state_of l.object)
