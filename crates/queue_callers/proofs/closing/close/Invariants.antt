use Rattle.queue_callers.specs.Closing.{IsClosing}
use Rattle.queue_callers.proofs.closing.close.Given as goal

abbrev pub invariant-loop-queue : goal.invariant-loop-queue
invariant-loop-queue g l = IsClosing g.H.StoredHistory.entries l.yielded l.closing
