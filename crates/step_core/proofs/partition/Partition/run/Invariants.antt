use Rattle.step_core.proofs.Prelude.{◌≡◌, ◌++◌, ◌+◌, ◌≤◌, List, reverse, length, vec_len, vec_capacity, Op}
use Rattle.step_core.specs.Run.{Does}
use Rattle.step_core.proofs.partition.Partition.run.Given as goal

-- the operations so far are done, those that are left stand in reverse, and there is room for their replies
abbrev pub invariant-loop-op : goal.invariant-loop-op
invariant-loop-op l =
    ((done : List Op) × (l.fn.ops.items ≡ done ++ reverse l.ops.items) × Does done l.fn.self l.self l.fn.replies.items l.replies.items)
    × (length l.replies.items + vec_len l.ops ≤ vec_capacity l.replies)

abbrev pub decreases-loop-op : goal.decreases-loop-op
decreases-loop-op l = vec_len l.ops
