-- Several operations one after another.
use Rattle.std.specs.Prelude.{◌≡◌, ◌⊎◌, true, List, [], ◌∷◌, ◌++◌}
use Rattle.stream_model.specs.declared.op.Op.{Op}
use Rattle.stream_model.specs.declared.plain.PlainPartition.{PlainPartition}
use Rattle.stream_model.specs.Replies.{Reply}
use Rattle.stream_model.specs.Memory.{may_allocate}
use Rattle.stream_model.specs.Step.{after_steps, replies_of}

-- operations were done in order and their replies appended
pub record Does (ops : List Op) (old new : PlainPartition) (before after : List Reply) : Type 0 where
  pub state : new ≡ after_steps old ops
  pub replies : after ≡ before ++ replies_of old ops

-- Only the first operations were done. The call failed to allocate for the next one, which may take memory,
-- or, where none was done, for the room of all replies.
pub record StopsBefore (ops : List Op) (old new : PlainPartition) (before after : List Reply) : Type 0 where
  pub done : List Op
  pub next : Op
  pub rest : List Op
  pub ops_are : ops ≡ done ++ next ∷ rest
  pub does : Does done old new before after
  pub wants : (done ≡ []) ⊎ (may_allocate new next ≡ true)
