-- What is asked without changing anything keeps what holds.
use Rattle.stream_laws.proofs.Prelude.{Option, Some, None, GrainId, SubName, due_reply, pending_in, quiet_reply, ready_reply, Ready, Due, Quiet, PlainPartition, Pending}
use Rattle.stream_model.specs.Looks.{due, quiet, ready}
use Rattle.stream_laws.proofs.Invariant.{Fits, Kept}
use Rattle.stream_laws.proofs.Summary.{Summary}

module _ (t : Summary) (p : PlainPartition) (fits : Fits t p) where
  kept-ready_reply : (after o : Option GrainId) → Kept t (Ready after) (p, ready_reply o)
  kept-ready_reply after None = (fits, tt)
  kept-ready_reply after (Some g) = (fits, tt)

  pub kept-ready : (after : Option GrainId) → Kept t (Ready after) (p, ready p after)
  unfolding ready
  kept-ready after = kept-ready_reply after _

  kept-due_reply : (after o : Option SubName) → Kept t (Due after) (p, due_reply p o)
  kept-due_reply after None = (fits, tt)
  kept-due_reply after (Some s) = (fits, tt)

  pub kept-due : (after : Option SubName) → Kept t (Due after) (p, due p after)
  unfolding due
  kept-due after = kept-due_reply after _

  kept-quiet_reply : (o : Option Pending) → Kept t Quiet (p, quiet_reply o)
  kept-quiet_reply None = (fits, tt)
  kept-quiet_reply (Some why) = (fits, tt)

  pub kept-quiet : Kept t Quiet (p, quiet p)
  unfolding quiet
  kept-quiet = kept-quiet_reply (pending_in p)
