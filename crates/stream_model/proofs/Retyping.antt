-- Replies whose turns have something else of the events.
use Rattle.stream_model.proofs.Prelude.{◌≡◌, refl}
use Rattle.stream_model.specs.declared.reply.Reply as declared
use Rattle.stream_model.specs.declared.reply.Reply.TheVariants as reply
use Rattle.stream_model.specs.Replies.{with_events, IsNoTurn}

pub with-same : {E : Type 0} (r : declared.Reply E) → with_events (λ events. events) r ≡ r
with-same (reply.Turn sub activation turn events note) = refl
with-same _ = refl

-- what is shown of a turn's events is nothing to a reply that is no turn
pub with-any : {E F : Type 0} (f g : E → F) (r : declared.Reply E) → IsNoTurn r → with_events f r ≡ with_events g r
with-any f g (reply.Turn sub activation turn events note) it = absurd it
with-any f g _ it = refl
