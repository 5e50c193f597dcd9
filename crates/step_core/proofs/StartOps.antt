-- Where a subscription starts, by what the parts tell.
use Rattle.step_core.proofs.Prelude.{lower_in, PlainCache, high, ◌≡◌, ◌∙◌, ap, sym, ℕ, Bool, true, false, batch_token, token_lt, GrainId, StreamId, Token, high_token, low_token, subscribe_at, Reply, PlainPartition}
use Rattle.stream_model.specs.declared.op.Start.{Start}
use Rattle.stream_model.specs.declared.op.Start.TheVariants.{Latest, At}
use Rattle.stream_model.specs.declared.reply.Reply.TheVariants as reply
use Rattle.stream_model.specs.Publishing.{subscribe}
use Rattle.stream_model.proofs.PublishingSteps.{subscribe-at, subscribe-latest, subscribe-miss}
use Rattle.step_core.specs.Assembly.{HasEvents}
use Rattle.step_core.specs.PlainOf.{plain_of}
use Rattle.step_core.specs.declared.parts.Parts.{Parts}
use Rattle.step_core.proofs.DeliverOps.{lower-is}

module _ (parts : Parts) (stream : StreamId) (grain : GrainId) (start : Start) where
  -- behind all events
  pub starts-latest : (seq position : ℕ) (cache : PlainCache) → start ≡ Latest → seq ≡ parts.queue.batches → cache ≡ parts.agent.cache → position ≡ high cache
      → subscribe_at (plain_of parts) stream grain (batch_token seq) position ≡ subscribe (plain_of parts) stream grain start
  starts-latest seq position cache is is_seq is_cache is_high =
      ap (subscribe_at (plain_of parts) stream grain (batch_token seq)) (is_high ∙ ap high is_cache)
      ∙ subscribe-latest (plain_of parts) stream grain start (batch_token seq) is (ap batch_token is_seq)

  -- with a token that the cache may have
  pub starts-at : (token low : Token) (is_before : Bool) (position : ℕ) (cache : PlainCache) → HasEvents parts → start ≡ At token → low ≡ low_token (plain_of parts) → is_before ≡ token_lt token low → is_before ≡ false
      → cache ≡ parts.agent.cache → position ≡ lower_in cache token
      → subscribe_at (plain_of parts) stream grain token position ≡ subscribe (plain_of parts) stream grain start
  starts-at token low is_before position cache has is is_low tested there is_cache is_lower =
      subscribe-at (plain_of parts) stream grain start token position is
      (ap (token_lt token) (sym is_low) ∙ sym tested ∙ there)
      (is_lower ∙ ap (λ (c : PlainCache). lower_in c token) is_cache ∙ sym (lower-is parts token has))

  -- with a token that the cache no longer has
  pub starts-below : (token low top : Token) (is_before : Bool) → start ≡ At token → low ≡ low_token (plain_of parts) → top ≡ high_token (plain_of parts) → is_before ≡ token_lt token low → is_before ≡ true
      → (plain_of parts, reply.Miss token low top) ≡ subscribe (plain_of parts) stream grain start
  starts-below token low top is_before is is_low is_top tested below =
      ap {B = PlainPartition × Reply} (λ l. (plain_of parts, reply.Miss token l top)) is_low
      ∙ ap {B = PlainPartition × Reply} (λ t. (plain_of parts, reply.Miss token (low_token (plain_of parts)) t)) is_top
      ∙ sym (subscribe-miss (plain_of parts) stream grain start token is (ap (token_lt token) (sym is_low) ∙ sym tested ∙ below))
