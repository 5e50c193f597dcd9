-- What an agent's purge leaves and answers, case by case.
use Rattle.partition_reference.proofs.Prelude.{◌≡◌, ℕ, ◌+◌, ◌*◌, false, sym, ap, ◌∙◌, if◌then◌else◌, BLOCK_EVENTS, Token, token_at, is_stale, purges, Reply, PlainPartition}
use Rattle.stream_model.specs.declared.reply.Reply.TheVariants as reply
use Rattle.stream_model.specs.Pulling.{purge, purge_to}

pub purge-done : (p : PlainPartition) (generation keep blocks : ℕ) (token : Token) → is_stale p generation ≡ false → blocks ≡ purges p keep → token ≡ token_at p (p.low + BLOCK_EVENTS * blocks) → (record p { low = p.low + BLOCK_EVENTS * blocks }, reply.Purged token) ≡ purge p generation keep
unfolding purge purge_to
purge-done p generation keep blocks token current is_blocks is_token =
    ap {B = PlainPartition × Reply} (λ token. (record p { low = p.low + BLOCK_EVENTS * blocks }, reply.Purged token)) is_token
    ∙ (ap (λ blocks. purge_to p (p.low + BLOCK_EVENTS * blocks)) is_blocks
    ∙ sym (ap {B = PlainPartition × Reply} (λ b. if b then (p, reply.StaleAgent p.generation) else purge_to p (p.low + BLOCK_EVENTS * purges p keep)) current))
