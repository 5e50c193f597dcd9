use Rattle.step_core.proofs.LogReads.{low-end}
use Rattle.step_core.proofs.reading.low_token.Goals as goal

pub token_at-requires : goal.token_at-requires
token_at-requires c =
    let end = low-end c.args.parts.now c.requires.reached in
    rw (c.low.ensures, c.cache.ensures) end
