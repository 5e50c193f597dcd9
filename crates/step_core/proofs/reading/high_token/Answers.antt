use Rattle.step_core.proofs.LogReads.{high-end}
use Rattle.step_core.proofs.reading.high_token.Goals as goal

pub token_at-requires : goal.token_at-requires
token_at-requires c =
    let end = high-end c.args.parts.now c.requires.reached in
    rw (c.high.ensures, c.cache.ensures) end
