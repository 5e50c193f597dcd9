use Rattle.partition_reference.proofs.Prelude.{sym, ◌∙◌, purge-stale}
use Rattle.partition_reference.proofs.PurgingLemmas.{purge-done}
use Rattle.partition_reference.proofs.purging.purge.Goals as goal

pub returns-then-is_stale : goal.returns-then-is_stale
returns-then-is_stale c = purge-stale c.args.p.now c.args.generation c.args.keep (sym c.is_stale.ensures ∙ c.if-is_stale.true)

pub returns : goal.returns
returns c =
    purge-done c.args.p.now c.args.generation c.args.keep c.purges.result c.token_at-token.result (sym c.is_stale.ensures ∙ c.if-is_stale.false) c.purges.ensures.purges c.token_at-token.ensures
