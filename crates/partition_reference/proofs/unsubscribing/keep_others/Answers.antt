use Rattle.partition_reference.proofs.Prelude.{rules}
use Rattle.std.proofs.lemmas.Fn.{filter_same}
use Rattle.partition_reference.proofs.unsubscribing.keep_others.Goals as goal

pub returns : goal.returns
returns c = filter_same _ _ _ (λ x b f' k. search rules) _ _ c.retain.ensures.filtered
