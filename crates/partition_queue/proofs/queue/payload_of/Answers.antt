use Rattle.partition_queue.proofs.Prelude.{◌∙◌, ap, refl, sym, subst}
use Rattle.std.specs.Result.{IsOk}
use Rattle.stream_ident.specs.Name.{payload_or}
use Rattle.stream_ident.proofs.NameLemmas.{wrong_in_payload-none}
use Rattle.partition_queue.proofs.queue.payload_of.Goals as goal

pub unwrap-requires : goal.unwrap-requires
unwrap-requires c = subst IsOk (sym (c.new.ensures ∙ ap (payload_or c.args.bytes.now) (wrong_in_payload-none c.args.bytes.now c.requires))) refl
