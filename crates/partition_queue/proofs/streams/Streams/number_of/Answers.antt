use Rattle.partition_queue.proofs.Prelude.{sym}
use Rattle.std.proofs.lemmas.List.Quantifiers.{position-Some}
use Rattle.stream_ident.proofs.SameValues.{same_stream-equal}
use Rattle.stream_ident.specs.Name.{same_stream}
use Rattle.partition_queue.specs.Log.{no_stream}
use Rattle.partition_queue.proofs.streams.Streams.number_of.Goals as goal

pub returns-in-Some-clause-stored : goal.returns-in-Some-clause-stored
returns-in-Some-clause-stored c =
    let stream = c.args.stream.now in
    let found = position-Some (same_stream stream) c.self.inside.names.keys c.in-Some.number no_stream (sym c.in-Some.ensures.index) in
    rw (← c.self.view_is) (sym (same_stream-equal stream _ found.1))
