use Rattle.pulling_agent.proofs.Prelude.{◌<◌, length, arith}
use Rattle.std.proofs.lemmas.List.Elements.{recursion_from_All}
use Rattle.stream_ident.proofs.WordLemmas.{past_from-within}
use Rattle.pulling_agent.proofs.subscriptions.ack.Goals as goal

pub prove-unreachable-requires : goal.prove-unreachable-requires
prove-unreachable-requires c =
    let size = length c.args.queue.now.events in
    let handled = c.args.state.now.handled in
    let within = past_from-within 0 size handled (omega arith) (recursion_from_All (λ position. position < size) handled c.requires) in
    omega (arith, within, c.past.ensures, c.if-prove.true, c.len.ensures.count)
