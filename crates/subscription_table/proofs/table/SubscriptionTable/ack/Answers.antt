use Rattle.subscription_table.proofs.Prelude.{SubState, ack, ◌<◌, length, sym, subst, All}
use Rattle.subscription_table.proofs.StateLemmas.{current-either, fits-acked}
use Rattle.subscription_table.proofs.TableLemmas.{Fits, now-fits, refreshed}
use Rattle.subscription_table.proofs.table.SubscriptionTable.ack.Goals as goal

pub refresh-requires-clause-below : goal.refresh-requires-clause-below
refresh-requires-clause-below c =
    let was = c.index_mut-state.result.now in
    (now-fits c.self.invariant c.self.view_is c.args.number c.requires.within was c.ack.new.state c.index_mut-state.ensures.value (λ seen stands.
    let handled = subst (λ (s : SubState). All (λ position. position < length c.args.queue.now.events) s.handled) (sym seen) c.requires.handled in
    current-either c.args.agent.now c.args.generation was (ack was c.args.queue.now c.args.token.now) (Fits was) stands (fits-acked was stands c.args.queue.now c.args.token.now handled c.requires.few) c.ack.new.state c.ack.result c.ack.ensures)).resume

pub invariant_of-self-in-Acked : goal.invariant_of-self-in-Acked
invariant_of-self-in-Acked c =
    let was = c.index_mut-state.result.now in
    refreshed c.self.invariant c.self.view_is c.args.number c.requires.within was c.ack.new.state c.index_mut-state.ensures.value (λ seen stands.
    let handled = subst (λ (s : SubState). All (λ position. position < length c.args.queue.now.events) s.handled) (sym seen) c.requires.handled in
    current-either c.args.agent.now c.args.generation was (ack was c.args.queue.now c.args.token.now) (Fits was) stands (fits-acked was stands c.args.queue.now c.args.token.now handled c.requires.few) c.ack.new.state c.ack.result c.ack.ensures)
    c.refresh.ensures
