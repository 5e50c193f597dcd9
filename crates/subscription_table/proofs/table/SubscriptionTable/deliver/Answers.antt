use Rattle.subscription_table.proofs.Prelude.{next_event, sym, ap, subst}
use Rattle.pulling_agent.proofs.CurrentLemmas.{done-current}
use Rattle.subscription_table.proofs.StateLemmas.{current-either, fits-sought, same-sought}
use Rattle.subscription_table.specs.Standing.{kept_of}
use Rattle.subscription_table.proofs.TableLemmas.{Fits, kept, refreshed}
use Rattle.subscription_table.proofs.table.SubscriptionTable.deliver.Goals as goal

pub invariant_of-self-in-Nothing : goal.invariant_of-self-in-Nothing
invariant_of-self-in-Nothing c =
    let was = c.index_mut-state.result.now in
    let cache = c.args.agent.now.cache in
    let stream = c.stream-stream.result.now in
    refreshed c.self.invariant c.self.view_is c.args.number c.requires.within was c.deliver.new.state c.index_mut-state.ensures.value
    (λ seen stands. current-either c.args.agent.now c.args.generation was (next_event cache was stream c.args.outstanding) (Fits was) stands (fits-sought was stands cache stream c.args.outstanding c.requires.high) c.deliver.new.state c.deliver.result c.deliver.ensures.sought)
    c.refresh.ensures

pub invariant_of-self-in_default : goal.invariant_of-self-in_default
invariant_of-self-in_default c =
    let was = c.index_mut-state.result.now in
    let cache = c.args.agent.now.cache in
    let stream = c.stream-stream.result.now in
    let done = done-current c.args.agent.now c.args.generation was (next_event cache was stream c.args.outstanding) c.deliver.new.state c.in_ok-sought.sought c.in_ok-sought.ensures.sought in
    let same = same-sought cache was c.deliver.new.state stream c.args.outstanding c.in_ok-sought.sought c.in_default.not-Nothing done.is in
    kept c.self.invariant c.self.view_is c.args.number c.requires.within was c.deliver.new.state c.index_mut-state.ensures.value
    (λ seen stands. subst (Fits was) (sym same) stands) (ap kept_of same)
