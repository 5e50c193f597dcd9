use Rattle.subscription_table.proofs.Prelude.{retry, ◌≡◌, refl}
use Rattle.subscription_table.specs.Standing.{kept_of}
use Rattle.subscription_table.proofs.StateLemmas.{current-either, fits-retried, kept-retried}
use Rattle.subscription_table.proofs.TableLemmas.{Fits, kept}
use Rattle.subscription_table.proofs.table.SubscriptionTable.retry.Goals as goal

pub invariant_of-self : goal.invariant_of-self
invariant_of-self c =
    let was = c.index_mut.result.now in
    kept c.self.invariant c.self.view_is c.args.number c.requires
    was c.retry.new.state c.index_mut.ensures.value
    (λ seen stands. current-either c.args.agent.now c.args.generation was (retry was) (Fits was) stands (fits-retried was stands) c.retry.new.state c.retry.result c.retry.ensures)
    (current-either c.args.agent.now c.args.generation was (retry was) (λ new. kept_of new ≡ kept_of was) refl (kept-retried was) c.retry.new.state c.retry.result c.retry.ensures)
