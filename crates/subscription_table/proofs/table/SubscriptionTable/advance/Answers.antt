use Rattle.subscription_table.proofs.Prelude.{sym, ap, subst}
use Rattle.subscription_table.specs.Standing.{kept_of}
use Rattle.subscription_table.proofs.StateLemmas.{fits-advanced}
use Rattle.subscription_table.proofs.TableLemmas.{Fits, kept}
use Rattle.subscription_table.proofs.table.SubscriptionTable.advance.Goals as goal

pub invariant_of-self : goal.invariant_of-self
invariant_of-self c =
    let told = c.advance.ensures in
    kept c.self.invariant c.self.view_is c.args.number c.requires.within
    c.index_mut.result.now c.advance.new.self c.index_mut.ensures.value
    (λ seen stands. subst (Fits c.index_mut.result.now) (sym told) (fits-advanced _ stands c.args.position c.requires.room))
    (ap kept_of c.advance.ensures)
