use Rattle.subscription_table.proofs.Prelude.{sym, subst}
use Rattle.subscription_table.proofs.LookLemmas.{leaf-within}
use Rattle.subscription_table.proofs.StateLemmas.{fits-committed}
use Rattle.subscription_table.proofs.TableLemmas.{Fits, now-fits, refreshed}
use Rattle.subscription_table.proofs.table.SubscriptionTable.commit.Goals as goal

pub refresh-requires-clause-within : goal.refresh-requires-clause-within
refresh-requires-clause-within c = leaf-within c.self.invariant c.self.view_is c.args.number c.requires.within

pub refresh-requires-clause-below : goal.refresh-requires-clause-below
refresh-requires-clause-below c =
    let was = c.index_mut-state.result.now in
    (now-fits c.self.invariant c.self.view_is c.args.number c.requires.within was c.commit.new.self c.index_mut-state.ensures.value
    (λ seen stands. subst (Fits was) (sym c.in_ok-commit.ensures) (fits-committed was stands c.args.positions.now c.args.note))).resume

pub invariant_of-self-2 : goal.invariant_of-self-2
invariant_of-self-2 c =
    let was = c.index_mut-state.result.now in
    refreshed c.self.invariant c.self.view_is c.args.number c.requires.within was c.commit.new.self c.index_mut-state.ensures.value
    (λ seen stands. subst (Fits was) (sym c.in_ok-commit.ensures) (fits-committed was stands c.args.positions.now c.args.note)) c.refresh.ensures
