use Rattle.subscription_table.proofs.Prelude.{advanced, committed, SubState, ◌≡◌, ◌∙◌, ℕ, List, [], ◌∷◌, ap}
use Rattle.subscription_table.proofs.LookLemmas.{leaf-within}
use Rattle.subscription_table.proofs.StateLemmas.{fits-handled_once}
use Rattle.subscription_table.proofs.TableLemmas.{now-fits, refreshed}
use Rattle.subscription_table.proofs.table.SubscriptionTable.handle.Goals as goal

-- what the handled event leaves of the state
after : (s committed_to handled : SubState) (positions : List ℕ) (position note : ℕ) → positions ≡ position ∷ [] → committed_to ≡ committed positions note s → handled ≡ advanced position committed_to
    → handled ≡ advanced position (committed (position ∷ []) note s)
after s committed_to handled positions position note of first second = second ∙ ap (advanced position) (first ∙ ap (λ (positions : List ℕ). committed positions note s) of)

pub refresh-requires-clause-within : goal.refresh-requires-clause-within
refresh-requires-clause-within c = leaf-within c.self.invariant c.self.view_is c.args.number c.requires.within

pub refresh-requires-clause-below : goal.refresh-requires-clause-below
refresh-requires-clause-below c =
    let was = c.index_mut-state.result.now in
    (now-fits c.self.invariant c.self.view_is c.args.number c.requires.within was c.next_event-sought.new.state c.index_mut-state.ensures.value
    (λ seen stands. fits-handled_once was c.advance.new.self c.next_event-sought.new.state stands c.args.position c.args.note c.requires.room c.args.cache.now c.stream-stream.result.now c.next_event-sought.result c.requires.high
    (after was c.commit.new.self c.advance.new.self c.of.result c.args.position c.args.note c.of.ensures c.in_ok-commit.ensures c.advance.ensures) c.next_event-sought.ensures.sought)).resume

pub invariant_of-self-2 : goal.invariant_of-self-2
invariant_of-self-2 c =
    let was = c.index_mut-state.result.now in
    refreshed c.self.invariant c.self.view_is c.args.number c.requires.within was c.next_event-sought.new.state c.index_mut-state.ensures.value
    (λ seen stands. fits-handled_once was c.advance.new.self c.next_event-sought.new.state stands c.args.position c.args.note c.requires.room c.args.cache.now c.stream-stream.result.now c.next_event-sought.result c.requires.high
    (after was c.commit.new.self c.advance.new.self c.of.result c.args.position c.args.note c.of.ensures c.in_ok-commit.ensures c.advance.ensures) c.next_event-sought.ensures.sought)
    c.refresh.ensures
