use Rattle.pubsub_registry.proofs.Prelude.{◌≡◌, ◌∙◌, ◌≤◌, [], length, sym, ap, subst, arith, rules, nil_from_length}
use Rattle.pubsub_registry.specs.Registry.{PlainRegistry}
use Rattle.pubsub_registry.proofs.ImpliedLists.{nothing-implied}
use Rattle.pubsub_registry.proofs.ImpliedSound.{sound-implied}
use Rattle.pubsub_registry.proofs.registry.Registry.imply.Goals as goal

pub returns-then-is_empty-clause-performs : goal.returns-then-is_empty-clause-performs
returns-then-is_empty-clause-performs c =
    let empty : length c.as_slice.result.now ≡ 0 = search (rules, arith) in
    let none : c.args.self.now.rules ≡ [] = sym (ap (λ (r : PlainRegistry). r.rules) c.self.view_is) ∙ (sym c.as_slice.ensures ∙ nil_from_length c.as_slice.result.now (omega (arith, empty))) in
    nothing-implied c.args.self.now c.args.events.now none (subst (λ (r : PlainRegistry). length r.names ≤ r.most_names) c.self.view_is c.self.invariant.names_fit)

pub invariant_of-self-2 : goal.invariant_of-self-2
invariant_of-self-2 c =
    let fits = c.has_room.ensures.0 c.if-not-has_room.false in
    sound-implied _ c.self.invariant c.args.events.now c.add_all.new.subscriptions c.in_ok-add_all.ensures.ok fits
