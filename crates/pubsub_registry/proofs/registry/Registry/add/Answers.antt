use Rattle.pubsub_registry.proofs.Prelude.{◌≡◌, ◌∙◌, Some, sym, subst, arith, Explicit}
use Rattle.pubsub_registry.specs.Registry.{PlainRegistry, next_number, registered}
use Rattle.pubsub_registry.proofs.SoundLemmas.{given-number, sound-push}
use Rattle.pubsub_registry.proofs.registry.Registry.add.Goals as goal

pub invariant_of-self-2 : goal.invariant_of-self-2
invariant_of-self-2 c =
    let r : PlainRegistry = record { names = c.self.inside.subscriptions; explicit = c.self.inside.explicit; rules = c.self.inside.rules; most_names = c.self.inside.most_names; most_rules = c.self.inside.most_rules } in
    let given = given-number r c.in-Some.number (subst (λ (r : PlainRegistry). next_number r ≡ Some c.in-Some.number) (sym c.self.view_is) (sym c.next_number.ensures.number ∙ c.in-Some.is)) in
    sound-push r c.self.invariant given.0 c.push.new.self c.in-Some.number (Explicit c.in-Some.number) (registered c.args.stream c.args.grain c.args.start) c.in_ok-push.ensures.ok (omega (arith, given.1))
    (λ number is. let same : c.in-Some.number ≡ number = cc in omega (arith, same))
