use Rattle.pubsub_registry.proofs.Prelude.{◌≡◌, ◌∙◌, false, sym, subst, arith, Implicit}
use Rattle.pubsub_registry.specs.Registry.{PlainRegistry, is_full}
use Rattle.pubsub_registry.proofs.SoundLemmas.{sound-push}
use Rattle.pubsub_registry.proofs.registry.Registry.add_implied.Goals as goal

pub invariant_of-self-2 : goal.invariant_of-self-2
invariant_of-self-2 c =
    let room = subst (λ (r : PlainRegistry). is_full r ≡ false) (sym c.self.view_is) (sym c.is_full.ensures ∙ c.if-is_full.false) in
    sound-push _ c.self.invariant room c.push.new.self c.self.inside.explicit (Implicit c.args.kind c.args.stream) _ c.in_ok-push.ensures.ok (omega arith)
    (λ number is. absurd (cc))
