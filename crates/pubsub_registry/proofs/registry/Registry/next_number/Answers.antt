use Rattle.pubsub_registry.proofs.Prelude.{◌≡◌, ◌+◌, ◌^◌, ◌<◌, ℕ, Option, Some, None, SomeIff, subst, arith, Explicit}
use Rattle.std.proofs.Common.{IfSome}
use Rattle.pubsub_registry.specs.Registry.{PlainRegistry, registration_of}
use Rattle.pubsub_registry.specs.Sound.{IsSound}
use Rattle.pubsub_registry.proofs.SoundLemmas.{new-number}
use Rattle.pubsub_registry.proofs.registry.Registry.next_number.Goals as goal

-- one more than the last number is a new one
is-new : (r : PlainRegistry) (next : Option ℕ) → IsSound r → SomeIff next (r.explicit + 1 < 2 ^ 32) (r.explicit + 1) → IfSome next (λ number. registration_of r (Explicit number) ≡ None)
is-new r None sound more = tt
is-new r (Some number) sound more = new-number r sound number (let is = more.1 in omega (arith, is))

pub returns-clause-new : goal.returns-clause-new
returns-clause-new c =
    subst (λ (r : PlainRegistry). IfSome c.checked_add.result (λ number. registration_of r (Explicit number) ≡ None)) c.self.view_is
    (is-new _ c.checked_add.result c.self.invariant c.checked_add.ensures)
