-- A grain leaves memory, done by the parts.
use Rattle.step_core.proofs.Prelude.{PlainActivation, deactivated, lost, activation_at, no_grain, AreDistinct, PlainGrains, number_of, ◌≡◌, ◌∙◌, ap, sym, subst, refl, ℕ, ◌<◌, true, not, length, Some, arith, AllByRecursion, if◌then◌else◌, change_at, GrainId, Reply, PlainPartition, PlainTable, AreRewound}
use Rattle.stream_model.specs.declared.reply.Reply.TheVariants as reply
use Rattle.stream_model.specs.Turns as plain
use Rattle.step_core.specs.Assembly.{IsAssembled}
use Rattle.step_core.specs.Known.{AreKnown}
use Rattle.step_core.specs.Numbers.{IsBelow}
use Rattle.step_core.specs.declared.parts.Parts.{Parts}
use Rattle.step_core.specs.PlainOf.{plain_of}
use Rattle.step_core.proofs.CommitOps.{both-known, with_both}
use Rattle.step_core.proofs.DeactivateOps.{deactivate-parts}
use Rattle.step_core.proofs.KnownOps.{known-grain}
use Rattle.step_core.proofs.KnownTurns.{known-deactivated, rewound-is}
use Rattle.step_core.proofs.NumberedOps.{All-change_at, change_at-by}

-- ---- what the parts do and reply

abbrev out_of : Parts → PlainTable → PlainGrains → ℕ → PlainPartition × Reply
out_of parts subs grains count = (plain_of (with_both parts subs grains), reply.Deactivated count)

pub deactivate-told : (parts : Parts) (g : GrainId) (i : ℕ) (subs : PlainTable) (grains : PlainGrains) (count : ℕ)
    → length parts.subs.registry.names ≡ length parts.subs.states → IsAssembled parts → AreDistinct parts.grains → number_of parts.grains g ≡ Some i → (activation_at parts.grains i).active ≡ true
    → AreRewound (activation_at parts.grains i).subs parts.subs subs → grains ≡ change_at deactivated i parts.grains → count ≡ lost (activation_at parts.grains i)
    → (plain_of (with_both parts subs grains), reply.Deactivated count) ≡ plain.deactivate (plain_of parts) g
deactivate-told parts g i subs grains count lengths assembled distinct found active rewound is_grains is_count =
    let after : PlainTable = record parts.subs { states = subs.states } in
    let done = out_of parts after (change_at (λ _. deactivated (activation_at parts.grains i)) i parts.grains) (lost (activation_at parts.grains i)) in
    sym (
    deactivate-parts parts g i no_grain subs.states lengths (omega (arith, rewound.long)) found (rewound-is parts g i subs (sym lengths) assembled.known distinct found rewound)
    ∙ ap (λ b. if not b then (plain_of parts, reply.NotActive) else done) active
    ∙ ap (λ grains. out_of parts after grains (lost (activation_at parts.grains i))) (sym (is_grains ∙ change_at-by deactivated i parts.grains no_grain))
    ∙ ap (out_of parts after grains) (sym is_count)
    ∙ ap (λ registry. out_of parts (record subs { registry = registry }) grains count) (sym rewound.names)
    )

-- ---- the parts stay assembled

deactivated-below : (n : ℕ) (a : PlainActivation) → IsBelow n a → IsBelow n (deactivated a)
deactivated-below n a below = record { waiting = tt; running = tt; subs = below.subs }

-- the grain holds nothing then, and knows the same
deactivated-known : (parts : Parts) (i : ℕ) (subs : PlainTable) → length parts.subs.registry.names ≡ length parts.subs.states → IsAssembled parts → i < length parts.grains → AreRewound (activation_at parts.grains i).subs parts.subs subs
    → AreKnown parts.subs.registry.names subs.states (change_at deactivated i parts.grains)
deactivated-known parts i subs lengths assembled within rewound =
    known-grain parts.subs.registry.names subs.states parts.grains i deactivated
    (known-deactivated (activation_at parts.grains i).subs parts.subs subs parts.grains (sym lengths) assembled.known rewound) within refl (λ n none. refl)

pub deactivate-assembled : (parts : Parts) (i : ℕ) (subs : PlainTable) (grains : PlainGrains) → length parts.subs.registry.names ≡ length parts.subs.states → IsAssembled parts → i < length parts.grains → AreRewound (activation_at parts.grains i).subs parts.subs subs
    → grains ≡ change_at deactivated i parts.grains → IsAssembled (with_both parts subs grains)
deactivate-assembled parts i subs grains lengths assembled within rewound is_grains =
    both-known parts subs grains assembled rewound.names
    (subst (λ (grains : PlainGrains). AllByRecursion (λ entry. IsBelow (length parts.subs.registry.names) entry.1) grains) (sym is_grains)
    (All-change_at (IsBelow (length parts.subs.registry.names)) deactivated i parts.grains (deactivated-below (length parts.subs.registry.names)) assembled.numbered))
    (subst (AreKnown parts.subs.registry.names subs.states) (sym is_grains) (deactivated-known parts i subs lengths assembled within rewound))
