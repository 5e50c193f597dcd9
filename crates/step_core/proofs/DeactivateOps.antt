-- A grain leaves memory, done by the parts.
use Rattle.step_core.proofs.Prelude.{PlainActivation, deactivated, lost, running_count, RunningTurn, SubState, Registration, ◌≡◌, ◌∙◌, ap, ap₂, refl, ℕ, ◌+◌, ◌<◌, false, ◌&&◌, not, List, [], length, map, get_or, Option, Some, None, length-map, option_map, if◌then◌else◌, same_grain, each_value, place_of, GrainId, SubName, with_grain, rewound_where, Reply, PlainPartition}
use Rattle.stream_model.specs.declared.reply.Reply.TheVariants as reply
use Rattle.stream_model.specs.Turns as plain
use Rattle.step_core.specs.declared.parts.Parts.{Parts}
use Rattle.step_core.specs.PlainOf.{plain_of}
use Rattle.step_core.specs.View.{delivery_of, grain_of, sub_of, turn_of}
use Rattle.step_core.proofs.GrainOps.{activation_at, grain-found, grain-set}
use Rattle.step_core.proofs.RecordOps.{record_at}
use Rattle.step_core.proofs.TurnOps.{with_activation}
use Rattle.step_core.proofs.ViewLemmas.{records-changed}

-- these states are the old ones, with the cursors of the grain's open records back at their resumes
abbrev pub AreRewound : GrainId → Parts → List SubState → Type 0
AreRewound g parts new =
    (i : ℕ) (d : SubName × Registration) (e : SubState) → i < length parts.subs.registry.names
    → (sub_of (get_or parts.subs.registry.names i d) (get_or new i e)).1 ≡ rewound_where (plain.is_open_of g (record_at parts i d e)) (record_at parts i d e)

count-same : (parts : Parts) (running : Option RunningTurn) → plain.running_count (option_map (turn_of parts.subs.registry.names) running) ≡ running_count running
count-same parts None = refl
count-same parts (Some run) = refl

pub deactivate-parts : (parts : Parts) (g : GrainId) (i : ℕ) (d : GrainId × PlainActivation) (new : List SubState)
    → length parts.subs.registry.names ≡ length parts.subs.states → length new ≡ length parts.subs.states → place_of same_grain g parts.grains ≡ Some i → AreRewound g parts new
    → plain.deactivate (plain_of parts) g
    ≡ (if not (activation_at parts i d).active then (plain_of parts, reply.NotActive)
    else (plain_of (record (with_activation parts i (deactivated (activation_at parts i d))) { subs = record parts.subs { states = new } }), reply.Deactivated (lost (activation_at parts i d))))
unfolding plain.deactivate plain.deactivate_in
deactivate-parts parts g i d new lengths as_long found rewinds =
    rw (grain-found parts g i d found) (ap₂ answer state counts)
  where
    a : PlainActivation
    a = activation_at parts i d

    grains : with_grain (plain_of parts) g (record (grain_of parts.subs.registry.names a) { active = false; mailbox = []; running = None }) ≡ plain_of (with_activation parts i (deactivated a))
    grains = grain-set parts g i d (λ _. deactivated a) (λ st. record st { active = false; mailbox = []; running = None }) found refl

    state : plain.deactivated (plain_of parts) g (grain_of parts.subs.registry.names a) ≡ plain_of (record (with_activation parts i (deactivated a)) { subs = record parts.subs { states = new } })
    state =
        ap (λ (p : PlainPartition). record p { subs = each_value (λ r. rewound_where (same_grain g r.grain && r.is_open) r) (plain_of parts).subs }) grains
        ∙ ap (λ subs. record (plain_of (with_activation parts i (deactivated a))) { subs = subs }) (records-changed (λ r. rewound_where (plain.is_open_of g r) r) parts.subs.registry.names parts.subs.states new lengths as_long rewinds)

    counts : length (map (delivery_of parts.subs.registry.names) a.mailbox) + plain.running_count (option_map (turn_of parts.subs.registry.names) a.running) ≡ lost a
    counts =
        ap (λ n. n + plain.running_count (option_map (turn_of parts.subs.registry.names) a.running)) (length-map a.mailbox (delivery_of parts.subs.registry.names))
        ∙ ap (λ n. length a.mailbox + n) (count-same parts a.running)

    answer : PlainPartition → ℕ → PlainPartition × Reply
    answer left count = if not a.active then (plain_of parts, reply.NotActive) else (left, reply.Deactivated count)
