-- What a deactivation leaves and answers, case by case.
use Rattle.partition_reference.proofs.Prelude.{◌≡◌, ℕ, ◌+◌, ◌&&◌, true, false, not, List, [], None, length, sym, ap, ◌∙◌, same_grain, each_value, with_value, GrainId, SubName, grain_at, rewound_where, Reply, deactivated, running_count, Grain, PlainPartition, Subscription}
use Rattle.std.proofs.Common.{if◌then◌else◌}
use Rattle.stream_model.specs.declared.reply.Reply.TheVariants as reply
use Rattle.stream_model.specs.Turns.{deactivate, deactivate_in}

-- the grain's record decides
deactivate-at : (p : PlainPartition) (g : GrainId) (st : Grain) → grain_at p g ≡ st → deactivate p g ≡ (if not st.active then (p, reply.NotActive) else (deactivated p g st, reply.Deactivated (length st.mailbox + running_count st.running)))
unfolding deactivate deactivate_in
deactivate-at p g st is_st = ap (deactivate_in p g) is_st

pub deactivate-done : (p : PlainPartition) (g : GrainId) (st : Grain) (subs : List (SubName × Subscription)) (grains : List (GrainId × Grain)) (lost : ℕ) → grain_at p g ≡ st → st.active ≡ true → subs ≡ each_value (λ r. rewound_where (same_grain g r.grain && r.is_open) r) p.subs → grains ≡ with_value same_grain g (record st { active = false; mailbox = []; running = None }) p.grains → lost ≡ length st.mailbox + running_count st.running → (record p { subs = subs; grains = grains }, reply.Deactivated lost) ≡ deactivate p g
deactivate-done p g st subs grains lost is_st active is_subs is_grains is_lost =
    ap {B = PlainPartition × Reply} (λ (subs : List (SubName × Subscription)). (record p { subs = subs; grains = grains }, reply.Deactivated lost)) is_subs
    ∙ (ap {B = PlainPartition × Reply} (λ (grains : List (GrainId × Grain)). (record p { subs = each_value (λ r. rewound_where (same_grain g r.grain && r.is_open) r) p.subs; grains = grains }, reply.Deactivated lost)) is_grains
    ∙ (ap {B = PlainPartition × Reply} (λ lost. (deactivated p g st, reply.Deactivated lost)) is_lost
    ∙ sym (deactivate-at p g st is_st
    ∙ ap {B = PlainPartition × Reply} (λ b. if not b then (p, reply.NotActive) else (deactivated p g st, reply.Deactivated (length st.mailbox + running_count st.running))) active)))
