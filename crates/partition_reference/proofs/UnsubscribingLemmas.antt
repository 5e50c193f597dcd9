-- What an unsubscribe leaves and answers, case by case.
use Rattle.partition_reference.proofs.Prelude.{◌≡◌, ℕ, true, false, not, List, Option, Some, length, sym, ap, ◌∙◌, same_grain, same_sub, changed_value, with_value, GrainId, SubName, sub_at, unsubscribed, without, Reply, Grain, PlainPartition, Subscription}
use Rattle.std.proofs.Common.{if◌then◌else◌}
use Rattle.stream_model.specs.declared.reply.Reply.TheVariants as reply
use Rattle.stream_model.specs.Publishing.{unsubscribe, unsubscribe_from}
use Rattle.stream_ident.specs.declared.ident.SubName.TheVariants.{Explicit}

-- the name's record decides
unsubscribe-at : (p : PlainPartition) (s : SubName) (found : Option Subscription) → sub_at p s ≡ found → unsubscribe p s ≡ unsubscribe_from p s found
unfolding unsubscribe
unsubscribe-at p s found is_found = ap (unsubscribe_from p s) is_found

-- an explicit name that has a record
unsubscribe-explicit : (p : PlainPartition) (s : SubName) (n : ℕ) (r : Subscription) → s ≡ Explicit n → sub_at p s ≡ Some r → unsubscribe p s ≡ (if not r.is_open then (p, reply.Closed) else (unsubscribed p s r, reply.Unsubscribed (length r.handled)))
unfolding unsubscribe_from
unsubscribe-explicit p s n r is is_r =
    unsubscribe-at p s (Some r) is_r
    ∙ (ap (λ s. unsubscribe_from p s (Some r)) is
    ∙ ap {B = PlainPartition × Reply} (λ s. if not r.is_open then (p, reply.Closed) else (unsubscribed p s r, reply.Unsubscribed (length r.handled))) (sym is))

pub unsubscribe-closed : (p : PlainPartition) (s : SubName) (n : ℕ) (r : Subscription) → s ≡ Explicit n → sub_at p s ≡ Some r → r.is_open ≡ false → (p, reply.Closed) ≡ unsubscribe p s
unsubscribe-closed p s n r is is_r closed =
    sym (unsubscribe-explicit p s n r is is_r
    ∙ ap {B = PlainPartition × Reply} (λ b. if not b then (p, reply.Closed) else (unsubscribed p s r, reply.Unsubscribed (length r.handled))) closed)

pub unsubscribe-done : (p : PlainPartition) (s : SubName) (n : ℕ) (r : Subscription) (subs : List (SubName × Subscription)) (grains : List (GrainId × Grain)) (handled : ℕ) → s ≡ Explicit n → sub_at p s ≡ Some r → r.is_open ≡ true → subs ≡ with_value same_sub s (record r { is_open = false }) p.subs → grains ≡ changed_value same_grain r.grain (without s) p.grains → handled ≡ length r.handled → (record p { subs = subs; grains = grains }, reply.Unsubscribed handled) ≡ unsubscribe p s
unsubscribe-done p s n r subs grains handled is is_r is_open is_subs is_grains is_handled =
    ap {B = PlainPartition × Reply} (λ (subs : List (SubName × Subscription)). (record p { subs = subs; grains = grains }, reply.Unsubscribed handled)) is_subs
    ∙ (ap {B = PlainPartition × Reply} (λ (grains : List (GrainId × Grain)). (record p { subs = with_value same_sub s (record r { is_open = false }) p.subs; grains = grains }, reply.Unsubscribed handled)) is_grains
    ∙ (ap {B = PlainPartition × Reply} (λ handled. (unsubscribed p s r, reply.Unsubscribed handled)) is_handled
    ∙ sym (unsubscribe-explicit p s n r is is_r
    ∙ ap {B = PlainPartition × Reply} (λ b. if not b then (p, reply.Closed) else (unsubscribed p s r, reply.Unsubscribed (length r.handled))) is_open)))
