-- Changes of records keep the limits.
use Rattle.stream_model.proofs.Prelude.{◌≡◌, ℕ, ◌-◌, ◌<◌, ◌≤◌, Bool, List, [], ◌∷◌, length, drop, Option, Some, None, unwrap_or, refl, arith, length-drop, cond_both, length-map, length-take, AllByRecursion, All-weaken, same_grain, same_sub, each_value, first_at, value_at, with_value, Event, GrainId, SubName}
use Rattle.stream_ident.proofs.FirstLemmas.{first_at-Some}
use Rattle.stream_model.specs.declared.plain.Delivery.{Delivery}
use Rattle.stream_model.specs.declared.plain.Grain.{Grain}
use Rattle.stream_model.specs.declared.plain.PlainPartition.{PlainPartition}
use Rattle.stream_model.specs.declared.plain.Subscription.{Subscription}
use Rattle.stream_model.specs.Replies.{Reply}
use Rattle.stream_model.specs.Bounds.{AreIn, IsGiven, IsWithinLimits, running_positions}
use Rattle.stream_model.specs.Positions.{between, grain_at, new_grain, sub_at, no_event}
use Rattle.stream_model.specs.Pulling.{rewound_where}
use Rattle.stream_model.proofs.Beginning.{All-value_at}
use Rattle.stream_model.proofs.EachValue.{All-each_value}
use Rattle.stream_model.proofs.SubNames.{AreGiven, length-with_value}

-- what an operation leaves is within the limits
abbrev pub KeepsLimits : PlainPartition × Reply → Type 0
KeepsLimits out = IsWithinLimits out.0

-- what holds where nothing was found, and where something was, holds of what was found
pub option_both : {A : Type 0} (found : Option A) (P : Option A → Type 0) → (found ≡ None → P None) → ((x : A) → found ≡ Some x → P (Some x)) → P found
option_both None P none some = none refl
option_both (Some x) P none some = some x refl

-- what the grains of a partition keep, with this many rises
abbrev pub GrainFits : List Event → ℕ → Grain → Type 0
GrainFits log rises st =
    (st.activation ≤ rises) × AllByRecursion (λ (d : Delivery). d.position < length log) st.mailbox × AreIn log (running_positions st.running)

abbrev pub GrainsFit : List Event → ℕ → List (GrainId × Grain) → Type 0
GrainsFit log rises grains = AllByRecursion (λ (entry : GrainId × Grain). GrainFits log rises entry.1) grains

-- three facts of each grain as one, and back
pub joined : (log : List Event) (rises : ℕ) (grains : List (GrainId × Grain))
    → AllByRecursion (λ (entry : GrainId × Grain). entry.1.activation ≤ rises) grains
    → AllByRecursion (λ (entry : GrainId × Grain). AllByRecursion (λ (d : Delivery). d.position < length log) entry.1.mailbox) grains
    → AllByRecursion (λ (entry : GrainId × Grain). AreIn log (running_positions entry.1.running)) grains
    → GrainsFit log rises grains
joined log rises [] a w r = tt
joined log rises (entry ∷ grains) a w r = ((a.0, w.0, r.0), joined log rises grains a.1 w.1 r.1)

parted : (log : List Event) (rises : ℕ) (grains : List (GrainId × Grain)) → GrainsFit log rises grains
    → AllByRecursion (λ (entry : GrainId × Grain). entry.1.activation ≤ rises) grains
    × AllByRecursion (λ (entry : GrainId × Grain). AllByRecursion (λ (d : Delivery). d.position < length log) entry.1.mailbox) grains
    × AllByRecursion (λ (entry : GrainId × Grain). AreIn log (running_positions entry.1.running)) grains
parted log rises grains fit = (
  All-weaken _ _ (λ (entry : GrainId × Grain) (fits : GrainFits log rises entry.1). fits.0) grains fit,
  All-weaken _ _ (λ (entry : GrainId × Grain) (fits : GrainFits log rises entry.1). fits.1) grains fit,
  All-weaken _ _ (λ (entry : GrainId × Grain) (fits : GrainFits log rises entry.1). fits.2) grains fit,
)

pub grains-fit : (p : PlainPartition) → IsWithinLimits p → GrainsFit p.log p.rises p.grains
grains-fit p within = joined p.log p.rises p.grains within.activations within.waiting within.running

-- a fact of the entries holds of them after a value is set
pub All-set : {K V : Type 0} (P : K × V → Type 0) (same : K → K → Bool) (key : K) (v : V) (entries : List (K × V)) → ((entry : K × V) → P entry → P (entry.0, v)) → (value_at same key entries ≡ None → P (key, v))
    → AllByRecursion P entries → AllByRecursion P (with_value same key v entries)
All-set P same key v [] each new all = (new refl, tt)
All-set P same key v (entry ∷ entries) each new all =
    cond_both (same key entry.0) _ _ (AllByRecursion P) (λ _. (each entry all.0, all.1))
    (λ apart. (all.0, All-set P same key v entries each (λ none. new (rw apart none)) all.1))

-- the grain that an operation names, one that was never active among them
pub grain-fits : (p : PlainPartition) (g : GrainId) → IsWithinLimits p → GrainFits p.log p.rises (grain_at p g)
grain-fits p g within =
    option_both (value_at same_grain g p.grains) (λ found. GrainFits p.log p.rises (unwrap_or found new_grain)) (λ _. (omega arith, tt, tt))
    (λ st found. All-value_at (GrainFits p.log p.rises) same_grain g st p.grains (grains-fit p within) found)

-- the records of a partition changed
pub changed : (p : PlainPartition) (subs : List (SubName × Subscription)) (grains : List (GrainId × Grain)) (rises turns : ℕ) → IsWithinLimits p
    → length subs ≡ length p.subs → AreGiven p.explicit subs → AllByRecursion (λ (entry : SubName × Subscription). AreIn p.log entry.1.handled) subs
    → p.rises ≤ rises → rises ≤ p.limits.rises → turns ≤ rises → GrainsFit p.log rises grains
    → IsWithinLimits (record p { subs = subs; grains = grains; rises = rises; turns = turns })
changed p subs grains rises turns within same_length names handled more left count fit =
    let fewer : length subs ≤ p.limits.subs = omega (arith, within.subs) in
    let numbered : p.explicit ≤ length subs = omega (arith, within.explicit) in
    let generation : p.generation ≤ rises = omega (arith, within.generation) in
    let parts = parted p.log rises grains fit in
    assumption

-- more rises
pub GrainsFit-more : (log : List Event) (old new : ℕ) (grains : List (GrainId × Grain)) → old ≤ new → GrainsFit log old grains → GrainsFit log new grains
GrainsFit-more log old new grains more fit =
    All-weaken _ _ (λ (entry : GrainId × Grain) (fits : GrainFits log old entry.1). (omega (arith, fits.0), fits.1, fits.2)) grains fit

-- one grain set
pub grain-set : (p : PlainPartition) (g : GrainId) (st : Grain) (rises turns : ℕ) → IsWithinLimits p → p.rises ≤ rises → rises ≤ p.limits.rises → turns ≤ rises
    → GrainFits p.log rises st → IsWithinLimits (record p { grains = with_value same_grain g st p.grains; rises = rises; turns = turns })
grain-set p g st rises turns within more left count fits =
    changed p p.subs (with_value same_grain g st p.grains) rises turns within refl within.names within.handled more left count
    (All-set (λ (entry : GrainId × Grain). GrainFits p.log rises entry.1) same_grain g st p.grains (λ _ _. fits) (λ _. fits) (GrainsFit-more p.log p.rises rises p.grains more (grains-fit p within)))

-- one subscription set that is there
pub sub-set : (p : PlainPartition) (s : SubName) (found r : Subscription) → IsWithinLimits p → sub_at p s ≡ Some found → AreIn p.log r.handled
    → IsWithinLimits (record p { subs = with_value same_sub s r p.subs })
sub-set p s found r within there handled =
    changed p (with_value same_sub s r p.subs) p.grains p.rises p.turns within (length-with_value s found r p.subs there)
    (All-set (λ (entry : SubName × Subscription). IsGiven p.explicit entry.0) same_sub s r p.subs (λ entry given. given) (λ none. absurd (cc)) within.names)
    (All-set (λ (entry : SubName × Subscription). AreIn p.log entry.1.handled) same_sub s r p.subs (λ _ _. handled) (λ _. handled) within.handled)
    (omega arith) within.rises within.turns (grains-fit p within)

-- the cursors of some subscriptions back at their resumes
pub rewound-set : (p : PlainPartition) (test : Subscription → Bool) (rises : ℕ) → IsWithinLimits p → p.rises ≤ rises → rises ≤ p.limits.rises
    → IsWithinLimits (record p { subs = each_value (λ r. rewound_where (test r) r) p.subs; rises = rises })
rewound-set p test rises within more left =
    let rewind : Subscription → Subscription = λ r. rewound_where (test r) r in
    changed p (each_value rewind p.subs) p.grains rises p.turns within (length-map p.subs (λ entry. (entry.0, rewind entry.1)))
    (All-each_value (λ (entry : SubName × Subscription). IsGiven p.explicit entry.0) rewind (λ entry given. given) p.subs within.names)
    (All-each_value (λ (entry : SubName × Subscription). AreIn p.log entry.1.handled) rewind (λ entry are_in. are_in) p.subs within.handled)
    more left (omega (arith, within.turns)) (GrainsFit-more p.log p.rises rises p.grains more (grains-fit p within))

-- what a subscription that is there has handled is in the log
pub handled-in : (p : PlainPartition) (s : SubName) (r : Subscription) → IsWithinLimits p → sub_at p s ≡ Some r → AreIn p.log r.handled
handled-in p s r within there = All-value_at (λ (r : Subscription). AreIn p.log r.handled) same_sub s r p.subs within.handled there

-- where an element that passes is found, it is in the log
pub found-in-log : (passes : Event → Bool) (log : List Event) (from to i : ℕ) → first_at passes from (between log from to) ≡ Some i → i < length log
found-in-log passes log from to i found =
    let first = first_at-Some passes from (between log from to) no_event i found in
    omega (arith, first.at, first.within, length-take (to - from) (drop from log), length-drop from log)
