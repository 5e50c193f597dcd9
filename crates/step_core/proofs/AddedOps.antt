-- A subscription that is added leaves parts that agree with each other.
use Rattle.step_core.proofs.Prelude.{PlainRegistry, add_with, is_full, next_number, registered, with_name, Registration, Added, ◌≡◌, ◌∙◌, ap, sym, subst, refl, ℕ, suc, ◌+◌, ◌^◌, ◌<◌, ◌≤◌, Bool, true, false, ◌||◌, nat_le, ◌∷◌, ◌++◌, length, Option, None, Some, arith, false_from_ne_true, leb-true, length-append, if◌then◌else◌, GrainId, StreamId, SubName, MOST_SUBS, Token, Reply, takes_memory, PlainPartition, AreRecords, PlainTable, subscribe, subscribed, [], is_some}
use Rattle.stream_ident.specs.declared.ident.SubName.TheVariants as name
use Rattle.stream_model.specs.Publishing as plain
use Rattle.step_core.specs.Assembly.{Agrees, IsAssembled}
use Rattle.step_core.specs.PlainOf.{plain_of}
use Rattle.step_core.specs.SubscriberReplies.{of_added}
use Rattle.step_core.specs.declared.parts.Parts.{Parts}
use Rattle.step_core.proofs.KnownTurns.{known-grown}
use Rattle.step_core.proofs.MoreNumbers.{numbered-more}
use Rattle.step_core.proofs.SubscribeOps.{added_by, added_where, subscribe-parts}
use Rattle.std.proofs.Math.Bool.{or-false}

module _ (parts : Parts) (stream : StreamId) (grain : GrainId) (start : Token) (position : ℕ) where
  abbrev r : PlainRegistry
  r = parts.subs.registry

  abbrev more : PlainRegistry
  more = record (with_name r (name.Explicit (suc r.explicit)) (registered stream grain start)) { explicit = suc r.explicit }

  abbrev picked : Bool → PlainRegistry × Added
  picked full = added_where r stream grain start full

  -- a number of 32 bits is left, since no more were given than there are subscriptions
  number-left : Agrees parts → nat_le (2 ^ 32) (suc r.explicit) ≡ false
  number-left agrees =
      let few : r.explicit < MOST_SUBS + 1 = omega (arith, agrees.within.explicit, agrees.within.subs, agrees.within.limits.subs) in
      false_from_ne_true (nat_le (2 ^ 32) (suc r.explicit)) (λ late. let much = leb-true (2 ^ 32) (suc r.explicit) late in absurd (omega (arith, much, few)))

  -- so only a full registry refuses
  subscribe-is : Agrees parts → subscribe parts.subs stream grain start position ≡ subscribed parts.subs position start (picked (is_full r))
  subscribe-is agrees =
      ap {B = PlainTable × Added} (λ late. subscribed parts.subs position start (add_with r stream grain start (if is_full r || late then None else Some (suc r.explicit)))) (number-left agrees)
      ∙ ap {B = PlainTable × Added} (λ full. subscribed parts.subs position start (picked full)) (or-false (is_full r))

  full-not : is_some (next_number r) ≡ true → is_full r ≡ false
  full-not left = by (is_full r) (nat_le (2 ^ 32) (suc r.explicit)) left
    where
      by : (full late : Bool) → is_some (if◌then◌else◌ {A = Option ℕ} (full || late) None (Some (suc r.explicit))) ≡ true → full ≡ false
      by true late left = absurd (cc)
      by false late left = refl

  abbrev told_by : PlainTable × Added → PlainPartition × Reply
  told_by stepped = (plain_of (record parts { subs = stepped.0 }), of_added stepped.1)

  told-same : (full : Bool) → told_by (subscribed parts.subs position start (picked full)) ≡ added_by parts start position (picked full)
  told-same true = refl
  told-same false = refl

  -- what the table did is the plain operation
  added-same : Agrees parts → AreRecords parts.subs → told_by (subscribe parts.subs stream grain start position) ≡ plain.subscribe_at (plain_of parts) stream grain start position
  added-same agrees records =
      ap told_by (subscribe-is agrees)
      ∙ told-same (is_full r)
      ∙ sym (subscribe-parts parts stream grain start position agrees.assembled.most_subs (sym records.long) agrees.assembled.numbered agrees.within.names)

  pub added-performs : (new : PlainTable) (told : Added) → Agrees parts → AreRecords parts.subs → (new, told) ≡ subscribe parts.subs stream grain start position
      → (plain_of (record parts { subs = new }), of_added told) ≡ plain.subscribe_at (plain_of parts) stream grain start position
  added-performs new told agrees records done = ap told_by done ∙ added-same agrees records

  -- only a subscription that is added takes memory
  pub added-memory : Agrees parts → AreRecords parts.subs → is_some (next_number parts.subs.registry) ≡ true → takes_memory (plain.subscribe_at (plain_of parts) stream grain start position).1 ≡ true
  added-memory agrees records left =
      ap (λ (out : PlainPartition × Reply). takes_memory out.1) (sym (added-same agrees records) ∙ ap told_by (subscribe-is agrees))
      ∙ ap (λ full. takes_memory (told_by (subscribed parts.subs position start (picked full))).1) (full-not left)

  added-assembled-by : (full : Bool) → AreRecords parts.subs → IsAssembled parts → IsAssembled (record parts { subs = (subscribed parts.subs position start (picked full)).0 })
  added-assembled-by true records assembled = assembled
  added-assembled-by false records assembled =
      let entry : SubName × Registration = (name.Explicit (suc r.explicit), registered stream grain start) in
      let longer : length r.names ≤ length (r.names ++ entry ∷ []) = omega (arith, length-append r.names (entry ∷ [])) in
      record {
        most_subs = assembled.most_subs;
        most_rules = assembled.most_rules;
        most_events = assembled.most_events;
        cached = assembled.cached;
        numbered = numbered-more (length r.names) (length more.names) longer parts.grains assembled.numbered;
        known = known-grown r.names (entry ∷ []) parts.subs.states position parts.grains assembled.known records.long assembled.numbered;
      }

  pub added-assembled : Agrees parts → IsAssembled (record parts { subs = (subscribe parts.subs stream grain start position).0 })
  added-assembled agrees =
      subst (λ (out : PlainTable × Added). IsAssembled (record parts { subs = out.0 })) (sym (subscribe-is agrees))
      (added-assembled-by (is_full r) agrees.records agrees.assembled)
