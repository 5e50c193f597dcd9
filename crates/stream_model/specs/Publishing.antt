-- What producers and subscribers ask.
use Rattle.std.specs.Prelude.{ℕ, suc, ◌+◌, false, ◌&&◌, ◌||◌, not, List, [], ◌∷◌, ◌++◌, length, filter, Option, Some, None, ◌==◌, nat_lt, nat_le, if◌then◌else◌}
use Rattle.std.specs.List.{list_any}
use Rattle.stream_ident.specs.declared.ident.GrainId.{GrainId}
use Rattle.stream_ident.specs.declared.ident.StreamId.{StreamId}
use Rattle.stream_ident.specs.declared.ident.SubName.{SubName}
use Rattle.stream_ident.specs.declared.ident.SubName.TheVariants as name
use Rattle.stream_ident.specs.declared.token.Token.{Token}
use Rattle.stream_ident.specs.Name.{same_grain, same_name}
use Rattle.stream_ident.specs.SubName.{same_sub}
use Rattle.stream_ident.specs.Token.{token_lt}
use Rattle.stream_model.specs.declared.op.Start.{Start}
use Rattle.stream_model.specs.declared.op.Start.TheVariants.{Latest, At}
use Rattle.stream_model.specs.declared.plain.Grain.{Grain}
use Rattle.stream_model.specs.declared.plain.PlainPartition.{PlainPartition}
use Rattle.stream_ident.specs.declared.rule.Rule.{Rule}
use Rattle.stream_model.specs.declared.plain.Subscription.{Subscription}
use Rattle.stream_model.specs.Replies.{Reply}
use Rattle.stream_model.specs.declared.reply.Reply.TheVariants as reply
use Rattle.stream_ident.specs.Event.{batch_token, events_of}
use Rattle.stream_model.specs.Positions.{low_token, high_token, lower_bound, sub_at, with_sub, new_subscription}
use Rattle.stream_ident.specs.Words.{changed_value}
use Rattle.stream_ident.specs.declared.limits.TheConstants.{BATCH_EVENTS}

-- A batch has some payloads, and not too many.
unfoldable pub publish : PlainPartition → StreamId → List (List ℕ) → PlainPartition × Reply
publish p stream payloads =
    if (length payloads == 0) || nat_lt BATCH_EVENTS (length payloads) then (p, reply.BadBatch)
    else if nat_lt p.limits.events (length p.log + length payloads) then (p, reply.QueueFull)
    else (record p { log = p.log ++ events_of stream p.batches 0 payloads; batches = suc p.batches }, reply.Published p.batches)

unfoldable pub subscribe_at : PlainPartition → StreamId → GrainId → Token → ℕ → PlainPartition × Reply
subscribe_at p stream grain start position =
    if nat_le p.limits.subs (length p.subs) then (p, reply.TooMany)
    else (
      record (with_sub p (name.Explicit (suc p.explicit)) (new_subscription stream grain start position)) { explicit = suc p.explicit },
      reply.Subscribed (suc p.explicit),
    )

-- A start token below the low token is refused (Orleans, Streaming: rewindable streams, cache misses).
unfoldable pub subscribe : PlainPartition → StreamId → GrainId → Start → PlainPartition × Reply
subscribe p stream grain Latest = subscribe_at p stream grain (batch_token p.batches) p.high
subscribe p stream grain (At token) =
    if token_lt token (low_token p) then (p, reply.Miss token (low_token p) (high_token p))
    else subscribe_at p stream grain token (lower_bound p token)

-- the grain without the deliveries of a subscription
abbrev pub without : SubName → Grain → Grain
without s st = record st { mailbox = filter (λ d. not (same_sub s d.sub)) st.mailbox }

-- the subscription closed, and its deliveries out of its grain's mailbox; a running turn stays
abbrev pub unsubscribed : PlainPartition → SubName → Subscription → PlainPartition
unsubscribed p s r =
    record (with_sub p s (record r { is_open = false })) { grains = changed_value same_grain r.grain (without s) p.grains }

unfoldable pub unsubscribe_from : PlainPartition → SubName → Option Subscription → PlainPartition × Reply
unsubscribe_from p (name.Explicit n) None = (p, reply.NoSuch)
unsubscribe_from p (name.Implicit kind stream) None = (p, reply.NoSuch)
unsubscribe_from p (name.Implicit kind stream) (Some r) = (p, reply.Implicit)
unsubscribe_from p (name.Explicit n) (Some r) =
    if not r.is_open then (p, reply.Closed)
    else (unsubscribed p (name.Explicit n) r, reply.Unsubscribed (length r.handled))

unfoldable pub unsubscribe : PlainPartition → SubName → PlainPartition × Reply
unsubscribe p s = unsubscribe_from p s (sub_at p s)

unfoldable pub add_rule : PlainPartition → List ℕ → List ℕ → PlainPartition × Reply
add_rule p kind namespace =
    if list_any (λ (rule : Rule). same_name kind rule.kind && same_name namespace rule.namespace) p.rules then (p, reply.RuleThere)
    else if nat_le p.limits.rules (length p.rules) then (p, reply.TooMany)
    else (record p { rules = p.rules ++ record { kind = kind; namespace = namespace; from = p.batches } ∷ [] }, reply.RuleAdded p.batches)
