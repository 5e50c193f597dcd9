-- The words of other crates that these proofs share, each with its home.
pub use Rattle.std.proofs.Common.{All, AllPairs, Bool, List, None, Option, Some, [], ap, append_assoc, ap₂, arith, drop, false, filter, fold, get_or, if◌then◌else◌, inl, inr, is_some, length, length-take, map, max, min, nat_le, nat_lt, not, option_map, pred, refl, reverse, subst, suc, sym, take, true, unwrap_or, zero, ℕ, ⊎_elim, ◌&&◌, ◌*◌, ◌++◌, ◌+◌, ◌-◌, ◌/◌, ◌<◌, ◌==◌, ◌||◌, ◌∙◌, ◌∷◌, ◌≡◌, ◌≢◌, ◌≤◌}
pub use Rattle.std.proofs.lemmas.Bool.{and_from, and_parts, and_right, both_ways, cases_eq, cases_lt, cond-false, cond-true, cond_both, eq-eqb, eqb-false, eqb-true, false_from_ne_true, false≢true, le-leb, le-ltb, leb-true, lt-ltb, ltb-false, ltb-true, ne_eqb, not-false, not-true, or_from, or_left, or_parts, or_right, true_from_ne_false, true≢false}
pub use Rattle.std.proofs.lemmas.List.{append-nil, drop_all, drop_at, get_or-append_right, get_or-drop, get_or-map, get_or-take, get_or_append_left, get_or_default, get_or_past, length-append, length-drop, length-map, map-append, take-append-drop, take_all, take_at}
pub use Rattle.std.proofs.lemmas.List.Elements.{All-cons, All-head, All-nil, All-tail, All-weaker, filter-append}
pub use Rattle.std.proofs.lemmas.List.Kept.{AllPairs-cons, AllPairs-filter}
pub use Rattle.std.specs.List.{AllByRecursion, flat_map, list_any, range_with_len}
pub use Rattle.stream_ident.proofs.EachOf.{All-append, All-drop, All-filter, All-flat_map, All-weaken}
pub use Rattle.stream_ident.proofs.SameValues.{IsEquality, grain_equality, same_grain-equal, same_grain-refl, same_name-equal, same_name-refl, same_stream-equal, same_sub-equal, same_sub-refl, sub_equality}
pub use Rattle.stream_ident.proofs.WordLemmas.{nil_from_nat_lt, none_from_is_some, or_else-none, or_else-parts, past_from-append, past_from-within}
pub use Rattle.stream_ident.specs.Blocks.{pull_size, turn_size}
pub use Rattle.stream_ident.specs.Event.{batch_token, events_of, is_owed}
pub use Rattle.stream_ident.specs.Implying.{added, implied_by}
pub use Rattle.stream_ident.specs.Name.{grain_lt, same_grain, same_name, same_stream}
pub use Rattle.stream_ident.specs.SubName.{same_sub, sub_lt}
pub use Rattle.stream_ident.specs.Token.{same_token, token_lt}
pub use Rattle.stream_ident.specs.Words.{IsPrefixOf, changed_value, each_value, first_at, keys_where, least, least_with, lesser, or_else, past, past_from, value_at, with_value}
pub use Rattle.stream_ident.specs.declared.event.Event.{Event}
pub use Rattle.stream_ident.specs.declared.ident.GrainId.{GrainId}
pub use Rattle.stream_ident.specs.declared.ident.StreamId.{StreamId}
pub use Rattle.stream_ident.specs.declared.ident.SubName.{SubName}
pub use Rattle.stream_ident.specs.declared.ident.SubName.TheVariants.{Explicit, Implicit}
pub use Rattle.stream_ident.specs.declared.limits.TheConstants.{BATCH_EVENTS, BLOCK_EVENTS, MAILBOX_PLACES, TURN_EVENTS}
pub use Rattle.stream_ident.specs.declared.rule.Rule.{Rule}
pub use Rattle.stream_ident.specs.declared.token.Token.{Token}
pub use Rattle.stream_model.proofs.Values.{append-at, changed_option, changed_value-at, changed_value-other, each_value-at, with_value-at, with_value-other}
pub use Rattle.stream_model.specs.Bounds.{AreIn, IsWithinLimits}
pub use Rattle.stream_model.specs.Draining.{Astray, AtSpent, AtTooMany, Progress, Stop, after_ack, after_begin, after_commit, after_last_deliver, all_waiting, and_then, ask, commits, deliver_up_to, drain_end, drain_round, drain_where, empty_mailboxes, go_on, in_order, insert_in_order, is_commit, last_handled, least_waiting, next_note, open_names}
pub use Rattle.stream_model.specs.Looks.{behind, deliverable, due_reply, is_running, is_waiting, pending_in, quiet_reply, ready_reply, running, waiting}
pub use Rattle.stream_model.specs.NewestFirst.{Binding, Entry, batch_count, batches_after, begun_after, binding_after, binding_of, bound_by_rule, closed_after, committed_after, handled_after, handled_events, is_closed, last_note, low_after, low_told, note_after, owed_events, owed_of, published_after, published_events, start_token, times_begun, times_committed, turn_after, turn_events}
pub use Rattle.stream_model.specs.Positions.{between, empty, events_at, grain_at, high_token, is_outstanding, is_spent, is_unacknowledged, least_or, low_token, lower_bound, new_grain, new_subscription, next_position, no_event, open_resumes, resumes_of, running_in, slowest, slowest_name, sub_at, token_at, waiting_in, with_sub}
pub use Rattle.stream_model.specs.Publishing.{unsubscribed, without}
pub use Rattle.stream_model.specs.Pulling.{acknowledged, all_implied, caught_up, delivered, drops, free_blocks, handled_at, implied, is_stale, purges, rewound, rewound_where, room, starting, subs_with, woken}
pub use Rattle.stream_model.specs.Replies.{Reply}
pub use Rattle.stream_model.specs.Step.{Leads, Stands, after_steps, replies_of}
pub use Rattle.stream_model.specs.Turns.{begun, committed, deactivated, dropped, ended, front_of, is_open_of}
pub use Rattle.stream_model.specs.declared.limits.Limits.{Limits}
pub use Rattle.stream_model.specs.declared.op.Op.{Op}
pub use Rattle.stream_model.specs.declared.op.Op.TheVariants.{Ack, AddRule, Begin, Commit, Deactivate, Deliver, Due, Move, Publish, Pull, Purge, Quiet, Ready, Retry, Subscribe, Unsubscribe}
pub use Rattle.stream_model.specs.declared.op.Start.{Start}
pub use Rattle.stream_model.specs.declared.op.Start.TheVariants.{At, Latest}
pub use Rattle.stream_model.specs.declared.plain.Delivery.{Delivery}
pub use Rattle.stream_model.specs.declared.plain.Grain.{Grain}
pub use Rattle.stream_model.specs.declared.plain.PlainPartition.{PlainPartition}
pub use Rattle.stream_model.specs.declared.plain.RunningTurn.{RunningTurn}
pub use Rattle.stream_model.specs.declared.plain.Subscription.{Subscription}
pub use Rattle.stream_model.specs.declared.reply.Pending.{Pending}
pub use Rattle.stream_model.specs.declared.reply.Reply.TheVariants.{Committed, IsQuiet, Miss, RuleAdded, Subscribed, Turn, Unsubscribed}
