-- The words of other crates that these proofs share, each with its home.
pub use Rattle.cache_cursor.specs.Cursor.{lower_in, next_in}
pub use Rattle.consumer_grain.specs.Activations.{PlainActivation, can_begin, commit_turn, current_turn, deactivated, forgotten, front_of, holds, is_front_new, is_turn, lost, new_activation, next_activation, offer_takes_memory, offered, running_count, runs, started, with_number, without_number, without_turn, woken}
pub use Rattle.consumer_grain.specs.Subscriptions.{advanced, caught_up, closed, committed, is_unacknowledged, new_state, rewound}
pub use Rattle.consumer_grain.specs.declared.activation.RunningTurn.{RunningTurn}
pub use Rattle.consumer_grain.specs.declared.mailbox.Delivery.{Delivery}
pub use Rattle.consumer_grain.specs.declared.sub_state.SubState.{SubState}
pub use Rattle.consumer_grain.specs.declared.told.Begun.{Begun}
pub use Rattle.grain_table.specs.Changes.{OffersAt, activation_at, no_grain}
pub use Rattle.grain_table.specs.Grains.{AreDistinct, AreIdle, PlainGrains, number_of, ready_after}
pub use Rattle.partition_queue.specs.Queue.{PlainQueue, append}
pub use Rattle.partition_queue.specs.declared.appended.Appended.{Appended}
pub use Rattle.pubsub_registry.specs.Index.{AreUnique}
pub use Rattle.pubsub_registry.specs.Registry.{PlainRegistry, add_with, close_found, closed_registration, is_full, next_number, registered, with_name}
pub use Rattle.pubsub_registry.specs.declared.registration.Registration.{Registration}
pub use Rattle.pubsub_registry.specs.declared.told.Added.{Added}
pub use Rattle.pubsub_registry.specs.declared.told.RuleAdded.{RuleAdded}
pub use Rattle.pulling_agent.proofs.CurrentLemmas.{IsDone, IsRefused, done-current, done-stale}
pub use Rattle.pulling_agent.specs.Agent.{PlainAgent, answered, if_current, plan_of, purge_free, take_next}
pub use Rattle.pulling_agent.specs.Progress.{IsFound, ack_at, handled_at, next_at, next_event, retry}
pub use Rattle.pulling_agent.specs.declared.agent.Plan.{Plan}
pub use Rattle.pulling_agent.specs.declared.agent.StaleAgent.{StaleAgent}
pub use Rattle.queue_cache.specs.Cache.{PlainCache, high}
pub use Rattle.queue_mapper.specs.Place.{bare}
pub use Rattle.std.proofs.Common.{Bool, Bor, List, None, Ok, Option, Some, [], ap, ap₂, arith, cond, drop, false, filter, fold, get_or, inl, inr, length, map, max, min, nat_le, nat_lt, not, pred, refl, reverse, set, slice_get, subst, suc, sym, take, true, true≢false, vec_capacity, vec_len, zero, ℕ, ◌&&◌, ◌*◌, ◌++◌, ◌+◌, ◌-◌, ◌<◌, ◌==◌, ◌^◌, ◌||◌, ◌∙◌, ◌∷◌, ◌≡◌, ◌≢◌, ◌≤◌, ◌⊎◌}
pub use Rattle.std.proofs.Math.Seq.{append_snoc, drop-append_seam, take-add, take-nil}
pub use Rattle.std.proofs.lemmas.Bool.{and_from, and_parts, both_ways, cases_eq, cases_lt, cond_both, eq-eqb, eqb-false, eqb-true, false_from_ne_true, false≢true, le-leb, le-ltb, leb-true, lt-ltb, ltb-false, ltb-true, ne_eqb, not-true, or_from, or_parts, or_right}
pub use Rattle.std.proofs.lemmas.List.{append-nil, append_assoc, drop-append-le, drop-drop, drop-map, drop-take, get_or-append-add, get_or-map, get_or-set_other, get_or-set_same, get_or_append_left, get_or_default, length-append, length-drop, length-map, length-take, map-append, nil_from_length, reverse-append, set-get_or, set-set, take-append-le, take_all, take_more}
pub use Rattle.std.proofs.lemmas.Option.{get_or_from_slice_get, same_Some, slice_get-get_or, slice_get-map}
pub use Rattle.std.proofs.lemmas.Result.{err_from_is_err_and}
pub use Rattle.std.specs.Cmp.{IsStrictWeakOrder}
pub use Rattle.std.specs.List.{All, AllByRecursion, flat_map, list_any}
pub use Rattle.std.specs.Option.{option_copied, option_map}
pub use Rattle.std.specs.Prelude.{Err, IfNone, IfOk, IfSome, MatchOption, OnErr, Result, if◌then◌else◌, is_some, slice_index, unwrap_or, ⊤, ◌/◌}
pub use Rattle.std.specs.declared.alloc.AllocError.{AllocError}
pub use Rattle.stream_ident.proofs.EachOf.{All-append, All-drop, All-filter, All-weaken}
pub use Rattle.stream_ident.proofs.FirstLemmas.{first_at-None, first_at-Some, first_at-there, place_of-key}
pub use Rattle.stream_ident.proofs.SameValues.{IsEquality, grain_equality, same_grain-equal, same_grain-refl, same_sub-equal, same_sub-refl, sub_equality}
pub use Rattle.stream_ident.proofs.WordLemmas.{All-at, is_some-map, length-change_at, none_from_is_some, or_else-parts, past-last, past_from-within, set-change_at}
pub use Rattle.stream_ident.specs.Blocks.{pull_size, turn_size}
pub use Rattle.stream_ident.specs.Event.{batch_token, events_of, is_owed}
pub use Rattle.stream_ident.specs.Name.{grain_lt, same_grain, same_name}
pub use Rattle.stream_ident.specs.SubName.{same_sub, sub_lt}
pub use Rattle.stream_ident.specs.Token.{token_lt}
pub use Rattle.stream_ident.specs.Words.{IsPrefixOf, Performs, above, change_at, changed_value, each_value, first_at, has_number, is_above, keys_where, least, least_with, lesser, next_after, or_else, past, place_of, value_at, with_value}
pub use Rattle.stream_ident.specs.declared.event.Event.{Event}
pub use Rattle.stream_ident.specs.declared.ident.GrainId.{GrainId}
pub use Rattle.stream_ident.specs.declared.ident.StreamId.{StreamId}
pub use Rattle.stream_ident.specs.declared.ident.SubName.{SubName}
pub use Rattle.stream_ident.specs.declared.ident.SubName.TheVariants.{Explicit}
pub use Rattle.stream_ident.specs.declared.limits.TheConstants.{BATCH_EVENTS, BLOCK_EVENTS, MAILBOX_PLACES, MOST_BLOCKS, MOST_SUBS}
pub use Rattle.stream_ident.specs.declared.rule.Rule.{Rule}
pub use Rattle.stream_ident.specs.declared.token.Token.{Token}
pub use Rattle.stream_laws.proofs.DrainDeliver.{deliver-delivered, deliver-nothing, next-bounds, next-none}
pub use Rattle.stream_laws.proofs.Invariant.{marks_of, running_of}
pub use Rattle.stream_model.proofs.Answering.{memory-along, on-error, performs-along, within-after}
pub use Rattle.stream_model.proofs.Lookups.{place_of-added, place_of-change, place_of-none, place_of-value, place_of-within}
pub use Rattle.stream_model.proofs.Reaching.{leads-append, new-partition, reached-after, reached-leads}
pub use Rattle.stream_model.proofs.RecordBounds.{grain-fits, handled-in}
pub use Rattle.stream_model.proofs.Refusals.{ack-stale, ack-unknown, deactivate-idle, deliver-stale, deliver-unknown, move-spent, pull-stale, purge-stale, retry-stale, retry-unknown, unsubscribe-implicit, unsubscribe-unknown}
pub use Rattle.stream_model.proofs.Values.{with_value-at}
pub use Rattle.stream_model.specs.Bounds.{AreIn, AreLimits, IsWithinLimits, running_positions}
pub use Rattle.stream_model.specs.Draining.{Astray, AtSpent, AtTooMany, DrainsTo, Progress, after_ack, after_begin, after_commit, after_last_deliver, all_waiting, and_then, ask, commits, deliver_up_to, done, drain_end, drain_round, drain_where, empty_mailboxes, go_on, in_order, insert_in_order, joined, last_handled, least_waiting, next_note, open_names, stopped}
pub use Rattle.stream_model.specs.History.{Entry}
pub use Rattle.stream_model.specs.Looks.{is_due, is_running, pending_in, quiet_reply, ready_reply}
pub use Rattle.stream_model.specs.Memory.{is_untouched, may_allocate}
pub use Rattle.stream_model.specs.Positions.{between, events_at, grain_at, high_token, is_open_at, is_outstanding, is_spent, least_or, low_token, lower_bound, new_grain, new_subscription, next_position, open_resumes, running_in, slowest, slowest_name, sub_at, token_at, waiting_in, with_grain, with_sub}
pub use Rattle.stream_model.specs.Publishing.{subscribe_at}
pub use Rattle.stream_model.specs.Pulling.{acknowledged, delivered, is_stale, pull, rewound_where, subs_with}
pub use Rattle.stream_model.specs.Replies.{IsNoTurn, Reply}
pub use Rattle.stream_model.specs.Step.{IsReached, Leads, after_steps, replies_of, takes_memory}
pub use Rattle.stream_model.specs.Turns.{begun, is_open_of}
pub use Rattle.stream_model.specs.declared.op.Op.{Op}
pub use Rattle.stream_model.specs.declared.op.Op.TheVariants.{Ack, Begin, Commit, Deliver, Publish, Pull}
pub use Rattle.stream_model.specs.declared.plain.Grain.{Grain}
pub use Rattle.stream_model.specs.declared.plain.PlainPartition.{PlainPartition}
pub use Rattle.stream_model.specs.declared.plain.Subscription.{Subscription}
pub use Rattle.subscription_table.specs.Leaves.{NamedLeaf, due_after, least_resume}
pub use Rattle.subscription_table.specs.LeavesOf.{leaf_of, leaves_of, open_resume}
pub use Rattle.subscription_table.specs.Standing.{AreRecords, name_of}
pub use Rattle.subscription_table.specs.Table.{AreRewound, PlainTable, close, closed_by, implied_by, is_in, name_at, new_states, no_entry, no_state, registration_at, rewound_all, rewound_open, state_at, stepped, subscribe, subscribed, with_state}
