-- The words of other crates that these proofs share, each with its home.
pub use Rattle.std.proofs.Common.{Bool, List, None, Option, Some, [], ap, arith, drop, false, filter, fold, get_or, is_some, length, max, min, nat_le, nat_lt, not, pred, refl, rules, set, subst, suc, sym, take, true, unwrap_or, ℕ, ◌&&◌, ◌*◌, ◌++◌, ◌+◌, ◌-◌, ◌<◌, ◌==◌, ◌||◌, ◌∙◌, ◌∷◌, ◌≡◌, ◌≤◌}
pub use Rattle.std.proofs.lemmas.Bool.{both_ways, eq-eqb, le-leb, lt-leb, lt-ltb, ne_eqb, not-false, not-true}
pub use Rattle.std.proofs.lemmas.List.{at_drop_all, at_drop_more, drop_all, drop_more, length_push, take_all}
pub use Rattle.std.proofs.lemmas.Option.{same_Some, slice_get-get_or, slice_get_within}
pub use Rattle.std.specs.List.{AllByRecursion, flat_map, list_any, slice_get}
pub use Rattle.std.specs.Prelude.{OnErr, if◌then◌else◌, is_ok}
pub use Rattle.stream_ident.proofs.NewNames.{added-more, has, has-append, has-fold}
pub use Rattle.stream_ident.proofs.WordLemmas.{front-of-front, past-last}
pub use Rattle.stream_ident.specs.Event.{batch_token, events_of, is_owed}
pub use Rattle.stream_ident.specs.Implying.{added}
pub use Rattle.stream_ident.specs.Name.{grain_lt, same_grain, same_name}
pub use Rattle.stream_ident.specs.SubName.{same_sub, sub_lt}
pub use Rattle.stream_ident.specs.Token.{same_token, token_lt}
pub use Rattle.stream_ident.specs.Words.{Performs, changed_value, each_value, first_at, least_with, lesser, past, with_value}
pub use Rattle.stream_ident.specs.declared.event.Event.{Event}
pub use Rattle.stream_ident.specs.declared.ident.GrainId.{GrainId}
pub use Rattle.stream_ident.specs.declared.ident.SubName.{SubName}
pub use Rattle.stream_ident.specs.declared.limits.TheConstants.{BLOCK_EVENTS, MAILBOX_PLACES, MOST_RULES}
pub use Rattle.stream_ident.specs.declared.token.Token.{Token}
pub use Rattle.stream_model.proofs.Answering.{memory-along, on-error, performs-along, within-after}
pub use Rattle.stream_model.proofs.Beginning.{begin-known, begin-unknown, begin_front-handled, begin_front-spent, begin_front-turn, begin_front-unknown, begin_in-busy, begin_in-front, begin_in-idle, begin_in-nothing, begin_turn-done, grain_at-is, grain_at-new, grain_at-place, none-first, some-first, turn-within}
pub use Rattle.stream_model.proofs.LeastKey.{least_key-end, least_key-not, least_key-there, of-all}
pub use Rattle.stream_model.proofs.Looking.{due-none, due-told, next-found, quiet-told, ready-told}
pub use Rattle.stream_model.proofs.Lookups.{change_at-tried, change_at-written, place_of-added, place_of-change, place_of-none, place_of-read, place_of-within}
pub use Rattle.stream_model.proofs.PublishingSteps.{is_bad, publish-bad, publish-full, publish-made, publish-takes_memory, subscribe-at, subscribe-full, subscribe-latest, subscribe-made, subscribe-miss, subscribe-takes_memory}
pub use Rattle.stream_model.proofs.PullingSteps.{counted-up_to, events-full, events-made, events-take_memory, pull-dry, pull-some, subs_up_to, want-events, want-pressed}
pub use Rattle.stream_model.proofs.Refusals.{ack-stale, ack-unknown, deactivate-idle, deliver-stale, deliver-unknown, move-spent, pull-stale, purge-stale, retry-stale, retry-unknown, unsubscribe-implicit, unsubscribe-unknown}
pub use Rattle.stream_model.specs.Least.{least_key}
pub use Rattle.stream_model.specs.Looks.{is_due, is_running, is_waiting, to_acknowledge}
pub use Rattle.stream_model.specs.Places.{change_at, handled_also, place_of, started}
pub use Rattle.stream_model.specs.Positions.{between, events_at, grain_at, is_open_at, is_outstanding, is_spent, is_unacknowledged, least_or, low_token, new_grain, next_position, open_resumes, resumes_of, running_in, slowest, sub_at, token_at, waiting_in, with_grain, with_sub}
pub use Rattle.stream_model.specs.Publishing.{unsubscribed, without}
pub use Rattle.stream_model.specs.Pulling.{acknowledged, all_implied, caught_up, delivered, drops, handled_at, implied, is_stale, purges, rewound, rewound_where, room, subs_with, woken}
pub use Rattle.stream_model.specs.Replies.{Reply}
pub use Rattle.stream_model.specs.Step.{takes_memory}
pub use Rattle.stream_model.specs.Turns.{begin_front, begin_in, begin_turn, commit_for, deactivated, front_of, running_count}
pub use Rattle.stream_model.specs.declared.plain.Grain.{Grain}
pub use Rattle.stream_model.specs.declared.plain.PlainPartition.{PlainPartition}
pub use Rattle.stream_model.specs.declared.plain.Subscription.{Subscription}
