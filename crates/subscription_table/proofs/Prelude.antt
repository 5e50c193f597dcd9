-- The words of other crates that these proofs share, each with its home.
pub use Rattle.consumer_grain.specs.Subscriptions.{acknowledged, advanced, caught_up, closed, committed, is_unacknowledged, new_state, rewound}
pub use Rattle.consumer_grain.specs.declared.sub_state.SubState.{SubState}
pub use Rattle.pubsub_registry.specs.Index.{AreUnique}
pub use Rattle.pubsub_registry.specs.Registry.{PlainRegistry, add, add_with, close_found, closed_registration, next_number, registered, registration_of, truncated}
pub use Rattle.pubsub_registry.specs.declared.registration.Registration.{Registration}
pub use Rattle.pulling_agent.specs.Progress.{ack, ack_at, handled_at, next_at, next_event, retry}
pub use Rattle.queue_cache.specs.Cache.{PlainCache, high}
pub use Rattle.queue_mapper.specs.Place.{tag_of}
pub use Rattle.ranked_index.proofs.EntryLemmas.{first_past-from, first_past-rank, rank-before, ranked-insert, ranked-set}
pub use Rattle.ranked_index.specs.Keys.{first_at_most, is_at_most, least_key, least_place, place_of_least}
pub use Rattle.ranked_index.specs.Leaves.{PlainResumes, due_from, keys_by_rank, leaf_with, no_leaf, numbers_below, open_leaf, pushed, top, with_leaf, with_leaves}
pub use Rattle.ranked_index.specs.Ranked.{AreKeys, AreRanked, IsFirstPast, entry_at, is_up_to, some_up_to}
pub use Rattle.ranked_index.specs.Ranks.{due_at, due_key, resume_key}
pub use Rattle.ranked_index.specs.declared.resumes.Leaf.{Leaf}
pub use Rattle.std.proofs.Common.{All, Bool, List, None, Option, Some, [], ap, ap₂, arith, drop, false, get_or, get_or-set_other, if◌then◌else◌, inl, inr, length, length-append, length-set, map, max, nat_lt, not, refl, rules, set, subst, suc, sym, take, true, zero, ℕ, ◌&&◌, ◌++◌, ◌+◌, ◌-◌, ◌<◌, ◌==◌, ◌^◌, ◌||◌, ◌∙◌, ◌∷◌, ◌≡◌, ◌≤◌, ◌⊎◌}
pub use Rattle.std.proofs.lemmas.Bool.{cases_eq, cases_lt, eq-eqb, false_from_ne_true, le-leb, le-ltb, leb-false, leb-true, lt-leb, lt-ltb, ne_eqb, or_right}
pub use Rattle.std.proofs.lemmas.List.{append-nil, append_assoc, drop_at, get_or-append_right, get_or-drop, get_or-map, get_or-take, get_or_append_left, get_or_default, get_or_read, length-drop, length-map, length-take-le, length_push, map-append, map-set, same_lists, take-append-le, take_all, take_at, take_more, with_items_is}
pub use Rattle.std.proofs.lemmas.Option.{get_or_from_slice_get, same_Some, slice_get-get_or, slice_get-map, slice_get_within}
pub use Rattle.std.specs.Option.{is_some, option_copied, option_map}
pub use Rattle.std.specs.Prelude.{Err, IfNone, IfSome, Ok, Result, fold, slice_get, slice_index, vec_capacity}
pub use Rattle.stream_ident.proofs.NameOrders.{sub_equal-is, sub_order}
pub use Rattle.stream_ident.specs.SubName.{same_sub, sub_lt}
pub use Rattle.stream_ident.specs.Words.{changed_value, has_number, is_above, or_else, past, place_of, value_at}
pub use Rattle.stream_ident.specs.declared.ident.StreamId.{StreamId}
pub use Rattle.stream_ident.specs.declared.ident.SubName.{SubName}
pub use Rattle.stream_ident.specs.declared.token.Token.{Token}
