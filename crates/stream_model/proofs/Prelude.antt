-- The words of other crates that these proofs share, each with its home.
pub use Rattle.std.proofs.Common.{Bool, Err, List, None, Ok, OnErr, Option, Result, Some, [], add-one, ap, arith, drop, false, fold, get_or, if◌then◌else◌, inl, inr, is_some, length, length-append, length-drop, min, nat_le, nat_lt, not, pred, refl, set, subst, suc, sym, take, true, unwrap_or, zero, ℕ, ◌&&◌, ◌*◌, ◌++◌, ◌+◌, ◌-◌, ◌<◌, ◌==◌, ◌||◌, ◌∙◌, ◌∷◌, ◌≡◌, ◌≤◌}
pub use Rattle.std.proofs.lemmas.Bool.{and_parts, cases_Bool, cond_both, eq-eqb, eqb-false, le-leb, le-ltb, leb-false, lt-leb, lt-ltb, ltb-false, ne_eqb, or_parts}
pub use Rattle.std.proofs.lemmas.List.{append_assoc, drop_all, drop_more, length-map, length-take, length-take-le, length_push, set-get_or, take_more}
pub use Rattle.std.specs.List.{AllByRecursion, flat_map, list_any, slice_get}
pub use Rattle.stream_ident.proofs.EachOf.{All-append, All-drop, All-filter, All-flat_map, All-push, All-weaken}
pub use Rattle.stream_ident.specs.Blocks.{pull_size, turn_size}
pub use Rattle.stream_ident.specs.Event.{batch_token, events_of, is_owed}
pub use Rattle.stream_ident.specs.Name.{grain_lt, same_grain, same_name}
pub use Rattle.stream_ident.specs.SubName.{same_sub, sub_lt}
pub use Rattle.stream_ident.specs.Token.{token_lt}
pub use Rattle.stream_ident.specs.Words.{Performs, above, changed_value, each_value, first_at, is_above, keys_where, least_with, lesser, next_after, or_else, past, value_at, with_value}
pub use Rattle.stream_ident.specs.declared.event.Event.{Event}
pub use Rattle.stream_ident.specs.declared.ident.GrainId.{GrainId}
pub use Rattle.stream_ident.specs.declared.ident.StreamId.{StreamId}
pub use Rattle.stream_ident.specs.declared.ident.SubName.{SubName}
pub use Rattle.stream_ident.specs.declared.ident.SubName.TheVariants.{Explicit, Implicit}
pub use Rattle.stream_ident.specs.declared.limits.TheConstants.{BATCH_EVENTS, BLOCK_EVENTS, MAILBOX_PLACES, MOST_BLOCKS}
pub use Rattle.stream_ident.specs.declared.rule.Rule.{Rule}
pub use Rattle.stream_ident.specs.declared.token.Token.{Token}
