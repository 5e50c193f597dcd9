-- The words of other crates that these proofs share, each with its home.
pub use Rattle.indexmap.proofs.CallerLemmas.{insert_entry-new, keys-with_value_at, updates-with_value_at}
pub use Rattle.std.proofs.Common.{All, Bool, Contains, List, None, Option, Some, SomeIff, [], ap, arith, cond, drop, false, filter, fold, get_or, if◌then◌else◌, insert, is_some, length, length-append, length-take, map, nat_eq, nat_le, not, refl, rules, subst, suc, sym, take, true, true≢false, zero, ⊎_elim, ℕ, ◌&&◌, ◌*◌, ◌++◌, ◌+◌, ◌-◌, ◌<◌, ◌==◌, ◌^◌, ◌||◌, ◌∙◌, ◌∷◌, ◌≡◌, ◌≤◌}
pub use Rattle.std.proofs.lemmas.Bool.{and_from, and_parts, cases_order, eq-eqb, eqb-true, false_from_ne_true, le-leb, le-ltb, leb-false, ltb-false}
pub use Rattle.std.proofs.lemmas.List.{append-nil, drop-map, get_or-map, get_or_append_left, get_or_default, get_or_push, length-map, map-append, nil_from_length, take-append-drop, take_all}
pub use Rattle.std.proofs.lemmas.List.Elements.{All-append, All-cons, All-contains_itself, All-drop, All-head, All-nil, All-same, All-tail, All-take, All-weaker, Contains-append_cases, Contains-append_left, Contains-append_right, Contains-get_or, Contains-push_cases, filter-append}
pub use Rattle.std.proofs.lemmas.List.Sums.{fails_before_first, fold-append, sum_by-cons, sum_by_more, sum_by_more_le}
pub use Rattle.std.proofs.lemmas.Option.{get_or_from_slice_get, none-some, same_Some, slice_get-get_or, slice_get-map, slice_get_within}
pub use Rattle.std.specs.List.{AllByRecursion, flat_map, list_any, position_or_len, take-map}
pub use Rattle.std.specs.Map.{keys_of, lookup, values_of}
pub use Rattle.std.specs.Option.{option_copied_mut, option_map}
pub use Rattle.std.specs.Prelude.{Err, IfNone, IfSome, Ok, OnErr, OnOk, Result, nat_lt, position, slice_get, ◌⊎◌}
pub use Rattle.stream_ident.proofs.NewNames.{added-last, added-more, has, has-append, has-cons, has-fold, length-fold}
pub use Rattle.stream_ident.proofs.SameValues.{same_grain-equal, same_grain-refl, same_name-equal, same_name-refl, same_stream-equal, same_stream-refl, same_sub-equal, same_sub-refl}
pub use Rattle.stream_ident.proofs.WordLemmas.{changed_value-none, drop-read, front-of-front, none_from_is_some}
pub use Rattle.stream_ident.specs.Event.{batch_token, no_event}
pub use Rattle.stream_ident.specs.Implying.{added}
pub use Rattle.stream_ident.specs.Name.{same_grain, same_name, same_stream}
pub use Rattle.stream_ident.specs.SubName.{same_sub, sub_lt}
pub use Rattle.stream_ident.specs.Token.{token_lt}
pub use Rattle.stream_ident.specs.Words.{change_at, changed_value, first_at, value_at}
pub use Rattle.stream_ident.specs.declared.event.Event.{Event}
pub use Rattle.stream_ident.specs.declared.ident.StreamId.{StreamId}
pub use Rattle.stream_ident.specs.declared.ident.SubName.{SubName}
pub use Rattle.stream_ident.specs.declared.ident.SubName.TheVariants.{Explicit, Implicit}
pub use Rattle.stream_ident.specs.declared.rule.Rule.{Rule}
pub use mathlib.Core.Logic.{inl, inr}
