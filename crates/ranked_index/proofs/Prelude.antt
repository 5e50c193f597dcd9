-- The words of other crates that these proofs share, each with its home.
pub use Rattle.std.proofs.Common.{Bool, List, None, Option, Some, [], ap, ap₂, arith, cond, drop, false, filter, get_or, get_or-set_other, get_or-set_same, inl, inr, length, length-append, length-set, map, min, nat_lt, not, refl, set, subst, suc, sym, take, true, zero, ℕ, ◌%◌, ◌&&◌, ◌*◌, ◌++◌, ◌+◌, ◌-◌, ◌/◌, ◌<◌, ◌||◌, ◌∙◌, ◌∷◌, ◌≡◌, ◌≢◌, ◌≤◌, ◌⊎◌}
pub use Rattle.std.proofs.lemmas.Bool.{and_from, and_left, and_parts, and_right, both_ways, cases_eq, cases_lt, cases_order, cond-false, cond-true, cond_both, eq-eqb, eqb-true, false_from_ne_true, le-leb, le-ltb, lt-leb, lt-ltb, ltb-false, ltb-true, ne_eqb, not-false, not-true, not_from_false}
pub use Rattle.std.proofs.lemmas.List.{drop-set-add, drop-set-lt, ext_get_or, get_or-drop, get_or-map, get_or-take, get_or_append_left, get_or_default, get_or_push, length-drop, length-map, length-take-le, length_push, same_lists, take-append-drop, take-take, take_all, take_at}
pub use Rattle.std.proofs.lemmas.List.Edits.{get_or-insert_above, get_or-insert_at, get_or-insert_below, get_or-remove_above, get_or-remove_below, length-insert, length-remove}
pub use Rattle.std.proofs.lemmas.Option.{same_Some, slice_get-get_or}
pub use Rattle.std.specs.List.{insert, list_any, range_with_len, remove}
pub use Rattle.std.specs.Option.{option_map}
pub use Rattle.std.specs.Prelude.{if◌then◌else◌, slice_index, slice_index_or, unwrap_or, ◌==◌}
pub use Rattle.stream_ident.proofs.FirstLemmas.{first_at-None, first_at-Some, first_at-nowhere, first_at-there}
pub use Rattle.stream_ident.proofs.Order.{IsOrder}
pub use Rattle.stream_ident.specs.Words.{above, first_at, is_above, least, lesser, next_after, or_else}
