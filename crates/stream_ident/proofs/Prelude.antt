-- The words of other crates that these proofs share, each with its home.
pub use Rattle.std.proofs.Common.{Bool, Equal, Greater, Less, List, Ordering, [], add-one, ap, append_assoc, arith, drop, false, filter, fold, get_or, inl, inr, is_some, length, nat_le, refl, rules, subst, suc, sym, take, tests, true, true≢false, zero, ℕ, ◌&&◌, ◌++◌, ◌+◌, ◌<◌, ◌||◌, ◌∙◌, ◌∷◌, ◌≡◌, ◌≤◌}
pub use Rattle.std.proofs.lemmas.Bool.{and_from, and_parts, cases_Bool, cases_lt, cond_both, eq-eqb, eqb-false, eqb-true, false≢true, le-leb, le-ltb, lt-ltb, ltb-false, ltb-true, ne_eqb, not-false, not-true}
pub use Rattle.std.proofs.lemmas.Bool.Decides.{nat_tests}
pub use Rattle.std.proofs.lemmas.Fmt.{IsAscii-from_digits, decimal-digits_value, decimal_nonempty, digits_decimal, digits_value-decimal, first_decimal, length-decimal-le}
pub use Rattle.std.proofs.lemmas.List.{append-nil, drop_all, drop_more, length-append, length-replicate, length-take, length_push, nil_from_length, take-take, take_all, take_at, take_more, take_rest}
pub use Rattle.std.proofs.lemmas.Option.{cond_some, same_Some}
pub use Rattle.std.specs.List.{AllByRecursion, flat_map, list_all, position_or_len}
pub use Rattle.std.specs.Ordering.{is_eq, is_lt, is_some_and, nat_cmp, ordering_reverse, partial_ordering_then}
pub use Rattle.std.specs.Prelude.{Err, IfOk, None, Ok, OnErr, Option, Result, Some, cond, if◌then◌else◌, nat_lt, not, position, replicate, set, slice_index, ◌-◌, ◌==◌, ◌^◌, ◌≢◌}
pub use Rattle.std.specs.Str.{all_ascii_digits}
