-- The words of other crates that these proofs share, each with its home.
pub use Rattle.std.proofs.Common.{Err, Result, add-one, ap, append_assoc, arith, codes, drop, drop-cons, eqb, get_or, inl, inr, length, length-append, map, replicate, rules, set, slice_get, subst, suc, sym, take, vec_len, ◌%◌, ◌++◌, ◌+◌, ◌-◌, ◌<◌, ◌∙◌, ◌≡◌, ◌≤◌}
pub use Rattle.std.proofs.KnownBytes.{Appends-kept, Appends-nil, Appends-trans, starts_with_rest}
pub use Rattle.std.proofs.lemmas.Bool.Decides.{nat_tests}
pub use Rattle.std.proofs.lemmas.Bool.{and_from, and_left, and_parts, and_right, cases_Bool, eq-eqb, eqb-true, le-ltb, lt-ltb, ltb-false, ltb-true, not-true, or_cases, or_from, or_left, or_parts}
pub use Rattle.std.proofs.lemmas.Iterator.Adapters.{option_map_id}
pub use Rattle.std.proofs.lemmas.List.{append-nil, drop-set-lt, drop_all, get_or_read, length-map, length-replicate, map_push, take-append-drop, take_all, take_at, take_more, take_more_set, take_rest}
pub use Rattle.std.proofs.lemmas.List.Folds.{list_all-append}
pub use Rattle.std.proofs.lemmas.List.Sums.{prefix_len-le-length}
pub use Rattle.std.proofs.lemmas.Option.{cond_some, get_or_from_slice_get, none-some}
pub use Rattle.std.specs.Char.{is_ascii_digit}
pub use Rattle.std.specs.Cmp.Lexicographic.{same_text}
pub use Rattle.std.specs.Fmt.{decimal}
pub use Rattle.std.specs.Io.KnownBytes.{Appends, Consumes, IsAtEnd, Keeps}
pub use Rattle.std.specs.List.{AllByRecursion, flat_map, list_all, list_any, position_or_len}
pub use Rattle.std.specs.Option.{option_map}
pub use Rattle.std.specs.Prelude.{Bool, IfOk, IfSome, List, None, Ok, OnOk, Option, Some, [], cond, false, nat_lt, not, position, refl, true, unwrap_or, ℕ, ◌&&◌, ◌==◌, ◌^◌, ◌∷◌}
pub use Rattle.std.specs.Result.{IsErr, IsErrAnd}
pub use Rattle.std.specs.declared.alloc.AllocError.{AllocError}
pub use Rattle.stream_ident.proofs.NumberLemmas.{decimal-number_of, number_of-decimal, numerals}
pub use Rattle.stream_ident.proofs.SplitLemmas.{Parts, split_once-front, split_once-joined}
pub use Rattle.stream_ident.proofs.WordLemmas.{drop-read, one-add}
pub use Rattle.stream_ident.specs.Alphabet.{IsName, IsPayload, is_name_byte, is_printable, wrong_in_name, wrong_in_payload}
pub use Rattle.stream_ident.specs.Event.{events_at, no_event}
pub use Rattle.stream_ident.specs.Name.{field_of, field_or, grain_of, name_of, name_or, payload_of, payload_or, same_name, stream_of, ◌>>=◌}
pub use Rattle.stream_ident.specs.Text.{split_once}
pub use Rattle.stream_ident.specs.Token.{IsToken, token_of, token_text}
pub use Rattle.stream_ident.specs.declared.ident.GrainId.{GrainId}
pub use Rattle.stream_ident.specs.declared.ident.StreamId.{StreamId}
pub use Rattle.stream_ident.specs.declared.ident.SubName.{SubName}
pub use Rattle.stream_ident.specs.declared.limits.TheConstants.{MOST_SILOS}
pub use Rattle.stream_ident.specs.declared.token.Token.{Token}
pub use Rattle.stream_model.specs.Positions.{empty}
pub use Rattle.stream_model.specs.declared.plain.PlainPartition.{PlainPartition}
