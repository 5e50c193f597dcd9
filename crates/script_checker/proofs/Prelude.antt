-- The words of other crates that these proofs share, each with its home.
pub use Rattle.std.proofs.Common.{Bool, Err, List, None, Ok, Option, Result, Some, [], ap, append_assoc, arith, cond, drop, false, get_or, if◌then◌else◌, inl, inr, is_some, length, min, not, refl, rules, slice_index, subst, suc, sym, take, true, zero, ℕ, ◌++◌, ◌+◌, ◌-◌, ◌<◌, ◌==◌, ◌^◌, ◌||◌, ◌∙◌, ◌∷◌, ◌≡◌, ◌≢◌, ◌≤◌}
pub use Rattle.std.proofs.lemmas.Bool.{and_parts, cases_Bool, cases_lt, eq-eqb, eqb-false, eqb-true, leb-true}
pub use Rattle.std.proofs.lemmas.List.{drop-drop, flat_map_more, get_or-drop, get_or-replicate, get_or-set_other, get_or-set_same, length-set, map-append, take_more}
pub use Rattle.std.specs.List.{All, list_all, range_with_len}
pub use Rattle.std.specs.String.{string_bytes}
pub use Rattle.stream_ident.specs.declared.ident.StreamId.{StreamId}
pub use Rattle.stream_script.specs.declared.parser.command.Command.{Command}
pub use Rattle.stream_script.specs.declared.parser.command.Mode.{Mode}
