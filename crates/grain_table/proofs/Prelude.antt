-- The words of other crates that these proofs share, each with its home.
pub use Rattle.consumer_grain.specs.Activations.{PlainActivation, begin, commit, deactivated, forgotten, offered}
pub use Rattle.ranked_index.proofs.EntryLemmas.{first_past-from, rank-before, ranked-insert, ranked-set}
pub use Rattle.ranked_index.specs.Listed.{IsListed}
pub use Rattle.ranked_index.specs.Ranked.{AreRanked, IsFirstPast, entry_at, is_up_to}
pub use Rattle.std.proofs.Common.{Bool, Bor, IsTrue, List, None, Option, Some, [], ap, ap₂, arith, drop, false, filter, get_or, get_or-set_same, if◌then◌else◌, insert, is_ok, is_some, length, length-set, nat_lt, not, refl, remove, rules, set, slice_index, subst, suc, sym, true, true≢false, vec_capacity, zero, ℕ, ◌&&◌, ◌++◌, ◌+◌, ◌-◌, ◌<◌, ◌^◌, ◌↔◌, ◌∙◌, ◌∷◌, ◌≡◌, ◌≤◌}
pub use Rattle.std.proofs.lemmas.Bool.{eqb-false, eqb-true, false_from_ne_true, lt-ltb, ltb-false, ltb-true}
pub use Rattle.std.proofs.lemmas.List.{get_or_default, get_or_push, length_push, nil_from_length}
pub use Rattle.std.specs.Option.{option_copied}
pub use Rattle.stream_ident.proofs.NameOrders.{grain_order}
pub use Rattle.stream_ident.specs.Name.{grain_lt, same_grain}
pub use Rattle.stream_ident.specs.Words.{change_at, keys_where, least, past}
pub use Rattle.stream_ident.specs.declared.ident.GrainId.{GrainId}
