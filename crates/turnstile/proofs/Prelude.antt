-- The words of other crates that these proofs share, each with its home.
pub use Rattle.atomic_table.proofs.Lists.{at_longer, at_set, at_snoc, one_turn, set_again, set_else}
pub use Rattle.atomic_table.specs.Seated.{TableId}
pub use Rattle.std.proofs.Common.{All, Bool, Err, List, MatchResult, None, Ok, Option, Result, Some, [], add-one, ap, append-nil, append_assoc, arith, drop, eq-eqb, eqb, false, get_or, if◌then◌else◌, inl, inr, length, length-append, ltb, map, max, min, ne_eqb, refl, rules, set, subst, suc, sym, take, true, unwrap_or, vec_len, zero, ℕ, ⊎_elim, ◌%◌, ◌++◌, ◌+◌, ◌-◌, ◌<◌, ◌^◌, ◌∙◌, ◌∷◌, ◌≡◌, ◌≢◌, ◌≤◌, ◌⊎◌}
pub use Rattle.std.proofs.lemmas.Option.{none-some, same_Some}
pub use lib.ListN.{get_elem?}
pub use mathlib.Core.Logic.{dite}
pub use mathlib.Core.Option.{some, some-injective, some-ne-none}
pub use native.Mathlib.Decide.{dec_le, ℕ_discrete}
