-- The words of other crates that these proofs share, each with its home.
pub use Rattle.std.proofs.Common.{Bool, List, None, Option, Some, [], ap, arith, drop, false, filter, is_some, length, refl, slice_get, subst, suc, sym, true, true≢false, zero, ℕ, ◌++◌, ◌+◌, ◌-◌, ◌<◌, ◌∙◌, ◌∷◌, ◌≡◌, ◌≤◌}
pub use Rattle.std.proofs.lemmas.Bool.{cond_both, eq-eqb, eqb-true, false_from_ne_true, ltb-false, ltb-true, ne_eqb}
pub use Rattle.std.specs.Prelude.{IfSome, if◌then◌else◌, nat_lt, ◌==◌, ◌⊎◌}
pub use Rattle.stream_ident.proofs.SameValues.{same_grain-equal, same_grain-refl}
pub use Rattle.stream_ident.specs.Name.{grain_lt, same_grain}
pub use Rattle.stream_ident.specs.Words.{has_number, lesser}
pub use Rattle.stream_ident.specs.declared.ident.GrainId.{GrainId}
