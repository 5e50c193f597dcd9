-- The words of other crates that these proofs share, each with its home.
pub use Rattle.std.proofs.Common.{List, None, Ok, Option, Result, Some, [], add-one, ap, append_assoc, arith, get_or, inl, inr, length, map, refl, subst, suc, sym, take, ℕ, ◌++◌, ◌+◌, ◌<◌, ◌∙◌, ◌∷◌, ◌≡◌, ◌≤◌}
pub use Rattle.std.proofs.KnownBytes.{Appends-kept, Appends-nil, Appends-trans}
pub use Rattle.std.proofs.lemmas.List.{append-nil, get_or-map, length-map}
pub use Rattle.std.proofs.lemmas.Option.{IfSome_then}
pub use Rattle.std.specs.Io.KnownBytes.{Appends, Consumes, IsAtEnd}
pub use Rattle.std.specs.List.{AllZip, flat_map}
pub use Rattle.stream_model.specs.Replies.{Reply}
pub use Rattle.stream_model.specs.declared.op.Op.{Op}
pub use Rattle.turnstile.specs.Asked.{asked_entries}
