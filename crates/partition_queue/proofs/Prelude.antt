-- The words of other crates that these proofs share, each with its home.
pub use Rattle.std.proofs.Common.{List, [], ap, append_assoc, arith, drop, get_or, inl, inr, length, length-append, map, refl, rules, subst, suc, sym, take, true, vec_capacity, vec_len, zero, ℕ, ◌*◌, ◌++◌, ◌+◌, ◌-◌, ◌<◌, ◌∙◌, ◌∷◌, ◌≡◌, ◌≤◌}
pub use Rattle.std.proofs.lemmas.List.{drop-append-le, get_or-append_right, get_or-drop, get_or-map, get_or-take, get_or_append_left, length-drop, length-map, length-take, map-append, take-append-le, take-map, take-take}
pub use Rattle.std.specs.List.{AllByRecursion, concat}
pub use Rattle.stream_ident.specs.Alphabet.{IsPayload}
pub use Rattle.stream_ident.specs.Event.{batch_token, events_of, no_event}
pub use Rattle.stream_ident.specs.declared.ident.StreamId.{StreamId}
pub use Rattle.stream_ident.specs.declared.limits.TheConstants.{BATCH_EVENTS, MOST_EVENTS, PAYLOAD_BYTES}
