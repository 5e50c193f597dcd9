-- The words of other crates that these proofs share, each with its home.
pub use Rattle.queue_mapper.specs.Place.{bare, tag_of, tags_of}
pub use Rattle.std.proofs.Common.{Bool, List, None, Some, [], ap, arith, drop, false, get_or, get_or-set_other, get_or-set_same, inl, inr, length, length-drop, length-set, length-take, map, refl, set, shr-shr, subst, suc, sym, take, true, w64, ℕ, ⊎_elim, ◌%◌, ◌*◌, ◌+◌, ◌-◌, ◌/◌, ◌<◌, ◌^◌, ◌↔◌, ◌∙◌, ◌∷◌, ◌≡◌, ◌≢◌, ◌≤◌}
pub use Rattle.std.specs.Prelude.{IfNone, not, unwrap_or}
pub use Rattle.stream_ident.specs.Event.{is_owed, no_event}
pub use Rattle.stream_ident.specs.Token.{token_lt}
pub use Rattle.stream_ident.specs.declared.event.Event.{Event}
