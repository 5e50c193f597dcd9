-- The words of other crates that these proofs share, each with its home.
pub use Rattle.activation_directory.specs.declared.reply.DirectoryReply.{DirectoryReply}
pub use Rattle.shared_partition.specs.Partitions.{IsOfEmpty, LeavesLegal, TellsOneHistory, after, replied}
pub use Rattle.std.proofs.Common.{All, Bool, Contains, Err, List, None, Ok, OnErr, OnOk, Option, Result, Some, [], add-one, ap, append_assoc, arith, drop, false, get_or, inl, inr, length, map, refl, replicate, rules, set, subst, suc, sym, take, true, vec_capacity, vec_len, zero, ℕ, ◌++◌, ◌+◌, ◌-◌, ◌<◌, ◌||◌, ◌↔◌, ◌∙◌, ◌∷◌, ◌≡◌, ◌≤◌, ◌⊎◌, ⊎_elim}
pub use Rattle.std.proofs.lemmas.Bool.{cases_lt, false≢true}
pub use Rattle.std.proofs.lemmas.Grind.{common_steps}
pub use Rattle.std.proofs.lemmas.List.{append-nil, drop_all, get_or-set_same, length-append, length-map, length-set, length_push, set-get_or, take_all}
pub use Rattle.std.proofs.lemmas.List.Elements.{AllZip-get_or, Contains-append_cases, Contains-append_left, Contains-append_right, at_read}
pub use Rattle.std.proofs.lemmas.Option.{get_or_from_slice_get, none-some, slice_get-get_or, slice_get-map, slice_get_within}
pub use Rattle.std.specs.List.{AllByRecursion, AllZip, HoldsAt, slice_get, slice_index_or, slice_set}
pub use Rattle.std.specs.Option.{option_map, unwrap_or}
pub use Rattle.stream_ident.specs.declared.event.Event.{Event}
pub use Rattle.stream_model.specs.Replies.{Reply}
pub use Rattle.stream_model.specs.declared.op.Op.{Op}
pub use Rattle.turnstile.specs.Calls.{Agree, HasOnlyMade, IsOf, IsSplitOff, joined_pass, numbers_of}
pub use Rattle.turnstile.specs.History.{Claims, Foreign, entry}
pub use Rattle.turnstile.specs.Passes.{Origin, PassView}
pub use Rattle.turnstile.specs.declared.history.Entry.{Entry}
pub use Rattle.turnstile.specs.declared.turnstile.Refusal.{Refusal}
