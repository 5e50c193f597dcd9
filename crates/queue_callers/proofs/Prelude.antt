-- The words of other crates that these proofs share, each with its home.
pub use Rattle.shared_partition.specs.Partitions.{BeganEmpty, after, replied, told_of}
pub use Rattle.silo_loops.proofs.Going.{on-refl}
pub use Rattle.silo_loops.proofs.Owning.{owns-append, owns-claimed, owns-foreign}
pub use Rattle.silo_loops.specs.Fronts.{AllZipFront}
pub use Rattle.silo_loops.specs.Lines.{LineView, NeverProduces, QueuePass, places}
pub use Rattle.silo_loops.specs.Passes.{IsOtherIn, IsPartOf, OwnsNone}
pub use Rattle.silo_loops.specs.Silos.{GoesOn}
pub use Rattle.std.proofs.Common.{Bool, Contains, Err, IfOk, List, None, Ok, Option, Result, Some, [], add-one, ap, append_assoc, arith, false, get_or, if◌then◌else◌, inl, inr, length, map, max, refl, rules, set, subst, suc, sym, true, vec_capacity, vec_len, zero, ℕ, ◌++◌, ◌+◌, ◌<◌, ◌∙◌, ◌∷◌, ◌≡◌, ◌≢◌, ◌≤◌, ◌⊎◌}
pub use Rattle.std.proofs.Math.Seq.{map-set_same}
pub use Rattle.std.proofs.lemmas.Grind.{common_steps}
pub use Rattle.std.proofs.lemmas.Iterator.Adapters.{YieldsList-from_vec}
pub use Rattle.std.proofs.lemmas.Iterator.Consumers.{YieldsList-end, YieldsList-turn}
pub use Rattle.std.proofs.lemmas.List.{append-nil, length-map, length_push, map-append, map-id, set-get_or}
pub use Rattle.std.proofs.lemmas.List.Elements.{Contains-append_cases}
pub use Rattle.std.proofs.lemmas.Option.{get_or_from_slice_get, none-some}
pub use Rattle.std.proofs.lemmas.Result.{err_from_is_err_and}
pub use Rattle.std.specs.List.{AllByRecursion, AllZip}
pub use Rattle.std.specs.Option.{unwrap_or}
pub use Rattle.std.specs.Prelude.{AllPairs, nat_lt, slice_get, slice_set}
pub use Rattle.std.specs.declared.alloc.AllocError.{AllocError}
pub use Rattle.stream_ident.proofs.EachOf.{All-append, All-push, All-weaken}
pub use Rattle.stream_model.specs.Replies.{Reply}
pub use Rattle.stream_model.specs.declared.op.Op.{Op}
pub use Rattle.stream_model.specs.declared.plain.PlainPartition.{PlainPartition}
pub use Rattle.turnstile.proofs.Histories.{legal_last, replay_snoc}
pub use Rattle.turnstile.specs.Calls.{Agree, HasOnlyMade, HasOnlySeen, IsOf, IsSplitOff, joined_pass, numbers_of}
pub use Rattle.turnstile.specs.Closing.{FromAll, HasSome, all_numbers}
pub use Rattle.turnstile.specs.History.{Foreign, IsLegal, Own, entry, longer, replay}
pub use Rattle.turnstile.specs.Passes.{Origin, PassView}
pub use Rattle.turnstile.specs.declared.history.Entry.{Entry}
pub use Rattle.turnstile.specs.declared.turnstile.Refusal.{Refusal}
