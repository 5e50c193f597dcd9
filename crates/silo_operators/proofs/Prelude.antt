-- The words of other crates that these proofs share, each with its home.
pub use Rattle.queue_balancer.specs.Balance.{HasNoDoubles}
pub use Rattle.shared_partition.specs.Partitions.{after, replied}
pub use Rattle.silo_loops.proofs.Going.{first-of-all, goes-length, goes-refl, goes-set, goes-some, goes-trans, on-refl, on-trans, silent-refl}
pub use Rattle.silo_loops.proofs.Owning.{calls-number, owns-append, owns-foreign}
pub use Rattle.silo_loops.specs.Lines.{CallsOn, DirectoryPass, LineView, QueuePass}
pub use Rattle.silo_loops.specs.Passes.{CallsBy, OwnsNone}
pub use Rattle.silo_loops.specs.Silos.{AreSilent, AreSplitOff, GoOn, GoesOn, IsSilent, LineGoesOn, LineIsSilent}
pub use Rattle.std.proofs.Common.{Bool, Contains, Err, IfErr, IfOk, List, None, Ok, OnOk, Option, Result, Some, [], ap, append_assoc, arith, drop, false, get_or, if◌then◌else◌, inl, inr, length, refl, rules, set, subst, suc, sym, true, zero, ℕ, ◌++◌, ◌+◌, ◌<◌, ◌∙◌, ◌∷◌, ◌≡◌, ◌≢◌, ◌≤◌, ◌⊎◌}
pub use Rattle.std.proofs.Math.Seq.{drop-append_seam, drop-length}
pub use Rattle.std.proofs.lemmas.Grind.{common_steps}
pub use Rattle.std.proofs.lemmas.List.{append-nil, drop-append-le, get_or_default, length-append}
pub use Rattle.std.proofs.lemmas.Option.{none-some, slice_get-get_or, slice_get_within}
pub use Rattle.std.proofs.lemmas.Result.{on_ok_weaker}
pub use Rattle.std.specs.List.{AllByRecursion, AllZip, slice_index}
pub use Rattle.std.specs.Option.{unwrap_or}
pub use Rattle.std.specs.Prelude.{slice_get}
pub use Rattle.stream_model.specs.Replies.{Reply}
pub use Rattle.stream_model.specs.declared.op.Op.{Op}
pub use Rattle.stream_model.specs.declared.plain.PlainPartition.{PlainPartition}
pub use Rattle.turnstile.proofs.Histories.{legal_last}
pub use Rattle.turnstile.specs.Calls.{numbers_of}
pub use Rattle.turnstile.specs.Closing.{HasSome}
pub use Rattle.turnstile.specs.History.{Foreign, IsLegal, entry, replay}
pub use Rattle.turnstile.specs.Passes.{PassView}
pub use Rattle.turnstile.specs.declared.history.Entry.{Entry}
pub use Rattle.turnstile.specs.declared.turnstile.Refusal.{Refusal}
