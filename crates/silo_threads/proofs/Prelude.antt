-- The words of other crates that these proofs share, each with its home.
pub use Rattle.queue_balancer.specs.Balance.{IsBalanced}
pub use Rattle.silo_loops.proofs.Going.{goes-length, goes-places, goes-refl, on-refl, split-places, still-at, taken-silo}
pub use Rattle.silo_loops.specs.Lines.{DirectoryPass, LineView, QueuePass, places}
pub use Rattle.silo_loops.specs.Passes.{IsOtherIn, OwnsNone}
pub use Rattle.silo_loops.specs.Silos.{AreSilent, AreSplitOff, AreTakenIn, GoOn, GoesOn, HasRun, IsFresh, IsSilent, IsSiloAt, IsSplitLine, LineGoesOn, SiloView}
pub use Rattle.std.proofs.Common.{Bool, Contains, Err, IfOk, List, Ok, OnOk, Result, Some, [], ap, arith, drop, false, get_or, inl, inr, length, map, refl, remove, rules, subst, suc, sym, true, vec_capacity, zero, ℕ, ◌++◌, ◌+◌, ◌<◌, ◌∙◌, ◌∷◌, ◌≡◌, ◌≤◌, ◌⊎◌}
pub use Rattle.std.proofs.lemmas.Grind.{common_steps}
pub use Rattle.std.proofs.lemmas.Iterator.Adapters.{YieldsList-from_vec}
pub use Rattle.std.proofs.lemmas.Iterator.Consumers.{YieldsList-end}
pub use Rattle.std.proofs.lemmas.List.{get_or-map, length-append, length-map, length_push, map-append, map-id}
pub use Rattle.std.proofs.lemmas.List.Elements.{AllZip-push}
pub use Rattle.std.proofs.lemmas.Option.{slice_get-get_or, slice_get_within}
pub use Rattle.std.proofs.lemmas.Result.{IfErr-weaker, on_err_weaker, on_ok_weaker}
pub use Rattle.std.specs.List.{AllByRecursion, AllZip, range_with_len, slice_index}
pub use Rattle.std.specs.Option.{unwrap_or}
pub use Rattle.std.specs.Prelude.{replicate, ◌||◌}
pub use Rattle.std.specs.declared.alloc.AllocError.{AllocError}
pub use Rattle.stream_ident.proofs.EachOf.{All-push, All-weaken}
pub use Rattle.stream_model.specs.Replies.{Reply}
pub use Rattle.stream_model.specs.declared.op.Op.{Op}
pub use Rattle.turnstile.specs.declared.history.Entry.{Entry}
