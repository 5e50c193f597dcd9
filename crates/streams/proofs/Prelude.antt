-- The words of other crates that these proofs share, each with its home.
pub use Rattle.silo_loops.specs.Lines.{QueuePass}
pub use Rattle.queue_callers.specs.Calls.{turnstiles}
pub use Rattle.std.proofs.Common.{Bool, Err, List, Ok, Result, SFits, Some, add-one, ap, arith, inl, inr, length, of_z, refl, rules, subst, suc, sym, to_z-of_z, w64, ℕ, ◌*◌, ◌+◌, ◌-◌, ◌<◌, ◌^◌, ◌||◌, ◌∙◌, ◌≡◌, ◌≢◌, ◌≤◌}
pub use Rattle.std.proofs.lemmas.Result.{err_from_is_err_and}
pub use Rattle.stream_model.specs.declared.op.Op.TheVariants.{AddRule}
