-- The words of other crates that these proofs share, each with its home.
pub use Rattle.std.proofs.Common.{Err, List, MatchResult, Ok, Result, Some, [], refl, subst, sym, ◌∷◌, ◌≡◌}
pub use Rattle.stream_laws.proofs.KeptStep.{kept-step}
pub use Rattle.stream_laws.proofs.LawsOfHistories.{one_history-from}
pub use Rattle.turnstile.specs.Calls.{Called, CallsBy, Found, IsOf, LooksBy}
pub use Rattle.turnstile.specs.History.{IsLegal, replay}
pub use Rattle.turnstile.specs.Passes.{Origin, PassView}
pub use Rattle.turnstile.specs.declared.history.Entry.{Entry}
pub use Rattle.turnstile.specs.declared.turnstile.Refusal.{Refusal}
pub use Rattle.turnstile.specs.declared.view.Start.{Start}
