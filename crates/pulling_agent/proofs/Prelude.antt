-- The words of other crates that these proofs share, each with its home.
pub use Rattle.partition_queue.specs.Queue.{PlainQueue, TokensRise, between, event_at, token_at}
pub use Rattle.queue_cache.specs.Cache.{PlainCache, high, room, with_events, without_front}
pub use Rattle.std.proofs.Common.{Bool, List, None, Some, [], add-zero, ap, arith, drop, false, filter, get_or, inl, inr, length, length-drop, map, min, refl, suc, sym, true, zero, ℕ, ◌*◌, ◌+◌, ◌-◌, ◌/◌, ◌<◌, ◌==◌, ◌∙◌, ◌∷◌, ◌≡◌, ◌≢◌, ◌≤◌}
pub use Rattle.std.proofs.lemmas.List.{drop-drop, get_or-map}
pub use Rattle.stream_ident.specs.Token.{same_token, token_lt}
