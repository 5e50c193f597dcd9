-- Publish and Subscribe, at each outcome of their tests.
use Rattle.stream_model.proofs.Prelude.{◌≡◌, ◌∙◌, ap, sym, refl, ℕ, suc, ◌+◌, ◌<◌, ◌≤◌, ◌==◌, nat_lt, Bool, true, false, ◌||◌, List, [], ◌∷◌, ◌++◌, length, add-one, le-ltb, le-leb, lt-leb, AllByRecursion, batch_token, events_of, token_lt, Event, GrainId, StreamId, SubName, BATCH_EVENTS, Token}
use Rattle.stream_ident.specs.declared.ident.SubName.TheVariants as name
use Rattle.stream_model.specs.declared.op.Start.{Start}
use Rattle.stream_model.specs.declared.op.Start.TheVariants.{Latest, At}
use Rattle.stream_model.specs.declared.plain.Subscription.{Subscription}
use Rattle.stream_model.specs.Bounds.{IsGiven}
use Rattle.stream_model.specs.declared.plain.PlainPartition.{PlainPartition}
use Rattle.stream_model.specs.declared.reply.Reply.TheVariants as reply
use Rattle.stream_model.specs.Positions.{high_token, low_token, lower_bound, new_subscription}
use Rattle.stream_model.specs.Publishing.{publish, subscribe, subscribe_at}
use Rattle.stream_model.proofs.SubNames.{with_value-new}
use Rattle.stream_model.specs.Step.{takes_memory}

-- no payload, or more than 64
abbrev pub is_bad : List (List ℕ) → Bool
is_bad payloads = (length payloads == 0) || nat_lt BATCH_EVENTS (length payloads)

pub publish-bad : (p : PlainPartition) (stream : StreamId) (payloads : List (List ℕ)) → is_bad payloads ≡ true → publish p stream payloads ≡ (p, reply.BadBatch)
unfolding publish
publish-bad p stream payloads bad = rw bad refl

pub publish-full : (p : PlainPartition) (stream : StreamId) (payloads : List (List ℕ)) → is_bad payloads ≡ false → nat_lt p.limits.events (length p.log + length payloads) ≡ true → publish p stream payloads ≡ (p, reply.QueueFull)
unfolding publish
publish-full p stream payloads good full = rw (good, full) refl

pub publish-done : (p : PlainPartition) (stream : StreamId) (payloads : List (List ℕ)) → is_bad payloads ≡ false → nat_lt p.limits.events (length p.log + length payloads) ≡ false → publish p stream payloads ≡ (record p { log = p.log ++ events_of stream p.batches 0 payloads; batches = suc p.batches }, reply.Published p.batches)
unfolding publish
publish-done p stream payloads good fits = rw (good, fits) refl

-- what is left where the batch fits, with the sum as the program writes it
pub publish-made : (p : PlainPartition) (stream : StreamId) (payloads : List (List ℕ)) (log : List Event) → is_bad payloads ≡ false → length p.log + length payloads ≤ p.limits.events → log ≡ p.log ++ events_of stream p.batches 0 payloads → (record p { log = log; batches = p.batches + 1 }, reply.Published p.batches) ≡ publish p stream payloads
publish-made p stream payloads log good fits is =
    rw (is, add-one p.batches) (sym (publish-done p stream payloads good (le-ltb _ _ fits)))

-- a batch that fits wants memory
pub publish-takes_memory : (p : PlainPartition) (stream : StreamId) (payloads : List (List ℕ)) → is_bad payloads ≡ false → length p.log + length payloads ≤ p.limits.events → takes_memory (publish p stream payloads).1 ≡ true
publish-takes_memory p stream payloads good fits = rw (publish-done p stream payloads good (le-ltb _ _ fits)) refl

pub subscribe-latest : (p : PlainPartition) (stream : StreamId) (grain : GrainId) (start : Start) (token : Token) → start ≡ Latest → token ≡ batch_token p.batches → subscribe_at p stream grain token p.high ≡ subscribe p stream grain start
unfolding subscribe
subscribe-latest p stream grain start token is is_token =
    ap (λ token. subscribe_at p stream grain token p.high) is_token ∙ sym (ap (subscribe p stream grain) is)

pub subscribe-at : (p : PlainPartition) (stream : StreamId) (grain : GrainId) (start : Start) (token : Token) (position : ℕ) → start ≡ At token → token_lt token (low_token p) ≡ false → position ≡ lower_bound p token → subscribe_at p stream grain token position ≡ subscribe p stream grain start
unfolding subscribe
subscribe-at p stream grain start token position is there is_position =
    ap (subscribe_at p stream grain token) is_position ∙ sym (ap (subscribe p stream grain) is ∙ rw there refl)

pub subscribe-miss : (p : PlainPartition) (stream : StreamId) (grain : GrainId) (start : Start) (token : Token) → start ≡ At token → token_lt token (low_token p) ≡ true → subscribe p stream grain start ≡ (p, reply.Miss token (low_token p) (high_token p))
unfolding subscribe
subscribe-miss p stream grain start token is missed = ap (subscribe p stream grain) is ∙ rw missed refl

pub subscribe-full : (p : PlainPartition) (stream : StreamId) (grain : GrainId) (start : Token) (position : ℕ) → p.limits.subs ≤ length p.subs → subscribe_at p stream grain start position ≡ (p, reply.TooMany)
unfolding subscribe_at
subscribe-full p stream grain start position full = rw (le-leb p.limits.subs (length p.subs) full) refl

-- the program counts and adds at the end
pub subscribe-made : (p : PlainPartition) (stream : StreamId) (grain : GrainId) (start : Token) (position : ℕ) (subs : List (SubName × Subscription)) → length p.subs < p.limits.subs → AllByRecursion (λ entry. IsGiven p.explicit entry.0) p.subs → subs ≡ p.subs ++ (name.Explicit (p.explicit + 1), new_subscription stream grain start position) ∷ [] → (record p { subs = subs; explicit = p.explicit + 1 }, reply.Subscribed (p.explicit + 1)) ≡ subscribe_at p stream grain start position
unfolding subscribe_at
subscribe-made p stream grain start position subs fits given is =
    let sub = new_subscription stream grain start position in
    rw (lt-leb p.limits.subs (length p.subs) fits, is, add-one p.explicit, with_value-new p.explicit sub p.subs given) refl

pub subscribe-takes_memory : (p : PlainPartition) (stream : StreamId) (grain : GrainId) (start : Token) (position : ℕ) → length p.subs < p.limits.subs → takes_memory (subscribe_at p stream grain start position).1 ≡ true
unfolding subscribe_at
subscribe-takes_memory p stream grain start position fits = rw (lt-leb p.limits.subs (length p.subs) fits) refl
