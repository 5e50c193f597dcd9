-- What each call leaves of one state.
use Rattle.subscription_table.proofs.Prelude.{acknowledged, advanced, caught_up, committed, rewound, SubState, ack, ack_at, handled_at, next_at, next_event, retry, PlainCache, high, ◌≡◌, ◌∙◌, ℕ, max, ◌+◌, ◌^◌, ◌<◌, ◌≤◌, ◌==◌, Bool, true, false, not, List, [], ◌∷◌, length, Option, Some, None, if◌then◌else◌, refl, ap, sym, subst, arith, All, Result, Ok, Err, StreamId, Token}
use Rattle.std.proofs.lemmas.List.Elements.{All-filter, All-head}
use Rattle.stream_ident.specs.Token.{same_token}
use Rattle.partition_queue.specs.Queue.{PlainQueue, token_at}
use Rattle.pulling_agent.specs.Agent.{PlainAgent, if_current}
use Rattle.pulling_agent.specs.declared.agent.StaleAgent.{StaleAgent}
use Rattle.subscription_table.specs.Standing.{kept_of}
use Rattle.pulling_agent.specs.declared.told.Acked.TheVariants as ack_told
use Rattle.pulling_agent.specs.declared.told.Retried.TheVariants as retry_told
use Rattle.pulling_agent.specs.declared.told.Sought.{Sought}
use Rattle.pulling_agent.specs.declared.told.Sought.TheVariants as sought
use Rattle.subscription_table.proofs.TableLemmas.{Fits}

-- what a call gives: nothing new where the state is closed
abbrev asked : {R : Type 0} → SubState → Bool → R → SubState × R → SubState × R
asked s is_closed closed done = if is_closed then (s, closed) else done

module _ {R : Type 0} (s : SubState) (closed : R) (done : SubState × R) (P : SubState → Type 0) (here : P s) (there : P done.0) where
  asked-either : (is_closed : Bool) → P (asked s is_closed closed done).0
  asked-either true = here
  asked-either false = there

-- what a call leaves: the state as it was where the agent that it was asked of was replaced
module _ {R : Type 0} (a : PlainAgent) (generation : ℕ) (s : SubState) (done : SubState × R) (P : SubState → Type 0) (here : P s) (there : P done.0) where
  abbrev left : Bool → SubState × Result R StaleAgent
  left own = if own then (done.0, Ok done.1) else (s, Err (record { now = a.generation }))

  pub current-either : (new : SubState) (told : Result R StaleAgent) → ◌≡◌ {A = SubState × Result R StaleAgent} (new, told) (if_current a generation s done) → P new
  current-either new told is = subst (λ (r : SubState × Result R StaleAgent). P r.0) (sym is) (by (generation == a.generation))
    where
      by : (own : Bool) → P (left own).0
      by true = there
      by false = here

module _ (s : SubState) (stands : Fits s s) where
  pub fits-advanced : (position : ℕ) → position + 3 < 2 ^ 64 → Fits s (advanced position s)
  fits-advanced position room = record { start = refl; openness = refl; cursor = omega arith; resume = stands.resume }

  pub fits-committed : (positions : List ℕ) (note : ℕ) → Fits s (committed positions note s)
  fits-committed positions note = record { start = refl; openness = refl; cursor = stands.cursor; resume = stands.resume }

  pub fits-caught_up : (end : ℕ) (outstanding : Bool) → end + 2 < 2 ^ 64 → Fits s (caught_up end outstanding s)
  fits-caught_up end outstanding room =
      let far : max s.cursor end + 2 < 2 ^ 64 = let here = stands.cursor in omega arith in
      record { start = refl; openness = refl; cursor = far; resume = by outstanding far }
    where
      by : (b : Bool) → max s.cursor end + 2 < 2 ^ 64 → (if b then s.resume else max s.cursor end) + 2 < 2 ^ 64
      by true far = stands.resume
      by false far = far

  fits-found : (cache : PlainCache) (outstanding : Bool) → high cache + 2 < 2 ^ 64 → (found : Option ℕ) → Fits s (next_at cache s outstanding found).0
  fits-found cache outstanding room None = fits-caught_up (high cache) outstanding room
  fits-found cache outstanding room (Some position) = stands

  pub fits-sought : (cache : PlainCache) (stream : StreamId) (outstanding : Bool) → high cache + 2 < 2 ^ 64 → Fits s (next_event cache s stream outstanding).0
  fits-sought cache stream outstanding room =
      asked-either s sought.Closed _ (Fits s) stands (fits-found cache outstanding room _) (not s.live)

  pub fits-retried : Fits s (retry s).0
  fits-retried =
      asked-either s retry_told.Closed (rewound s, retry_told.Rewound) (Fits s) stands (record { start = refl; openness = refl; cursor = stands.resume; resume = stands.resume })
      (not s.live)

  fits-acknowledged : (position : ℕ) → position + 3 < 2 ^ 64 → Fits s (acknowledged position s)
  fits-acknowledged position room =
      let cursor = stands.cursor in
      let resume = stands.resume in
      record { start = refl; openness = refl; cursor = omega arith; resume = omega arith }

  fits-handled : (positions : List ℕ) → All (λ position. position + 3 < 2 ^ 64) positions → Fits s (ack_at s positions).0
  fits-handled [] below = stands
  fits-handled (position ∷ positions) below = fits-acknowledged position (All-head (λ position. position + 3 < 2 ^ 64) position positions below)

  pub fits-acked : (queue : PlainQueue) (token : Token) → All (λ position. position < length queue.events) s.handled → length queue.events ≤ 1000000 → Fits s (ack s queue token).0
  fits-acked queue token there few =
      let below : All (λ position. position + 3 < 2 ^ 64) s.handled = λ k d within. let here = there k d within in omega arith in
      asked-either s ack_told.Closed (ack_at s (handled_at s.handled queue token)) (Fits s) stands
      (fits-handled (handled_at s.handled queue token) (All-filter (λ position. same_token (token_at queue position) token) (λ position. position + 3 < 2 ^ 64) s.handled below))
      (not s.live)

-- an event was handled, and the next one sought
pub fits-handled_once : (s handled new : SubState) → Fits s s → (position note : ℕ) → position + 3 < 2 ^ 64 → (cache : PlainCache) (stream : StreamId) (told : Sought) → high cache + 2 < 2 ^ 64
    → handled ≡ advanced position (committed (position ∷ []) note s) → ◌≡◌ {A = SubState × Sought} (new, told) (next_event cache handled stream false) → Fits s new
fits-handled_once s handled new stands position note room cache stream told end is found =
    let after = advanced position (committed (position ∷ []) note s) in
    let here : Fits after after = record { start = refl; openness = refl; cursor = omega arith; resume = stands.resume } in
    let fits = fits-sought after here cache stream false end in
    let left : new ≡ (next_event cache after stream false).0 = ap (λ (r : SubState × Sought). r.0) found ∙ ap (λ (s : SubState). (next_event cache s stream false).0) is in
    subst (Fits s) (sym left) (record { start = fits.start; openness = fits.openness; cursor = fits.cursor; resume = fits.resume })

-- a retry leaves the leaf
pub kept-retried : (s : SubState) → kept_of (retry s).0 ≡ kept_of s
kept-retried s =
    asked-either s retry_told.Closed (rewound s, retry_told.Rewound) (λ new. kept_of new ≡ kept_of s) refl refl (not s.live)

-- a call that found anything but nothing leaves the state
pub same-sought : (cache : PlainCache) (s new : SubState) (stream : StreamId) (outstanding : Bool) (told : Sought) → (told ≡ sought.Nothing → ⊥)
    → ◌≡◌ {A = SubState × Sought} (new, told) (next_event cache s stream outstanding) → new ≡ s
same-sought cache s new stream outstanding told other is = by (not s.live) _ is
  where
    found : (o : Option ℕ) → ◌≡◌ {A = SubState × Sought} (new, told) (next_at cache s outstanding o) → new ≡ s
    found None is = absurd (other (ap (λ (r : SubState × Sought). r.1) is))
    found (Some position) is = ap (λ (r : SubState × Sought). r.0) is

    by : (is_closed : Bool) (o : Option ℕ) → ◌≡◌ {A = SubState × Sought} (new, told) (asked s is_closed sought.Closed (next_at cache s outstanding o)) → new ≡ s
    by true o is = ap (λ (r : SubState × Sought). r.0) is
    by false o is = found o is
