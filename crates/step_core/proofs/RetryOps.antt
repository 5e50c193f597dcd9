-- What agents ask of one record: the replies, and parts that agree with each other.
use Rattle.step_core.proofs.Prelude.{SubState, PlainQueue, IsDone, IsRefused, ack_at, handled_at, retry, StaleAgent, ◌≡◌, ◌∙◌, ap, sym, subst, refl, ℕ, ◌<◌, Bool, true, false, not, List, [], ◌∷◌, length, Some, None, arith, cond_both, All, if◌then◌else◌, SubName, Token, ack-stale, ack-unknown, retry-stale, retry-unknown, AreIn, IsWithinLimits, is_stale, Reply, PlainPartition, Subscription, AreRecords, PlainTable, no_entry, no_state, state_at, stepped}
use Rattle.std.proofs.lemmas.List.Elements.{All-from_recursion}
use Rattle.step_core.proofs.RecordOps.{no-record}
use Rattle.stream_model.specs.declared.reply.Reply.TheVariants as reply
use Rattle.stream_model.specs.Pulling as plain
use Rattle.pulling_agent.specs.Progress.{ack}
use Rattle.subscription_table.specs.Table.{number_of}
use Rattle.pulling_agent.specs.declared.told.Acked.{Acked}
use Rattle.pulling_agent.specs.declared.told.Retried.{Retried}
use Rattle.step_core.specs.Assembly.{IsAssembled}
use Rattle.step_core.specs.PlainOf.{plain_of}
use Rattle.step_core.specs.Replies.{of_ack, of_retry, unknown}
use Rattle.step_core.specs.View.{sub_of, subs_of}
use Rattle.step_core.specs.declared.parts.Parts.{Parts}
use Rattle.step_core.proofs.AgentOps.{ack-parts, retry-parts}
use Rattle.step_core.proofs.AssembledTable.{assembled-subs}
use Rattle.step_core.proofs.KnownOps.{known-state}
use Rattle.step_core.proofs.ViewLemmas.{record-at, records-length}

-- an open state that was open, and is at its resume with nothing handled where it was
abbrev Stays : SubState → SubState → Type 0
Stays old new =
    (new.live ≡ true → old.live ≡ true)
    × (old.cursor ≡ old.resume → old.handled ≡ [] → (new.cursor ≡ new.resume) × (new.handled ≡ []))

unchanged : (s : SubState) → Stays s s
unchanged s = (λ is_open. is_open, λ at none. (at, none))

pub retry-stays : (s : SubState) → Stays s (retry s).0
retry-stays s = cond_both (not s.live) _ _ (λ (out : SubState × Retried). Stays s out.0) (λ _. unchanged s) (λ _. (λ is_open. is_open, λ at none. (refl, none)))

-- an event that is acknowledged was handled
pub ack-stays : (s : SubState) (queue : PlainQueue) (token : Token) → Stays s (ack s queue token).0
ack-stays s queue token =
    cond_both (not s.live) _ _ (λ (out : SubState × Acked). Stays s out.0) (λ _. unchanged s) (λ _. by (handled_at s.handled queue token) (λ none. ap (λ (handled : List ℕ). handled_at handled queue token) none))
  where
    by : (positions : List ℕ) → (s.handled ≡ [] → positions ≡ []) → Stays s (ack_at s positions).0
    by [] empty = unchanged s
    by (position ∷ positions) empty = (λ is_open. is_open, λ at none. absurd (let is : position ∷ positions ≡ [] = empty none in cc))

-- a change of one state
pub stepped-assembled : {R : Type 0} (parts : Parts) (number : ℕ) (x : SubState × R) (new : PlainTable) (told : R) → AreRecords parts.subs → number < length parts.subs.registry.names → Stays (state_at parts.subs number) x.0 → IsAssembled parts → (new, told) ≡ stepped parts.subs number x → IsAssembled (record parts { subs = new })
stepped-assembled {R} parts number x new told records within stays assembled done =
    subst (λ (left : PlainTable × R). IsAssembled (record parts { subs = left.0 })) (sym done)
    (assembled-subs parts (stepped parts.subs number x).0 (record { names = refl; most_names = refl; most_rules = refl })
    (known-state parts.subs.registry.names parts.subs.states parts.grains number x.0 assembled.known (let long = records.long in omega (arith, within, long)) stays.0 (λ at none unheld. stays.1 at none))
    assembled)

-- ---- a name without a subscription, and a table that a replaced agent was asked to change

pub nothing-told : (p : PlainPartition) (generation : ℕ) (answer : PlainPartition × Reply) → (is_stale p generation ≡ true → (p, reply.StaleAgent p.generation) ≡ answer) → (is_stale p generation ≡ false → (p, reply.NoSuch) ≡ answer) → (p, unknown p generation) ≡ answer
nothing-told p generation answer stale current = by (is_stale p generation) refl
  where
    by : (b : Bool) → is_stale p generation ≡ b → ◌≡◌ {A = PlainPartition × Reply} (p, if b then reply.StaleAgent p.generation else reply.NoSuch) answer
    by true is = stale is
    by false is = current is

module _ (parts : Parts) (generation : ℕ) (new : PlainTable) (stale : StaleAgent) (refused : IsRefused parts.agent generation parts.subs new stale) where
  pub refused-assembled : IsAssembled parts → IsAssembled (record parts { subs = new })
  refused-assembled assembled = subst (λ (t : PlainTable). IsAssembled (record parts { subs = t })) (sym refused.same) assembled

  pub refused-told : ◌≡◌ {A = PlainPartition × Reply} (plain_of (record parts { subs = new }), reply.StaleAgent stale.now) (plain_of parts, reply.StaleAgent parts.agent.generation)
  refused-told = λ i. (plain_of (record parts { subs = refused.same i }), reply.StaleAgent (refused.now i))

-- ---- the cursor goes back

abbrev pub rewinding : Parts → ℕ → PlainTable × Retried
rewinding parts number = stepped parts.subs number (retry (state_at parts.subs number))

module _ (parts : Parts) (generation : ℕ) (s : SubName) where
  pub retry-nothing : AreRecords parts.subs → None ≡ number_of parts.subs s → (plain_of parts, unknown (plain_of parts) generation) ≡ plain.retry (plain_of parts) generation s
  retry-nothing records none =
      nothing-told (plain_of parts) generation _ (retry-stale (plain_of parts) generation s) (λ current. retry-unknown (plain_of parts) generation s current (no-record parts s (sym records.long) (sym none)))

  pub retry-refused : (new : PlainTable) (stale : StaleAgent) → IsRefused parts.agent generation parts.subs new stale → (plain_of (record parts { subs = new }), reply.StaleAgent stale.now) ≡ plain.retry (plain_of parts) generation s
  retry-refused new stale refused = refused-told parts generation new stale refused ∙ retry-stale (plain_of parts) generation s (ap not refused.other)

  pub retry-performs : (number : ℕ) (new : PlainTable) (told : Retried) → AreRecords parts.subs → Some number ≡ number_of parts.subs s
      → IsDone parts.agent generation (rewinding parts number) new told
      → (plain_of (record parts { subs = new }), of_retry told) ≡ plain.retry (plain_of parts) generation s
  retry-performs number new told records found done =
      ap {B = PlainPartition × Reply} (λ (left : PlainTable × Retried). (plain_of (record parts { subs = left.0 }), of_retry left.1)) done.is
      ∙ sym (retry-parts parts generation s number no_entry no_state (sym records.long) done.own (sym found))

-- ---- what is handled is acknowledged

-- the handled positions of a record are in the log
pub handled-in : (parts : Parts) (number : ℕ) → IsWithinLimits (plain_of parts) → AreRecords parts.subs → number < length parts.subs.registry.names → All (λ position. position < length parts.queue.events) (state_at parts.subs number).handled
handled-in parts number limits records within =
    let names = parts.subs.registry.names in
    let states = parts.subs.states in
    let inside : number < length (subs_of names states) = omega (arith, within, records-length names states (sym records.long)) in
    All-from_recursion (λ position. position < length parts.queue.events) (state_at parts.subs number).handled
    (subst (λ (entry : SubName × Subscription). AreIn parts.queue.events entry.1.handled)
    (record-at names states number (sub_of no_entry no_state) no_entry no_state (sym records.long) within)
    (All-from_recursion (λ (entry : SubName × Subscription). AreIn parts.queue.events entry.1.handled) (subs_of names states) limits.handled number (sub_of no_entry no_state) inside))

abbrev pub acking : Parts → Token → ℕ → PlainTable × Acked
acking parts token number = stepped parts.subs number (ack (state_at parts.subs number) parts.queue token)

module _ (parts : Parts) (generation : ℕ) (s : SubName) (token : Token) where
  pub ack-nothing : AreRecords parts.subs → None ≡ number_of parts.subs s → (plain_of parts, unknown (plain_of parts) generation) ≡ plain.ack (plain_of parts) generation s token
  ack-nothing records none =
      nothing-told (plain_of parts) generation _ (ack-stale (plain_of parts) generation s token) (λ current. ack-unknown (plain_of parts) generation s token current (no-record parts s (sym records.long) (sym none)))

  pub ack-refused : (new : PlainTable) (stale : StaleAgent) → IsRefused parts.agent generation parts.subs new stale → (plain_of (record parts { subs = new }), reply.StaleAgent stale.now) ≡ plain.ack (plain_of parts) generation s token
  ack-refused new stale refused = refused-told parts generation new stale refused ∙ ack-stale (plain_of parts) generation s token (ap not refused.other)

  pub ack-performs : (number : ℕ) (new : PlainTable) (told : Acked) → AreRecords parts.subs → Some number ≡ number_of parts.subs s
      → IsDone parts.agent generation (acking parts token number) new told
      → (plain_of (record parts { subs = new }), of_ack told) ≡ plain.ack (plain_of parts) generation s token
  ack-performs number new told records found done =
      ap {B = PlainPartition × Reply} (λ (left : PlainTable × Acked). (plain_of (record parts { subs = left.0 }), of_ack left.1)) done.is
      ∙ sym (ack-parts parts generation s token number no_entry no_state (sym records.long) done.own (sym found))
