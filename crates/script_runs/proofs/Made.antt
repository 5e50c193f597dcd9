-- The records that rules make of events: their grain, what binds them, and the event that they are owed.
use Rattle.script_runs.proofs.Prelude.{◌≡◌, ◌∙◌, ap, refl, ℕ, Bool, true, false, ◌&&◌, ◌||◌, not, List, [], ◌∷◌, Some, is_some, and_from, and_parts, cond_both, or_right, false≢true, AllByRecursion, flat_map, list_any, All-append, same_stream-refl, batch_token, is_owed, same_name, same_sub, token_lt, or_else, value_at, Event, StreamId, SubName, Rule, RulesDiffer, bound_by_rules, new_subscription, all_implied, implied, Subscription}
use Rattle.stream_ident.specs.declared.ident.SubName.TheVariants.{Implicit}
use Rattle.stream_model.specs.NewestFirst.{Binding}
use Rattle.stream_model.proofs.Values.{append-at}
use Rattle.stream_laws.proofs.RuleLemmas.{IsFirstRule, RulesDiffer-first, implied-owed, or_else-left, or_else-some}

-- a record that the rules make of these events
pub record IsMadeOf (rules : List Rule) (position : ℕ) (events : List Event) (entry : SubName × Subscription) : Type 0 where
  pub kind : List ℕ
  pub stream : StreamId
  pub from : ℕ
  pub name : entry.0 ≡ Implicit kind stream
  pub value : entry.1 ≡ new_subscription stream (record { kind = kind; key = stream.key }) (batch_token from) position
  pub bound : bound_by_rules (Implicit kind stream) rules ≡ Some (record { stream = stream; start = batch_token from })
  pub owed : list_any (λ event. is_owed stream (batch_token from) event) events ≡ true

-- what the event has, one of the log has
abbrev IsWithin : Event → List Event → Type 0
IsWithin event log = (passes : Event → Bool) → passes event ≡ true → list_any passes log ≡ true

-- what one of the events has, one of the log has
abbrev pub AreWithin : List Event → List Event → Type 0
AreWithin events log = (passes : Event → Bool) → list_any passes events ≡ true → list_any passes log ≡ true

made-by-rule : (rules : List Rule) (position : ℕ) (log : List Event) (event : Event) (rule : Rule) → IsWithin event log → IsFirstRule rules rule → AllByRecursion (IsMadeOf rules position log) (implied position event rule)
made-by-rule rules position log event rule within first =
    cond_both (same_name event.stream.namespace rule.namespace && not (token_lt event.token (batch_token rule.from))) _ _ (AllByRecursion (IsMadeOf rules position log))
    (λ makes.
    let parts = and_parts (same_name event.stream.namespace rule.namespace) (not (token_lt event.token (batch_token rule.from))) makes in
    let here : is_owed event.stream (batch_token rule.from) event ≡ true = and_from _ _ (same_stream-refl event.stream) parts.1 in (
      record {
        kind = rule.kind;
        stream = event.stream;
        from = rule.from;
        name = refl;
        value = refl;
        bound = first event.stream parts.0;
        owed = within (λ e. is_owed event.stream (batch_token rule.from) e) here;
      },
      tt,
    ))
    (λ _. tt)

made-by-rules : (rules : List Rule) (position : ℕ) (log : List Event) (event : Event) (some : List Rule) → IsWithin event log → AllByRecursion (IsFirstRule rules) some → AllByRecursion (IsMadeOf rules position log) (flat_map (implied position event) some)
made-by-rules rules position log event [] within first = tt
made-by-rules rules position log event (rule ∷ some) within first =
    All-append (IsMadeOf rules position log) (implied position event rule) (flat_map (implied position event) some)
    (made-by-rule rules position log event rule within first.0) (made-by-rules rules position log event some within first.1)

-- all that rules make of events within a log is such
pub all-made-of : (rules : List Rule) (position : ℕ) (log events : List Event) → AreWithin events log → RulesDiffer rules → AllByRecursion (IsMadeOf rules position log) (all_implied rules position events)
all-made-of rules position log [] within differ = tt
all-made-of rules position log (event ∷ events) within differ =
    All-append (IsMadeOf rules position log) (flat_map (implied position event) rules) (all_implied rules position events)
    (made-by-rules rules position log event rules (λ passes is. within passes (ap (λ b. b || list_any passes events) is)) (RulesDiffer-first rules differ))
    (all-made-of rules position log events (λ passes any. within passes (or_right (passes event) (list_any passes events) any)) differ)

-- a name that the rules bind, and that is owed one of the events, is made
pub made-where-owed : (s : SubName) (rules : List Rule) (position : ℕ) (b : Binding) (events : List Event) → bound_by_rules s rules ≡ Some b
    → list_any (λ event. is_owed b.stream b.start event) events ≡ true → is_some (value_at same_sub s (all_implied rules position events)) ≡ true
made-where-owed s rules position b [] bound any = absurd (false≢true any)
made-where-owed s rules position b (event ∷ events) bound any =
    ap is_some (append-at same_sub s (flat_map (implied position event) rules) (all_implied rules position events))
    ∙ by (is_owed b.stream b.start event) refl any (λ later. made-where-owed s rules position b events bound later)
  where
    by : (owed : Bool) → is_owed b.stream b.start event ≡ owed → (owed || list_any (λ event. is_owed b.stream b.start event) events) ≡ true
        → (list_any (λ event. is_owed b.stream b.start event) events ≡ true → is_some (value_at same_sub s (all_implied rules position events)) ≡ true)
        → is_some (or_else (value_at same_sub s (flat_map (implied position event) rules)) (value_at same_sub s (all_implied rules position events))) ≡ true
    by true is any later = or_else-left (value_at same_sub s (flat_map (implied position event) rules)) _ (implied-owed s rules position b event bound is)
    by false is any later = or_else-some (value_at same_sub s (flat_map (implied position event) rules)) _ (later any)
