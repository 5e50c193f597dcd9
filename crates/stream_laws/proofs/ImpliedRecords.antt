-- The records that rules make of events: whose they are, and which names have none.
use Rattle.stream_laws.proofs.Prelude.{◌≡◌, ◌∙◌, ap, sym, subst, refl, ℕ, zero, suc, ◌<◌, ◌&&◌, not, Bool, true, false, List, [], ◌∷◌, ◌++◌, length, get_or, Option, Some, None, is_some, fold, if◌then◌else◌, arith, and_parts, cond_both, AllByRecursion, flat_map, All-append, same_sub-equal, or_else-none, batch_token, added, same_name, same_sub, token_lt, or_else, value_at, Event, GrainId, StreamId, SubName, Implicit, Rule, append-at, new_subscription, no_event, all_implied, implied, Subscription}
use Rattle.stream_laws.proofs.Invariant.{RulesDiffer, bound_by_rules}
use Rattle.stream_laws.proofs.RuleLemmas.{IsFirstRule, RulesDiffer-first, or_else-assoc}

-- ---- records added

-- what is there stays, and else it is the added one
added-at : (s : SubName) (subs : List (SubName × Subscription)) (entry : SubName × Subscription) → value_at same_sub s (added subs entry) ≡ or_else (value_at same_sub s subs) (value_at same_sub s (entry ∷ []))
added-at s subs entry = by (value_at same_sub entry.0 subs) refl
  where
    there : (r : Subscription) → value_at same_sub entry.0 subs ≡ Some r → (b : Bool) → same_sub s entry.0 ≡ b → value_at same_sub s subs ≡ or_else (value_at same_sub s subs) (if b then Some entry.1 else None)
    there r found false other = sym (or_else-none (value_at same_sub s subs))
    there r found true same =
        let found_s : value_at same_sub s subs ≡ Some r = ap (λ s. value_at same_sub s subs) (same_sub-equal s entry.0 same) ∙ found in
        found_s ∙ ap (λ o. or_else o (Some entry.1)) (sym found_s)

    by : (o : Option Subscription) → value_at same_sub entry.0 subs ≡ o → value_at same_sub s (if is_some o then subs else subs ++ entry ∷ []) ≡ or_else (value_at same_sub s subs) (value_at same_sub s (entry ∷ []))
    by None absent = append-at same_sub s subs (entry ∷ [])
    by (Some r) found = there r found (same_sub s entry.0) refl

pub fold-added-at : (s : SubName) (subs entries : List (SubName × Subscription)) → value_at same_sub s (fold added subs entries) ≡ or_else (value_at same_sub s subs) (value_at same_sub s entries)
fold-added-at s subs [] = sym (or_else-none (value_at same_sub s subs))
fold-added-at s subs (entry ∷ entries) =
    fold-added-at s (added subs entry) entries
    ∙ ap (λ o. or_else o (value_at same_sub s entries)) (added-at s subs entry)
    ∙ sym (or_else-assoc (value_at same_sub s subs) (value_at same_sub s (entry ∷ [])) (value_at same_sub s entries))
    ∙ ap (or_else (value_at same_sub s subs)) (sym (append-at same_sub s (entry ∷ []) entries))

-- ---- what the rules make

-- a new record of a name that the rules bind, owed from the rule's batch on
pub record IsMade (rules : List Rule) (position : ℕ) (entry : SubName × Subscription) : Type 0 where
  pub kind : List ℕ
  pub stream : StreamId
  pub grain : GrainId
  pub from : ℕ
  pub name : entry.0 ≡ Implicit kind stream
  pub value : entry.1 ≡ new_subscription stream grain (batch_token from) position
  pub bound : bound_by_rules (Implicit kind stream) rules ≡ Some (record { stream = stream; start = batch_token from })

All-flat_map_of : {X Y : Type 0} (P : X → Type 0) (Q : Y → Type 0) (made : X → List Y) → ((x : X) → P x → AllByRecursion Q (made x)) → (xs : List X) → AllByRecursion P xs → AllByRecursion Q (flat_map made xs)
All-flat_map_of P Q made each [] all = tt
All-flat_map_of P Q made each (x ∷ xs) all = All-append Q (made x) (flat_map made xs) (each x all.0) (All-flat_map_of P Q made each xs all.1)

implied-made : (rules : List Rule) (position : ℕ) (event : Event) (rule : Rule) → IsFirstRule rules rule → AllByRecursion (IsMade rules position) (implied position event rule)
implied-made rules position event rule first =
    cond_both (same_name event.stream.namespace rule.namespace && not (token_lt event.token (batch_token rule.from))) _ _ (AllByRecursion (IsMade rules position))
    (λ makes. (
      record {
        kind = rule.kind;
        stream = event.stream;
        grain = record { kind = rule.kind; key = event.stream.key };
        from = rule.from;
        name = refl;
        value = refl;
        bound = first event.stream (and_parts (same_name event.stream.namespace rule.namespace) (not (token_lt event.token (batch_token rule.from))) makes).0;
      },
      tt,
    ))
    (λ _. tt)

All-events : (rules : List Rule) (position : ℕ) (events : List Event) → AllByRecursion (IsFirstRule rules) rules → AllByRecursion (IsMade rules position) (all_implied rules position events)
All-events rules position [] first = tt
All-events rules position (event ∷ events) first =
    All-append (IsMade rules position) (flat_map (implied position event) rules) (all_implied rules position events)
    (All-flat_map_of (IsFirstRule rules) (IsMade rules position) (implied position event) (implied-made rules position event) rules first)
    (All-events rules position events first)

pub All-made : (rules : List Rule) (position : ℕ) (events : List Event) → RulesDiffer rules → AllByRecursion (IsMade rules position) (all_implied rules position events)
All-made rules position events differ = All-events rules position events (RulesDiffer-first rules differ)

-- a value that is found is that of an entry with this key
pub found-of-all : (Q : SubName × Subscription → Type 0) (s : SubName) (r : Subscription) (entries : List (SubName × Subscription)) → AllByRecursion Q entries → value_at same_sub s entries ≡ Some r → Q (s, r)
found-of-all Q s r [] all found = cc
found-of-all Q s r (entry ∷ entries) all found =
    by (same_sub s entry.0) refl found (found-of-all Q s r entries all.1)
  where
    by : (b : Bool) → same_sub s entry.0 ≡ b → (if b then Some entry.1 else value_at same_sub s entries) ≡ Some r → (value_at same_sub s entries ≡ Some r → Q (s, r)) → Q (s, r)
    by false other found later = later found
    by true same found later =
        let is_s : entry.0 ≡ s = sym (same_sub-equal s entry.0 same) in
        let is_r : entry.1 ≡ r = cc in
        subst Q (λ i. (is_s i, is_r i)) all.0

-- where the events make none of a name, no event of them does
pub none-made-at : (made : Event → List (SubName × Subscription)) (s : SubName) (events : List Event) → value_at same_sub s (flat_map made events) ≡ None → (j : ℕ) → j < length events → value_at same_sub s (made (get_or events j no_event)) ≡ None
none-made-at made s [] none j within = absurd (omega arith)
none-made-at made s (event ∷ events) none j within =
    parts (value_at same_sub s (made event)) (value_at same_sub s (flat_map made events)) refl refl (sym (append-at same_sub s (made event) (flat_map made events)) ∙ none) (none-made-at made s events) j within
  where
    parts : (a b : Option Subscription) → value_at same_sub s (made event) ≡ a → value_at same_sub s (flat_map made events) ≡ b → or_else a b ≡ None
        → (value_at same_sub s (flat_map made events) ≡ None → (j : ℕ) → j < length events → value_at same_sub s (made (get_or events j no_event)) ≡ None)
        → (j : ℕ) → j < length (event ∷ events) → value_at same_sub s (made (get_or (event ∷ events) j no_event)) ≡ None
    parts None b first rest none later zero within = first
    parts None b first rest none later (suc j) within = later (rest ∙ none) j (omega arith)
    parts (Some r) b first rest none later j within = cc
