-- What rules bind a name to, and what they make of an event.
use Rattle.stream_laws.proofs.Prelude.{◌≡◌, ◌∙◌, ap, sym, refl, ℕ, Bool, true, false, ◌&&◌, not, List, [], ◌∷◌, ◌++◌, Option, Some, None, is_some, if◌then◌else◌, and_from, and_parts, false≢true, or_parts, AllByRecursion, flat_map, list_any, same_name-equal, same_name-refl, same_stream-equal, or_else-none, batch_token, is_owed, same_name, same_stream, same_sub, token_lt, or_else, value_at, Event, StreamId, SubName, Explicit, Implicit, Rule, append-at, Binding, bound_by_rule, implied}
use Rattle.stream_laws.proofs.Invariant.{IsOtherRule, RulesDiffer, bound_by_rules}

-- ---- the first of options

pub or_else-assoc : {A : Type 0} (a b c : Option A) → or_else a (or_else b c) ≡ or_else (or_else a b) c
or_else-assoc None b c = refl
or_else-assoc (Some x) b c = refl

pub or_else-some : {A : Type 0} (a b : Option A) → is_some b ≡ true → is_some (or_else a b) ≡ true
or_else-some None b there = there
or_else-some (Some x) b there = refl

pub or_else-left : {A : Type 0} (a b : Option A) → is_some a ≡ true → is_some (or_else a b) ≡ true
or_else-left None b there = absurd (false≢true there)
or_else-left (Some x) b there = refl

-- ---- one rule more at the end

pub bound_by_rules-push : (s : SubName) (rules : List Rule) (rule : Rule) → bound_by_rules s (rules ++ rule ∷ []) ≡ or_else (bound_by_rules s rules) (bound_by_rule s rule.kind rule.namespace rule.from)
bound_by_rules-push s [] rule = or_else-none (bound_by_rule s rule.kind rule.namespace rule.from)
bound_by_rules-push s (first ∷ rules) rule =
    ap (or_else (bound_by_rule s first.kind first.namespace first.from)) (bound_by_rules-push s rules rule)
    ∙ or_else-assoc (bound_by_rule s first.kind first.namespace first.from) (bound_by_rules s rules) (bound_by_rule s rule.kind rule.namespace rule.from)

-- two tests of names either way round
same_name-sym : (a b : List ℕ) → same_name a b ≡ true → same_name b a ≡ true
same_name-sym a b same = ap (λ x. same_name x a) (sym (same_name-equal a b same)) ∙ same_name-refl a

IsOtherRule-sym : (rule other : Rule) → IsOtherRule rule other → IsOtherRule other rule
IsOtherRule-sym rule other apart = by (same_name other.kind rule.kind && same_name other.namespace rule.namespace) refl
  where
    by : (b : Bool) → (same_name other.kind rule.kind && same_name other.namespace rule.namespace) ≡ b → b ≡ false
    by false is = refl
    by true is =
        let parts = and_parts (same_name other.kind rule.kind) (same_name other.namespace rule.namespace) is in
        absurd (false≢true (sym apart ∙ and_from _ _ (same_name-sym other.kind rule.kind parts.0) (same_name-sym other.namespace rule.namespace parts.1)))

All-other_push : (rule : Rule) (rules : List Rule) (last : Rule) → AllByRecursion (IsOtherRule rule) rules → IsOtherRule rule last → AllByRecursion (IsOtherRule rule) (rules ++ last ∷ [])
All-other_push rule [] last all here = (here, tt)
All-other_push rule (first ∷ rules) last all here = (all.0, All-other_push rule rules last all.1 here)

-- a rule that no other has stands at the end
pub RulesDiffer-push : (rules : List Rule) (last : Rule) → RulesDiffer rules → list_any (λ (rule : Rule). same_name last.kind rule.kind && same_name last.namespace rule.namespace) rules ≡ false → RulesDiffer (rules ++ last ∷ [])
RulesDiffer-push [] last differ new = (tt, tt)
RulesDiffer-push (rule ∷ rules) last differ new =
    let parts = or_parts (same_name last.kind rule.kind && same_name last.namespace rule.namespace) (list_any (λ (rule : Rule). same_name last.kind rule.kind && same_name last.namespace rule.namespace) rules) new in
    (All-other_push rule rules last differ.0 (IsOtherRule-sym last rule parts.0), RulesDiffer-push rules last differ.1 parts.1)

-- what a rule binds starts at the rule's batch
pub bound_by_rule-start : (s : SubName) (kind namespace : List ℕ) (n : ℕ) (b : Binding) → bound_by_rule s kind namespace n ≡ Some b → b.start ≡ batch_token n
bound_by_rule-start (Explicit number) kind namespace n b bound = cc
bound_by_rule-start (Implicit own_kind stream) kind namespace n b bound =
    by (same_name own_kind kind && same_name stream.namespace namespace) bound
  where
    by : (t : Bool) → (if t then Some (record { stream = stream; start = batch_token n }) else None) ≡ Some b → b.start ≡ batch_token n
    by true bound = let is : record { stream = stream; start = batch_token n } ≡ b = cc in ap (λ (b : Binding). b.start) (sym is)
    by false bound = cc

-- ---- the rule that binds a name

-- the rule binds each name of its kind and namespace, in this list
abbrev pub IsFirstRule : List Rule → Rule → Type 0
IsFirstRule rules rule =
    (stream : StreamId) → same_name stream.namespace rule.namespace ≡ true → bound_by_rules (Implicit rule.kind stream) rules ≡ Some (record { stream = stream; start = batch_token rule.from })

-- a rule before it is another
first_later : (rule other : Rule) (rules : List Rule) → IsOtherRule rule other → IsFirstRule rules other → IsFirstRule (rule ∷ rules) other
first_later rule other rules apart first stream of_other =
    ap (λ b. or_else (if b then Some (record { stream = stream; start = batch_token rule.from }) else None) (bound_by_rules (Implicit other.kind stream) rules))
    (by (same_name other.kind rule.kind && same_name stream.namespace rule.namespace) refl)
    ∙ first stream of_other
  where
    by : (b : Bool) → (same_name other.kind rule.kind && same_name stream.namespace rule.namespace) ≡ b → b ≡ false
    by false is = refl
    by true is =
        let parts = and_parts (same_name other.kind rule.kind) (same_name stream.namespace rule.namespace) is in
        let namespaces : rule.namespace ≡ other.namespace =
        sym (same_name-equal stream.namespace rule.namespace parts.1) ∙ same_name-equal stream.namespace other.namespace of_other
        in
        let same : same_name rule.namespace other.namespace ≡ true = ap (λ x. same_name x other.namespace) namespaces ∙ same_name-refl other.namespace in
        absurd (false≢true (sym apart ∙ and_from _ _ (same_name-sym other.kind rule.kind parts.0) same))

All_later : (rule : Rule) (rules others : List Rule) → AllByRecursion (IsOtherRule rule) others → AllByRecursion (IsFirstRule rules) others → AllByRecursion (IsFirstRule (rule ∷ rules)) others
All_later rule rules [] apart first = tt
All_later rule rules (other ∷ others) apart first =
    (first_later rule other rules apart.0 first.0, All_later rule rules others apart.1 first.1)

-- rules that differ bind each their own names
pub RulesDiffer-first : (rules : List Rule) → RulesDiffer rules → AllByRecursion (IsFirstRule rules) rules
RulesDiffer-first [] differ = tt
RulesDiffer-first (rule ∷ rules) differ = (
  λ stream of_rule.
      ap (λ b. or_else (if b then Some (record { stream = stream; start = batch_token rule.from }) else None) (bound_by_rules (Implicit rule.kind stream) rules))
      (and_from (same_name rule.kind rule.kind) (same_name stream.namespace rule.namespace) (same_name-refl rule.kind) of_rule),
  All_later rule rules rules differ.0 (RulesDiffer-first rules differ.1),
)

-- ---- what rules make

-- a rule makes a name of its own of an event that the name is owed
made-owed : (position : ℕ) (event : Event) (rule : Rule) (kind : List ℕ) (stream : StreamId) → same_name kind rule.kind ≡ true → same_name stream.namespace rule.namespace ≡ true → is_owed stream (batch_token rule.from) event ≡ true → is_some (value_at same_sub (Implicit kind stream) (implied position event rule)) ≡ true
made-owed position event rule kind stream kinds namespaces owed =
    let parts = and_parts (same_stream stream event.stream) (not (token_lt event.token (batch_token rule.from))) owed in
    let streams = same_stream-equal stream event.stream parts.0 in
    let makes : (same_name event.stream.namespace rule.namespace && not (token_lt event.token (batch_token rule.from))) ≡ true =
    and_from _ _ (ap (λ (stream : StreamId). same_name stream.namespace rule.namespace) (sym streams) ∙ namespaces) parts.1
    in
    let own : same_sub (Implicit kind stream) (Implicit rule.kind event.stream) ≡ true = and_from _ _ kinds parts.0 in
    rw makes (rw own refl)

-- so the rules make a name of an event that it is owed
pub implied-owed : (s : SubName) (rules : List Rule) (position : ℕ) (b : Binding) (event : Event) → bound_by_rules s rules ≡ Some b → is_owed b.stream b.start event ≡ true → is_some (value_at same_sub s (flat_map (implied position event) rules)) ≡ true
implied-owed s [] position b event bound owed = cc
implied-owed (Explicit number) (rule ∷ rules) position b event bound owed =
    ap is_some (append-at same_sub (Explicit number) (implied position event rule) (flat_map (implied position event) rules))
    ∙ or_else-some (value_at same_sub (Explicit number) (implied position event rule)) _ (implied-owed (Explicit number) rules position b event bound owed)
implied-owed (Implicit kind stream) (rule ∷ rules) position b event bound owed =
    ap is_some (append-at same_sub (Implicit kind stream) (implied position event rule) (flat_map (implied position event) rules))
    ∙ by (same_name kind rule.kind && same_name stream.namespace rule.namespace) refl bound (λ later. implied-owed (Implicit kind stream) rules position b event later owed)
  where
    by : (t : Bool) → (same_name kind rule.kind && same_name stream.namespace rule.namespace) ≡ t
        → or_else (if t then Some (record { stream = stream; start = batch_token rule.from }) else None) (bound_by_rules (Implicit kind stream) rules) ≡ Some b
        → (bound_by_rules (Implicit kind stream) rules ≡ Some b → is_some (value_at same_sub (Implicit kind stream) (flat_map (implied position event) rules)) ≡ true)
        → is_some (or_else (value_at same_sub (Implicit kind stream) (implied position event rule)) (value_at same_sub (Implicit kind stream) (flat_map (implied position event) rules))) ≡ true
    by true own bound later =
        let parts = and_parts (same_name kind rule.kind) (same_name stream.namespace rule.namespace) own in
        let is : record { stream = stream; start = batch_token rule.from } ≡ b = cc in
        or_else-left (value_at same_sub (Implicit kind stream) (implied position event rule)) _
        (made-owed position event rule kind stream parts.0 parts.1 (ap (λ (b : Binding). is_owed b.stream b.start event) is ∙ owed))
    by false other bound later = or_else-some (value_at same_sub (Implicit kind stream) (implied position event rule)) _ (later bound)
