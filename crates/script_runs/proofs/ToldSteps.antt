-- What a history tells of the registrations and the rules of the partition that it leaves.
use Rattle.script_runs.proofs.Prelude.{◌≡◌, ◌∙◌, ap, sym, subst, refl, ℕ, suc, ◌+◌, ◌-◌, ◌*◌, ◌==◌, ◌&&◌, ◌||◌, not, min, nat_lt, nat_le, Bool, true, false, add-one, List, [], ◌∷◌, ◌++◌, length, filter, take, drop, reverse, fold, Option, Some, None, is_some, if◌then◌else◌, arith, cond_both, or_right, append-nil, map-append, reverse-append, take-append-drop, filter-append, filter_map-append, AllByRecursion, cons_option, filter_map, list_any, All-append, All-weaken, batch_token, is_owed, same_name, same_sub, token_lt, value_at, with_value, Event, GrainId, StreamId, SubName, BLOCK_EVENTS, Rule, Token, Fits, kept-step, fits-empty, fits-step, is_closed, published_events, closed_after, published_after, between, empty, low_token, lower_bound, new_subscription, sub_at, all_implied, drops, is_stale, room, subs_with, Reply, Leads, Stands, Limits, Op, Latest, At, PlainPartition, Subscription}
use Rattle.std.proofs.lemmas.List.{append_assoc, length-append}
use Rattle.std.proofs.lemmas.List.Folds.{list_any-append}
use Rattle.stream_ident.specs.declared.ident.SubName.TheVariants as name
use Rattle.stream_ident.specs.Blocks.{pull_size}
use Rattle.stream_ident.specs.Implying.{added}
use Rattle.stream_ident.proofs.WordLemmas.{cond_none}
use Rattle.stream_model.specs.declared.op.Op.TheVariants as op
use Rattle.stream_model.specs.declared.op.Start.{Start}
use Rattle.stream_model.specs.declared.reply.Reply.TheVariants as reply
use Rattle.stream_model.specs.History.{Entry}
use Rattle.stream_model.specs.NewestFirst as newest
use Rattle.stream_model.specs.Publishing.{add_rule, subscribe, subscribe_at, unsubscribe, unsubscribe_from}
use Rattle.stream_model.specs.Pulling.{pull, pull_count, pull_events, pull_want}
use Rattle.stream_model.specs.Step.{step}
use Rattle.stream_laws.proofs.Summary.{summary}
use Rattle.step_core.proofs.KeptNames.{stay-ack, stay-begin, stay-commit, stay-deliver}
use Rattle.script_runs.proofs.Made.{AreWithin, IsMadeOf, all-made-of}
use Rattle.script_runs.proofs.Registrations.{Keeps, Registration, keeps-deactivate, keeps-faces, keeps-move, keeps-publish, keeps-purge, keeps-retry, keeps-unsubscribe_from, registered, registrations}
use Rattle.script_runs.specs.Told.{is_subscribed, rule_of, rules_of, subscribed_count}

-- the number and the grain of an explicit registration
abbrev given_name : SubName → GrainId → Option (ℕ × GrainId)
given_name (name.Explicit number) grain = Some (number, grain)
given_name (name.Implicit kind stream) grain = None

abbrev pub given_of : Registration → Option (ℕ × GrainId)
given_of made = given_name made.name made.grain

-- and of a subscribe that was answered with a number
abbrev pub given_by : Op → Reply → Option (ℕ × GrainId)
given_by (op.Subscribe stream grain start) (reply.Subscribed number) = Some (number, grain)
given_by _ _ = None

abbrev pub all_given : List Entry → List (ℕ × GrainId)
all_given history = filter_map (λ (e : Entry). given_by e.op e.reply) history

-- an implicit registration is of its name's grain, and owed one of the events
abbrev pub IsImpliedBy : List Event → SubName → StreamId → GrainId → Token → Type 0
IsImpliedBy events (name.Explicit number) stream grain start = Unit {0}
IsImpliedBy events (name.Implicit kind own) stream grain start =
    (grain ≡ record { kind = kind; key = own.key }) × (list_any (λ event. is_owed stream start event) events ≡ true)

abbrev pub IsImplied : List Event → Registration → Type 0
IsImplied events made = IsImpliedBy events made.name made.stream made.grain made.start

pub record IsTold (history : List Entry) (p : PlainPartition) : Type 0 where
  pub rules : p.rules ≡ rules_of history
  pub number : p.explicit ≡ subscribed_count history
  pub given : filter_map given_of (registrations p.subs) ≡ all_given history
  pub implied : AllByRecursion (IsImplied (published_events history)) (registrations p.subs)
  pub closed : (kind : List ℕ) (stream : StreamId) → is_closed history (name.Implicit kind stream) ≡ false

-- ---- one entry more

abbrev grown : List Entry → Op → Reply → List Entry
grown history op told = history ++ record { op = op; reply = told } ∷ []

published-grown : (history : List Entry) (op : Op) (told : Reply) → published_events (grown history op told) ≡ published_after (published_events history) op told
published-grown history op told = ap newest.published_events (reverse-append history (record { op = op; reply = told } ∷ []))

closed-grown : (history : List Entry) (op : Op) (told : Reply) (s : SubName) → is_closed (grown history op told) s ≡ closed_after s (is_closed history s) op told
closed-grown history op told s = ap (λ entries. newest.is_closed entries s) (reverse-append history (record { op = op; reply = told } ∷ []))

made-grown : {Y : Type 0} (made : Op → Reply → Option Y) (history : List Entry) (op : Op) (told : Reply)
    → filter_map (λ (e : Entry). made e.op e.reply) (grown history op told) ≡ filter_map (λ (e : Entry). made e.op e.reply) history ++ cons_option (made op told) []
made-grown made history op told = filter_map-append (λ (e : Entry). made e.op e.reply) history (record { op = op; reply = told } ∷ [])

-- a subscribe that was answered with a number is one more, and nothing else is
abbrev counted : Op → Reply → List Entry
counted op told = if is_subscribed op told then record { op = op; reply = told } ∷ [] else []

count-grown : (history : List Entry) (op : Op) (told : Reply) → subscribed_count (grown history op told) ≡ subscribed_count history + length (counted op told)
count-grown history op told =
    ap length (filter-append (λ (e : Entry). is_subscribed e.op e.reply) history (record { op = op; reply = told } ∷ []))
    ∙ length-append (filter (λ (e : Entry). is_subscribed e.op e.reply) history) (filter (λ (e : Entry). is_subscribed e.op e.reply) (record { op = op; reply = told } ∷ []))

any-append : (passes : Event → Bool) (events more : List Event) → list_any passes events ≡ true → list_any passes (events ++ more) ≡ true
any-append passes events more any = list_any-append passes events more ∙ ap (λ b. b || list_any passes more) any

published-grows : (op : Op) (told : Reply) (events : List Event) (passes : Event → Bool) → list_any passes events ≡ true → list_any passes (published_after events op told) ≡ true
published-grows (op.Publish stream payloads) (reply.Published seq) events passes any = any-append passes events _ any
published-grows op told events passes any = any

IsImpliedBy-more : (events more : List Event) → AreWithin events more
    → (s : SubName) (stream : StreamId) (grain : GrainId) (start : Token) → IsImpliedBy events s stream grain start → IsImpliedBy more s stream grain start
IsImpliedBy-more events more grows (name.Explicit number) stream grain start is = tt
IsImpliedBy-more events more grows (name.Implicit kind own) stream grain start is = (is.0, grows (λ event. is_owed stream start event) is.1)

implied-grown : (history : List Entry) (op : Op) (told : Reply) (made : List Registration)
    → AllByRecursion (IsImplied (published_events history)) made → AllByRecursion (IsImplied (published_events (grown history op told))) made
implied-grown history op told made all =
    subst (λ events. AllByRecursion (IsImplied events) made) (sym (published-grown history op told))
    (All-weaken (IsImplied (published_events history)) (IsImplied (published_after (published_events history) op told))
    (λ (one : Registration). IsImpliedBy-more (published_events history) (published_after (published_events history) op told)
    (published-grows op told (published_events history)) one.name one.stream one.grain one.start) made all)

-- what an operation adds to the rules, the last number and the registrations is what its entry tells
told-grown : (history : List Entry) (p q : PlainPartition) (op : Op) (answer : Reply) → IsTold history p
    → q.rules ≡ p.rules ++ cons_option (rule_of op answer) [] → q.explicit ≡ p.explicit + length (counted op answer)
    → filter_map given_of (registrations q.subs) ≡ filter_map given_of (registrations p.subs) ++ cons_option (given_by op answer) []
    → AllByRecursion (IsImplied (published_events history)) (registrations q.subs)
    → ((kind : List ℕ) (stream : StreamId) → closed_after (name.Implicit kind stream) false op answer ≡ false) → IsTold (grown history op answer) q
told-grown history p q op answer told rules number given implied closed =
    record {
      rules = rules ∙ (ap (λ rules. rules ++ cons_option (rule_of op answer) []) told.rules ∙ sym (made-grown rule_of history op answer));
      number = number ∙ (ap (λ n. n + length (counted op answer)) told.number ∙ sym (count-grown history op answer));
      given = given ∙ (ap (λ given. given ++ cons_option (given_by op answer) []) told.given ∙ sym (made-grown given_by history op answer));
      implied = implied-grown history op answer (registrations q.subs) implied;
      closed = λ kind stream. closed-grown history op answer (name.Implicit kind stream) ∙ (ap (λ b. closed_after (name.Implicit kind stream) b op answer) (told.closed kind stream) ∙ closed kind stream);
    }

plus-zero : (n : ℕ) → n ≡ n + 0
plus-zero n = omega arith

-- an operation of which nothing is made, and that keeps the registrations and the rules
record IsPlain (op : Op) (told : Reply) : Type 0 where
  rule : rule_of op told ≡ None
  given : given_by op told ≡ None
  number : is_subscribed op told ≡ false
  closed : (kind : List ℕ) (stream : StreamId) → closed_after (name.Implicit kind stream) false op told ≡ false

abbrev ToldAfter : List Entry → Op → PlainPartition × Reply → Type 0
ToldAfter history op out = IsTold (grown history op out.1) out.0

told-kept : (history : List Entry) (p : PlainPartition) (op : Op) (out : PlainPartition × Reply) → IsTold history p → Keeps p out → IsPlain op out.1 → ToldAfter history op out
told-kept history p op out told keeps plain =
    let given = filter_map given_of (registrations p.subs) in
    let no_more : length (counted op out.1) ≡ 0 = rw plain.number refl in
    told-grown history p out.0 op out.1 told
    (keeps.1 ∙ (sym (append-nil p.rules) ∙ ap (λ o. p.rules ++ cons_option o []) (sym plain.rule)))
    (keeps.2 ∙ (plus-zero p.explicit ∙ ap (λ n. p.explicit + n) (sym no_more)))
    (ap (filter_map given_of) keeps.0 ∙ (sym (append-nil given) ∙ ap (λ o. given ++ cons_option o []) (sym plain.given)))
    (subst (AllByRecursion (IsImplied (published_events history))) (sym keeps.0) told.implied) plain.closed

-- whether a registration, a rule or an end of one may be made of an operation that was answered so
abbrev makes : Op → Reply → Bool
makes (op.Subscribe stream grain start) (reply.Subscribed number) = true
makes (op.AddRule kind namespace) (reply.RuleAdded from) = true
makes (op.Unsubscribe sub) told = true
makes _ _ = false

plain : (op : Op) (told : Reply) → makes op told ≡ false → IsPlain op told
plain (op.Subscribe stream grain start) (reply.Subscribed number) none = absurd (cc)
plain (op.AddRule kind namespace) (reply.RuleAdded from) none = absurd (cc)
plain (op.Unsubscribe sub) told none = absurd (cc)
plain op told none = record { rule = refl; given = refl; number = refl; closed = λ kind stream. refl }

told-plain : (history : List Entry) (p : PlainPartition) (op : Op) (out : PlainPartition × Reply) → IsTold history p → Keeps p out → makes op out.1 ≡ false → ToldAfter history op out
told-plain history p op out told keeps none = told-kept history p op out told keeps (plain op out.1 none)

-- ---- a subscribe

with_value-absent : (s : SubName) (r : Subscription) (subs : List (SubName × Subscription)) → value_at same_sub s subs ≡ None → with_value same_sub s r subs ≡ subs ++ (s, r) ∷ []
with_value-absent s r [] none = refl
with_value-absent s r (entry ∷ subs) none =
    let apart = cond_none (same_sub s entry.0) entry.1 (value_at same_sub s subs) none in
    ap (λ b. if b then (entry.0, r) ∷ subs else entry ∷ with_value same_sub s r subs) apart.0
    ∙ ap (λ rest. entry ∷ rest) (with_value-absent s r subs apart.1)

told-subscribed : (history : List Entry) (p : PlainPartition) (stream : StreamId) (grain : GrainId) (from : Start) (start : Token) (position : ℕ) → sub_at p (name.Explicit (suc p.explicit)) ≡ None → IsTold history p
    → ToldAfter history (op.Subscribe stream grain from) (subscribe_at p stream grain start position)
unfolding subscribe_at
told-subscribed history p stream grain from start position none told =
    cond_both (nat_le p.limits.subs (length p.subs)) _ _ (ToldAfter history (op.Subscribe stream grain from))
    (λ _. told-plain history p (op.Subscribe stream grain from) (p, reply.TooMany) told (refl, refl, refl) refl)
    (λ _. told-grown history p _ (op.Subscribe stream grain from) (reply.Subscribed (suc p.explicit)) told (sym (append-nil p.rules)) (sym (add-one p.explicit))
    (ap (filter_map given_of) pushed ∙ filter_map-append given_of (registrations p.subs) (last ∷ []))
    (subst (AllByRecursion (IsImplied (published_events history))) (sym pushed) (All-append (IsImplied (published_events history)) (registrations p.subs) (last ∷ []) told.implied (tt, tt)))
    (λ kind own. refl))
  where
    last : Registration
    last = record { name = name.Explicit (suc p.explicit); stream = stream; grain = grain; start = start }

    pushed : registrations (with_value same_sub (name.Explicit (suc p.explicit)) (new_subscription stream grain start position) p.subs) ≡ registrations p.subs ++ last ∷ []
    pushed =
        ap registrations (with_value-absent (name.Explicit (suc p.explicit)) (new_subscription stream grain start position) p.subs none)
        ∙ map-append registered p.subs ((name.Explicit (suc p.explicit), new_subscription stream grain start position) ∷ [])

told-subscribe : (history : List Entry) (p : PlainPartition) (stream : StreamId) (grain : GrainId) (start : Start) → sub_at p (name.Explicit (suc p.explicit)) ≡ None → IsTold history p
    → ToldAfter history (op.Subscribe stream grain start) (subscribe p stream grain start)
unfolding subscribe
told-subscribe history p stream grain Latest none told = told-subscribed history p stream grain Latest (batch_token p.batches) p.high none told
told-subscribe history p stream grain (At token) none told =
    cond_both (token_lt token (low_token p)) _ _ (ToldAfter history (op.Subscribe stream grain (At token)))
    (λ _. told-plain history p (op.Subscribe stream grain (At token)) (p, _) told (refl, refl, refl) refl)
    (λ _. told-subscribed history p stream grain (At token) token (lower_bound p token) none told)

-- ---- an unsubscribe, of which no implicit name is

closed-unsubscribe_from : (p : PlainPartition) (s : SubName) (found : Option Subscription) (kind : List ℕ) (stream : StreamId) → closed_after (name.Implicit kind stream) false (op.Unsubscribe s) (unsubscribe_from p s found).1 ≡ false
unfolding unsubscribe_from
closed-unsubscribe_from p (name.Explicit number) None kind stream = refl
closed-unsubscribe_from p (name.Implicit own_kind own) None kind stream = refl
closed-unsubscribe_from p (name.Implicit own_kind own) (Some r) kind stream = refl
closed-unsubscribe_from p (name.Explicit number) (Some r) kind stream =
    cond_both (not r.is_open) _ _ (λ (out : PlainPartition × Reply). closed_after (name.Implicit kind stream) false (op.Unsubscribe (name.Explicit number)) out.1 ≡ false)
    (λ _. refl) (λ _. refl)

-- ---- a rule

told-add_rule : (history : List Entry) (p : PlainPartition) (kind namespace : List ℕ) → IsTold history p → ToldAfter history (op.AddRule kind namespace) (add_rule p kind namespace)
unfolding add_rule
told-add_rule history p kind namespace told =
    cond_both (list_any (λ (rule : Rule). same_name kind rule.kind && same_name namespace rule.namespace) p.rules) _ _ (ToldAfter history (op.AddRule kind namespace))
    (λ _. told-plain history p (op.AddRule kind namespace) (p, reply.RuleThere) told (refl, refl, refl) refl)
    (λ _. cond_both (nat_le p.limits.rules (length p.rules)) _ _ (ToldAfter history (op.AddRule kind namespace))
    (λ _. told-plain history p (op.AddRule kind namespace) (p, reply.TooMany) told (refl, refl, refl) refl)
    (λ _. told-grown history p _ (op.AddRule kind namespace) (reply.RuleAdded p.batches) told refl (plus-zero p.explicit) (sym (append-nil (filter_map given_of (registrations p.subs)))) told.implied (λ own_kind stream. refl)))

-- ---- a pull

abbrev IsOneMore : List Event → SubName × Subscription → Type 0
IsOneMore log entry = IsImplied log (registered entry) × (given_of (registered entry) ≡ None)

-- a record that rules make of events of a log
implied-made : (rules : List Rule) (position : ℕ) (log : List Event) (entry : SubName × Subscription) → IsMadeOf rules position log entry → IsOneMore log entry
implied-made rules position log entry made = (
  subst (λ (r : Subscription). IsImpliedBy log entry.0 r.stream r.grain r.start) (sym made.value)
      (subst (λ s. IsImpliedBy log s made.stream (record { kind = made.kind; key = made.stream.key }) (batch_token made.from)) (sym made.name) (refl, made.owed)),
  ap (λ s. given_name s entry.1.grain) made.name,
)

pushed-given : (subs : List (SubName × Subscription)) (entry : SubName × Subscription) → given_of (registered entry) ≡ None → filter_map given_of (registrations (subs ++ entry ∷ [])) ≡ filter_map given_of (registrations subs)
pushed-given subs entry none =
    ap (filter_map given_of) (map-append registered subs (entry ∷ []))
    ∙ (filter_map-append given_of (registrations subs) (registered entry ∷ [])
    ∙ (ap (λ o. filter_map given_of (registrations subs) ++ cons_option o []) none ∙ append-nil (filter_map given_of (registrations subs))))

pushed-implied : (log : List Event) (subs : List (SubName × Subscription)) (entry : SubName × Subscription) → AllByRecursion (IsImplied log) (registrations subs) → IsImplied log (registered entry) → AllByRecursion (IsImplied log) (registrations (subs ++ entry ∷ []))
pushed-implied log subs entry all here =
    subst (AllByRecursion (IsImplied log)) (sym (map-append registered subs (entry ∷ [])))
    (All-append (IsImplied log) (registrations subs) (registered entry ∷ []) all (here, tt))

abbrev AreImplied : List Event → List (SubName × Subscription) → List (SubName × Subscription) → Type 0
AreImplied log old subs = (filter_map given_of (registrations subs) ≡ filter_map given_of (registrations old)) × AllByRecursion (IsImplied log) (registrations subs)

added-told : (log : List Event) (subs : List (SubName × Subscription)) (entry : SubName × Subscription) → IsOneMore log entry → AllByRecursion (IsImplied log) (registrations subs) → AreImplied log subs (added subs entry)
added-told log subs entry more all =
    cond_both (is_some (value_at same_sub entry.0 subs)) subs (subs ++ entry ∷ []) (AreImplied log subs) (λ _. (refl, all))
    (λ _. (pushed-given subs entry more.1, pushed-implied log subs entry all more.0))

fold-told : (log : List Event) (subs made : List (SubName × Subscription)) → AllByRecursion (IsOneMore log) made → AllByRecursion (IsImplied log) (registrations subs) → AreImplied log subs (fold added subs made)
fold-told log subs [] more all = (refl, all)
fold-told log subs (entry ∷ made) more all =
    let first = added-told log subs entry more.0 all in
    let rest = fold-told log (added subs entry) made more.1 first.1 in
    (rest.0 ∙ first.0, rest.1)

-- what some events between two places have, the log has
between-any : (log : List Event) (from to : ℕ) (passes : Event → Bool) → list_any passes (between log from to) ≡ true → list_any passes log ≡ true
between-any log from to passes any =
    let later : list_any passes (drop from log) ≡ true =
    ap (list_any passes) (sym (take-append-drop (to - from) (drop from log)))
    ∙ any-append passes (between log from to) (drop (to - from) (drop from log)) any
    in
    ap (list_any passes) (sym (take-append-drop from log))
    ∙ (list_any-append passes (take from log) (drop from log) ∙ or_right (list_any passes (take from log)) (list_any passes (drop from log)) later)

told-pulled : (history : List Entry) (p : PlainPartition) (generation max_events low high : ℕ) → Fits (summary (reverse history)) p → IsTold history p
    → ToldAfter history (op.Pull generation max_events) (pull_events p low high (subs_with p.rules p.high p.subs (between p.log p.high high)))
unfolding pull_events
told-pulled history p generation max_events low high fits told =
    cond_both (nat_lt p.limits.subs (length (subs_with p.rules p.high p.subs (between p.log p.high high)))) _ _ (ToldAfter history (op.Pull generation max_events))
    (λ _. told-plain history p (op.Pull generation max_events) (p, reply.TooMany) told (refl, refl, refl) refl)
    (λ _. told-grown history p _ (op.Pull generation max_events) _ told (sym (append-nil p.rules)) (plus-zero p.explicit) (next.0 ∙ sym (append-nil (filter_map given_of (registrations p.subs)))) next.1 (λ kind stream. refl))
  where
    more : AllByRecursion (IsOneMore (published_events history)) (all_implied p.rules p.high (between p.log p.high high))
    more =
        All-weaken (IsMadeOf p.rules p.high (published_events history)) (IsOneMore (published_events history)) (implied-made p.rules p.high (published_events history))
        (all_implied p.rules p.high (between p.log p.high high))
        (all-made-of p.rules p.high (published_events history) (between p.log p.high high) (λ passes any. ap (list_any passes) (sym fits.log.log) ∙ between-any p.log p.high high passes any) fits.names.differ)

    next : AreImplied (published_events history) p.subs (subs_with p.rules p.high p.subs (between p.log p.high high))
    next = fold-told (published_events history) p.subs (all_implied p.rules p.high (between p.log p.high high)) more told.implied

told-pull : (history : List Entry) (p : PlainPartition) (generation max_events : ℕ) → Fits (summary (reverse history)) p → IsTold history p
    → ToldAfter history (op.Pull generation max_events) (pull p generation max_events)
unfolding pull pull_want pull_count
told-pull history p generation max_events fits told =
    let want = min (pull_size max_events) (length p.log - p.high) in
    cond_both (is_stale p generation) _ _ (ToldAfter history (op.Pull generation max_events))
    (λ _. told-plain history p (op.Pull generation max_events) (p, _) told (refl, refl, refl) refl)
    (λ _. cond_both (p.high == length p.log) _ _ (ToldAfter history (op.Pull generation max_events))
    (λ _. told-plain history p (op.Pull generation max_events) (p, reply.Dry) told (refl, refl, refl) refl)
    (λ _. cond_both (min want (room p + BLOCK_EVENTS * drops p want) == 0) _ _ (ToldAfter history (op.Pull generation max_events))
    (λ _. told-plain history p (op.Pull generation max_events) (p, _) told (refl, refl, refl) refl)
    (λ _. told-pulled history p generation max_events (p.low + BLOCK_EVENTS * drops p want) (p.high + min want (room p + BLOCK_EVENTS * drops p want)) fits told)))

-- ---- every step

told-step : (history : List Entry) (p : PlainPartition) (o : Op) → Fits (summary (reverse history)) p → IsTold history p → ToldAfter history o (step p o)
unfolding step unsubscribe
told-step history p (op.Publish stream payloads) fits told = told-plain history p (op.Publish stream payloads) _ told (keeps-publish p stream payloads) refl
told-step history p (op.Subscribe stream grain start) fits told =
    told-subscribe history p stream grain start (fits.names.unused (suc p.explicit) (omega arith)) told
told-step history p (op.Unsubscribe sub) fits told =
    told-kept history p (op.Unsubscribe sub) (unsubscribe p sub) told (keeps-unsubscribe_from p sub (sub_at p sub) refl)
    (record { rule = refl; given = refl; number = refl; closed = closed-unsubscribe_from p sub (sub_at p sub) })
told-step history p (op.AddRule kind namespace) fits told = told-add_rule history p kind namespace told
told-step history p (op.Pull generation max_events) fits told = told-pull history p generation max_events fits told
told-step history p (op.Deliver generation sub) fits told = told-plain history p (op.Deliver generation sub) _ told (keeps-faces p (step p (op.Deliver generation sub)) (stay-deliver p generation sub)) refl
told-step history p (op.Retry generation sub) fits told = told-plain history p (op.Retry generation sub) _ told (keeps-retry p generation sub) refl
told-step history p (op.Ack generation sub token) fits told = told-plain history p (op.Ack generation sub token) _ told (keeps-faces p (step p (op.Ack generation sub token)) (stay-ack p generation sub token)) refl
told-step history p (op.Purge generation keep) fits told = told-plain history p (op.Purge generation keep) _ told (keeps-purge p generation keep) refl
told-step history p (op.Begin grain max_events) fits told = told-plain history p (op.Begin grain max_events) _ told (keeps-faces p (step p (op.Begin grain max_events)) (stay-begin p grain max_events)) refl
told-step history p (op.Commit grain activation turn note) fits told = told-plain history p (op.Commit grain activation turn note) _ told (keeps-faces p (step p (op.Commit grain activation turn note)) (stay-commit p grain activation turn note)) refl
told-step history p (op.Deactivate grain) fits told = told-plain history p (op.Deactivate grain) _ told (keeps-deactivate p grain) refl
told-step history p (op.Move silo) fits told = told-plain history p (op.Move silo) _ told (keeps-move p silo) refl
told-step history p o fits told = told-plain history p o (p, _) told (refl, refl, refl) refl

-- ---- every legal history

told-leads : (history : List Entry) (p : PlainPartition) (entries : List Entry) (q : PlainPartition) → Fits (summary (reverse history)) p → IsTold history p → Leads p entries q → IsTold (history ++ entries) q
told-leads history p [] q fits told leads =
    subst (IsTold (history ++ [])) (sym leads) (subst (λ entries. IsTold entries p) (sym (append-nil history)) told)
told-leads history p (e ∷ entries) q fits told leads =
    subst (λ all. IsTold all q) (append_assoc history (e ∷ []) entries)
    (told-leads (history ++ e ∷ []) (step p e.op).0 entries q
    (subst (λ past. Fits (summary past) (step p e.op).0) (sym (reverse-append history (e ∷ []))) (fits-step kept-step (reverse history) p e fits leads.0))
    (subst (λ said. IsTold (history ++ record { op = e.op; reply = said } ∷ []) (step p e.op).0) leads.0 (told-step history p e.op fits told))
    leads.1)

pub told-legal : (blocks : ℕ) (limits : Limits) (history : List Entry) (p : PlainPartition) → Stands blocks limits history p → IsTold history p
told-legal blocks limits history p stands =
    told-leads [] (empty blocks limits) history p (fits-empty blocks limits)
    (record { rules = refl; number = refl; given = refl; implied = tt; closed = λ kind stream. refl }) stands
