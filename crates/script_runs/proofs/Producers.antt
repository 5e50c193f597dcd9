-- The producers' entries alone say what is published, bound, owed and closed, and which subscriptions there are.
use Rattle.script_runs.proofs.Prelude.{◌≡◌, ◌∙◌, ap, sym, refl, ℕ, Bool, false, ◌||◌, not, if◌then◌else◌, length, List, [], ◌∷◌, ◌++◌, map, filter, reverse, Option, option_map, cond_both, map-append, reverse-append, filter-append, cons_option, filter_map, is_named_before, summary_of, SubSummary, Event, SubName, Rule, gives, is_given, Binding, binding_of, is_closed, owed_events, published_events, batches_after, binding_after, closed_after, owed_of, published_after, is_producer, subs_with, Reply, Op, Publish, Subscribe, Unsubscribe, AddRule}
use Rattle.stream_ident.specs.declared.ident.SubName.TheVariants as name
use Rattle.stream_model.specs.declared.reply.Reply.TheVariants as reply
use Rattle.stream_model.specs.Draining.{in_order}
use Rattle.stream_model.specs.History.{Entry}
use Rattle.stream_model.specs.NewestFirst as newest
use Rattle.script_runs.specs.ScriptLaws.{ProducersTell}
use Rattle.script_runs.specs.ScriptReport.{explicit_of, explicit_subs, implicit_subs, told_subs}
use Rattle.script_runs.specs.Told.{batch_count, is_subscribed, producers_entries, rule_of, rules_of, subscribed_count, told_of}

-- ---- in either order

abbrev told_entry : Entry → Entry
told_entry e = record { op = e.op; reply = told_of e.reply }

pub kept-append : (first second : List Entry) → producers_entries (first ++ second) ≡ producers_entries first ++ producers_entries second
kept-append first second =
    ap (map told_entry) (filter-append (λ (e : Entry). is_producer e.op) first second)
    ∙ map-append told_entry (filter (λ (e : Entry). is_producer e.op) first) (filter (λ (e : Entry). is_producer e.op) second)

kept-one : (e : Entry) → reverse (producers_entries (e ∷ [])) ≡ producers_entries (e ∷ [])
kept-one e =
    cond_both (is_producer e.op) (e ∷ []) [] (λ (entries : List Entry). reverse (map told_entry entries) ≡ map told_entry entries) (λ _. refl) (λ _. refl)

kept-reverse : (history : List Entry) → reverse (producers_entries history) ≡ producers_entries (reverse history)
kept-reverse [] = refl
kept-reverse (e ∷ history) =
    ap reverse (kept-append (e ∷ []) history)
    ∙ (reverse-append (producers_entries (e ∷ [])) (producers_entries history)
    ∙ (ap (λ entries. entries ++ reverse (producers_entries (e ∷ []))) (kept-reverse history)
    ∙ (ap (λ entries. producers_entries (reverse history) ++ entries) (kept-one e)
    ∙ (sym (kept-append (reverse history) (e ∷ []))
    ∙ ap producers_entries (sym (reverse-append (e ∷ []) history))))))

-- ---- what an entry changes

-- what entries say together, the newest first
record Said : Type 0 where
  events : List Event
  batches : ℕ
  bound : SubName → Option Binding
  closed : SubName → Bool
  rules : List Rule
  subs : List SubSummary
  made : List Entry
  given : ℕ → Bool

-- explicit subscriptions are as the whole history has them
module _ (history : List Entry) where
  abbrev said : List Entry → Said
  said entries =
      record {
        events = newest.published_events entries;
        batches = newest.batch_count entries;
        bound = λ s. newest.binding_of entries s;
        closed = λ s. newest.is_closed entries s;
        rules = rules_of entries;
        subs = filter_map (λ (e : Entry). explicit_of history e.op e.reply) entries;
        made = filter (λ (e : Entry). is_subscribed e.op e.reply) entries;
        given = λ number. is_given entries number;
      }

  -- after one more entry
  abbrev after : Said → Op → Reply → Said
  after old op told =
      record {
        events = published_after old.events op told;
        batches = batches_after old.batches op told;
        bound = λ s. binding_after s (old.bound s) old.batches op told;
        closed = λ s. closed_after s (old.closed s) op told;
        rules = cons_option (rule_of op told) old.rules;
        subs = cons_option (explicit_of history op told) old.subs;
        made = if is_subscribed op told then record { op = op; reply = told } ∷ old.made else old.made;
        given = λ number. gives number op told || old.given number;
      }

  -- It changes the same where of its reply only that stands which a script says, and nothing where it isn't of a producer.
  seen-by : (before : List Entry) (op : Op) (told : Reply)
      → (after (said before) op (told_of told) ≡ after (said before) op told) × (is_producer op ≡ false → after (said before) op told ≡ said before)
  seen-by before (Publish stream payloads) (reply.Published seq) = (refl, λ other. absurd (cc))
  seen-by before (Publish stream payloads) told = (refl, λ other. absurd (cc))
  seen-by before (Subscribe stream grain start) (reply.Subscribed number) = (refl, λ other. absurd (cc))
  seen-by before (Subscribe stream grain start) told = (refl, λ other. absurd (cc))
  seen-by before (Unsubscribe sub) (reply.Unsubscribed count) = (refl, λ other. absurd (cc))
  seen-by before (Unsubscribe sub) told = (refl, λ other. absurd (cc))
  seen-by before (AddRule kind namespace) (reply.RuleAdded from) = (refl, λ other. absurd (cc))
  seen-by before (AddRule kind namespace) told = (refl, λ other. absurd (cc))
  seen-by before op told = (refl, λ other. refl)

-- ---- so the producers' entries say the same

all-kept : (history entries : List Entry) → said history (producers_entries entries) ≡ said history entries
all-kept history [] = refl
all-kept history (e ∷ before) =
    let sees = seen-by history before e.op e.reply in
    let rest = filter (λ (e : Entry). is_producer e.op) before in
    cond_both (is_producer e.op) (e ∷ rest) rest (λ (entries : List Entry). said history (map told_entry entries) ≡ said history (e ∷ before))
    (λ _. ap (λ (old : Said). after history old e.op (told_of e.reply)) (all-kept history before) ∙ sees.0) (λ other. all-kept history before ∙ sym (sees.1 other))

-- ---- and as it is told

newest-kept : (history : List Entry) → said history (reverse (producers_entries history)) ≡ said history (reverse history)
newest-kept history = ap (said history) (kept-reverse history) ∙ all-kept history (reverse history)

published-same : (history : List Entry) → published_events (producers_entries history) ≡ published_events history
published-same history = ap (λ (t : Said). t.events) (newest-kept history)

binding-same : (history : List Entry) (s : SubName) → binding_of (producers_entries history) s ≡ binding_of history s
binding-same history s = ap (λ (t : Said). t.bound s) (newest-kept history)

closed-same : (history : List Entry) (s : SubName) → is_closed (producers_entries history) s ≡ is_closed history s
closed-same history s = ap (λ (t : Said). t.closed s) (newest-kept history)

owed-same : (history : List Entry) (s : SubName) → owed_events (producers_entries history) s ≡ owed_events history s
owed-same history s = λ i. owed_of (published-same history i) (binding-same history s i)

rules-same : (history : List Entry) → rules_of (producers_entries history) ≡ rules_of history
rules-same history = ap (λ (t : Said). t.rules) (all-kept history history)

explicit-alike : (history : List Entry) (op : Op) (told : Reply) → explicit_of (producers_entries history) op told ≡ explicit_of history op told
explicit-alike history (Subscribe stream grain start) (reply.Subscribed number) = λ i.
    option_map (λ (binding : Binding). record {
      name = name.Explicit number;
      stream = binding.stream;
      grain = grain;
      start = binding.start;
      is_open = not (closed-same history (name.Explicit number) i);
    }) (binding-same history (name.Explicit number) i)
explicit-alike history op told = refl

explicit-same : (history : List Entry) → explicit_subs (producers_entries history) ≡ explicit_subs history
explicit-same history =
    (λ i. filter_map (λ (e : Entry). explicit-alike history e.op e.reply i) (producers_entries history))
    ∙ ap (λ (t : Said). t.subs) (all-kept history history)

implicit-same : (history : List Entry) → implicit_subs (producers_entries history) ≡ implicit_subs history
implicit-same history = λ i. map summary_of (subs_with (rules-same history i) 0 [] (published-same history i))

subs-same : (history : List Entry) → told_subs (producers_entries history) ≡ told_subs history
subs-same history = λ i. in_order is_named_before (explicit-same history i ++ implicit-same history i)

pub batches-same : (history : List Entry) → batch_count (producers_entries history) ≡ batch_count history
batches-same history = ap (λ (t : Said). t.batches) (newest-kept history)

pub count-same : (history : List Entry) → subscribed_count (producers_entries history) ≡ subscribed_count history
count-same history = ap (λ (t : Said). length t.made) (all-kept history history)

pub given-same : (history : List Entry) (number : ℕ) → is_given (producers_entries history) number ≡ is_given history number
given-same history number = ap (λ (t : Said). t.given number) (all-kept history history)

pub producers-tell : ProducersTell
producers-tell =
    record { published = published-same; bound = binding-same; owed = owed-same; closed = closed-same; rules = rules-same; subs = subs-same }
