-- The events that an agent takes, and the subscriptions that the rules make of them.
use Rattle.step_core.proofs.Prelude.{PlainActivation, new_state, SubState, Registration, ◌≡◌, ◌∙◌, ap, sym, subst, refl, ℕ, Bool, true, false, ◌&&◌, not, List, [], ◌∷◌, ◌++◌, length, map, drop, fold, Some, arith, append_snoc, drop-append_seam, append-nil, length-append, length-map, map-append, AllByRecursion, flat_map, if◌then◌else◌, batch_token, same_name, same_sub, token_lt, value_at, Event, GrainId, SubName, Rule, Subscription, new_states, is_some}
use Rattle.stream_ident.specs.declared.ident.SubName.TheVariants as name
use Rattle.stream_model.specs.Pulling as plain
use Rattle.pubsub_registry.specs.Implying as implying
use Rattle.stream_ident.specs.Implying.{added}
use Rattle.step_core.specs.Known.{AreKnown}
use Rattle.step_core.specs.Numbers.{IsBelow}
use Rattle.step_core.specs.View.{grains_of, sub_of, subs_of}
use Rattle.step_core.proofs.MoreNumbers.{numbered-more}
use Rattle.step_core.proofs.KnownTurns.{known-grown}
use Rattle.step_core.proofs.SubscribeOps.{grains-before}
use Rattle.step_core.proofs.ViewLemmas.{record-added, records-length}
use Rattle.step_core.proofs.Shared.{ap-if}

-- ---- what the rules make

-- the record of a name that was made, with nothing handled
abbrev new_record : ℕ → SubName × Registration → SubName × Subscription
new_record position entry = sub_of entry (new_state entry.1.start position)

abbrev new_records : ℕ → List (SubName × Registration) → List (SubName × Subscription)
new_records position entries = map (new_record position) entries

implied-is : (position : ℕ) (event : Event) (rule : Rule) → plain.implied position event rule ≡ new_records position (implying.implied event rule)
implied-is position event rule =
    sym (ap-if (new_records position) (same_name event.stream.namespace rule.namespace && not (token_lt event.token (batch_token rule.from)))
    ((name.Implicit rule.kind event.stream, record { stream = event.stream; grain = record { kind = rule.kind; key = event.stream.key }; start = batch_token rule.from; is_open = true }) ∷ []) [])

-- a list made of each element, with each of what is made changed
flat-map : {X Y Z : Type 0} (f : Y → Z) (made : X → List Y) (changed : X → List Z) (xs : List X) → ((x : X) → changed x ≡ map f (made x)) → flat_map changed xs ≡ map f (flat_map made xs)
flat-map f made changed [] same = refl
flat-map f made changed (x ∷ xs) same =
    ap (λ ys. ys ++ flat_map changed xs) (same x)
    ∙ ap (λ rest. map f (made x) ++ rest) (flat-map f made changed xs same)
    ∙ sym (map-append f (made x) (flat_map made xs))

all-implied : (rules : List Rule) (position : ℕ) (events : List Event) → plain.all_implied rules position events ≡ new_records position (implying.all_implied rules events)
all-implied rules position events =
    flat-map (new_record position) (λ event. flat_map (implying.implied event) rules) (λ event. flat_map (plain.implied position event) rules) events
    (λ event. flat-map (new_record position) (implying.implied event) (plain.implied position event) rules (λ rule. implied-is position event rule))

-- ---- those that are new

-- a name is there where its record is
there-is : (s : SubName) (names : List (SubName × Registration)) (states : List SubState) → length names ≡ length states → is_some (value_at same_sub s (subs_of names states)) ≡ is_some (value_at same_sub s names)
there-is s [] states lengths = refl
there-is s (entry ∷ names) [] lengths = absurd (omega (arith, lengths))
there-is s (entry ∷ names) (state ∷ states) lengths = by (same_sub s entry.0) (there-is s names states (omega (arith, lengths)))
  where
    by : (same : Bool) → is_some (value_at same_sub s (subs_of names states)) ≡ is_some (value_at same_sub s names)
        → is_some (if same then Some (sub_of entry state).1 else value_at same_sub s (subs_of names states)) ≡ is_some (if same then Some entry.1 else value_at same_sub s names)
    by true rest = refl
    by false rest = rest

-- those of the entries whose names aren't there yet
new_of : List (SubName × Registration) → List (SubName × Registration) → List (SubName × Registration)
new_of names [] = []
new_of names (entry ∷ entries) = if is_some (value_at same_sub entry.0 names) then new_of names entries else entry ∷ new_of (names ++ entry ∷ []) entries

names-added : (names entries : List (SubName × Registration)) → fold added names entries ≡ names ++ new_of names entries
unfolding new_of
names-added names [] = sym (append-nil names)
names-added names (entry ∷ entries) =
    by (is_some (value_at same_sub entry.0 names)) (names-added names entries) (names-added (names ++ entry ∷ []) entries)
  where
    by : (there : Bool) → fold added names entries ≡ names ++ new_of names entries → fold added (names ++ entry ∷ []) entries ≡ (names ++ entry ∷ []) ++ new_of (names ++ entry ∷ []) entries
        → fold added (if there then names else names ++ entry ∷ []) entries ≡ names ++ (if there then new_of names entries else entry ∷ new_of (names ++ entry ∷ []) entries)
    by true kept more = kept
    by false kept more = more ∙ append_snoc names entry (new_of (names ++ entry ∷ []) entries)

-- and their records
records-made : (position : ℕ) (names entries : List (SubName × Registration)) (states : List SubState) → length names ≡ length states
    → fold added (subs_of names states) (new_records position entries) ≡ subs_of (names ++ new_of names entries) (states ++ new_states position (new_of names entries))
unfolding new_of
records-made position names [] states lengths =
    ap (λ ns. subs_of ns states) (sym (append-nil names))
    ∙ ap (λ ss. subs_of (names ++ []) ss) (sym (append-nil states))
records-made position names (entry ∷ entries) states lengths =
    ap (λ there. fold added (if there then subs_of names states else subs_of names states ++ new_record position entry ∷ []) (new_records position entries)) (there-is entry.0 names states lengths)
    ∙ by (is_some (value_at same_sub entry.0 names)) (records-made position names entries states lengths)
    (records-made position (names ++ entry ∷ []) entries (states ++ state ∷ []) (omega (arith, lengths, length-append names (entry ∷ []), length-append states (state ∷ []))))
  where
    state : SubState
    state = new_state entry.1.start position

    Made : List (SubName × Registration) → List (SubName × Registration) → List SubState → List SubState → Type 0
    Made ns more ss made = fold added (subs_of ns ss) (new_records position entries) ≡ subs_of (ns ++ more) (ss ++ made)

    by : (there : Bool) → Made names (new_of names entries) states (new_states position (new_of names entries))
        → Made (names ++ entry ∷ []) (new_of (names ++ entry ∷ []) entries) (states ++ state ∷ []) (new_states position (new_of (names ++ entry ∷ []) entries))
        → fold added (if there then subs_of names states else subs_of names states ++ new_record position entry ∷ []) (new_records position entries)
        ≡ subs_of (names ++ (if there then new_of names entries else entry ∷ new_of (names ++ entry ∷ []) entries)) (states ++ new_states position (if there then new_of names entries else entry ∷ new_of (names ++ entry ∷ []) entries))
    by true kept more = kept
    by false kept more =
        ap (λ subs. fold added subs (new_records position entries)) (sym (record-added names states entry state lengths))
        ∙ more
        ∙ ap (λ ns. subs_of ns ((states ++ state ∷ []) ++ new_states position (new_of (names ++ entry ∷ []) entries))) (append_snoc names entry (new_of (names ++ entry ∷ []) entries))
        ∙ ap (λ ss. subs_of (names ++ entry ∷ new_of (names ++ entry ∷ []) entries) ss) (append_snoc states state (new_states position (new_of (names ++ entry ∷ []) entries)))

-- the view of a table with the names and states that the rules make
pub made-view : (rules : List Rule) (position : ℕ) (names : List (SubName × Registration)) (states : List SubState) (events : List Event) → length names ≡ length states
    → subs_of (implying.names_with rules names events) (states ++ new_states position (drop (length names) (implying.names_with rules names events))) ≡ plain.subs_with rules position (subs_of names states) events
made-view rules position names states events lengths =
    let entries = implying.all_implied rules events in
    ap (λ ns. subs_of ns (states ++ new_states position (drop (length names) ns))) (names-added names entries)
    ∙ ap (λ more. subs_of (names ++ new_of names entries) (states ++ new_states position more)) (drop-append_seam names (new_of names entries))
    ∙ sym (records-made position names entries states lengths)
    ∙ ap (λ made. fold added (subs_of names states) made) (sym (all-implied rules position events))

-- as many records as names
pub made-length : (rules : List Rule) (position : ℕ) (names : List (SubName × Registration)) (states : List SubState) (events : List Event) → length names ≡ length states
    → length (plain.subs_with rules position (subs_of names states) events) ≡ length (implying.names_with rules names events)
made-length rules position names states events lengths =
    let entries = implying.all_implied rules events in
    ap length (sym (made-view rules position names states events lengths))
    ∙ ap (λ ns. length (subs_of ns (states ++ new_states position (drop (length names) ns)))) (names-added names entries)
    ∙ ap (λ new. length (subs_of (names ++ new_of names entries) (states ++ new_states position new))) (drop-append_seam names (new_of names entries))
    ∙ records-length (names ++ new_of names entries) (states ++ new_states position (new_of names entries))
    (omega (arith, lengths, length-append names (new_of names entries), length-append states (new_states position (new_of names entries)), length-map (new_of names entries) (λ (entry : SubName × Registration). new_state entry.1.start position)))
    ∙ ap length (sym (names-added names entries))

-- ---- the grains see the same names

abbrev AreBelow : ℕ → List (GrainId × PlainActivation) → Type 0
AreBelow n grains = AllByRecursion (λ (g : GrainId × PlainActivation). IsBelow n g.1) grains

grains-same : (names more : List (SubName × Registration)) (grains : List (GrainId × PlainActivation)) → AreBelow (length names) grains → grains_of (names ++ more) grains ≡ grains_of names grains
grains-same names [] grains below = ap (λ ns. grains_of ns grains) (append-nil names)
grains-same names (entry ∷ more) grains below =
    ap (λ ns. grains_of ns grains) (sym (append_snoc names entry more))
    ∙ grains-same (names ++ entry ∷ []) more grains (numbered-more (length names) (length (names ++ entry ∷ [])) (omega (arith, length-append names (entry ∷ []))) grains below)
    ∙ grains-before names entry grains below

pub made-grains : (rules : List Rule) (names : List (SubName × Registration)) (events : List Event) (grains : List (GrainId × PlainActivation)) → AreBelow (length names) grains → grains_of (implying.names_with rules names events) grains ≡ grains_of names grains
made-grains rules names events grains below =
    ap (λ ns. grains_of ns grains) (names-added names (implying.all_implied rules events))
    ∙ grains-same names (new_of names (implying.all_implied rules events)) grains below

-- what the grains know stays so
pub made-known : (rules : List Rule) (position : ℕ) (names : List (SubName × Registration)) (states : List SubState) (events : List Event) (grains : List (GrainId × PlainActivation)) → length states ≡ length names → AreBelow (length names) grains
    → AreKnown names states grains → AreKnown (implying.names_with rules names events) (states ++ new_states position (drop (length names) (implying.names_with rules names events))) grains
made-known rules position names states events grains lengths below known =
    let entries = implying.all_implied rules events in
    subst (λ ns. AreKnown ns (states ++ new_states position (drop (length names) ns)) grains) (sym (names-added names entries))
    (subst (λ more. AreKnown (names ++ new_of names entries) (states ++ new_states position more) grains) (sym (drop-append_seam names (new_of names entries)))
    (known-grown names (new_of names entries) states position grains known lengths below))

pub made-below : (rules : List Rule) (names : List (SubName × Registration)) (events : List Event) (grains : List (GrainId × PlainActivation)) → AreBelow (length names) grains → AreBelow (length (implying.names_with rules names events)) grains
made-below rules names events grains below =
    numbered-more (length names) (length (implying.names_with rules names events))
    (omega (arith, length-append names (new_of names (implying.all_implied rules events)), ap length (names-added names (implying.all_implied rules events))))
    grains below
