-- A subscription that is closed, and the grain that forgets it.
use Rattle.step_core.proofs.Prelude.{PlainActivation, forgotten, closed, Delivery, SubState, AreUnique, PlainRegistry, close_found, closed_registration, Registration, ◌≡◌, ◌∙◌, ap, sym, subst, refl, ℕ, ◌<◌, Bool, true, false, not, List, [], ◌∷◌, length, set, Option, Some, None, ◌==◌, arith, false≢true, get_or-set_same, AllByRecursion, if◌then◌else◌, All-filter, same_grain, same_sub, changed_value, place_of, value_at, GrainId, SubName, place_of-value, place_of-within, unsubscribe-implicit, Reply, Grain, PlainPartition, AreRecords, PlainTable, close, closed_by, no_entry, no_state, registration_at, state_at}
use Rattle.pubsub_registry.proofs.Entries.{length-closed}
use Rattle.step_core.proofs.RecordOps.{record-found}
use Rattle.stream_ident.specs.declared.ident.SubName.TheVariants as name
use Rattle.stream_model.specs.declared.reply.Reply.TheVariants as reply
use Rattle.stream_model.specs.Publishing as plain
use Rattle.stream_model.proofs.ChangedValues.{All-changed, place_of-changed, place_of-unchanged}
use Rattle.pubsub_registry.specs.declared.told.Closing.{Closing}
use Rattle.pubsub_registry.specs.declared.told.Closing.TheVariants as close_told
use Rattle.subscription_table.specs.Table.{number_of}
use Rattle.step_core.specs.Assembly.{Agrees, IsAssembled}
use Rattle.step_core.specs.Known.{AreKnown}
use Rattle.step_core.specs.Numbers.{AreDistinct, IsBelow}
use Rattle.step_core.specs.PlainOf.{plain_of}
use Rattle.step_core.specs.View.{grain_of, grains_of, name_at}
use Rattle.step_core.specs.declared.parts.Parts.{Parts}
use Rattle.step_core.proofs.AssembledTable.{IsAsLarge, assembled-subs}
use Rattle.step_core.proofs.KnownMore.{known-forgotten, known-names, closed-grain}
use Rattle.step_core.proofs.KnownOps.{known-state}
use Rattle.step_core.proofs.NamesOps.{name-of-entry, name-of-place}
use Rattle.step_core.proofs.Shared.{distinct-of-unique, ap-if}
use Rattle.step_core.proofs.SubscriberOps.{forgotten-is, unsubscribe-parts, with_closed}
use Rattle.step_core.proofs.NumberedOps.{grains-known}

-- ---- the grain forgets the record

forgotten-below : (n number : ℕ) (a : PlainActivation) → IsBelow n a → IsBelow n (forgotten number a)
forgotten-below n number a below =
    record {
      waiting = All-filter (λ (d : Delivery). d.sub < n) (λ (d : Delivery). not (number == d.sub)) a.mailbox below.waiting;
      running = below.running;
      subs = All-filter (λ sub. sub < n) (λ sub. not (number == sub)) a.subs below.subs;
    }

-- its grain without what is kept of a record
abbrev pub forgotten_by : GrainId → ℕ → List (GrainId × PlainActivation) → List (GrainId × PlainActivation)
forgotten_by g number grains = changed_value same_grain g (forgotten number) grains

pub forgotten-numbered : (n : ℕ) (g : GrainId) (number : ℕ) (grains : List (GrainId × PlainActivation)) → AllByRecursion (λ (entry : GrainId × PlainActivation). IsBelow n entry.1) grains → AllByRecursion (λ (entry : GrainId × PlainActivation). IsBelow n entry.1) (forgotten_by g number grains)
forgotten-numbered n g number grains all = All-changed (IsBelow n) same_grain g (forgotten number) (forgotten-below n number) grains all

-- by the record's name it is the plain grain without it
forgotten-names : (names : List (SubName × Registration)) (g : GrainId) (number : ℕ) (grains : List (GrainId × PlainActivation)) → AreDistinct names → number < length names → AllByRecursion (λ (entry : GrainId × PlainActivation). IsBelow (length names) entry.1) grains
    → changed_value same_grain g (plain.without (name_at names number)) (grains_of names grains) ≡ grains_of names (forgotten_by g number grains)
forgotten-names names g number [] distinct within all = refl
forgotten-names names g number (entry ∷ grains) distinct within all =
    by (same_grain g entry.0) (forgotten-names names g number grains distinct within all.1)
  where
    without : Grain → Grain
    without = plain.without (name_at names number)

    by : (b : Bool) → changed_value same_grain g without (grains_of names grains) ≡ grains_of names (forgotten_by g number grains)
        → (if b then (entry.0, without (grain_of names entry.1)) ∷ grains_of names grains else (entry.0, grain_of names entry.1) ∷ changed_value same_grain g without (grains_of names grains))
        ≡ grains_of names (if b then (entry.0, forgotten number entry.1) ∷ grains else entry ∷ forgotten_by g number grains)
    by true rest = ap (λ (st : Grain). (entry.0, st) ∷ grains_of names grains) (sym (forgotten-is names number entry.1 distinct within all.0))
    by false rest = ap (λ gs. (entry.0, grain_of names entry.1) ∷ gs) rest

-- ---- the table closes the record

abbrev with_closed_name : PlainTable → ℕ → ℕ → PlainTable
with_closed_name t n number =
    record { registry = record t.registry { names = changed_value same_sub (name.Explicit n) closed_registration t.registry.names }; states = set t.states number (closed (state_at t number)) }

close-found : (t : PlainTable) (s : SubName) (number : ℕ) → place_of same_sub s t.registry.names ≡ Some number → close t number ≡ closed_by t number (close_found t.registry s (Some (registration_at t number)))
close-found t s number found =
    ap (λ s. closed_by t number (close_found t.registry s (value_at same_sub s t.registry.names))) (sym (name-of-place s t.registry.names number no_entry found))
    ∙ ap (λ (o : Option Registration). closed_by t number (close_found t.registry s o)) (place_of-value same_sub s number t.registry.names no_entry found)

close-explicit : (t : PlainTable) (n number : ℕ) → AreRecords t → place_of same_sub (name.Explicit n) t.registry.names ≡ Some number
    → close t number ≡ (if (state_at t number).live then (with_closed_name t n number, close_told.Done) else (t, close_told.Closed))
close-explicit t n number records found =
    let within : number < length t.states = omega (arith, place_of-within same_sub (name.Explicit n) number t.registry.names found, records.long) in
    let done : PlainRegistry × Closing = (record t.registry { names = changed_value same_sub (name.Explicit n) closed_registration t.registry.names }, close_told.Done) in
    close-found t (name.Explicit n) number found
    ∙ ap (λ is_open. closed_by t number (if is_open then done else (t.registry, close_told.Closed))) (sym (records.openness number within))
    ∙ ap-if (closed_by t number) (state_at t number).live done (t.registry, close_told.Closed)

-- the table is as large as it was, the grains know what they knew, and a record that it closed is closed
record IsClosed (t : PlainTable) (grains : List (GrainId × PlainActivation)) (number : ℕ) (stepped : PlainTable × Closing) : Type 0 where
  pub large : IsAsLarge t stepped.0
  pub known : AreKnown stepped.0.registry.names stepped.0.states grains
  pub closes : stepped.1 ≡ close_told.Done → (state_at stepped.0 number).live ≡ false

close-is : (t : PlainTable) (grains : List (GrainId × PlainActivation)) (s : SubName) (number : ℕ) → AreRecords t → place_of same_sub s t.registry.names ≡ Some number → AreKnown t.registry.names t.states grains → IsClosed t grains number (close t number)
close-is t grains s number records found known = by s found
  where
    within : number < length t.states
    within = omega (arith, place_of-within same_sub s number t.registry.names found, records.long)

    same : (told : Closing) → (told ≡ close_told.Done → ⊥) → IsClosed t grains number (t, told)
    same told other = record { large = record { names = refl; most_names = refl; most_rules = refl }; known = known; closes = λ is. absurd (other is) }

    picked : (n : ℕ) (is_open : Bool) → IsClosed t grains number (if is_open then (with_closed_name t n number, close_told.Done) else (t, close_told.Closed))
    picked n true = record {
      large = record { names = length-closed t.registry.names (name.Explicit n); most_names = refl; most_rules = refl };
      known =
          known-names t.registry.names (changed_value same_sub (name.Explicit n) closed_registration t.registry.names) (set t.states number (closed (state_at t number))) grains
          (known-state t.registry.names t.states grains number (closed (state_at t number)) known within (λ is_open. absurd (false≢true is_open)) (λ at none unheld. (at, none)))
          (length-closed t.registry.names (name.Explicit n)) (closed-grain (name.Explicit n) t.registry.names);
      closes = λ _. ap (λ (state : SubState). state.live) (get_or-set_same t.states number (closed (state_at t number)) no_state within);
    }
    picked n false = same close_told.Closed (λ is. cc)

    by : (s : SubName) → place_of same_sub s t.registry.names ≡ Some number → IsClosed t grains number (close t number)
    by (name.Implicit kind stream) found = subst (IsClosed t grains number) (sym (close-found t (name.Implicit kind stream) number found)) (same close_told.Implicit (λ is. cc))
    by (name.Explicit n) found = subst (IsClosed t grains number) (sym (close-explicit t n number records found)) (picked n (state_at t number).live)

module _ (parts : Parts) (number : ℕ) where
  -- the grains without what is kept of the record
  abbrev pub left_grains : List (GrainId × PlainActivation)
  left_grains = forgotten_by (registration_at parts.subs number).grain number parts.grains

  -- what a grain is told, and what the table and the grains are then
  abbrev pub closed_as : PlainTable × Closing → PlainPartition × Reply
  closed_as (t, close_told.Done) = (plain_of (record parts { subs = t; grains = left_grains }), reply.Unsubscribed (length (state_at parts.subs number).handled))
  closed_as (t, close_told.NoSuch) = (plain_of (record parts { subs = t }), reply.NoSuch)
  closed_as (t, close_told.Implicit) = (plain_of (record parts { subs = t }), reply.Implicit)
  closed_as (t, close_told.Closed) = (plain_of (record parts { subs = t }), reply.Closed)

  module _ (s : SubName) (records : AreRecords parts.subs) (found : Some number ≡ number_of parts.subs s) where
    -- what the table did is the plain operation
    pub closed-same : Agrees parts → AreUnique parts.subs.registry.names → closed_as (close parts.subs number) ≡ plain.unsubscribe (plain_of parts) s
    closed-same agrees unique = by s (sym found)
      where
        names : List (SubName × Registration)
        names = parts.subs.registry.names

        lengths : length names ≡ length parts.subs.states
        lengths = sym records.long

        forgets : (n : ℕ) → place_of same_sub (name.Explicit n) names ≡ Some number → changed_value same_grain (registration_at parts.subs number).grain (plain.without (name.Explicit n)) (grains_of names parts.grains) ≡ grains_of names left_grains
        forgets n found =
            let within = place_of-within same_sub (name.Explicit n) number names found in
            let is_name : name_at names number ≡ name.Explicit n = name-of-entry names number no_entry within ∙ sym (name-of-place (name.Explicit n) names number no_entry found) in
            subst (λ s. changed_value same_grain (registration_at parts.subs number).grain (plain.without s) (grains_of names parts.grains) ≡ grains_of names left_grains) is_name
            (forgotten-names names (registration_at parts.subs number).grain number parts.grains (distinct-of-unique names unique) within agrees.assembled.numbered)

        explicit : (n : ℕ) (is_open : Bool)
            → closed_as (if is_open then (with_closed_name parts.subs n number, close_told.Done) else (parts.subs, close_told.Closed))
            ≡ (if not is_open then (plain_of parts, reply.Closed)
            else (plain_of (with_closed parts (name.Explicit n) (set parts.subs.states number (closed (state_at parts.subs number))) left_grains), reply.Unsubscribed (length (state_at parts.subs number).handled)))
        explicit n true = refl
        explicit n false = refl

        by : (s : SubName) → place_of same_sub s names ≡ Some number → closed_as (close parts.subs number) ≡ plain.unsubscribe (plain_of parts) s
        by (name.Implicit kind stream) found =
            ap closed_as (close-found parts.subs (name.Implicit kind stream) number found)
            ∙ unsubscribe-implicit (plain_of parts) (name.Implicit kind stream) kind stream _ refl (record-found parts (name.Implicit kind stream) number no_entry no_state lengths found)
        by (name.Explicit n) found =
            ap closed_as (close-explicit parts.subs n number records found)
            ∙ explicit n (state_at parts.subs number).live
            ∙ sym (unsubscribe-parts parts n number no_entry no_state left_grains lengths found (forgets n found))

    pub closed-performs : (new : PlainTable) (told : Closing) → Agrees parts → AreUnique parts.subs.registry.names → (new, told) ≡ close parts.subs number → closed_as (new, told) ≡ plain.unsubscribe (plain_of parts) s
    closed-performs new told agrees unique done = ap closed_as done ∙ closed-same agrees unique

    closed-is : (new : PlainTable) (told : Closing) → IsAssembled parts → (new, told) ≡ close parts.subs number → IsClosed parts.subs parts.grains number (new, told)
    closed-is new told assembled done = subst (IsClosed parts.subs parts.grains number) (sym done) (close-is parts.subs parts.grains s number records (sym found) assembled.known)

    pub closed-assembled : (new : PlainTable) (told : Closing) → IsAssembled parts → (new, told) ≡ close parts.subs number → IsAssembled (record parts { subs = new })
    closed-assembled new told assembled done = let is = closed-is new told assembled done in assembled-subs parts new is.large is.known assembled

    pub closed-after : (new : PlainTable) → IsAssembled parts → (new, close_told.Done) ≡ close parts.subs number → (state_at new number).live ≡ false
    closed-after new assembled done = (closed-is new close_told.Done assembled done).closes refl

-- a grain that forgets a closed record knows no other numbers, and all that are open
forgotten-known : (parts : Parts) (g : GrainId) (number : ℕ) → IsAssembled parts → (state_at parts.subs number).live ≡ false → AreKnown parts.subs.registry.names parts.subs.states (forgotten_by g number parts.grains)
forgotten-known parts g number assembled is_closed = by (place_of same_grain g parts.grains) refl
  where
    by : (at : Option ℕ) → place_of same_grain g parts.grains ≡ at → AreKnown parts.subs.registry.names parts.subs.states (forgotten_by g number parts.grains)
    by None none = subst (AreKnown parts.subs.registry.names parts.subs.states) (place_of-unchanged same_grain g (forgotten number) parts.grains none) assembled.known
    by (Some j) found =
        subst (AreKnown parts.subs.registry.names parts.subs.states) (place_of-changed same_grain g (forgotten number) j parts.grains found)
        (known-forgotten parts.subs.registry.names parts.subs.states parts.grains number j assembled.known is_closed (place_of-within same_grain g j parts.grains found))

pub forgotten-assembled : (parts : Parts) (g : GrainId) (number : ℕ) → IsAssembled parts → (state_at parts.subs number).live ≡ false → IsAssembled (record parts { grains = forgotten_by g number parts.grains })
forgotten-assembled parts g number assembled is_closed =
    grains-known parts (forgotten_by g number parts.grains) assembled (forgotten-numbered (length parts.subs.registry.names) g number parts.grains assembled.numbered) (forgotten-known parts g number assembled is_closed)
