-- A grain subscribes, done by the parts.
use Rattle.step_core.proofs.Prelude.{PlainActivation, new_state, RunningTurn, Delivery, PlainRegistry, add_with, is_full, registered, with_name, Registration, Added, ◌≡◌, ◌∙◌, ap, sym, refl, ℕ, zero, suc, ◌<◌, Bool, true, false, List, [], ◌∷◌, ◌++◌, length, map, Option, Some, None, nat_le, arith, AllByRecursion, option_map, if◌then◌else◌, GrainId, StreamId, SubName, Token, new_subscription, with_sub, Reply, PlainPartition}
use Rattle.stream_ident.specs.declared.ident.SubName.TheVariants as name
use Rattle.stream_model.specs.declared.plain.RunningTurn as plain_turn
use Rattle.stream_model.specs.declared.reply.Reply.TheVariants as reply
use Rattle.stream_model.specs.Publishing as plain
use Rattle.stream_model.proofs.SubNames.{AreGiven, with_value-new}
use Rattle.pubsub_registry.specs.declared.told.Added.TheVariants as add_told
use Rattle.step_core.specs.Numbers.{IsBelow, TurnIsBelow}
use Rattle.step_core.specs.declared.parts.Parts.{Parts}
use Rattle.step_core.specs.PlainOf.{plain_of}
use Rattle.step_core.specs.View.{delivery_of, grain_of, grains_of, name_at, subs_of, turn_of}
use Rattle.step_core.proofs.ViewLemmas.{record-added, records-length}

-- ---- one name more leaves the names under the numbers before

pub name-before : (names : List (SubName × Registration)) (entry : SubName × Registration) (i : ℕ) → i < length names → name_at (names ++ entry ∷ []) i ≡ name_at names i
name-before [] entry i within = absurd (omega (arith, within))
name-before (first ∷ names) entry zero within = refl
name-before (first ∷ names) entry (suc i) within = name-before names entry i (omega (arith, within))

deliveries-before : (names : List (SubName × Registration)) (entry : SubName × Registration) (deliveries : List Delivery) → AllByRecursion (λ (d : Delivery). d.sub < length names) deliveries → map (delivery_of (names ++ entry ∷ [])) deliveries ≡ map (delivery_of names) deliveries
deliveries-before names entry [] below = refl
deliveries-before names entry (d ∷ deliveries) below =
    ap (λ s. record { sub = s; position = d.position } ∷ map (delivery_of (names ++ entry ∷ [])) deliveries) (name-before names entry d.sub below.0)
    ∙ ap (λ rest. delivery_of names d ∷ rest) (deliveries-before names entry deliveries below.1)

turn-before : (names : List (SubName × Registration)) (entry : SubName × Registration) (running : Option RunningTurn) → TurnIsBelow (length names) running → option_map (turn_of (names ++ entry ∷ [])) running ≡ option_map (turn_of names) running
turn-before names entry None below = refl
turn-before names entry (Some run) below =
    ap {B = Option plain_turn.RunningTurn} (λ s. Some (record { sub = s; turn = run.turn; positions = run.positions })) (name-before names entry run.sub below)

pub grains-before : (names : List (SubName × Registration)) (entry : SubName × Registration) (grains : List (GrainId × PlainActivation)) → AllByRecursion (λ (g : GrainId × PlainActivation). IsBelow (length names) g.1) grains → grains_of (names ++ entry ∷ []) grains ≡ grains_of names grains
grains-before names entry [] below = refl
grains-before names entry (g ∷ grains) below =
    ap (λ ds. (g.0, record { activation = g.1.number; active = g.1.active; mailbox = ds; running = option_map (turn_of (names ++ entry ∷ [])) g.1.running }) ∷ grains_of (names ++ entry ∷ []) grains) (deliveries-before names entry g.1.mailbox below.0.waiting)
    ∙ ap (λ run. (g.0, record { activation = g.1.number; active = g.1.active; mailbox = map (delivery_of names) g.1.mailbox; running = run }) ∷ grains_of (names ++ entry ∷ []) grains) (turn-before names entry g.1.running below.0.running)
    ∙ ap (λ rest. (g.0, grain_of names g.1) ∷ rest) (grains-before names entry grains below.1)

-- ---- one record more

abbrev pub with_record : Parts → SubName → StreamId → GrainId → Token → ℕ → Parts
with_record parts s stream grain start position =
    record parts { subs = record { registry = with_name parts.subs.registry s (registered stream grain start); states = parts.subs.states ++ new_state start position ∷ [] } }

pub record-more : (parts : Parts) (s : SubName) (stream : StreamId) (grain : GrainId) (start : Token) (position : ℕ) → length parts.subs.registry.names ≡ length parts.subs.states → AllByRecursion (λ (g : GrainId × PlainActivation). IsBelow (length parts.subs.registry.names) g.1) parts.grains
    → record (plain_of parts) { subs = subs_of parts.subs.registry.names parts.subs.states ++ (s, new_subscription stream grain start position) ∷ [] } ≡ plain_of (with_record parts s stream grain start position)
record-more parts s stream grain start position lengths below =
    let entry : SubName × Registration = (s, registered stream grain start) in
    ap (λ subs. record (plain_of parts) { subs = subs }) (sym (record-added parts.subs.registry.names parts.subs.states entry (new_state start position) lengths))
    ∙ ap (λ gs. record (plain_of parts) { subs = subs_of (parts.subs.registry.names ++ entry ∷ []) (parts.subs.states ++ new_state start position ∷ []); grains = gs }) (sym (grains-before parts.subs.registry.names entry parts.grains below))

-- the registry as it is, or with one name more
abbrev pub added_where : PlainRegistry → StreamId → GrainId → Token → Bool → PlainRegistry × Added
added_where r stream grain start full = add_with r stream grain start (if full then None else Some (suc r.explicit))

abbrev pub added_by : Parts → Token → ℕ → PlainRegistry × Added → PlainPartition × Reply
added_by parts start position (r, add_told.TooMany) = (plain_of parts, reply.TooMany)
added_by parts start position (r, add_told.Added number) = (plain_of (record parts { subs = record { registry = r; states = parts.subs.states ++ new_state start position ∷ [] } }), reply.Subscribed number)

pub subscribe-parts : (parts : Parts) (stream : StreamId) (grain : GrainId) (start : Token) (position : ℕ)
    → parts.subs.registry.most_names ≡ parts.limits.subs → length parts.subs.registry.names ≡ length parts.subs.states
    → AllByRecursion (λ (g : GrainId × PlainActivation). IsBelow (length parts.subs.registry.names) g.1) parts.grains
    → AreGiven parts.subs.registry.explicit (subs_of parts.subs.registry.names parts.subs.states)
    → plain.subscribe_at (plain_of parts) stream grain start position ≡ added_by parts start position (added_where parts.subs.registry stream grain start (is_full parts.subs.registry))
unfolding plain.subscribe_at
subscribe-parts parts stream grain start position limit lengths below given =
    by (nat_le parts.limits.subs (length (subs_of parts.subs.registry.names parts.subs.states))) (is_full parts.subs.registry) full
  where
    s : SubName
    s = name.Explicit (suc parts.subs.registry.explicit)

    full : is_full parts.subs.registry ≡ nat_le parts.limits.subs (length (subs_of parts.subs.registry.names parts.subs.states))
    full =
        ap (λ most. nat_le most (length parts.subs.registry.names)) limit
        ∙ ap (λ n. nat_le parts.limits.subs n) (sym (records-length parts.subs.registry.names parts.subs.states lengths))

    subs : with_sub (plain_of parts) s (new_subscription stream grain start position) ≡ record (plain_of parts) { subs = subs_of parts.subs.registry.names parts.subs.states ++ (s, new_subscription stream grain start position) ∷ [] }
    subs = ap (λ subs. record (plain_of parts) { subs = subs }) (with_value-new parts.subs.registry.explicit (new_subscription stream grain start position) (subs_of parts.subs.registry.names parts.subs.states) given)

    left : PlainPartition × Reply
    left = (record (with_sub (plain_of parts) s (new_subscription stream grain start position)) { explicit = suc parts.subs.registry.explicit }, reply.Subscribed (suc parts.subs.registry.explicit))

    by : (full full' : Bool) → full' ≡ full → (if full then (plain_of parts, reply.TooMany) else left) ≡ added_by parts start position (added_where parts.subs.registry stream grain start full')
    by true full' same = rw same refl
    by false full' same =
        rw same
        (ap {B = PlainPartition × Reply} (λ (p : PlainPartition). (record p { explicit = suc parts.subs.registry.explicit }, reply.Subscribed (suc parts.subs.registry.explicit))) (subs ∙ record-more parts s stream grain start position lengths below))
