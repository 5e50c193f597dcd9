-- The records of a partition, by what the history tells of them.
use Rattle.script_runs.proofs.Prelude.{◌≡◌, ◌≢◌, ◌∙◌, ap, sym, refl, ℕ, Bool, true, false, ◌||◌, not, List, [], ◌∷◌, map, filter, Option, Some, None, option_map, if◌then◌else◌, false≢true, AllByRecursion, cons_option, filter_map, list_any, handled_by, summary_of, SubSummary, sub_equality, is_owed, same_sub, Event, GrainId, SubName, kept-step, records_are_open-from, fits-stands, binding_of, handled_events, published_events, owed_of, sub_at, Reply, Stands, Limits, Op, Subscribe, PlainPartition, Subscription}
use Rattle.stream_ident.specs.declared.ident.SubName.TheVariants as name
use Rattle.stream_model.specs.declared.reply.Reply.TheVariants as reply
use Rattle.stream_model.specs.History.{Entry}
use Rattle.stream_laws.proofs.KeyLists.{each-entry, entry-found}
use Rattle.stream_laws.proofs.LawsOfEvents.{records_agree-from}
use Rattle.stream_laws.proofs.LawsOfQuiet.{quiet_is_done-from}
use Rattle.stream_laws.proofs.UniqueSteps.{steady-legal}
use Rattle.step_core.proofs.NumberedOps.{All-unmap}
use Rattle.script_runs.proofs.Registrations.{registered, registrations}
use Rattle.script_runs.proofs.ToldSteps.{IsImplied, IsImpliedBy, all_given, given_by, given_of, told-legal}
use Rattle.script_runs.specs.ScriptLaws.{ExplicitAreTold, ImplicitAreOwed, OpenHaveAll, is_explicit}
use Rattle.script_runs.specs.ScriptReport.{explicit_of, explicit_sub}

-- ---- explicit ones

-- the explicit subscription of a number and a grain that were given
abbrev told_one : List Entry → ℕ × GrainId → Option SubSummary
told_one history given = option_map (explicit_sub history given.0 given.1) (binding_of history (name.Explicit given.0))

given-one : (history : List Entry) (op : Op) (told : Reply) (rest : List (ℕ × GrainId))
    → cons_option (explicit_of history op told) (filter_map (told_one history) rest) ≡ filter_map (told_one history) (cons_option (given_by op told) rest)
given-one history (Subscribe stream grain start) (reply.Subscribed number) rest = refl
given-one history op told rest = refl

given-all : (history entries : List Entry) → filter_map (λ (e : Entry). explicit_of history e.op e.reply) entries ≡ filter_map (told_one history) (all_given entries)
given-all history [] = refl
given-all history (e ∷ entries) =
    ap (cons_option (explicit_of history e.op e.reply)) (given-all history entries) ∙ given-one history e.op e.reply (all_given entries)

-- the history tells the summary of an explicit record
abbrev IsSummed : List Entry → SubName → Subscription → Type 0
IsSummed history (name.Explicit number) r = told_one history (number, r.grain) ≡ Some (summary_of (name.Explicit number, r))
IsSummed history (name.Implicit kind stream) r = Unit {0}

abbrev explicit_ones : List (SubName × Subscription) → List SubSummary
explicit_ones subs = filter (λ (sub : SubSummary). is_explicit sub.name) (map summary_of subs)

abbrev AreSummed : List Entry → List (SubName × Subscription) → Type 0
AreSummed history subs = explicit_ones subs ≡ filter_map (told_one history) (filter_map given_of (registrations subs))

summed-one : (history : List Entry) (s : SubName) (r : Subscription) (subs : List (SubName × Subscription)) → IsSummed history s r → AreSummed history subs → AreSummed history ((s, r) ∷ subs)
summed-one history (name.Explicit number) r subs here rest =
    λ i. cons_option (sym here i) (rest i)
summed-one history (name.Implicit kind stream) r subs here rest = rest

summed-all : (history : List Entry) (subs : List (SubName × Subscription)) → AllByRecursion (λ (entry : SubName × Subscription). IsSummed history entry.0 entry.1) subs → AreSummed history subs
summed-all history [] all = refl
summed-all history (entry ∷ subs) all = summed-one history entry.0 entry.1 subs all.0 (summed-all history subs all.1)

summed-record : (blocks : ℕ) (limits : Limits) (history : List Entry) (p : PlainPartition) → Stands blocks limits history p
    → (s : SubName) (r : Subscription) → sub_at p s ≡ Some r → IsSummed history s r
summed-record blocks limits history p stands (name.Implicit kind stream) r found = tt
summed-record blocks limits history p stands (name.Explicit number) r found =
    let bound = (records_agree-from kept-step blocks limits history p stands (name.Explicit number) r found).1 in
    let opened = (records_are_open-from kept-step blocks limits history p stands (name.Explicit number) r found).0 in
    ap (option_map (explicit_sub history number r.grain)) bound
    ∙ (λ i. Some (record { name = name.Explicit number; stream = r.stream; grain = r.grain; start = r.start; is_open = sym opened i }))

pub explicit-told : ExplicitAreTold
explicit-told blocks limits history p stands =
    summed-all history p.subs
    (each-entry same_sub sub_equality (IsSummed history) p.subs (steady-legal blocks limits history p stands).subs (summed-record blocks limits history p stands))
    ∙ (ap (filter_map (told_one history)) (told-legal blocks limits history p stands).given ∙ sym (given-all history history))

-- ---- implicit ones

-- the record of an implicit name
pub implied-record : (blocks : ℕ) (limits : Limits) (history : List Entry) (p : PlainPartition) → Stands blocks limits history p
    → (s : SubName) (r : Subscription) → sub_at p s ≡ Some r → IsImpliedBy (published_events history) s r.stream r.grain r.start
implied-record blocks limits history p stands s r found =
    entry-found same_sub sub_equality (λ s r. IsImpliedBy (published_events history) s r.stream r.grain r.start) p.subs s r
    (All-unmap (IsImplied (published_events history)) registered p.subs (told-legal blocks limits history p stands).implied) found

-- what has an element that passes isn't empty where those that don't pass are left out
pub any-kept : (passes : Event → Bool) (events : List Event) → list_any passes events ≡ true → filter passes events ≢ []
any-kept passes [] any none = false≢true any
any-kept passes (event ∷ events) any none =
    (elim (passes event) as (λ b. (b || list_any passes events) ≡ true → (if b then event ∷ filter passes events else filter passes events) ≡ [] → ⊥) [
      | true ↦ λ any none. absurd (cc)
      | false ↦ λ any none. any-kept passes events any none
    ]) any none

pub implicit-owed : ImplicitAreOwed
implicit-owed blocks limits history p stands kind stream r found =
    let s : SubName = name.Implicit kind stream in
    let made = implied-record blocks limits history p stands s r found in
    let bound = (records_agree-from kept-step blocks limits history p stands s r found).1 in
    let opened = (records_are_open-from kept-step blocks limits history p stands s r found).0 in
    record {
      owed = λ none. any-kept (λ event. is_owed r.stream r.start event) (published_events history) made.1 (sym (ap (owed_of (published_events history)) bound) ∙ none);
      grain = made.0;
      is_open = opened ∙ ap not ((told-legal blocks limits history p stands).closed kind stream);
    }

-- ---- what is handled

pub open-all : OpenHaveAll
open-all blocks limits history p stands is_quiet s is_open =
    by (sub_at p s) refl ∙ quiet_is_done-from kept-step blocks limits history p stands is_quiet s is_open
  where
    by : (o : Option Subscription) → sub_at p s ≡ o → handled_by p o ≡ handled_events history s
    by None none = sym ((fits-stands kept-step blocks limits history p stands).unmade s none).handled
    by (Some r) found = (records_agree-from kept-step blocks limits history p stands s r found).0
