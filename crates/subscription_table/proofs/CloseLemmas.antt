-- A table with one subscription closed.
use Rattle.subscription_table.proofs.Prelude.{closed, SubState, AreUnique, PlainRegistry, close_found, registration_of, closed_registration, Registration, tag_of, ranked-set, with_leaf, PlainResumes, Leaf, ◌≡◌, ◌∙◌, ℕ, zero, suc, ◌<◌, Bool, true, false, List, [], ◌∷◌, length, get_or, set, Option, Some, None, if◌then◌else◌, refl, sym, ap, ap₂, subst, arith, false_from_ne_true, get_or_default, map-set, get_or_from_slice_get, slice_get-get_or, slice_get, same_sub, sub_lt, changed_value, place_of, SubName}
use Rattle.std.proofs.Math.Seq.{map-set_same}
use Rattle.stream_ident.specs.declared.ident.SubName.TheVariants as name
use Rattle.pubsub_registry.specs.Registry as registry
use Rattle.pubsub_registry.specs.declared.told.Closing.{Closing}
use Rattle.pubsub_registry.specs.declared.told.Closing.TheVariants.{Done, NoSuch, Implicit, Closed}
use Rattle.pubsub_registry.proofs.Entries.{stands-placed}
use Rattle.stream_ident.specs.Words.{change_at}
use Rattle.stream_ident.proofs.FirstLemmas.{first_at-there}
use Rattle.stream_ident.proofs.SameValues.{same_sub-equal, same_sub-refl}
use Rattle.subscription_table.specs.Standing.{kept_of, name_of, tags_of, IsTable}
use Rattle.subscription_table.specs.Table.{PlainTable, close, closed_by, no_entry, state_at}
use Rattle.subscription_table.proofs.LeafLemmas.{Entry, Names}
use Rattle.subscription_table.proofs.TableLemmas.{records-set, stands-at, Stands}

-- what a registry told, and what it is then
abbrev Told : Type 0
Told = PlainRegistry × Closing

-- a registry that told that it closed a name, or anything else and is as it was
record Answers (r new : PlainRegistry) (s : SubName) (told : Closing) : Type 0 where
  pub done : told ≡ Done → new.names ≡ changed_value same_sub s closed_registration r.names
  pub other : (told ≡ Done → ⊥) → new ≡ r

answers : (r new : PlainRegistry) (s : SubName) (told : Closing) → ◌≡◌ {A = Told} (new, told) (registry.close r s) → Answers r new s told
answers r new s told is = by s (registration_of r s) is
  where
    kept : (s : SubName) (refusal : Closing) → (refusal ≡ Done → ⊥) → ◌≡◌ {A = Told} (new, told) (r, refusal) → Answers r new s told
    kept s refusal not_done is = record { done = λ done. absurd (not_done (sym (ap (λ (t : Told). t.1) is) ∙ done)); other = λ not_told. ap (λ (t : Told). t.0) is }

    if-open : (s : SubName) (b : Bool) → ◌≡◌ {A = Told} (new, told) (if b then (record r { names = changed_value same_sub s closed_registration r.names }, Done) else (r, Closed)) → Answers r new s told
    if-open s true is = record { done = λ done. ap (λ (t : Told). t.0.names) is; other = λ other. absurd (other (ap (λ (t : Told). t.1) is)) }
    if-open s false is = kept s Closed (λ apart. cc) is

    by : (s : SubName) (found : Option Registration) → ◌≡◌ {A = Told} (new, told) (close_found r s found) → Answers r new s told
    by s None is = kept s NoSuch (λ apart. cc) is
    by (name.Implicit kind stream) (Some registration) is = kept (name.Implicit kind stream) Implicit (λ apart. cc) is
    by (name.Explicit number) (Some registration) is = if-open (name.Explicit number) registration.is_open is

-- no name stands twice, so that this one has this number
pub number-there : (names : Names) (s : SubName) (number : ℕ) → AreUnique names → number < length names → same_sub s (get_or names number no_entry).0 ≡ true → Some number ≡ place_of same_sub s names
number-there names s number unique within is =
    sym (first_at-there (λ entry. same_sub s entry.0) 0 names no_entry number within is
    (λ j less. false_from_ne_true (same_sub s (get_or names j no_entry).0) (λ also.
    let equal = unique number j (get_or names number no_entry) (get_or names j no_entry) (slice_get-get_or names number no_entry within) (slice_get-get_or names j no_entry (omega (arith, less, within)))
    (ap (λ (x : SubName). same_sub x (get_or names j no_entry).0) (sym (same_sub-equal s (get_or names number no_entry).0 is)) ∙ also) in
    absurd (omega (arith, less, equal))))
    ∙ ap {B = Option ℕ} Some (omega arith))

change_at-set : (names : Names) (number : ℕ) → change_at closed_registration number names ≡ set names number ((get_or names number no_entry).0, closed_registration (get_or names number no_entry).1)
change_at-set [] number = refl
change_at-set (entry ∷ entries) zero = refl
change_at-set (entry ∷ entries) (suc number) = ap (λ (rest : Names). entry ∷ rest) (change_at-set entries number)

module _ {t : PlainTable} {tags : List ℕ} {r : PlainResumes} (is : IsTable t tags r) (number : ℕ) (within : number < length t.registry.names) (unique : AreUnique t.registry.names)
    (new_registry : PlainRegistry) (names-closed : new_registry.names ≡ changed_value same_sub (get_or t.registry.names number no_entry).0 closed_registration t.registry.names) where
  abbrev entry : Entry
  entry = get_or t.registry.names number no_entry

  abbrev closed_entry : Entry
  closed_entry = (entry.0, closed_registration entry.1)

  names : new_registry.names ≡ set t.registry.names number closed_entry
  names =
      let there = number-there t.registry.names entry.0 number unique within (same_sub-refl entry.0) in
      names-closed ∙ sym (stands-placed entry.0 t.registry.names number (sym there)).1 ∙ change_at-set t.registry.names number

  pub table-closed : {now : SubState} → now ≡ closed (state_at t number) → {new : PlainResumes} → new ≡ with_leaf number (kept_of now) r → IsTable (record { registry = new_registry; states = set t.states number now }) tags new
  table-closed {now} closes {new} set_to =
      let renamed = ranked-set t.registry.names r.order number closed_entry within name_of sub_lt (λ d. ap name_of (get_or_default t.registry.names number no_entry d within)) is.ranked in
      let old = stands-at is.records number (omega (arith, within, is.records.long)) in
      record {
        records = records-set t is.records number new_registry closed_entry now names
            (subst (Stands closed_entry) (sym closes) (record { start = old.start; openness = refl; cursor = old.cursor; resume = old.resume }));
        tagged = is.tagged ∙ sym (ap tags_of names ∙ map-set_same (λ (e : Entry). tag_of e.1.stream) t.registry.names number closed_entry no_entry refl);
        leaved = ap (λ (r : PlainResumes). r.leaves) set_to ∙ ap (λ (all : List Leaf). set all number (kept_of now)) is.leaved ∙ sym (map-set kept_of t.states number now);
        ranked = rw (set_to, names) renamed;
      }

-- what a close told, by what the registry told
module _ {t old : PlainTable} (same : t ≡ old) (number : ℕ) {r : PlainRegistry} {told : Closing} {entry : Entry} (there : slice_get t.registry.names number ≡ Some entry)
    (is : ◌≡◌ {A = Told} (r, told) (registry.close t.registry entry.0)) where
  named : entry.0 ≡ (get_or t.registry.names number no_entry).0
  named = sym (ap (λ (e : Entry). e.0) (get_or_from_slice_get t.registry.names number entry no_entry there))

  by-registry : closed_by t number (r, told) ≡ close old number
  by-registry = ap (closed_by t number) (is ∙ ap (registry.close t.registry) named) ∙ ap (λ (t : PlainTable). close t number) same

  pub names-closed : told ≡ Done → r.names ≡ changed_value same_sub (get_or t.registry.names number no_entry).0 closed_registration t.registry.names
  names-closed done = (answers t.registry r entry.0 told is).done done ∙ ap (λ (s : SubName). changed_value same_sub s closed_registration t.registry.names) named

  pub close-is : told ≡ Done → {now : SubState} → now ≡ closed (state_at t number) → ◌≡◌ {A = PlainTable × Closing} (record { registry = r; states = set t.states number now }, told) (close old number)
  close-is done closes =
      ap₂ {C = PlainTable × Closing} (λ (s : SubState) (c : Closing). (record { registry = r; states = set t.states number s }, c)) closes done
      ∙ ap (λ (c : Closing). closed_by t number (r, c)) (sym done) ∙ by-registry

  pub refused-is : (told ≡ Done → ⊥) → ◌≡◌ {A = PlainTable × Closing} (record { registry = r; states = t.states }, told) (close old number)
  refused-is other =
      ap {B = PlainTable × Closing} (λ (r : PlainRegistry). (record { registry = r; states = t.states }, told)) ((answers t.registry r entry.0 told is).other other)
      ∙ by told other ∙ by-registry
    where
      by : (c : Closing) → (c ≡ Done → ⊥) → ◌≡◌ {A = PlainTable × Closing} (t, c) (closed_by t number (r, c))
      by Done other = absurd (other refl)
      by NoSuch other = refl
      by Implicit other = refl
      by Closed other = refl
