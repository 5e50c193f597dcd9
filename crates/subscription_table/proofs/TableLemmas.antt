-- A table with one state changed.
use Rattle.subscription_table.proofs.Prelude.{SubState, PlainRegistry, with_leaf, PlainResumes, AreRanked, Leaf, ◌≡◌, ◌∙◌, ℕ, ◌+◌, ◌^◌, ◌<◌, ◌⊎◌, inl, inr, List, length, get_or, map, set, refl, sym, ap, subst, arith, length-set, get_or-set_other, cases_eq, get_or_read, map-set, sub_lt}
use Rattle.std.proofs.Math.Seq.{map-set_same}
use Rattle.std.proofs.lemmas.Grind.{get_or-set_at}
use Rattle.std.proofs.lemmas.List.{set-get_or}
use Rattle.subscription_table.specs.Standing.{kept_of, name_of, AreRecords, IsTable}
use Rattle.subscription_table.specs.Table.{PlainTable, no_entry, no_state, state_at, with_state}
use Rattle.subscription_table.proofs.LeafLemmas.{Entry, Names}

-- a state that agrees with the registration of another, and leaves room for two more positions
pub record Fits (old new : SubState) : Type 0 where
  pub start : new.start ≡ old.start
  pub openness : new.live ≡ old.live
  pub cursor : new.cursor + 2 < 2 ^ 64
  pub resume : new.resume + 2 < 2 ^ 64

-- a state that agrees with the registration of its name, and leaves room for two more positions
pub record Stands (entry : Entry) (state : SubState) : Type 0 where
  pub start : state.start ≡ entry.1.start
  pub openness : state.live ≡ entry.1.is_open
  pub cursor : state.cursor + 2 < 2 ^ 64
  pub resume : state.resume + 2 < 2 ^ 64

pub stands-at : {t : PlainTable} → AreRecords t → (i : ℕ) → i < length t.states → Stands (get_or t.registry.names i no_entry) (state_at t i)
stands-at r i within = record { start = r.starts i within; openness = r.openness i within; cursor = r.cursors i within; resume = r.resumes i within }

pub stands-fitting : {entry : Entry} {old new : SubState} → Fits old new → Stands entry old → Stands entry new
stands-fitting fits old = record { start = fits.start ∙ old.start; openness = fits.openness ∙ old.openness; cursor = fits.cursor; resume = fits.resume }

pub records-of : (t : PlainTable) → length t.states ≡ length t.registry.names → ((i : ℕ) → i < length t.states → Stands (get_or t.registry.names i no_entry) (state_at t i)) → AreRecords t
records-of t long each = record {
  long = long;
  starts = λ i within. (each i within).start;
  openness = λ i within. (each i within).openness;
  cursors = λ i within. (each i within).cursor;
  resumes = λ i within. (each i within).resume;
}

-- one name and its state changed
pub records-set : (t : PlainTable) → AreRecords t → (number : ℕ) (new : PlainRegistry) (entry : Entry) (state : SubState) → new.names ≡ set t.registry.names number entry → Stands entry state
    → AreRecords (record { registry = new; states = set t.states number state })
records-set t r number new entry state names stands =
    records-of (record { registry = new; states = set t.states number state })
    (length-set t.states number state ∙ r.long ∙ sym (ap length names ∙ length-set t.registry.names number entry))
    (λ i within. subst (λ (all : Names). Stands (get_or all i no_entry) (get_or (set t.states number state) i no_state)) (sym names)
    (by i (omega (arith, within, length-set t.states number state)) (cases_eq i number)))
  where
    by : (i : ℕ) → i < length t.states → (i ≡ number) ⊎ (i ≡ number → ⊥) → Stands (get_or (set t.registry.names number entry) i no_entry) (get_or (set t.states number state) i no_state)
    by i old (inl same) =
        subst (λ (e : Entry). Stands e (get_or (set t.states number state) i no_state)) (sym (get_or-set_at t.registry.names number i entry no_entry same (omega (arith, r.long))))
        (subst (Stands entry) (sym (get_or-set_at t.states number i state no_state same (omega arith))) stands)
    by i old (inr other) =
        subst (λ (e : Entry). Stands e (get_or (set t.states number state) i no_state)) (sym (get_or-set_other t.registry.names number i entry no_entry other))
        (subst (Stands (get_or t.registry.names i no_entry)) (sym (get_or-set_other t.states number i state no_state other)) (stands-at r i old))

pub records-with : (t : PlainTable) → AreRecords t → (number : ℕ) → number < length t.registry.names → (state : SubState) → Fits (state_at t number) state → AreRecords (with_state t number state)
records-with t r number within state fits =
    records-set t r number t.registry (get_or t.registry.names number no_entry) state (sym (set-get_or t.registry.names number no_entry))
    (stands-fitting fits (stands-at r number (omega (arith, r.long))))

-- a state that was read and written: what it was, and what it is now
module _ {t old : PlainTable} {tags : List ℕ} {r : PlainResumes} (is : IsTable t tags r) (same : t ≡ old) (number : ℕ) (within : number < length old.registry.names)
    (was now : SubState) (read : was ≡ get_or t.states number was) (fits : was ≡ state_at old number → Fits was was → Fits was now) where
  stated : number < length t.states
  stated = omega (arith, is.records.long, ap (λ (t : PlainTable). length t.registry.names) same)

  was-is : was ≡ state_at t number
  was-is = get_or_read t.states number was stated read no_state

  pub now-fits : Fits was now
  now-fits = fits (was-is ∙ ap (λ (t : PlainTable). state_at t number) same) (subst (λ (s : SubState). Fits s s) (sym was-is)
      (record { start = refl; openness = refl; cursor = is.records.cursors number stated; resume = is.records.resumes number stated }))

  written : (new : PlainResumes) → new.leaves ≡ map kept_of (set t.states number now) → new.order ≡ r.order → IsTable (with_state t number now) tags new
  written new leaved ordered = record {
    records = records-with t is.records number (omega (arith, stated, is.records.long)) now (subst (λ (s : SubState). Fits s now) was-is now-fits);
    tagged = is.tagged;
    leaved = leaved;
    ranked = subst (λ (order : List ℕ). AreRanked name_of sub_lt t.registry.names order) (sym ordered) is.ranked;
  }

  pub kept : kept_of now ≡ kept_of was → IsTable (with_state t number now) tags r
  kept leaf = written r (is.leaved ∙ sym (map-set_same kept_of t.states number now no_state (leaf ∙ ap kept_of was-is))) refl

  pub refreshed : {new : PlainResumes} → new ≡ with_leaf number (kept_of now) r → IsTable (with_state t number now) tags new
  refreshed {new} set_to =
      written new (ap (λ (r : PlainResumes). r.leaves) set_to ∙ ap (λ (all : List Leaf). set all number (kept_of now)) is.leaved ∙ sym (map-set kept_of t.states number now))
      (ap (λ (r : PlainResumes). r.order) set_to)

-- equal parts
pub same-table : {t : PlainTable} {tags new_tags : List ℕ} {r new_r : PlainResumes} {registry : PlainRegistry} {states : List SubState} → IsTable t tags r
    → registry ≡ t.registry → states ≡ t.states → new_tags ≡ tags → new_r ≡ r → IsTable (record { registry = registry; states = states }) new_tags new_r
same-table is named stated tagged kept = rw (named, stated, tagged, kept) is
