-- What a table tells, by its parts.
use Rattle.subscription_table.proofs.Prelude.{is_unacknowledged, SubState, first_past-rank, rank-before, least_key, due_from, keys_by_rank, no_leaf, top, PlainResumes, entry_at, AreKeys, AreRanked, IsFirstPast, due_key, resume_key, Leaf, ◌≡◌, ◌∙◌, ℕ, ◌+◌, ◌<◌, List, length, get_or, map, nat_lt, None, Some, Option, refl, sym, subst, ap, ap₂, arith, get_or-map, length-map, take_all, option_map, slice_index, IfNone, IfSome, sub_order, same_sub, sub_lt, is_above, SubName}
use Rattle.ranked_index.specs.Leaves as index
use Rattle.ranked_index.proofs.LeafRows.{due-with}
use Rattle.subscription_table.specs.Leaves.{due_after, least_resume, slowest, NamedLeaf}
use Rattle.subscription_table.specs.LeavesOf.{leaf_of, leaves_of, open_resume}
use Rattle.subscription_table.specs.Rows.{AreNamed}
use Rattle.subscription_table.specs.Standing.{kept_of, name_of, IsTable}
use Rattle.subscription_table.specs.Table.{PlainTable, name_at, no_entry, no_state}
use Rattle.subscription_table.proofs.Answering.{due-is, due_of, resume_of, slowest-is, AreKeyed}
use Rattle.subscription_table.proofs.LeafLemmas.{Entry, Names, leaf_at, length-leaves_of, same-resumes}

-- what a number that was found names
pub record IsGiven (found : Option ℕ) (at : ℕ → SubName) (name : Option SubName) : Type 0 where
  pub none : IfNone found (name ≡ None)
  pub some : IfSome found (λ number. name ≡ Some (at number))

given : (found : Option ℕ) (at : ℕ → SubName) (name : Option SubName) → option_map at found ≡ name → IsGiven found at name
given None at name is = record { none = sym is; some = tt }
given (Some number) at name is = record { none = tt; some = sym is }

module _ {t old : PlainTable} {tags : List ℕ} {r : PlainResumes} (is : IsTable t tags r) (same : t ≡ old) where
  abbrev names : Names
  names = t.registry.names

  abbrev leaves : List NamedLeaf
  leaves = leaves_of names t.states

  abbrev some_leaf : NamedLeaf
  some_leaf = leaf_of no_entry no_state

  long : length r.leaves ≡ length names
  long = ap length is.leaved ∙ length-map t.states kept_of ∙ is.records.long

  -- each number has a leaf
  pub leaf-within : (number : ℕ) → number < length old.registry.names → number < length r.leaves
  leaf-within number within = omega (arith, long, ap (λ (t : PlainTable). length t.registry.names) same)

  -- the order ranks the names, each of which has a leaf
  pub table-named : AreNamed r names
  table-named = record {
    within = omega (arith, long);
    ranked = subst (λ (all : Names). AreRanked name_of sub_lt all r.order) (sym (take_all (length r.leaves) names (omega (arith, long)))) is.ranked;
  }

  -- the leaf at a rank
  ranked-leaf : (d : NamedLeaf) (rank : ℕ) → rank < length r.order → entry_at leaves r.order d rank ≡ leaf_of (entry_at names r.order no_entry rank) (get_or t.states (slice_index r.order rank) no_state)
  ranked-leaf d rank within = leaf_at names t.states (slice_index r.order rank) d is.records.long (omega (arith, is.ranked.long, is.ranked.ranking.inverse.number_within rank within))

  keys-are : (key : Leaf → Option ℕ) (own : NamedLeaf → Option ℕ) → ((entry : Entry) (state : SubState) → key (kept_of state) ≡ own (leaf_of entry state)) → AreKeys own leaves r.order (keys_by_rank key r)
  keys-are key own fits = record {
    long = length-map r.order (λ number. key (get_or r.leaves number no_leaf));
    key_at = λ d rank within.
        let number = slice_index r.order rank in
        let there : number < length t.states = omega (arith, is.records.long, is.ranked.long, is.ranked.ranking.inverse.number_within rank within) in
        get_or-map (λ number. key (get_or r.leaves number no_leaf)) r.order rank 0 None within
        ∙ ap (λ (all : List Leaf). key (get_or all number no_leaf)) is.leaved
        ∙ ap key (get_or-map kept_of t.states number no_state no_leaf there)
        ∙ fits (entry_at names r.order no_entry rank) (get_or t.states number no_state)
        ∙ sym (ap own (ranked-leaf d rank within));
  }

  keyed : AreKeyed leaves r.order (keys_by_rank resume_key r) (keys_by_rank due_key r)
  keyed = record {
    ranked = record {
      long = is.ranked.long ∙ sym (length-leaves_of names t.states is.records.long);
      ranking = is.ranked.ranking;
      rises = λ d low high less below. ap₂ (λ (a b : NamedLeaf). sub_lt a.name b.name) (ranked-leaf d low (omega arith)) (ranked-leaf d high below) ∙ is.ranked.rises no_entry low high less below;
    };
    resumes_are = keys-are resume_key resume_of (λ entry state. refl);
    due_are = keys-are due_key due_of (λ entry state. sym (due-with (open_resume state.live state.resume) (is_unacknowledged state)));
  }

  -- when the one at a rank is due
  pub due_key-at : (rank : ℕ) → rank < length r.order → get_or (keys_by_rank due_key r) rank None ≡ due_of (leaf_of no_entry (get_or t.states (slice_index r.order rank) no_state))
  due_key-at rank within = keyed.due_are.key_at some_leaf rank within ∙ ap due_of (ranked-leaf some_leaf rank within)

  -- the name of a number is that of its leaf
  named : (found : Option ℕ) → IfSome found (λ number. number < length r.leaves) → option_map (name_at old) found ≡ option_map (λ number. (get_or leaves number some_leaf).name) found
  named None within = refl
  named (Some number) within =
      sym (ap (λ (leaf : NamedLeaf). Some leaf.name) (leaf_at names t.states number some_leaf is.records.long (omega (arith, within, long))) ∙ ap (λ (t : PlainTable). Some (name_at t number)) same)

  pub slowest-found : (found : Option ℕ) → found ≡ top r → IfSome found (λ number. number < length r.leaves) → option_map (name_at old) found ≡ slowest (leaves_of old.registry.names old.states)
  slowest-found found is within =
      named found within ∙ ap (option_map (λ number. (get_or leaves number some_leaf).name)) is
      ∙ slowest-is leaves r.order (keys_by_rank resume_key r) (keys_by_rank due_key r) keyed some_leaf
      ∙ ap (λ (t : PlainTable). slowest (leaves_of t.registry.names t.states)) same

  pub due-found : (high : ℕ) (after : Option SubName) (from : ℕ) → IsFirstPast name_of sub_lt after names r.order from → (found : Option ℕ) → found ≡ due_from from high r → IfSome found (λ number. number < length r.leaves)
      → option_map (name_at old) found ≡ due_after high after (leaves_of old.registry.names old.states)
  due-found high after from first found is within =
      named found within ∙ ap (option_map (λ number. (get_or leaves number some_leaf).name)) is
      ∙ due-is leaves r.order (keys_by_rank resume_key r) (keys_by_rank due_key r) keyed high after from (record {
        within = first.within;
        before = λ d i low. ap (λ (leaf : NamedLeaf). is_above sub_lt after leaf.name) (ranked-leaf d i (omega (arith, first.within))) ∙ first.before no_entry i low;
        past = λ d i reached below. ap (λ (leaf : NamedLeaf). is_above sub_lt after leaf.name) (ranked-leaf d i below) ∙ first.past no_entry i reached below;
      }) some_leaf
      ∙ ap (λ (t : PlainTable). due_after high after (leaves_of t.registry.names t.states)) same

  pub due-given : (high : ℕ) (after : Option SubName) (from : ℕ) {order : List ℕ} → order ≡ r.order → IsFirstPast name_of sub_lt after names order from → (found : Option ℕ) → found ≡ due_from from high r → IfSome found (λ number. number < length r.leaves)
      → IsGiven found (name_at old) (due_after high after (leaves_of old.registry.names old.states))
  due-given high after from ordered first found is within =
      given found (name_at old) _ (due-found high after from (subst (λ (order : List ℕ). IsFirstPast name_of sub_lt after names order from) ordered first) found is within)

  pub least-found : index.least_resume r ≡ least_resume (leaves_of old.registry.names old.states)
  least-found =
      ap (λ (all : List Leaf). least_key (map resume_key all)) is.leaved ∙ ap least_key (same-resumes names t.states is.records.long)
      ∙ ap (λ (t : PlainTable). least_resume (leaves_of t.registry.names t.states)) same

  -- the ranks past that of a number
  pub past-rank : (number rank : ℕ) → rank < length r.order → slice_index r.order rank ≡ number → IsFirstPast name_of sub_lt (Some (name_at old number)) names r.order (rank + 1)
  past-rank number rank within at =
      subst (λ (t : PlainTable). IsFirstPast name_of sub_lt (Some (name_at t number)) names r.order (rank + 1)) same
      (first_past-rank name_of sub_lt same_sub sub_order names r.order is.ranked no_entry number rank within at)

  pub before-rank : (m n i j : ℕ) → i < length r.order → slice_index r.order i ≡ m → j < length r.order → slice_index r.order j ≡ n → nat_lt i j ≡ sub_lt (name_at old m) (name_at old n)
  before-rank m n i j within at inside there =
      rank-before name_of sub_lt same_sub sub_order names r.order is.ranked no_entry m n i j within at inside there
      ∙ ap (λ (t : PlainTable). sub_lt (name_at t m) (name_at t n)) same
