-- What the trees answer is what the named leaves do.
use Rattle.subscription_table.proofs.Prelude.{first_at_most, is_at_most, least_key, least_place, place_of_least, AreKeys, AreRanked, IsFirstPast, due_at, ◌≡◌, ◌∙◌, ℕ, ◌+◌, ◌<◌, ◌≤◌, inl, inr, Bool, true, false, ◌&&◌, ◌||◌, List, length, get_or, Option, Some, None, refl, sym, ap, arith, cases_lt, leb-true, leb-false, le-leb, lt-leb, lt-ltb, le-ltb, eq-eqb, ne_eqb, same_Some, option_map, is_some, slice_index, sub_order, same_sub, sub_lt, or_else, has_number, SubName}
use Rattle.ranked_index.proofs.LeastKeys.{least_key-is}
use Rattle.ranked_index.proofs.LeastLemmas.{first_at_most-met, first_at_most-missed, least_by_rank, least_key-ranked, next_by_rank, IsFirstKey}
use Rattle.subscription_table.specs.Leaves.{due_after, is_due, resumes_below, slowest, slowest_at, NamedLeaf}

abbrev pub leaf_name : NamedLeaf → SubName
leaf_name leaf = leaf.name

-- the keys of a named leaf
abbrev pub resume_of : NamedLeaf → Option ℕ
resume_of leaf = leaf.resume

abbrev pub due_of : NamedLeaf → Option ℕ
due_of leaf = due_at leaf.resume leaf.is_unacknowledged

-- an order of the names, and keys by rank, that fit the leaves
pub record AreKeyed (leaves : List NamedLeaf) (order : List ℕ) (resumes due : List (Option ℕ)) : Type 0 where
  pub ranked : AreRanked leaf_name sub_lt leaves order
  pub resumes_are : AreKeys resume_of leaves order resumes
  pub due_are : AreKeys due_of leaves order due

-- a key that is at most the least is the least
has_least : (least : ℕ) (key : Option ℕ) → is_at_most least key ≡ true → ((own : ℕ) → key ≡ Some own → least ≤ own) → has_number least key ≡ true
has_least least None is lower = is
has_least least (Some own) is lower = eq-eqb own least (let same : own ≡ least = omega (arith, leb-true own least is, lower own refl) in same)

hasnt_least : (least : ℕ) (key : Option ℕ) → is_at_most least key ≡ false → has_number least key ≡ false
hasnt_least least None isnt = refl
hasnt_least least (Some own) isnt = ne_eqb own least (λ same. absurd (omega (arith, leb-false own least isnt)))

-- the key of a leaf is at most high exactly where it is due
pub due_is : (high : ℕ) (resume : Option ℕ) (is_unacknowledged : Bool)
    → is_at_most high (due_at resume is_unacknowledged) ≡ (is_some resume && (is_unacknowledged || resumes_below high resume))
due_is high None is_unacknowledged = refl
due_is high (Some resume) true = le-leb 0 high (omega arith)
due_is high (Some resume) false =
    elim (cases_lt resume high) [
      | inl below ↦ le-leb (resume + 1) high (omega arith) ∙ sym (lt-ltb resume high below)
      | inr past ↦ lt-leb (resume + 1) high (omega arith) ∙ sym (le-ltb resume high past)
    ]

module _ (leaves : List NamedLeaf) (order : List ℕ) (resumes due : List (Option ℕ)) (are : AreKeyed leaves order resumes due) where
  -- the number of the slowest is that at the first rank of the least resume
  slowest_by : NamedLeaf → (o : Option ℕ) → least_key resumes ≡ o → slowest leaves ≡ slowest_at o leaves
  slowest_by d o same =
      ap (λ (o : Option ℕ). slowest_at o leaves) (sym (least_key-ranked resume_of leaves order resumes are.ranked.long are.ranked.ranking d are.resumes_are) ∙ same)

  pub slowest-is : (d : NamedLeaf) → option_map (λ number. (get_or leaves number d).name) (option_map (slice_index order) (least_place resumes)) ≡ slowest leaves
  slowest-is d = by (least_key resumes) refl
    where
      found : (resume rank : ℕ) → least_key resumes ≡ Some resume → IsFirstKey 0 resume rank resumes → Some (get_or leaves (slice_index order rank) d).name ≡ slowest leaves
      found resume rank same first =
          let below : rank < length order = omega (arith, first.within, are.resumes_are.long) in
          let lower : (own : ℕ) → get_or resumes rank None ≡ Some own → resume ≤ own =
          λ own is. let low = (least_key-is resumes).lower rank own first.within is in omega (arith, low.le, same_Some resume low.low (sym same ∙ low.is)) in
          sym (
          slowest_by d (Some resume) same
          ∙ least_by_rank leaf_name sub_lt same_sub sub_order leaves order are.ranked d (λ leaf. has_number resume leaf.resume) rank below
          (ap (has_number resume) (sym (are.resumes_are.key_at d rank below)) ∙ has_least resume (get_or resumes rank None) first.here lower)
          (λ i low. ap (has_number resume) (sym (are.resumes_are.key_at d i (omega arith))) ∙ hasnt_least resume (get_or resumes i None) (first.before i (omega arith) low)))

      at : (resume : ℕ) (place : Option ℕ) → least_key resumes ≡ Some resume → first_at_most 0 resume resumes ≡ place → option_map (λ number. (get_or leaves number d).name) (option_map (slice_index order) place) ≡ slowest leaves
      at resume None same none =
          let met = (least_key-is resumes).met resume same in
          let isnt : is_at_most resume (Some resume) ≡ false = ap (is_at_most resume) (sym met.is) ∙ first_at_most-missed 0 resume resumes none met.at (omega arith) met.within in
          absurd (omega (arith, leb-false resume resume isnt))
      at resume (Some rank) same is = found resume rank same (first_at_most-met 0 resume rank resumes is)

      by : (o : Option ℕ) → least_key resumes ≡ o → option_map (λ number. (get_or leaves number d).name) (option_map (slice_index order) (place_of_least o resumes)) ≡ slowest leaves
      by None same = sym (slowest_by d None same)
      by (Some resume) same = at resume (first_at_most 0 resume resumes) same refl

  pub due-is : (high : ℕ) (after : Option SubName) (from : ℕ) → IsFirstPast leaf_name sub_lt after leaves order from → (d : NamedLeaf)
      → option_map (λ number. (get_or leaves number d).name) (option_map (slice_index order) (or_else (first_at_most from high due) (first_at_most 0 high due))) ≡ due_after high after leaves
  due-is high after from first d =
      next_by_rank leaf_name sub_lt same_sub sub_order leaves order are.ranked d due_of due are.due_are high (is_due high) (λ leaf. due_is high leaf.resume leaf.is_unacknowledged) after from first
