-- Idle subscriptions that catch up, by their ranks.
use Rattle.subscription_table.proofs.Prelude.{caught_up, is_unacknowledged, SubState, PlainCache, high, first_at_most, is_at_most, due_from, keys_by_rank, leaf_with, no_leaf, open_leaf, with_leaf, with_leaves, PlainResumes, due_key, Leaf, ◌≡◌, ◌∙◌, ℕ, zero, suc, max, ◌+◌, ◌-◌, ◌^◌, ◌<◌, ◌≤◌, Bool, true, false, List, length, get_or, drop, Option, Some, None, nat_lt, refl, sym, ap, ap₂, subst, arith, ◌||◌, ◌&&◌, le-ltb, lt-ltb, or_right, get_or-drop, get_or_read, length-drop, length-map, option_map, slice_index, or_else, past, StreamId}
use Rattle.std.proofs.Common.{is_some}
use Rattle.stream_ident.proofs.FirstLemmas.{first_at-there}
use Rattle.subscription_table.specs.Idle.{CatchUp, CatchUpAt, CatchesUp, IsIdle, IsNextDue}
use Rattle.subscription_table.specs.Leaves.{resumes_below}
use Rattle.subscription_table.specs.LeavesOf.{open_resume}
use Rattle.subscription_table.specs.Standing.{kept_of, IsTable}
use Rattle.subscription_table.specs.Table.{PlainTable, no_entry, no_state, registration_at, state_at, with_state}
use Rattle.subscription_table.proofs.Answering.{due_is}
use Rattle.subscription_table.proofs.LookLemmas.{due-found, due_key-at, leaf-within, past-rank}
use Rattle.subscription_table.proofs.StateLemmas.{fits-caught_up}
use Rattle.subscription_table.proofs.TableLemmas.{Fits, refreshed}

-- a state after it
abbrev pub now_of : PlainCache → SubState → SubState
now_of cache s = caught_up (high cache) false s

-- its leaf is open at the end of the cache, with nothing to acknowledge
kept-idle : (cache : PlainCache) (s : SubState) (stream : StreamId) → IsIdle cache s stream → kept_of (now_of cache s) ≡ open_leaf (high cache)
kept-idle cache s stream idle =
    let level : max s.cursor (high cache) ≡ high cache = omega (arith, idle.between.behind) in
    ap (λ (top : ℕ). leaf_with (open_resume s.live top) (nat_lt top (past s.handled))) level
    ∙ ap₂ (λ (b u : Bool). leaf_with (open_resume b (high cache)) u) idle.between.is_open (le-ltb (high cache) (past s.handled) idle.between.handled)

-- of two at ranks behind one another, the second is the next that is due
module _ {t : PlainTable} {tags : List ℕ} {r : PlainResumes} (is : IsTable t tags r) (high rank : ℕ) (within : rank + 1 < length r.order) where
  abbrev number : ℕ
  number = slice_index r.order (rank + 1)

  abbrev state : SubState
  state = state_at t number

  next-due : state.live ≡ true → state.resume < high → IsNextDue high t (slice_index r.order rank) number
  next-due is_open below = record {
    next = sym (due-found is refl high _ (rank + 1) (past-rank is refl (slice_index r.order rank) rank (omega arith) refl) (Some number) found (leaf-within is refl number inside));
    past = is.ranked.rises no_entry rank (rank + 1) (omega arith) within;
  }
    where
      inside : number < length t.registry.names
      inside = let low = is.ranked.ranking.inverse.number_within (rank + 1) within in omega (arith, low, is.ranked.long)

      keys : List (Option ℕ)
      keys = keys_by_rank due_key r

      due : is_at_most high (get_or (drop (rank + 1) keys) 0 None) ≡ true
      due =
          ap (is_at_most high) (get_or-drop (rank + 1) keys 0 None ∙ ap (λ (k : ℕ). get_or keys k None) (omega arith) ∙ due_key-at is refl (rank + 1) within)
          ∙ due_is high (open_resume state.live state.resume) (is_unacknowledged state)
          ∙ ap (λ (b : Bool). is_some (open_resume b state.resume) && (is_unacknowledged state || resumes_below high (open_resume b state.resume))) is_open
          ∙ or_right (is_unacknowledged state) (nat_lt state.resume high) (lt-ltb state.resume high below)

      found : Some number ≡ due_from (rank + 1) high r
      found =
          let first : first_at_most (rank + 1) high keys ≡ Some (rank + 1 + 0) =
          first_at-there (is_at_most high) (rank + 1) (drop (rank + 1) keys) None 0
          (omega (arith, length-drop (rank + 1) keys, length-map r.order (λ (n : ℕ). due_key (get_or r.leaves n no_leaf)), within)) due (λ j less. absurd (omega arith)) in
          let same : rank + 1 + 0 ≡ rank + 1 = omega arith in
          sym (ap (λ (o : Option ℕ). option_map (slice_index r.order) (or_else o (first_at_most 0 high keys))) (first ∙ ap (λ (k : ℕ). Some k) same))

-- one more rank
module _ {cache : PlainCache} (start : PlainTable) {here new : PlainTable} {tags : List ℕ} {r : PlainResumes} {number : ℕ} (is : IsTable here tags r) (step : CatchesUp cache here new number) (first : ℕ) where
  catch-more : (count : ℕ) → first + count < length r.order → slice_index r.order (first + count) ≡ number → CatchUpAt cache r.order start here first count → CatchUpAt cache r.order start new first (suc count)
  catch-more zero within named before =
      let same : first + 0 ≡ first = omega arith in (
        ap (slice_index r.order) same,
        subst (λ (t : PlainTable). CatchesUp cache t new (slice_index r.order first)) before (subst (CatchesUp cache here new) (sym named ∙ ap (slice_index r.order) same) step),
      )
  catch-more (suc more) within named before =
      let next : first + more + 1 ≡ first + suc more = omega arith in
      let at : slice_index r.order (first + more + 1) ≡ number = ap (slice_index r.order) next ∙ named in
      let due : IsNextDue (high cache) here (slice_index r.order (first + more)) number =
      subst (λ (k : ℕ). (state_at here k).live ≡ true → (state_at here k).resume < high cache → IsNextDue (high cache) here (slice_index r.order (first + more)) k) at
      (next-due is (high cache) (first + more) (omega arith)) step.idle.between.is_open step.idle.between.due in
      subst (λ (k : ℕ). CatchUp cache start new (slice_index r.order first) (suc more) k) (sym named) (here, (slice_index r.order (first + more), (before, (due, step))))

-- a state that was read, with a tag that isn't marked, and written
module _ (cache : PlainCache) (room : high cache + 2 < 2 ^ 64) (start here : PlainTable) (tags : List ℕ) (r : PlainResumes) (first : ℕ) where
  pub catch-step : (rank number : ℕ) → first ≤ rank → rank < length r.order → number ≡ slice_index r.order rank
      → IsTable here tags (with_leaves first (rank - first) (open_leaf (high cache)) r) × CatchUpAt cache r.order start here first (rank - first)
      → (s : SubState) → s ≡ get_or here.states number s → IsIdle cache s (registration_at here number).stream → (own new : SubState) → own ≡ get_or here.states number own → new ≡ now_of cache own
      → IsTable (with_state here number new) tags (with_leaves first (rank + 1 - first) (open_leaf (high cache)) r) × CatchUpAt cache r.order start (with_state here number new) first (rank + 1 - first)
  catch-step rank number reached below is_number was s read its own new again is =
      subst (λ (n : ℕ). IsTable (with_state here number new) tags (with_leaves first n (open_leaf (high cache)) r) × CatchUpAt cache r.order start (with_state here number new) first n) more (
        refreshed was.0 refl number within own new again (λ seen stands. subst (Fits own) (sym is) (fits-caught_up own stands (high cache) false room))
            (ap₂ (λ (k : ℕ) (leaf : Leaf). with_leaf k leaf (with_leaves first count (open_leaf (high cache)) r)) named (sym (ap kept_of written ∙ kept-idle cache (state_at here number) _ idle))),
        catch-more start was.0 step first count (omega arith) named was.1,
      )
    where
      count : ℕ
      count = rank - first

      more : suc count ≡ rank + 1 - first
      more = omega arith

      named : slice_index r.order (first + count) ≡ number
      named = let same : first + count ≡ rank = omega arith in ap (slice_index r.order) same ∙ sym is_number

      within : number < length here.registry.names
      within = let low = was.0.ranked.ranking.inverse.number_within rank below in omega (arith, low, is_number, was.0.ranked.long)

      state-is : (x : SubState) → x ≡ get_or here.states number x → x ≡ state_at here number
      state-is x seen = get_or_read here.states number x (omega (arith, within, was.0.records.long)) seen no_state

      written : new ≡ now_of cache (state_at here number)
      written = is ∙ ap (now_of cache) (state-is own again)

      idle : IsIdle cache (state_at here number) (registration_at here number).stream
      idle = subst (λ (x : SubState). IsIdle cache x (registration_at here number).stream) (state-is s read) its

      step : CatchesUp cache here (with_state here number new) number
      step = record { within = within; idle = idle; is = ap (with_state here number) written }

-- those at ranks before an end, by the numbers of the first and the last
pub catch-run : (cache : PlainCache) (order : List ℕ) (old new : PlainTable) (first end number : ℕ) → first < end → slice_index order first ≡ number → CatchUpAt cache order old new first (end - first)
    → (more : ℕ) × CatchUp cache old new number more (slice_index order (end - 1))
catch-run cache order old new first end number some named each =
    let more = end - first - 1 in
    let count : end - first ≡ suc more = omega arith in
    let last : first + more ≡ end - 1 = omega arith in (
      more,
      subst (λ (k : ℕ). CatchUp cache old new number more (slice_index order k)) last
          (subst (λ (n : ℕ). CatchUp cache old new n more (slice_index order (first + more))) named
          (subst (λ (n : ℕ). CatchUpAt cache order old new first n) count each)),
    )
