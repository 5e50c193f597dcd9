-- Exchanges of places, and from places to a balanced assignment.
use Rattle.std.proofs.Common.{◌≡◌, ◌≢◌, inl, inr, ⊎_elim, ap, cond, eqb, ℕ, ◌+◌, ◌<◌, ◌≤◌, List, length, get_or, refl, sym, ◌∙◌, arith}
use Rattle.std.proofs.lemmas.Bool.{cases_eq}
use Rattle.std.proofs.lemmas.List.{same_lists, get_or_default}
use Rattle.std.proofs.lemmas.List.Sorted.{sum_by-IsPermutation}
use Rattle.std.specs.List.{SwappedAt}
use Rattle.std.specs.List.Sorted.{IsPermutation}
use Rattle.queue_balancer.proofs.CountLemmas.{count-lt-count}
use Rattle.queue_balancer.specs.Balance.{count, floor, IsEven, IsBalanced, MayLose}
use Rattle.queue_balancer.specs.Places.{ArePlaces, KeepsOld}

-- a silo that loses a queue is gone, or had more than each live one has at least
may_move : (old live new : List ℕ) (silo : ℕ) → IsEven (floor old live) live new → count silo new < count silo old → MayLose old live silo
may_move old live new silo even fewer =
    ⊎_elim
    (λ (gone : count silo live ≡ 0). inl gone)
    (λ (there : count silo live ≢ 0). let bounds = even silo (omega arith) in inr (omega (arith, bounds.0, fewer)))
    (cases_eq (count silo live) 0)

-- where each silo has as many places as queues, no queue moves
stays_whole : (old places new : List ℕ) → KeepsOld old places new → ((silo : ℕ) → count silo old ≤ count silo places) → new ≡ old
stays_whole old places new kept enough =
    same_lists new old kept.whole (λ k d below.
    let within : k < length old = omega (arith, below, kept.whole) in
    let here : get_or new k 0 ≡ get_or old k 0 =
    ⊎_elim
    (λ (same : get_or new k 0 ≡ get_or old k 0). same)
    (λ (moved : get_or new k 0 ≢ get_or old k 0).
    absurd (omega (arith, kept.moves k within moved, kept.same (get_or old k 0), enough (get_or old k 0))))
    (cases_eq (get_or new k 0) (get_or old k 0)) in
    get_or_default new k d 0 below ∙ here ∙ get_or_default old k 0 d within)

pub balanced_from : (old live places new : List ℕ) → ArePlaces old live places → KeepsOld old places new → IsBalanced old live new
balanced_from old live places new made kept =
    let even : IsEven (floor old live) live new =
    λ silo there. (omega (arith, kept.same silo, (made.even silo there).0), omega (arith, kept.same silo, (made.even silo there).1)) in record {
      whole = kept.whole;
      on_live = λ silo some. made.on_live silo (omega (arith, some, kept.same silo));
      even = even;
      moves = λ queue below moved. may_move old live new (get_or old queue 0) even (kept.moves queue below moved);
      stays = λ on_live even. stays_whole old places new kept (made.enough on_live even);
    }

-- a queue before this place has another silo only where its old one has fewer places than it had queues
abbrev pub KeepsBelow : List ℕ → List ℕ → ℕ → Type 0
KeepsBelow old new below =
    (queue : ℕ) → queue < below → get_or new queue 0 ≢ get_or old queue 0 → count (get_or old queue 0) new < count (get_or old queue 0) old

pub count-swapped : (before after : List ℕ) → IsPermutation before after → (silo : ℕ) → count silo after ≡ count silo before
count-swapped before after same silo = sum_by-IsPermutation (λ other. cond (eqb other silo) 1 0) before after same

pub KeepsBelow-swapped : (old before after : List ℕ) (queue other : ℕ) → KeepsBelow old before queue → IsPermutation before after → SwappedAt before after queue other
    → get_or before other 0 ≡ get_or old queue 0 → get_or old other 0 ≢ get_or old queue 0 → KeepsBelow old after (queue + 1)
KeepsBelow-swapped old before after queue other keeps same swapped fits free at below moved =
    let counts : count (get_or old at 0) after ≡ count (get_or old at 0) before = count-swapped before after same (get_or old at 0) in
    ⊎_elim
    (λ (here : at ≡ queue).
    absurd (moved (ap (λ k. get_or after k 0) here ∙ swapped.0 0 ∙ fits ∙ sym (ap (λ k. get_or old k 0) here))))
    (λ (apart : at ≢ queue).
    let was : get_or before at 0 ≢ get_or old at 0 =
    ⊎_elim
    (λ (there : at ≡ other) (kept : get_or before at 0 ≡ get_or old at 0).
    free (sym (ap (λ k. get_or old k 0) there) ∙ sym kept ∙ ap (λ k. get_or before k 0) there ∙ fits))
    (λ (elsewhere : at ≢ other) (kept : get_or before at 0 ≡ get_or old at 0). moved (swapped.2 at 0 apart elsewhere ∙ kept))
    (cases_eq at other) in
    omega (arith, counts, keeps at (omega arith) was))
    (cases_eq at queue)

-- no queue that wasn't there has a place on this queue's old silo
pub KeepsBelow-none : (old new : List ℕ) (queue : ℕ) → KeepsBelow old new queue → queue < length old → length new ≡ length old
    → get_or new queue 0 ≢ get_or old queue 0
    → ((k : ℕ) → k < length old → get_or new k 0 ≡ get_or old queue 0 → get_or old k 0 ≡ get_or old queue 0) → KeepsBelow old new (queue + 1)
KeepsBelow-none old new queue keeps within long missed only at below moved =
    ⊎_elim
    (λ (here : at ≡ queue).
    let fewer : count (get_or old queue 0) new < count (get_or old queue 0) old =
    count-lt-count (get_or old queue 0) new old queue long only within missed refl in rw here fewer)
    (λ (apart : at ≢ queue). keeps at (omega arith) moved)
    (cases_eq at queue)

pub KeepsBelow-same : (old new : List ℕ) (queue : ℕ) → KeepsBelow old new queue → get_or new queue 0 ≡ get_or old queue 0 → KeepsBelow old new (queue + 1)
KeepsBelow-same old new queue keeps kept at below moved =
    ⊎_elim
    (λ (here : at ≡ queue). absurd (moved (ap (λ k. get_or new k 0) here ∙ kept ∙ sym (ap (λ k. get_or old k 0) here))))
    (λ (apart : at ≢ queue). keeps at (omega arith) moved)
    (cases_eq at queue)
