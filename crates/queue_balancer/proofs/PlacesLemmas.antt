-- Places for the queues: how often each silo stands among them.
use Rattle.std.proofs.Common.{◌≡◌, ◌≢◌, ℕ, ◌+◌, ◌*◌, ◌%◌, ◌<◌, ◌≤◌, Bool, true, false, not, List, [], ◌∷◌, ◌++◌, length, take, cond, eqb, ltb, filter, sym, ◌∙◌, ap, refl, arith, length-append, ⊎_elim}
use Rattle.std.proofs.lemmas.Bool.{cases_eq, cases_Bool, cases_lt, ltb-true, ltb-false, lt-ltb}
use Rattle.std.proofs.lemmas.List.{length-take-le, take_at}
use Rattle.std.proofs.lemmas.List.Sums.{sum_by-cons, sum_by-take-le}
use Rattle.std.proofs.lemmas.List.Filters.{length-filter_both, sum_by-filter_both}
use Rattle.std.specs.Prelude.{sum_by}
use Rattle.queue_balancer.specs.Balance.{count, floor, HasNoDoubles, IsOnLive, IsEven}
use Rattle.queue_balancer.specs.Places.{has_more, order_of, ArePlaces}
use Rattle.queue_balancer.proofs.CountLemmas.{count-cons, count-append, count-le-cons, count-le-one, count-cons_same, count-cons_other}

pub length-order_of : (least : ℕ) (old live : List ℕ) → length (order_of least old live) ≡ length live
length-order_of least old live =
    length-append (filter (has_more least old) live) (filter (λ silo. not (has_more least old silo)) live)
    ∙ length-filter_both (has_more least old) (λ silo. not (has_more least old silo)) (λ silo. refl) live

count-order_of : (silo least : ℕ) (old live : List ℕ) → count silo (order_of least old live) ≡ count silo live
count-order_of silo least old live =
    count-append silo (filter (has_more least old) live) (filter (λ silo. not (has_more least old silo)) live)
    ∙ sum_by-filter_both (has_more least old) (λ silo. not (has_more least old silo)) (λ silo. refl) (λ other. cond (eqb other silo) 1 0) live

-- a filter keeps each entry that passes
pub count-filter : (silo : ℕ) (passes : ℕ → Bool) (xs : List ℕ) → passes silo ≡ true → count silo (filter passes xs) ≡ count silo xs
count-filter silo passes [] good = refl
count-filter silo passes (x ∷ xs) good =
    ⊎_elim
    (λ (yes : passes x ≡ true). ap (λ b. count silo (cond b (x ∷ filter passes xs) (filter passes xs))) yes
    ∙ count-cons silo x (filter passes xs) ∙ ap (λ n. cond (eqb x silo) 1 0 + n) (count-filter silo passes xs good) ∙ sym (count-cons silo x xs))
    (λ (no : passes x ≡ false). ap (λ b. count silo (cond b (x ∷ filter passes xs) (filter passes xs))) no
    ∙ count-filter silo passes xs good ∙ sym (count-cons_other silo x xs (λ same. cc)))
    (cases_Bool (passes x))

-- one more queue is counted once more for each time that its silo is live
counts-cons : (x : ℕ) (queues live : List ℕ) → sum_by (λ silo. count silo (x ∷ queues)) live ≡ count x live + sum_by (λ silo. count silo queues) live
counts-cons x queues [] = refl
counts-cons x queues (silo ∷ live) =
    let here = sum_by-cons (λ silo. count silo (x ∷ queues)) silo live in
    let there = sum_by-cons (λ silo. count silo queues) silo live in
    let rest = counts-cons x queues live in
    ⊎_elim
    (λ (same : x ≡ silo). omega (arith, here, there, rest, count-cons_same silo x queues same, count-cons_same x silo live (sym same)))
    (λ (other : x ≢ silo). omega (arith, here, there, rest, count-cons_other silo x queues other, count-cons_other x silo live (λ same. other (sym same))))
    (cases_eq x silo)

counts-nil : (live : List ℕ) → sum_by (λ silo. count silo []) live ≡ 0
counts-nil [] = refl
counts-nil (silo ∷ live) =
    let here : sum_by (λ silo. count silo []) (silo ∷ live) ≡ 0 + sum_by (λ silo. count silo []) live =
    sum_by-cons (λ silo. count silo []) silo live in omega (arith, here, counts-nil live)

-- where all queues are on live silos, these together have all queues
counts_all : (queues live : List ℕ) → HasNoDoubles live → IsOnLive live queues → sum_by (λ silo. count silo queues) live ≡ length queues
counts_all [] live apart on_live = counts-nil live
counts_all (x ∷ queues) live apart on_live =
    let rest : sum_by (λ silo. count silo queues) live ≡ length queues =
    counts_all queues live apart (λ silo some. on_live silo (omega (arith, some, count-le-cons silo x queues))) in
    let once : 0 < count x live = on_live x (omega (arith, count-cons_same x x queues refl)) in
    omega (arith, counts-cons x queues live, rest, once, count-le-one x live apart)

-- where they are even, they have the least number each, and those that have more have one more
counts_even : (least : ℕ) (queues live : List ℕ) → IsEven least live queues
    → sum_by (λ silo. count silo queues) live ≡ least * length live + length (filter (has_more least queues) live)
counts_even least queues [] even = omega arith
counts_even least queues (silo ∷ live) even =
    let here = sum_by-cons (λ silo. count silo queues) silo live in
    let bounds = even silo (omega (arith, count-cons_same silo silo live refl)) in
    let rest : sum_by (λ silo. count silo queues) live ≡ least * length live + length (filter (has_more least queues) live) =
    counts_even least queues live (λ other some. even other (omega (arith, some, count-le-cons other silo live))) in
    ⊎_elim
    (λ (yes : ltb least (count silo queues) ≡ true).
    let longer : length (filter (has_more least queues) (silo ∷ live)) ≡ 1 + length (filter (has_more least queues) live) =
    ap (λ b. length (cond b (silo ∷ filter (has_more least queues) live) (filter (has_more least queues) live))) yes ∙ omega arith in
    omega (arith, here, bounds.0, bounds.1, rest, longer, ltb-true least (count silo queues) yes))
    (λ (no : ltb least (count silo queues) ≡ false).
    let same : length (filter (has_more least queues) (silo ∷ live)) ≡ length (filter (has_more least queues) live) =
    ap (λ b. length (cond b (silo ∷ filter (has_more least queues) live) (filter (has_more least queues) live))) no in
    omega (arith, here, bounds.0, bounds.1, rest, same, ltb-false least (count silo queues) no))
    (cases_Bool (ltb least (count silo queues)))

-- rounds of all live silos, and a part of one round
pub record AreMade (old live rounds places : List ℕ) : Type 0 where
  pub some : 0 < length live
  pub apart : HasNoDoubles live
  pub length_rounds : length rounds ≡ floor old live * length live
  pub count_rounds : (silo : ℕ) → count silo rounds ≡ floor old live * count silo live
  pub made : places ≡ rounds ++ take (length old % length live) (order_of (floor old live) old live)

count_places : (silo : ℕ) (old live rounds places : List ℕ) → AreMade old live rounds places
    → count silo places ≡ floor old live * count silo live + count silo (take (length old % length live) (order_of (floor old live) old live))
count_places silo old live rounds places made =
    ap (count silo) made.made
    ∙ count-append silo rounds (take (length old % length live) (order_of (floor old live) old live))
    ∙ ap (λ n. n + count silo (take (length old % length live) (order_of (floor old live) old live))) (made.count_rounds silo)

-- a part of a round has a silo no more often than the round
part-le : (silo : ℕ) (old live : List ℕ) → count silo (take (length old % length live) (order_of (floor old live) old live)) ≤ count silo live
part-le silo old live =
    omega (
      arith,
      count-order_of silo (floor old live) old live,
      sum_by-take-le (λ other. cond (eqb other silo) 1 0) (order_of (floor old live) old live) (length old % length live),
    )

length_places : (old live rounds places : List ℕ) → AreMade old live rounds places → length places ≡ length old
length_places old live rounds places made =
    let some : 0 < length live = made.some in
    let part : length (take (length old % length live) (order_of (floor old live) old live)) ≡ length old % length live =
    length-take-le (length old % length live) (order_of (floor old live) old live) (omega (arith, length-order_of (floor old live) old live)) in
    omega (
      arith,
      part,
      ap length made.made,
      made.length_rounds,
      length-append rounds (take (length old % length live) (order_of (floor old live) old live)),
    )

on_live_places : (old live rounds places : List ℕ) → AreMade old live rounds places → IsOnLive live places
on_live_places old live rounds places made silo some =
    ⊎_elim
    (λ (none : count silo live ≡ 0).
    let no_rounds : floor old live * count silo live ≡ 0 = ap (λ n. floor old live * n) none ∙ omega arith in
    absurd (omega (arith, none, no_rounds, some, count_places silo old live rounds places made, part-le silo old live)))
    (λ (there : count silo live ≢ 0). omega arith)
    (cases_eq (count silo live) 0)

-- a live silo's places
count_live : (silo : ℕ) (old live rounds places : List ℕ) → AreMade old live rounds places → 0 < count silo live
    → count silo places ≡ floor old live + count silo (take (length old % length live) (order_of (floor old live) old live))
count_live silo old live rounds places made there =
    let one : count silo live ≡ 1 = omega (arith, there, count-le-one silo live made.apart) in
    let once : floor old live * count silo live ≡ floor old live = ap (λ n. floor old live * n) one ∙ omega arith in
    omega (arith, once, count_places silo old live rounds places made)

even_places : (old live rounds places : List ℕ) → AreMade old live rounds places → IsEven (floor old live) live places
even_places old live rounds places made silo there =
    let is = count_live silo old live rounds places made there in
    (omega (arith, is), omega (arith, is, part-le silo old live, count-le-one silo live made.apart))

-- where the old silos are an even assignment to live ones, the part of a round are those that had more
part_even : (old live : List ℕ) → 0 < length live → HasNoDoubles live → IsOnLive live old → IsEven (floor old live) live old
    → take (length old % length live) (order_of (floor old live) old live) ≡ filter (has_more (floor old live) old) live
part_even old live some apart on_live even =
    let as_many : length (filter (has_more (floor old live) old) live) ≡ length old % length live =
    omega (arith, some, counts_all old live apart on_live, counts_even (floor old live) old live even) in
    take_at (filter (has_more (floor old live) old) live) (filter (λ silo. not (has_more (floor old live) old silo)) live) (length old % length live) as_many

enough_places : (old live rounds places : List ℕ) → AreMade old live rounds places → IsOnLive live old → IsEven (floor old live) live old
    → (silo : ℕ) → count silo old ≤ count silo places
enough_places old live rounds places made on_live even silo =
    ⊎_elim
    (λ (there : 0 < count silo live).
    let is = count_live silo old live rounds places made there in
    let bounds = even silo there in
    ⊎_elim
    (λ (more : floor old live < count silo old).
    let part : count silo (take (length old % length live) (order_of (floor old live) old live)) ≡ count silo live =
    ap (count silo) (part_even old live made.some made.apart on_live even) ∙ count-filter silo (has_more (floor old live) old) live (lt-ltb (floor old live) (count silo old) more) in
    omega (arith, is, bounds.1, part, there))
    (λ (least : count silo old ≤ floor old live). omega (arith, is, least))
    (cases_lt (floor old live) (count silo old)))
    (λ (gone : count silo live ≤ 0).
    ⊎_elim
    (λ (has : 0 < count silo old). absurd (omega (arith, gone, on_live silo has)))
    (λ (none : count silo old ≤ 0). omega arith)
    (cases_lt 0 (count silo old)))
    (cases_lt 0 (count silo live))

pub places_made : (old live rounds places : List ℕ) → AreMade old live rounds places → ArePlaces old live places
places_made old live rounds places made = record {
  whole = length_places old live rounds places made;
  on_live = on_live_places old live rounds places made;
  even = even_places old live rounds places made;
  enough = enough_places old live rounds places made;
}
