-- Rows of names from the least to the greatest, with a name put in and with numbers of names taken out.
use Rattle.pubsub_registry.proofs.Prelude.{◌≡◌, ℕ, zero, suc, ◌≤◌, Bool, true, false, List, [], ◌∷◌, ◌++◌, length, take, drop, get_or, filter, insert, map, if◌then◌else◌, refl, sym, ap, subst, arith, All, Contains, false_from_ne_true, All-nil, All-cons, All-head, All-tail, Contains-get_or, same_sub-equal, same_sub, sub_lt, SubName}
use Rattle.std.proofs.lemmas.List.Elements.{All-contains, All-filter, All-map}
use Rattle.pubsub_registry.specs.Ascending.{IsAscending, IsPlaceOf}
use Rattle.pubsub_registry.specs.Registry.{Rises}
use Rattle.stream_ident.proofs.NameOrders.{sub_order}
use Rattle.pubsub_registry.proofs.Elements.{All-insert, All-known, Contains-map}

pub ascending-insert : (names : List SubName) (s : SubName) (at : ℕ) → IsAscending names → IsPlaceOf names s at → IsAscending (insert names at s)
ascending-insert names s zero ascending place = (place.after, ascending)
ascending-insert [] s (suc at) ascending place = absurd (let no = place.within in omega arith)
ascending-insert (x ∷ xs) s (suc at) ascending place =
    let first = All-head (λ a. sub_lt a s ≡ true) x (take at xs) place.before in
    let within : at ≤ length xs = let more = place.within in omega arith in (
      All-insert (λ b. sub_lt x b ≡ true) xs at s ascending.0 first,
      ascending-insert xs s at ascending.1
          (record { within = within; before = All-tail (λ a. sub_lt a s ≡ true) x (take at xs) place.before; after = place.after }),
    )

-- the names of the numbers that are left
All-left : (P : SubName → Type 0) (name : ℕ → SubName) (test : ℕ → Bool) (row : List ℕ) → All P (map name row) → All P (map name (filter test row))
All-left P name test row all =
    let each = All-known (λ n. P (name n)) row (λ n there. All-contains P (map name row) (name n) all (Contains-map name row n there)) in
    All-map P name (filter test row) (All-filter test (λ n. P (name n)) row each)

pub ascending-left : (name : ℕ → SubName) (test : ℕ → Bool) (row : List ℕ) → IsAscending (map name row) → IsAscending (map name (filter test row))
ascending-left name test [] ascending = tt
ascending-left name test (n ∷ row) ascending =
    let rest = ascending-left name test row ascending.1 in
    elim (test n) as (λ b. IsAscending (map name (if b then n ∷ filter test row else filter test row))) [
      | true ↦ (All-left (λ b. sub_lt (name n) b ≡ true) name test row ascending.0, rest)
      | false ↦ rest
    ]

rises-at : (before after : List SubName) (a b : SubName) → IsAscending (before ++ a ∷ (b ∷ after)) → sub_lt a b ≡ true
rises-at [] after a b ascending = All-head (λ b. sub_lt a b ≡ true) b after ascending.0
rises-at (x ∷ xs) after a b ascending = rises-at xs after a b ascending.1

pub rises : (names : List SubName) → IsAscending names → Rises names
rises names ascending before after a b is = rises-at before after a b (subst IsAscending is ascending)

-- the names in front of a place are less than s where the last of them is
all-before : (names : List SubName) (s : SubName) (at : ℕ) → IsAscending names → at ≤ length names
    → ((k : ℕ) → suc k ≡ at → sub_lt (get_or names k s) s ≡ true) → All (λ a. sub_lt a s ≡ true) (take at names)
all-before names s zero ascending within last = All-nil (λ a. sub_lt a s ≡ true)
all-before [] s (suc at) ascending within last = absurd (omega arith)
all-before (x ∷ xs) s (suc at) ascending within last =
    let rest : at ≤ length xs = omega arith in
    All-cons (λ a. sub_lt a s ≡ true) x (take at xs) (first at rest last)
    (all-before xs s at ascending.1 rest (λ k is. last (suc k) (ap suc is)))
  where
    first : (at : ℕ) → at ≤ length xs → ((k : ℕ) → suc k ≡ suc at → sub_lt (get_or (x ∷ xs) k s) s ≡ true) → sub_lt x s ≡ true
    first zero rest last = last zero refl
    first (suc m) rest last =
        sub_order.chain x (get_or xs m s) s (ascending.0 m s (omega arith)) (last (suc m) refl)

-- where the walk from the end stops
pub place-from : (names : List SubName) (s : SubName) (at : ℕ) → IsAscending names → (Contains names s → ⊥) → at ≤ length names
    → All (λ b. sub_lt s b ≡ true) (drop at names) → ((k : ℕ) → suc k ≡ at → sub_lt s (get_or names k s) ≡ false) → IsPlaceOf names s at
place-from names s at ascending new within after last = record {
  within = within;
  before = all-before names s at ascending within (λ k is.
      let there : Contains names (get_or names k s) = Contains-get_or names k s (omega arith) in
      sub_order.rest s (get_or names k s) (last k is)
      (false_from_ne_true (same_sub s (get_or names k s)) (λ same. new (subst (Contains names) (sym (same_sub-equal s (get_or names k s) same)) there))));
  after = after;
}
