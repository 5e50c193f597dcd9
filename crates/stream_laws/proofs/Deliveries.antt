-- The positions of a subscription among the deliveries of a mailbox.
use Rattle.stream_laws.proofs.Prelude.{◌≡◌, ◌∙◌, ap, sym, subst, refl, ℕ, zero, suc, ◌≤◌, max, nat_le, Bool, true, false, ◌&&◌, List, [], ◌∷◌, ◌++◌, length, map, drop, filter, arith, and_parts, and_from, cond_both, cond-true, cond-false, false≢true, leb-true, le-leb, append-nil, map-append, filter-append, same_sub-equal, same_sub-refl, same_sub, SubName, waiting_in, front_of, Delivery}
use Rattle.stream_laws.proofs.Marks.{IsCovering, IsNext}

pub waiting-append : (x : SubName) (first second : List Delivery) → waiting_in x (first ++ second) ≡ waiting_in x first ++ waiting_in x second
waiting-append x first second =
    ap (λ ds. map (λ (d : Delivery). d.position) ds) (filter-append (λ d. same_sub x d.sub) first second)
    ∙ map-append (λ (d : Delivery). d.position) (filter (λ d. same_sub x d.sub) first) (filter (λ d. same_sub x d.sub) second)

-- a delivery of the subscription at the front
pub waiting-own : (x : SubName) (d : Delivery) (deliveries : List Delivery) → same_sub x d.sub ≡ true → waiting_in x (d ∷ deliveries) ≡ d.position ∷ waiting_in x deliveries
waiting-own x d deliveries own =
    ap (λ ds. map (λ (d : Delivery). d.position) ds) (cond-true (same_sub x d.sub) (d ∷ filter (λ d. same_sub x d.sub) deliveries) (filter (λ d. same_sub x d.sub) deliveries) own)

-- and one of another
pub waiting-other : (x : SubName) (d : Delivery) (deliveries : List Delivery) → same_sub x d.sub ≡ false → waiting_in x (d ∷ deliveries) ≡ waiting_in x deliveries
waiting-other x d deliveries other =
    ap (λ ds. map (λ (d : Delivery). d.position) ds) (cond-false (same_sub x d.sub) (d ∷ filter (λ d. same_sub x d.sub) deliveries) (filter (λ d. same_sub x d.sub) deliveries) other)

-- one delivery more at the end
pub waiting-push : (s : SubName) (position : ℕ) (deliveries : List Delivery) → waiting_in s (deliveries ++ record { sub = s; position = position } ∷ []) ≡ waiting_in s deliveries ++ position ∷ []
waiting-push s position deliveries =
    let d : Delivery = record { sub = s; position = position } in
    waiting-append s deliveries (d ∷ []) ∙ ap (λ rest. waiting_in s deliveries ++ rest) (waiting-own s d [] (same_sub-refl s))

pub waiting-push_other : (x s : SubName) (position : ℕ) (deliveries : List Delivery) → same_sub x s ≡ false → waiting_in x (deliveries ++ record { sub = s; position = position } ∷ []) ≡ waiting_in x deliveries
waiting-push_other x s position deliveries other =
    let d : Delivery = record { sub = s; position = position } in
    waiting-append x deliveries (d ∷ []) ∙ ap (λ rest. waiting_in x deliveries ++ rest) (waiting-other x d [] other) ∙ append-nil (waiting_in x deliveries)

-- ---- the front of a mailbox that becomes a turn

-- its positions are the next ones, where those that wait pass over none from a position that isn't past it
pub front-next : (marks : List Bool) (n : ℕ) (s : SubName) (a from : ℕ) (deliveries : List Delivery)
    → a ≤ from → IsCovering marks a (waiting_in s deliveries) → IsNext marks a (front_of n s from deliveries)
front-next marks zero s a from deliveries le covering = tt
front-next marks (suc n) s a from [] le covering = tt
front-next marks (suc n) s a from (d ∷ deliveries) le covering =
    cond_both (same_sub s d.sub && nat_le from d.position) (d.position ∷ front_of n s (suc d.position) deliveries) [] (IsNext marks a)
    (λ taken.
    let parts = and_parts (same_sub s d.sub) (nat_le from d.position) taken in
    let rises = leb-true from d.position parts.1 in
    let own = subst (λ ps. IsCovering marks a ps) (waiting-own s d deliveries parts.0) covering in
    let reached : max a (suc d.position) ≡ suc d.position = omega arith in (
      omega arith,
      own.0,
      own.1,
      front-next marks n s (suc d.position) (suc d.position) deliveries (omega arith) (subst (λ m. IsCovering marks m (waiting_in s deliveries)) reached own.2),
    ))
    (λ _. tt)

-- the front and what is behind it
pub front-rest : (n : ℕ) (s : SubName) (from : ℕ) (deliveries : List Delivery)
    → front_of n s from deliveries ++ waiting_in s (drop (length (front_of n s from deliveries)) deliveries) ≡ waiting_in s deliveries
front-rest zero s from deliveries = refl
front-rest (suc n) s from [] = refl
front-rest (suc n) s from (d ∷ deliveries) =
    cond_both (same_sub s d.sub && nat_le from d.position) (d.position ∷ front_of n s (suc d.position) deliveries) []
    (λ front. front ++ waiting_in s (drop (length front) (d ∷ deliveries)) ≡ waiting_in s (d ∷ deliveries))
    (λ taken.
    let parts = and_parts (same_sub s d.sub) (nat_le from d.position) taken in
    ap (λ rest. d.position ∷ rest) (front-rest n s (suc d.position) deliveries) ∙ sym (waiting-own s d deliveries parts.0))
    (λ _. refl)

-- what others wait for is behind it
pub front-other : (x : SubName) (n : ℕ) (s : SubName) (from : ℕ) (deliveries : List Delivery) → same_sub x s ≡ false
    → waiting_in x (drop (length (front_of n s from deliveries)) deliveries) ≡ waiting_in x deliveries
front-other x zero s from deliveries different = refl
front-other x (suc n) s from [] different = refl
front-other x (suc n) s from (d ∷ deliveries) different =
    cond_both (same_sub s d.sub && nat_le from d.position) (d.position ∷ front_of n s (suc d.position) deliveries) []
    (λ front. waiting_in x (drop (length front) (d ∷ deliveries)) ≡ waiting_in x (d ∷ deliveries))
    (λ taken.
    let parts = and_parts (same_sub s d.sub) (nat_le from d.position) taken in
    let not_own : same_sub x d.sub ≡ false = subst (λ y. same_sub x y ≡ false) (same_sub-equal s d.sub parts.0) different in
    front-other x n s (suc d.position) deliveries different ∙ sym (waiting-other x d deliveries not_own))
    (λ _. refl)

pub front-length : (n : ℕ) (s : SubName) (from : ℕ) (deliveries : List Delivery) → length (front_of n s from deliveries) ≤ n
front-length zero s from deliveries = omega arith
front-length (suc n) s from [] = omega arith
front-length (suc n) s from (d ∷ deliveries) =
    cond_both (same_sub s d.sub && nat_le from d.position) (d.position ∷ front_of n s (suc d.position) deliveries) [] (λ front. length front ≤ suc n)
    (λ _. let h = front-length n s (suc d.position) deliveries in omega arith)
    (λ _. omega arith)

-- from a delivery's own position on it has that delivery
pub front-some : (n : ℕ) (d : Delivery) (deliveries : List Delivery) → 1 ≤ n → 1 ≤ length (front_of n d.sub d.position (d ∷ deliveries))
front-some zero d deliveries some = absurd (omega arith)
front-some (suc n) d deliveries some =
    cond_both (same_sub d.sub d.sub && nat_le d.position d.position) (d.position ∷ front_of n d.sub (suc d.position) deliveries) [] (λ front. 1 ≤ length front)
    (λ _. omega arith)
    (λ not_taken.
    let taken = and_from (same_sub d.sub d.sub) (nat_le d.position d.position) (same_sub-refl d.sub) (le-leb d.position d.position (omega arith)) in
    absurd (false≢true (sym not_taken ∙ taken)))
