-- Marks: which positions are passed over, which come next, and how far they reach.
use Rattle.stream_laws.proofs.Prelude.{◌≡◌, ℕ, zero, suc, ◌+◌, ◌-◌, ◌<◌, ◌≤◌, max, Bool, true, false, List, [], ◌∷◌, ◌++◌, length, get_or, if◌then◌else◌, refl, sym, ap, subst, ◌∙◌, append_assoc, arith, cond-true, cond-false, false≢true, append-nil, AllByRecursion, All-weaken, All-append, past_from-append, past, past_from}
use Rattle.std.proofs.Math.ListN.{get_or-append}
use Rattle.stream_laws.proofs.Marks.{IsClear, IsCovering, IsNext, marked_below, reach}

-- nothing is between a position and one at or before it
pub IsClear-none : (marks : List Bool) (a b : ℕ) → b ≤ a → IsClear marks a b
IsClear-none marks a b le q from below = absurd (omega arith)

pub IsClear-within : (marks : List Bool) (a b c d : ℕ) → IsClear marks a d → a ≤ b → c ≤ d → IsClear marks b c
IsClear-within marks a b c d clear le_b le_d q from below = clear q (omega arith) (omega arith)

pub IsClear-join : (marks : List Bool) (a b c : ℕ) → IsClear marks a b → IsClear marks b c → IsClear marks a c
IsClear-join marks a b c first second q from below =
    by (b - q) refl
  where
    by : (n : ℕ) → b - q ≡ n → get_or marks q false ≡ false
    by zero e = second q (omega arith) below
    by (suc n) e = first q from (omega arith)

pub IsClear-max : (marks : List Bool) (a b c : ℕ) → IsClear marks a b → IsClear marks a c → IsClear marks a (max b c)
IsClear-max marks a b c first second q from below =
    by (c - b) refl
  where
    by : (n : ℕ) → c - b ≡ n → get_or marks q false ≡ false
    by zero e = first q from (omega arith)
    by (suc n) e = second q from (omega arith)

-- a marked position is one of the list
pub marked-within : (marks : List Bool) (q : ℕ) → get_or marks q false ≡ true → q < length marks
marked-within [] q marked = absurd (false≢true marked)
marked-within (mark ∷ marks) zero marked = omega arith
marked-within (mark ∷ marks) (suc q) marked = let h = marked-within marks q marked in omega arith

clear_from : (marks : List Bool) (a k b : ℕ) → b ≡ k + a → IsClear marks a b → marked_below marks b ≡ marked_below marks a
clear_from marks a zero b e clear = ap (marked_below marks) (omega arith)
clear_from marks a (suc k) zero e clear = absurd (omega arith)
clear_from marks a (suc k) (suc b) e clear =
    cond-false (get_or marks b false) _ _ (clear b (omega arith) (omega arith))
    ∙ clear_from marks a k b (omega arith) (λ q from below. clear q from (omega arith))

pub marked_below-clear : (marks : List Bool) (a b : ℕ) → a ≤ b → IsClear marks a b → marked_below marks b ≡ marked_below marks a
marked_below-clear marks a b le clear = clear_from marks a (b - a) b (omega arith) clear

pub marked_below-marked : (marks : List Bool) (n : ℕ) → get_or marks n false ≡ true → marked_below marks (suc n) ≡ marked_below marks n ++ n ∷ []
marked_below-marked marks n marked = cond-true (get_or marks n false) _ _ marked

-- the next positions go on where those before them end
pub marked_below-next : (marks : List Bool) (a : ℕ) (positions : List ℕ) → IsNext marks a positions → marked_below marks a ++ positions ≡ marked_below marks (past_from a positions)
marked_below-next marks a [] next = append-nil (marked_below marks a)
marked_below-next marks a (position ∷ positions) next =
    sym (append_assoc (marked_below marks a) (position ∷ []) positions)
    ∙ ap (λ front. (front ++ position ∷ []) ++ positions) (sym (marked_below-clear marks a position next.0 next.1))
    ∙ ap (λ front. front ++ positions) (sym (marked_below-marked marks position next.2))
    ∙ marked_below-next marks (suc position) positions next.3

pub marked_below-within : (marks : List Bool) (n : ℕ) → AllByRecursion (λ q. q < n) (marked_below marks n)
marked_below-within marks zero = tt
marked_below-within marks (suc n) =
    by (get_or marks n false) (All-weaken (λ q. q < n) (λ q. q < suc n) (λ q below. omega arith) (marked_below marks n) (marked_below-within marks n))
  where
    by : (b : Bool) → AllByRecursion (λ q. q < suc n) (marked_below marks n) → AllByRecursion (λ q. q < suc n) (if b then marked_below marks n ++ n ∷ [] else marked_below marks n)
    by true more = All-append (λ q. q < suc n) (marked_below marks n) (n ∷ []) more (omega arith, tt)
    by false more = more

-- they are marked
pub marked_below-all : (marks : List Bool) (n : ℕ) → AllByRecursion (λ q. get_or marks q false ≡ true) (marked_below marks n)
marked_below-all marks zero = tt
marked_below-all marks (suc n) =
    by (get_or marks n false) refl (marked_below-all marks n)
  where
    by : (b : Bool) → get_or marks n false ≡ b → AllByRecursion (λ q. get_or marks q false ≡ true) (marked_below marks n)
        → AllByRecursion (λ q. get_or marks q false ≡ true) (if b then marked_below marks n ++ n ∷ [] else marked_below marks n)
    by true is_marked all = All-append (λ q. get_or marks q false ≡ true) (marked_below marks n) (n ∷ []) all (is_marked, tt)
    by false is_clear all = all

pub past-append : (first second : List ℕ) → past (first ++ second) ≡ past_from (past first) second
past-append first second = past_from-append 0 first second

pub past_from-le : (marks : List Bool) (a : ℕ) (positions : List ℕ) → IsNext marks a positions → a ≤ past_from a positions
past_from-le marks a [] next = omega arith
past_from-le marks a (position ∷ positions) next =
    let h = past_from-le marks (suc position) positions next.3 in omega (arith, next.0)

pub IsNext-reach : (marks : List Bool) (a : ℕ) (positions : List ℕ) → IsNext marks a positions → reach a positions ≡ past_from a positions
IsNext-reach marks a [] next = refl
IsNext-reach marks a (position ∷ positions) next =
    let reached : max a (suc position) ≡ suc position = omega (arith, next.0) in
    ap (λ n. reach n positions) reached ∙ IsNext-reach marks (suc position) positions next.3

pub reach-append : (a : ℕ) (first second : List ℕ) → reach a (first ++ second) ≡ reach (reach a first) second
reach-append a [] second = refl
reach-append a (position ∷ first) second = reach-append (max a (suc position)) first second

pub reach-le : (a : ℕ) (positions : List ℕ) → a ≤ reach a positions
reach-le a [] = omega arith
reach-le a (position ∷ positions) = let h = reach-le (max a (suc position)) positions in omega arith

pub IsCovering-append : (marks : List Bool) (a : ℕ) (first second : List ℕ) → IsCovering marks a first → IsCovering marks (reach a first) second → IsCovering marks a (first ++ second)
IsCovering-append marks a [] second covering more = more
IsCovering-append marks a (position ∷ first) second covering more =
    (covering.0, covering.1, IsCovering-append marks (max a (suc position)) first second covering.2 more)

pub IsCovering-second : (marks : List Bool) (a : ℕ) (first second : List ℕ) → IsCovering marks a (first ++ second) → IsCovering marks (reach a first) second
IsCovering-second marks a [] second covering = covering
IsCovering-second marks a (position ∷ first) second covering = IsCovering-second marks (max a (suc position)) first second covering.2

-- one marked position more, with none before it
pub IsCovering-push : (marks : List Bool) (a q : ℕ) (positions : List ℕ) → IsCovering marks a positions → IsClear marks (reach a positions) q → get_or marks q false ≡ true → IsCovering marks a (positions ++ q ∷ [])
IsCovering-push marks a q positions covering clear marked = IsCovering-append marks a positions (q ∷ []) covering (clear, marked, tt)

pub reach-push : (a q : ℕ) (positions : List ℕ) → reach a (positions ++ q ∷ []) ≡ max (reach a positions) (suc q)
reach-push a q positions = reach-append a positions (q ∷ [])

-- a repeat at the front
pub reach-repeat : (a position : ℕ) (positions : List ℕ) → position < a → reach a (position ∷ positions) ≡ reach a positions
reach-repeat a position positions below =
    let same : max a (suc position) ≡ a = omega arith in ap (λ n. reach n positions) same

pub IsCovering-repeat : (marks : List Bool) (a position : ℕ) (positions : List ℕ) → position < a → IsCovering marks a (position ∷ positions) → IsCovering marks a positions
IsCovering-repeat marks a position positions below covering =
    let same : max a (suc position) ≡ a = omega arith in subst (λ n. IsCovering marks n positions) same covering.2

-- more marks at the end
pub mark-append : (marks more : List Bool) (q : ℕ) → q < length marks → get_or (marks ++ more) q false ≡ get_or marks q false
mark-append marks more q within = get_or-append marks more false q within

pub marked-append : (marks more : List Bool) (q : ℕ) → get_or marks q false ≡ true → get_or (marks ++ more) q false ≡ true
marked-append marks more q marked = mark-append marks more q (marked-within marks q marked) ∙ marked

pub IsClear-marks : (marks more : List Bool) (a b : ℕ) → b ≤ length marks → IsClear marks a b → IsClear (marks ++ more) a b
IsClear-marks marks more a b le clear q from below = mark-append marks more q (omega arith) ∙ clear q from below

pub marked_below-marks : (marks more : List Bool) (n : ℕ) → n ≤ length marks → marked_below (marks ++ more) n ≡ marked_below marks n
marked_below-marks marks more zero le = refl
marked_below-marks marks more (suc n) le =
    ap (λ b. if b then marked_below (marks ++ more) n ++ n ∷ [] else marked_below (marks ++ more) n) (mark-append marks more n (omega arith))
    ∙ ap (λ front. if get_or marks n false then front ++ n ∷ [] else front) (marked_below-marks marks more n (omega arith))

pub IsNext-marks : (marks more : List Bool) (a : ℕ) (positions : List ℕ) → IsNext marks a positions → IsNext (marks ++ more) a positions
IsNext-marks marks more a [] next = tt
IsNext-marks marks more a (position ∷ positions) next =
    let within = marked-within marks position next.2 in (
      next.0,
      IsClear-marks marks more a position (omega arith) next.1,
      marked-append marks more position next.2,
      IsNext-marks marks more (suc position) positions next.3,
    )

pub IsCovering-marks : (marks more : List Bool) (a : ℕ) (positions : List ℕ) → IsCovering marks a positions → IsCovering (marks ++ more) a positions
IsCovering-marks marks more a [] covering = tt
IsCovering-marks marks more a (position ∷ positions) covering =
    let within = marked-within marks position covering.1 in (
      IsClear-marks marks more a position (omega arith) covering.0,
      marked-append marks more position covering.1,
      IsCovering-marks marks more (max a (suc position)) positions covering.2,
    )
