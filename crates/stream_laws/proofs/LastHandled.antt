-- The last handled position is the first of the handled ones with its token.
use Rattle.stream_laws.proofs.Prelude.{◌≡◌, ℕ, suc, pred, ◌<◌, ◌≤◌, ◌==◌, nat_lt, Bool, true, false, List, [], ◌∷◌, ◌++◌, length, filter, get_or, if◌then◌else◌, refl, sym, ap, subst, arith, ◌∙◌, and_from, and_parts, both_ways, eqb-true, eq-eqb, ltb-false, ltb-true, AllByRecursion, All-weaken, same_token, token_lt, past, past_from, Token, no_event, token_at, handled_at, PlainPartition, Subscription}
use Rattle.stream_laws.proofs.LowerBound.{token_at-within}
use Rattle.stream_laws.proofs.Invariant.{LogFits, marks_of}
use Rattle.stream_laws.proofs.LogLemmas.{length-marks_of, token_lt-same}
use Rattle.stream_laws.proofs.MarkLemmas.{marked-within, marked_below-all, marked_below-within}
use Rattle.stream_laws.proofs.Marks.{IsInTurn, marked_below}
use Rattle.stream_laws.proofs.Summary.{Summary}

-- the last of a list that isn't empty
pub record HasLast (n : ℕ) (positions : List ℕ) : Type 0 where
  pub first : List ℕ
  pub last : ℕ
  pub split : positions ≡ first ++ last ∷ []
  pub past_last : past_from n positions ≡ suc last

pub has-last : (n position : ℕ) (positions : List ℕ) → HasLast n (position ∷ positions)
has-last n position [] = record { first = []; last = position; split = refl; past_last = refl }
has-last n position (next ∷ positions) =
    let rest = has-last (suc position) next positions in
    record { first = position ∷ rest.first; last = rest.last; split = ap (λ xs. position ∷ xs) rest.split; past_last = rest.past_last }

-- where no other element passes, the first that passes is the last of the list
pub filter-last : (test : ℕ → Bool) (first : List ℕ) (last : ℕ) → AllByRecursion (λ q. test q ≡ true → q ≡ last) first → test last ≡ true → (rest : List ℕ) × (filter test (first ++ last ∷ []) ≡ last ∷ rest)
filter-last test [] last others passes = ([], rw passes refl)
filter-last test (q ∷ first) last others passes =
    (elim (test q) as (λ b. (b ≡ true → q ≡ last) → (rest : List ℕ) × ((if b then q ∷ filter test (first ++ last ∷ []) else filter test (first ++ last ∷ [])) ≡ last ∷ rest)) [
      | true ↦ λ same. (filter test (first ++ last ∷ []), ap (λ q. q ∷ filter test (first ++ last ∷ [])) (same refl))
      | false ↦ λ same. filter-last test first last others.1 passes
    ]) others.0

All-first : (P : ℕ → Type 0) (first second : List ℕ) → AllByRecursion P (first ++ second) → AllByRecursion P first
All-first P [] second all = tt
All-first P (q ∷ first) second all = (all.0, All-first P first second all.1)

All-second : (P : ℕ → Type 0) (first second : List ℕ) → AllByRecursion P (first ++ second) → AllByRecursion P second
All-second P [] second all = all
All-second P (q ∷ first) second all = All-second P first second all.1

same_token-equal : (a b : Token) → same_token a b ≡ true → a ≡ b
same_token-equal a b same =
    let parts = and_parts (a.seq == b.seq) (a.idx == b.idx) same in
    let seqs = eqb-true a.seq b.seq parts.0 in
    let idxs = eqb-true a.idx b.idx parts.1 in
    λ i. record { seq = seqs i; idx = idxs i }

same_token-refl : (a : Token) → same_token a a ≡ true
same_token-refl a = and_from (a.seq == a.seq) (a.idx == a.idx) (eq-eqb a.seq a.seq refl) (eq-eqb a.idx a.idx refl)

-- two positions of the log with one token
token-position : (t : Summary) (p : PlainPartition) (a b : ℕ) → LogFits t p → a ≤ b → b < length p.log → same_token (token_at p a) (token_at p b) ≡ true → a ≡ b
token-position t p a b fits le within same =
    let Same : Type 0 = (get_or p.log a no_event).token ≡ (get_or p.log b no_event).token in
    let below : a < length p.log = omega arith in
    let tokens : Same = sym (token_at-within p a below) ∙ same_token-equal (token_at p a) (token_at p b) same ∙ token_at-within p b within in
    (elim (nat_lt a b) as (λ x. nat_lt a b ≡ x → a ≡ b) [
      | true ↦ λ less.
          let rises = fits.rising a b (ltb-true a b less) within in
          let self = (get_or p.log b no_event).token in
          absurd (both_ways (token_lt self self) (token_lt-same self) (subst (λ token. token_lt token self ≡ true) tokens rises))
      | false ↦ λ not_less. omega (arith, ltb-false a b not_less)
    ]) refl

-- what is looked for by the last handled token
pub handled_at-last : (t : Summary) (p : PlainPartition) (r : Subscription) (running : List ℕ) (last : HasLast 0 r.handled) → LogFits t p → IsInTurn (marks_of r.stream r.start p.log) r.handled running
    → (rest : List ℕ) × (handled_at p r (token_at p (pred (past r.handled))) ≡ last.last ∷ rest)
handled_at-last t p r running last fits in_turn =
    let marks = marks_of r.stream r.start p.log in
    let q = last.last in
    let end : past r.handled ≡ suc q = last.past_last in
    let token = token_at p q in
    let below : AllByRecursion (λ x. x < suc q) r.handled =
    subst (λ xs. AllByRecursion (λ x. x < suc q) xs) (sym in_turn.first) (subst (λ n. AllByRecursion (λ x. x < n) (marked_below marks (past r.handled))) end (marked_below-within marks (past r.handled))) in
    let marked : AllByRecursion (λ x. get_or marks x false ≡ true) r.handled = subst (AllByRecursion (λ x. get_or marks x false ≡ true)) (sym in_turn.first) (marked_below-all marks (past r.handled)) in
    let last_marked : get_or marks q false ≡ true = (All-second (λ x. get_or marks x false ≡ true) last.first (q ∷ []) (subst (AllByRecursion (λ x. get_or marks x false ≡ true)) last.split marked)).0 in
    let within : q < length p.log = omega (arith, marked-within marks q last_marked, length-marks_of r.stream r.start p.log) in
    let first_below : AllByRecursion (λ x. x < suc q) last.first = All-first (λ x. x < suc q) last.first (q ∷ []) (subst (AllByRecursion (λ x. x < suc q)) last.split below) in
    let found = filter-last (λ x. same_token (token_at p x) token) last.first q
    (All-weaken (λ x. x < suc q) (λ x. same_token (token_at p x) token ≡ true → x ≡ q) (λ x less same. token-position t p x q fits (omega (arith, less)) within same) last.first first_below)
    (same_token-refl token) in
    let here : pred (past r.handled) ≡ q = ap pred end in (
      found.0,
      ap (λ n. handled_at p r (token_at p n)) here
          ∙ ap (λ xs. filter (λ x. same_token (token_at p x) token) xs) last.split
          ∙ found.1,
    )
