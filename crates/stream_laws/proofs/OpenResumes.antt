-- The resumes of the open subscriptions, and the blocks that all of them have passed.
use Rattle.stream_laws.proofs.Prelude.{◌≡◌, ℕ, ◌+◌, ◌-◌, ◌*◌, ◌/◌, ◌≤◌, min, true, false, List, [], ◌∷◌, map, Some, sym, ap, ◌∙◌, arith, if◌then◌else◌, cond_both, true≢false, same_sub, least_with, value_at, SubName, BLOCK_EVENTS, least_or, open_resumes, slowest, sub_at, resumes_of, free_blocks, PlainPartition, Subscription}

-- the least isn't more than the number that it is compared with
pub least_with-first : (n : ℕ) (xs : List ℕ) → least_with n xs ≤ n
least_with-first n [] = omega arith
least_with-first n (x ∷ xs) = let rest = least_with-first n xs in omega arith

-- the number is at least these: it is one of them
abbrev IsAmong : ℕ → List ℕ → Type 0
IsAmong m xs = (n : ℕ) → least_with n xs ≤ m

-- one more in front makes the least no greater
least-more : (n : ℕ) (entry : SubName × Subscription) (subs : List (SubName × Subscription)) → least_with n (resumes_of (entry ∷ subs)) ≤ least_with n (resumes_of subs)
least-more n entry subs =
    cond_both entry.1.is_open _ _ (λ (es : List (SubName × Subscription)). least_with n (map (λ (e : SubName × Subscription). e.1.resume) es) ≤ least_with n (resumes_of subs))
    (λ is_open. omega arith) (λ closed. omega arith)

-- and at most its resume, where it is open
least-first : (n : ℕ) (entry : SubName × Subscription) (subs : List (SubName × Subscription)) → entry.1.is_open ≡ true → least_with n (resumes_of (entry ∷ subs)) ≤ entry.1.resume
least-first n entry subs is_open =
    cond_both entry.1.is_open _ _ (λ (es : List (SubName × Subscription)). least_with n (map (λ (e : SubName × Subscription). e.1.resume) es) ≤ entry.1.resume)
    (λ here. omega arith) (λ closed. absurd (true≢false (sym is_open ∙ closed)))

-- an open subscription's resume is among those of the open ones
resume-among : (s : SubName) (r : Subscription) (subs : List (SubName × Subscription)) → value_at same_sub s subs ≡ Some r → r.is_open ≡ true → IsAmong r.resume (resumes_of subs)
resume-among s r [] found is_open n = absurd (cc)
resume-among s r (entry ∷ subs) found is_open n =
    (elim (same_sub s entry.0) as (λ b. (if b then Some entry.1 else value_at same_sub s subs) ≡ Some r → least_with n (resumes_of (entry ∷ subs)) ≤ r.resume) [
      | true ↦ λ here.
          let is_r : entry.1 ≡ r = cc in
          let first = least-first n entry subs (ap (λ (x : Subscription). x.is_open) is_r ∙ is_open) in
          let same : entry.1.resume ≡ r.resume = ap (λ (x : Subscription). x.resume) is_r in
          omega arith
      | false ↦ λ there.
          let more = least-more n entry subs in
          let later = resume-among s r subs there is_open n in
          omega arith
    ]) found

among-slowest : (high m : ℕ) (xs : List ℕ) → IsAmong m xs → least_or high xs ≤ m
among-slowest high m [] among = among high
among-slowest high m (x ∷ xs) among =
    let at_x = among x in
    let first = least_with-first x xs in
    omega arith

-- the slowest resume is at most that of each open subscription
pub slowest-le : (p : PlainPartition) (s : SubName) (r : Subscription) → sub_at p s ≡ Some r → r.is_open ≡ true → slowest p ≤ r.resume
slowest-le p s r found is_open = among-slowest p.high r.resume (open_resumes p) (resume-among s r p.subs found is_open)

-- so is the least of them and the end of the cache
pub least-resume-le : (p : PlainPartition) (s : SubName) (r : Subscription) → sub_at p s ≡ Some r → r.is_open ≡ true → least_with p.high (open_resumes p) ≤ r.resume
least-resume-le p s r found is_open = resume-among s r p.subs found is_open p.high

-- without free blocks low stays, and else it moves up to at most the end and the slowest resume
pub low-moved-le : (p : PlainPartition) (blocks bound : ℕ) → blocks ≤ free_blocks p → p.low ≤ bound → min p.high (slowest p) ≤ bound → p.low + BLOCK_EVENTS * blocks ≤ bound
low-moved-le p blocks bound free low least = below p.low (min p.high (slowest p)) free low least
  where
    below : (from to : ℕ) → blocks ≤ (to - from) / BLOCK_EVENTS → from ≤ bound → to ≤ bound → from + BLOCK_EVENTS * blocks ≤ bound
    below from to few at_least at_most = omega arith
