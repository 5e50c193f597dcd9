-- A drain pulls after each round. A pull is never pressed there, since each open subscription's resume
-- stands at or past the cache's end, so that blocks can be dropped.
use Rattle.stream_laws.proofs.Prelude.{◌≡◌, ℕ, zero, suc, ◌+◌, ◌-◌, ◌*◌, ◌/◌, ◌≤◌, ◌==◌, min, not, nat_lt, Bool, true, false, List, [], ◌∷◌, length, map, filter, None, unwrap_or, if◌then◌else◌, refl, ap, arith, ◌∙◌, eq-eqb, eqb-false, eqb-true, ne_eqb, AllByRecursion, sub_equality, same_sub, least_with, value_at, SubName, BLOCK_EVENTS, Progress, ask, drain_round, between, least_or, open_resumes, slowest, slowest_name, token_at, all_implied, drops, room, subs_with, Reply, Pull, PlainPartition, Subscription}
use Rattle.stream_ident.specs.declared.ident.SubName.TheVariants as name
use Rattle.stream_model.specs.declared.reply.Reply.TheVariants as reply
use Rattle.stream_model.specs.Draining.{after_pull, drain_all}
use Rattle.stream_model.specs.Pulling.{pull, pull_count, pull_events, pull_want}
use Rattle.stream_model.specs.Step.{step}
use Rattle.stream_laws.proofs.DrainBase.{IsSound, handled_since, told-step}
use Rattle.stream_laws.proofs.IdleGrains.{IsEmptied}
use Rattle.stream_laws.proofs.KeyLists.{each-entry}
use Rattle.stream_laws.proofs.DrainRule.{Meets, Tally, meets-and_then, meets-ask, tally_after}
use Rattle.stream_laws.proofs.DrainServe.{AllSettled, RoundSound, meets-drain_round}
use Rattle.stream_laws.proofs.DrainSums.{sum_open-added}
use Rattle.stream_laws.proofs.Summary.{Summary}

-- ---- the slowest resume

least_with-ge : (b n : ℕ) (xs : List ℕ) → b ≤ n → AllByRecursion (λ x. b ≤ x) xs → b ≤ least_with n xs
least_with-ge b n [] first all = first
least_with-ge b n (x ∷ xs) first all = omega (arith, all.0, least_with-ge b n xs first all.1)

resumes-ge : (b : ℕ) (subs : List (SubName × Subscription)) → AllByRecursion (λ (entry : SubName × Subscription). entry.1.is_open ≡ true → b ≤ entry.1.resume) subs
    → AllByRecursion (λ x. b ≤ x) (map (λ (entry : SubName × Subscription). entry.1.resume) (filter (λ (entry : SubName × Subscription). entry.1.is_open) subs))
resumes-ge b [] all = tt
resumes-ge b (entry ∷ subs) all =
    (elim entry.1.is_open as (λ o. (o ≡ true → b ≤ entry.1.resume)
    → AllByRecursion (λ x. b ≤ x) (map (λ (entry : SubName × Subscription). entry.1.resume) (if o then entry ∷ filter (λ (entry : SubName × Subscription). entry.1.is_open) subs else filter (λ (entry : SubName × Subscription). entry.1.is_open) subs))) [
      | true ↦ λ here. (here refl, resumes-ge b subs all.1)
      | false ↦ λ here. resumes-ge b subs all.1
    ]) all.0

slowest-ge : (p : PlainPartition) → AllByRecursion (λ x. p.high ≤ x) (open_resumes p) → p.high ≤ slowest p
slowest-ge p all =
    by (open_resumes p) all
  where
    by : (resumes : List ℕ) → AllByRecursion (λ x. p.high ≤ x) resumes → p.high ≤ least_or p.high resumes
    by [] all = omega arith
    by (x ∷ resumes) all = least_with-ge p.high x resumes all.0 all.1

settled-slowest : (cache : ℕ) (t0 : Summary) (t : Tally) (p : PlainPartition) → IsSound cache t0 t p → AllSettled p → p.high ≤ slowest p
settled-slowest cache t0 t p sound settled =
    slowest-ge p (resumes-ge p.high p.subs (each-entry same_sub sub_equality (λ (s : SubName) (r : Subscription). r.is_open ≡ true → p.high ≤ r.resume) p.subs sound.told.steady.subs settled))

-- there is room for an event, or a block can be dropped
room-made : (blocks low high slow want : ℕ) → 1 ≤ blocks → high ≤ slow → 1 ≤ want
    → 1 ≤ min want ((BLOCK_EVENTS * blocks - (high - low)) + BLOCK_EVENTS * min ((want - (BLOCK_EVENTS * blocks - (high - low)) + (BLOCK_EVENTS - 1)) / BLOCK_EVENTS) ((min high slow - low) / BLOCK_EVENTS))
room-made blocks low high slow want some seen wanted = omega arith

-- ---- the step

abbrev wanted : PlainPartition → ℕ
wanted p = min 32 (length p.log - p.high)

abbrev taken : PlainPartition → ℕ
taken p = min (wanted p) (room p + BLOCK_EVENTS * drops p (wanted p))

-- what is pulled
abbrev pulled_subs : PlainPartition → List (SubName × Subscription)
pulled_subs p = subs_with p.rules p.high p.subs (between p.log p.high (p.high + taken p))

abbrev pulled : PlainPartition → PlainPartition
pulled p = record p { low = p.low + BLOCK_EVENTS * drops p (wanted p); high = p.high + taken p; subs = pulled_subs p }

abbrev told_pulled : PlainPartition → Reply
told_pulled p = reply.Pulled (p.high + taken p - p.high) (token_at p (p.low + BLOCK_EVENTS * drops p (wanted p))) (token_at p (p.high + taken p))

pull-current : (p : PlainPartition) (dry : Bool) → (p.high == length p.log) ≡ dry → step p (Pull p.generation 32) ≡ (if dry then (p, reply.Dry) else pull_want p (wanted p))
unfolding step pull
pull-current p dry is_dry =
    ap {B = PlainPartition × Reply} (λ b. if not b then (p, reply.StaleAgent p.generation) else if p.high == length p.log then (p, reply.Dry) else pull_want p (wanted p)) (eq-eqb p.generation p.generation refl)
    ∙ ap {B = PlainPartition × Reply} (λ b. if b then (p, reply.Dry) else pull_want p (wanted p)) is_dry

pull-some : (p : PlainPartition) (full : Bool) → (p.high == length p.log) ≡ false → 1 ≤ taken p → nat_lt p.limits.subs (length (pulled_subs p)) ≡ full
    → step p (Pull p.generation 32) ≡ (if full then (p, reply.TooMany) else (pulled p, told_pulled p))
unfolding pull_want pull_count pull_events
pull-some p full wet some is_full =
    let counts : (taken p == 0) ≡ false = ne_eqb (taken p) 0 (λ none. omega (arith, some, none)) in
    pull-current p false wet
    ∙ ap {B = PlainPartition × Reply} (λ b. if b then (p, reply.Pressed (unwrap_or (slowest_name p) (name.Explicit 0))) else pull_events p (p.low + BLOCK_EVENTS * drops p (wanted p)) (p.high + taken p) (pulled_subs p)) counts
    ∙ ap {B = PlainPartition × Reply} (λ b. if b then (p, reply.TooMany) else (pulled p, told_pulled p)) is_full

pulled-sound : (cache : ℕ) (t0 : Summary) (t : Tally) (p : PlainPartition) → IsSound cache t0 t p → step p (Pull p.generation 32) ≡ (pulled p, told_pulled p)
    → IsSound cache t0 (tally_after t (Pull p.generation 32) (told_pulled p)) (pulled p)
pulled-sound cache t0 t p sound is =
    let none : (s : SubName) → value_at same_sub s p.subs ≡ None → handled_since t0 t.said s ≡ 0 =
    λ s gone. (let handled = ap {B = ℕ} (λ events. length events) (sound.told.fits.unmade s gone).handled in omega (arith, handled)) in
    record {
      told = told-step cache t0 t p (Pull p.generation 32) (pulled p) (told_pulled p) is sound.told refl (λ x. refl) (λ x. omega arith)
          (sum_open-added (handled_since t0 t.said) p.subs (all_implied p.rules p.high (between p.log p.high (p.high + taken p))) none ∙ sound.told.turns);
      idle = sound.idle;
    }

-- ---- the rounds

-- nothing is left to do
abbrev pub Finished : ℕ → Summary → Tally → PlainPartition → Type 0
Finished cache t0 u q = IsSound cache t0 u q × IsEmptied q × AllSettled q × (q.high ≡ length q.log)

abbrev pulling : ℕ → PlainPartition → Progress
pulling n p = ask p (Pull p.generation 32) (λ q answer. after_pull n q answer)

abbrev Pulls : ℕ → Summary → ℕ → Type 0
Pulls cache t0 n =
    (t : Tally) (p : PlainPartition) → IsSound cache t0 t p → IsEmptied p → AllSettled p → length p.log - p.high ≤ n → Meets (Finished cache t0) t (pulling n p)

-- the cache has all events
meets-dry : (cache : ℕ) (t0 : Summary) (n : ℕ) (t : Tally) (p : PlainPartition) → IsSound cache t0 t p → IsEmptied p → AllSettled p → (p.high == length p.log) ≡ true → Meets (Finished cache t0) t (pulling n p)
unfolding after_pull
meets-dry cache t0 n t p sound empty settled dry =
    let end : p.high ≡ length p.log = eqb-true p.high (length p.log) dry in
    let is = pull-current p true dry in
    let dry-told = told-step cache t0 t p (Pull p.generation 32) p reply.Dry is sound.told refl (λ x. refl) (λ x. omega arith) sound.told.turns in
    meets-ask (Finished cache t0) t p (Pull p.generation 32) (λ q answer. after_pull n q answer) p reply.Dry is
    (record { told = dry-told; idle = sound.idle }, empty, settled, end)

meets-full : (cache : ℕ) (t0 : Summary) (n : ℕ) (t : Tally) (p : PlainPartition) → step p (Pull p.generation 32) ≡ (p, reply.TooMany) → Meets (Finished cache t0) t (pulling n p)
unfolding after_pull
meets-full cache t0 n t p is = meets-ask (Finished cache t0) t p (Pull p.generation 32) (λ q answer. after_pull n q answer) p reply.TooMany is tt

-- another round
meets-pulled : (cache : ℕ) (t0 : Summary) (n : ℕ) (t : Tally) (p : PlainPartition) → IsSound cache t0 t p → length p.log - p.high ≤ suc n → 1 ≤ taken p → step p (Pull p.generation 32) ≡ (pulled p, told_pulled p) → Pulls cache t0 n
    → Meets (Finished cache t0) t (pulling (suc n) p)
unfolding after_pull
meets-pulled cache t0 n t p sound enough some is rest =
    let u = tally_after t (Pull p.generation 32) (told_pulled p) in
    meets-ask (Finished cache t0) t p (Pull p.generation 32) (λ q answer. after_pull (suc n) q answer) (pulled p) (told_pulled p) is
    (meets-and_then (RoundSound cache t0 (pulled p)) (Finished cache t0) u (drain_round (pulled p)) (pulling n)
    (meets-drain_round cache t0 u (pulled p) (pulled-sound cache t0 t p sound is))
    (λ v q round. rest v q round.0 round.1 round.4 (let size = ap {B = ℕ} (λ events. length events) round.2 in omega (arith, size, round.3, enough, some))))

meets-wet : (cache : ℕ) → 1 ≤ cache → (t0 : Summary) (n : ℕ) (t : Tally) (p : PlainPartition) (full : Bool) → IsSound cache t0 t p → AllSettled p → length p.log - p.high ≤ suc n → (p.high == length p.log) ≡ false → nat_lt p.limits.subs (length (pulled_subs p)) ≡ full → Pulls cache t0 n
    → Meets (Finished cache t0) t (pulling (suc n) p)
meets-wet cache blocks t0 n t p full sound settled enough wet is_full rest =
    let slow = settled-slowest cache t0 t p sound settled in
    let apart = eqb-false p.high (length p.log) wet in
    let want : 1 ≤ wanted p = omega (arith, apart, sound.told.fits.log.high_end) in
    let cached : 1 ≤ p.blocks = omega (arith, blocks, sound.told.steady.blocks) in
    let some : 1 ≤ taken p = room-made p.blocks p.low p.high (slowest p) (wanted p) cached slow want in
    (elim full as (λ b. nat_lt p.limits.subs (length (pulled_subs p)) ≡ b → Meets (Finished cache t0) t (pulling (suc n) p)) [
      | true ↦ λ full. meets-full cache t0 (suc n) t p (pull-some p true wet some full)
      | false ↦ λ full. meets-pulled cache t0 n t p sound enough some (pull-some p false wet some full) rest
    ]) is_full

meets-pulling : (cache : ℕ) → 1 ≤ cache → (t0 : Summary) (n : ℕ) → Pulls cache t0 n
meets-pulling cache blocks t0 zero t p sound empty settled enough =
    let end : p.high ≡ length p.log = omega (arith, enough, sound.told.fits.log.high_end) in
    meets-dry cache t0 zero t p sound empty settled (eq-eqb p.high (length p.log) end)
meets-pulling cache blocks t0 (suc n) t p sound empty settled enough =
    (elim (p.high == length p.log) as (λ b. (p.high == length p.log) ≡ b → Meets (Finished cache t0) t (pulling (suc n) p)) [
      | true ↦ λ dry. meets-dry cache t0 (suc n) t p sound empty settled dry
      | false ↦ λ wet. meets-wet cache blocks t0 n t p (nat_lt p.limits.subs (length (pulled_subs p))) sound settled enough wet refl (meets-pulling cache blocks t0 n)
    ]) refl

-- a whole drain
pub meets-drain_all : (cache : ℕ) → 1 ≤ cache → (t0 : Summary) (t : Tally) (p : PlainPartition) → IsSound cache t0 t p → Meets (Finished cache t0) t (drain_all p)
unfolding drain_all
meets-drain_all cache blocks t0 t p sound =
    meets-and_then (RoundSound cache t0 p) (Finished cache t0) t (drain_round p) (pulling (length p.log - p.high))
    (meets-drain_round cache t0 t p sound)
    (λ u q round. meets-pulling cache blocks t0 (length p.log - p.high) u q round.0 round.1 round.4 (let size = ap {B = ℕ} (λ events. length events) round.2 in omega (arith, size, round.3)))
