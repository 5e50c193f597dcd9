-- The slowest subscription and those that are due, by their leaves.
use Rattle.step_core.proofs.Prelude.{is_unacknowledged, SubState, Registration, ◌≡◌, ◌∙◌, ap, refl, ℕ, min, Bool, true, false, ◌&&◌, ◌||◌, List, [], ◌∷◌, map, filter, Option, Some, None, nat_lt, arith, if◌then◌else◌, unwrap_or, sub_lt, keys_where, least_with, next_after, SubName, is_due, least_or, open_resumes, slowest, Subscription, NamedLeaf, leaf_of, leaves_of, open_resume, is_some}
use Rattle.ranked_index.specs.Keys.{lesser_key}
use Rattle.subscription_table.specs.Leaves as leaves
use Rattle.step_core.specs.declared.parts.Parts.{Parts}
use Rattle.step_core.specs.PlainOf.{plain_of}
use Rattle.step_core.specs.View.{sub_of, subs_of}
use Rattle.step_core.proofs.Shared.{taken-alike}

abbrev resumes_in : List (SubName × Subscription) → List ℕ
resumes_in subs = map (λ (entry : SubName × Subscription). entry.1.resume) (filter (λ (entry : SubName × Subscription). entry.1.is_open) subs)

-- the least with n of the open resumes is the least key with n
least-with-key : (n : ℕ) (names : List (SubName × Registration)) (states : List SubState) → least_with n (resumes_in (subs_of names states)) ≡ min n (unwrap_or (leaves.least_resume (leaves_of names states)) n)
least-with-key n [] states = omega arith
least-with-key n (entry ∷ names) [] = omega arith
least-with-key n (entry ∷ names) (state ∷ states) = by state.live (leaves.least_resume (leaves_of names states)) (least-with-key n names states)
  where
    Rest : Option ℕ → Type 0
    Rest o = least_with n (resumes_in (subs_of names states)) ≡ min n (unwrap_or o n)

    by : (is_open : Bool) (o : Option ℕ) → Rest o → least_with n (map (λ (entry : SubName × Subscription). entry.1.resume) (if is_open then sub_of entry state ∷ filter (λ (entry : SubName × Subscription). entry.1.is_open) (subs_of names states) else filter (λ (entry : SubName × Subscription). entry.1.is_open) (subs_of names states))) ≡ min n (unwrap_or (lesser_key (open_resume is_open state.resume) o) n)
    by false o rest = rest
    by true None rest = ap (min state.resume) rest ∙ omega arith
    by true (Some key) rest = ap (min state.resume) rest ∙ omega arith

-- where a moved queue goes on
pub moved-to : (parts : Parts) → least_with (plain_of parts).high (open_resumes (plain_of parts)) ≡ min (plain_of parts).high (unwrap_or (leaves.least_resume (leaves_of parts.subs.registry.names parts.subs.states)) (plain_of parts).high)
moved-to parts = least-with-key (plain_of parts).high parts.subs.registry.names parts.subs.states

least-or-key : (n : ℕ) (names : List (SubName × Registration)) (states : List SubState) → least_or n (resumes_in (subs_of names states)) ≡ unwrap_or (leaves.least_resume (leaves_of names states)) n
least-or-key n [] states = refl
least-or-key n (entry ∷ names) [] = refl
least-or-key n (entry ∷ names) (state ∷ states) = by state.live (leaves.least_resume (leaves_of names states)) (least-with-key state.resume names states) (least-or-key n names states)
  where
    by : (is_open : Bool) (o : Option ℕ) → least_with state.resume (resumes_in (subs_of names states)) ≡ min state.resume (unwrap_or o state.resume) → least_or n (resumes_in (subs_of names states)) ≡ unwrap_or o n
        → least_or n (map (λ (entry : SubName × Subscription). entry.1.resume) (if is_open then sub_of entry state ∷ filter (λ (entry : SubName × Subscription). entry.1.is_open) (subs_of names states) else filter (λ (entry : SubName × Subscription). entry.1.is_open) (subs_of names states))) ≡ unwrap_or (lesser_key (open_resume is_open state.resume) o) n
    by false o with_it rest = rest
    by true None with_it rest = with_it ∙ omega arith
    by true (Some key) with_it rest = with_it

-- the slowest resume
pub slowest-is : (parts : Parts) → slowest (plain_of parts) ≡ unwrap_or (leaves.least_resume (leaves_of parts.subs.registry.names parts.subs.states)) (plain_of parts).high
slowest-is parts = least-or-key (plain_of parts).high parts.subs.registry.names parts.subs.states

-- names of records that pass a test are those of their leaves
names-of-leaves : (passes : Subscription → Bool) (test : NamedLeaf → Bool) (names : List (SubName × Registration)) (states : List SubState)
    → ((entry : SubName × Registration) (state : SubState) → passes (sub_of entry state).1 ≡ test (leaf_of entry state)) → keys_where passes (subs_of names states) ≡ leaves.names_where test (leaves_of names states)
names-of-leaves passes test [] states same = refl
names-of-leaves passes test (entry ∷ names) [] same = refl
names-of-leaves passes test (entry ∷ names) (state ∷ states) same =
    taken-alike (λ (e : SubName × Subscription). e.0) (λ (leaf : NamedLeaf). leaf.name) (λ (e : SubName × Subscription). passes e.1) test (sub_of entry state) (leaf_of entry state) (subs_of names states) (leaves_of names states) (same entry state) refl
    (names-of-leaves passes test names states same)

-- the next that is due
pub due-is : (parts : Parts) (after : Option SubName) → next_after sub_lt after (keys_where (is_due (plain_of parts)) (plain_of parts).subs) ≡ leaves.due_after (plain_of parts).high after (leaves_of parts.subs.registry.names parts.subs.states)
due-is parts after =
    ap (λ names. next_after sub_lt after names) (names-of-leaves (is_due (plain_of parts)) (leaves.is_due (plain_of parts).high) parts.subs.registry.names parts.subs.states same)
  where
    same : (entry : SubName × Registration) (state : SubState) → is_due (plain_of parts) (sub_of entry state).1 ≡ leaves.is_due (plain_of parts).high (leaf_of entry state)
    same entry state = by state.live
      where
        by : (is_open : Bool) → (is_open && (is_unacknowledged state || nat_lt state.resume (plain_of parts).high)) ≡ (is_some (open_resume is_open state.resume) && (is_unacknowledged state || leaves.resumes_below (plain_of parts).high (open_resume is_open state.resume)))
        by true = refl
        by false = refl
