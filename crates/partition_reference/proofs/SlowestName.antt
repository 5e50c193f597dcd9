-- The least name of an open subscription with a resume, found from the last to the first.
use Rattle.partition_reference.proofs.Prelude.{◌≡◌, ℕ, ◌-◌, ◌<◌, ◌==◌, ◌&&◌, true, false, List, Option, Some, None, length, drop, get_or, sub_lt, lesser, SubName, least_key-there, least_key-not, of-all, least_key, is_open_at, Subscription}

-- the least of the names of the open ones with this resume
abbrev pub least_at : ℕ → List (SubName × Subscription) → Option SubName
least_at resume subs = least_key sub_lt None (λ r. r.is_open && (r.resume == resume)) subs

-- one place down, at such a subscription
pub least_at-there : (resume : ℕ) (subs : List (SubName × Subscription)) (i : ℕ) (entry : SubName × Subscription) (found : Option SubName) → 0 < i → i - 1 < length subs → entry ≡ get_or subs (i - 1) entry → (entry.1.is_open && (entry.1.resume == resume)) ≡ true → found ≡ least_at resume (drop i subs) → Some (lesser sub_lt entry.0 found) ≡ least_at resume (drop (i - 1) subs)
least_at-there resume subs i entry found some within is is_there was =
    least_key-there sub_lt None (is_open_at resume) subs i entry found some within is (of-all _ _ is_there) was

-- one place down, at another
pub least_at-not : (resume : ℕ) (subs : List (SubName × Subscription)) (i : ℕ) (entry : SubName × Subscription) (found : Option SubName) → 0 < i → i - 1 < length subs → entry ≡ get_or subs (i - 1) entry → (entry.1.is_open && (entry.1.resume == resume)) ≡ false → found ≡ least_at resume (drop i subs) → found ≡ least_at resume (drop (i - 1) subs)
least_at-not resume subs i entry found some within is is_not was =
    least_key-not sub_lt None (is_open_at resume) subs i entry found some within is (of-all _ _ is_not) was
