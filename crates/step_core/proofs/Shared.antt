-- What each operation starts from.
use Rattle.step_core.proofs.Prelude.{AreUnique, Registration, high, ◌≡◌, subst, ℕ, ◌≤◌, true, List, length, get_or, slice_get-get_or, same_sub, SubName, IsReached, PlainPartition, refl, Bool, false, if◌then◌else◌, ◌∙◌, ap, ◌∷◌, map, filter, reverse}
use Rattle.std.proofs.Math.ListN.{get_or-map}
use Rattle.stream_laws.proofs.Invariant.{Fits}
use Rattle.stream_laws.proofs.KeptStep.{kept-step}
use Rattle.stream_laws.proofs.Legal.{fits-stands}
use Rattle.stream_laws.proofs.Summary.{Summary, summary}
use Rattle.subscription_table.specs.Table as table
use Rattle.step_core.specs.Numbers.{AreDistinct}
use Rattle.step_core.specs.View.{name_at}
use Rattle.step_core.proofs.NamesOps.{name-of-entry}
use Rattle.step_core.specs.Assembly.{Agrees}
use Rattle.step_core.specs.PlainOf.{plain_of}
use Rattle.step_core.specs.declared.parts.Parts.{Parts}

-- a function of what is chosen is chosen
pub ap-if : {A B : Type 0} (f : A → B) (b : Bool) (x y : A) → f (if b then x else y) ≡ (if b then f x else f y)
ap-if f true x y = refl
ap-if f false x y = refl

-- one more of each list, which passes alike, and of which the same is taken
pub taken-alike : {A B X : Type 0} (take : A → X) (read : B → X) (passes : A → Bool) (test : B → Bool) (x : A) (y : B) (xs : List A) (ys : List B) → passes x ≡ test y → take x ≡ read y
    → map take (filter passes xs) ≡ map read (filter test ys) → map take (filter passes (x ∷ xs)) ≡ map read (filter test (y ∷ ys))
taken-alike take read passes test x y xs ys same alike rest =
    ap (λ b. map take (if b then x ∷ filter passes xs else filter passes xs)) same
    ∙ (elim (test y) as (λ b. map take (if b then x ∷ filter passes xs else filter passes xs) ≡ map read (if b then y ∷ filter test ys else filter test ys)) [
      | true ↦ λ i. alike i ∷ rest i
      | false ↦ rest
    ])

-- the history of a partition, and what holds of both
pub record HasHistory (p : PlainPartition) : Type 0 where
  pub past : Summary
  pub fits : Fits past p

pub history-of : (p : PlainPartition) → IsReached p → HasHistory p
history-of p reached = record {
  past = summary (reverse reached.history);
  fits = fits-stands kept-step reached.blocks reached.limits reached.history p reached.stands;
}

-- the name under a number, as a view and as a table says it
pub name-same : (t : table.PlainTable) (number : ℕ) → name_at t.registry.names number ≡ table.name_at t number
name-same t number = get_or-map (λ (entry : SubName × Registration). entry.0) t.registry.names number table.no_entry

pub distinct-of-unique : (names : List (SubName × Registration)) → AreUnique names → AreDistinct names
distinct-of-unique names unique i j within_i within_j same =
    unique i j (get_or names i table.no_entry) (get_or names j table.no_entry)
    (slice_get-get_or names i table.no_entry within_i) (slice_get-get_or names j table.no_entry within_j)
    (subst (λ s. same_sub (get_or names i table.no_entry).0 s ≡ true) (name-of-entry names j table.no_entry within_j)
    (subst (λ s. same_sub s (name_at names j) ≡ true) (name-of-entry names i table.no_entry within_i) same))

-- the cache has nothing that isn't in the log
pub high-end : (parts : Parts) → Agrees parts → high parts.agent.cache ≤ length parts.queue.events
high-end parts agrees = (history-of (plain_of parts) agrees.reached).fits.log.high_end
