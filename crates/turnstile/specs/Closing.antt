-- What `close` answers.
use Rattle.std.specs.Prelude.{◌≡◌, ◌≢◌, ℕ, ◌+◌, ◌<◌, ◌≤◌, ◌⊎◌, List, [], ◌∷◌, length, flat_map, AllPairs}
use Rattle.turnstile.specs.declared.history.Entry.{Entry}
use Rattle.turnstile.specs.declared.view.Start.{Start}
use Rattle.turnstile.specs.declared.closing.Closed.{Closed}
use Rattle.turnstile.specs.declared.closing.Closed.TheVariants.{Traced, NotAll, InUse}
use Rattle.turnstile.specs.Calls.{numbers_of, HasOnlyMade}
use Rattle.turnstile.specs.History.{times, replay, IsLegal, Own, Claims}
use Rattle.turnstile.specs.Passes.{Origin, PassView}

abbrev pub Each : {A : Type 0} → (A → Type 0) → List A → Type 0
Each P [] = Unit {0}
Each P (x ∷ xs) = P x × Each P xs

abbrev pub HasSome : {A : Type 0} → (A → Type 0) → List A → Type 0
HasSome P [] = ⊥
HasSome P (x ∷ xs) = P x ⊎ HasSome P xs

module _ {O R S : Type 0} where
  -- the numbers of all these passes, one pass after another
  abbrev pub all_numbers : List (PassView O R S) → List ℕ
  all_numbers ps = flat_map numbers_of ps

  -- the passes are as before, save how many passes the first knows were made
  abbrev pub FirstCounted : List (PassView O R S) → List (PassView O R S) → ℕ → Type 0
  FirstCounted (p ∷ ps) (q ∷ qs) made = HasOnlyMade p q × (q.made ≡ made) × (qs ≡ ps)
  FirstCounted _ _ made = ⊥

  -- the first pass knows of no more passes than these have numbers
  abbrev pub FirstKnowsNoMore : List (PassView O R S) → Type 0
  FirstKnowsNoMore [] = Unit {0}
  FirstKnowsNoMore (p ∷ ps) = p.made ≤ length (all_numbers (p ∷ ps))

  -- one pass has all that these had
  pub record Gathered (ps : List (PassView O R S)) (q : PassView O R S) : Type 0 where
    pub claims : Each (λ p. Claims (numbers_of p) p.seen q.seen) ps
    pub longest : HasSome (λ p. p.seen ≡ q.seen) ps
    pub numbers : (k : ℕ) → times k (all_numbers ps) ≡ times k (numbers_of q)
    pub count : length (all_numbers ps) ≡ length (numbers_of q)
    pub most : Each (λ p. p.made ≤ q.made) ps

module _ {X S O R : Type 0} (reply : S → O → R) (after : S → O → S) (state : X → S) (x : Start S) where
  -- the history is what the pass has seen, each entry has one of its numbers, and the object is the replay
  pub record IsTrace (p : PassView O R S) (history : List (Entry O R)) (object : X) : Type 0 where
    pub whole : history ≡ p.seen
    pub legal : IsLegal reply after x.state history
    pub object_is : state object ≡ replay reply after x.state history
    pub bounded : length history ≤ x.limit
    pub own : Own (numbers_of p) history
    pub differ : (k : ℕ) → times k (numbers_of p) ≤ 1
    pub most : p.made ≤ length (numbers_of p)

  -- each pass has seen a beginning of the history, and past it no entry has a number of its own; one has seen it all. All their numbers differ, and each entry has one of them; no pass knows of more. The object is the replay
  pub record FromAll (ps : List (PassView O R S)) (history : List (Entry O R)) (object : X) : Type 0 where
    pub claims : Each (λ p. Claims (numbers_of p) p.seen history) ps
    pub longest : HasSome (λ p. p.seen ≡ history) ps
    pub differ : AllPairs (λ one other. one ≢ other) (all_numbers ps)
    pub own : Own (all_numbers ps) history
    pub most : Each (λ p. p.made ≤ length (all_numbers ps)) ps
    pub legal : IsLegal reply after x.state history
    pub object_is : state object ≡ replay reply after x.state history
    pub bounded : length history ≤ x.limit

module _ {X H O R M S : Type 0} (entries : H → List (Entry O R)) (reply : S → O → R) (after : S → O → S) (state : X → S) where
  -- `close` gives the trace of all passes. Or what was given comes back, and how many passes were made is now
  -- known. Or, as `InUse`, it gives nothing, but only where the first pass knew of none that is missing.
  abbrev pub IsClosed : Origin S → List (PassView O R S) → Closed X O R H M S → Type 0
  IsClosed t ps (Traced done) = FromAll reply after state t.start ps (entries done.history) done.object
  IsClosed t ps (NotAll back) = (back.turnstile ≡ t) × (0 < back.missing) × FirstCounted ps back.passes.items (length (all_numbers ps) + back.missing)
  IsClosed t ps InUse = FirstKnowsNoMore ps
