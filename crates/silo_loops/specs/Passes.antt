-- What a pass has seen of its own calls, and what one call adds.
use Rattle.std.specs.Prelude.{◌≡◌, ℕ, ◌≤◌, ◌⊎◌, Bool, true, false, List, [], ◌∷◌, ◌++◌, length, Contains, Option, Some, Result, Ok}
use Rattle.turnstile.specs.declared.history.Entry.{Entry}
use Rattle.turnstile.specs.declared.turnstile.Refusal.{Refusal}
use Rattle.turnstile.specs.Calls as turnstile
use Rattle.turnstile.specs.Calls.{numbers_of}
use Rattle.turnstile.specs.History.{Claims, Foreign, entry}
use Rattle.turnstile.specs.Passes.{Origin, PassView}
use Rattle.doorbells.specs.declared.loop_end.Over.{Over}
use Rattle.doorbells.specs.declared.loop_end.Over.TheVariants.{Limit}

module _ {O R : Type 0} where
  -- no entry with one of these numbers is an operation that the test picks
  abbrev pub OwnsNone : (O → Bool) → List ℕ → List (Entry O R) → Type 0
  OwnsNone test numbers [] = Unit {0}
  OwnsNone test numbers (e ∷ es) = (Contains numbers e.number → test e.op ≡ false) × OwnsNone test numbers es

module _ {O R S : Type 0} where
  -- the last call of the pass's own: past it stand entries of others alone
  pub record LastOwn (p : PassView O R S) (op : O) (reply : R) : Type 0 where
    pub before : List (Entry O R)
    pub later : List (Entry O R)
    pub whole : p.seen ≡ (before ++ entry p.number op reply ∷ []) ++ later
    pub others : Foreign (numbers_of p) later

  -- of the numbers of the pass the entries have none but the one under which it calls
  abbrev pub CallsAlone : PassView O R S → List (Entry O R) → Type 0
  CallsAlone p [] = Unit {0}
  CallsAlone p (e ∷ es) = (Contains (numbers_of p) e.number → e.number ≡ p.number) × CallsAlone p es

  -- The second pass has each number of the first. What the first has seen is a beginning of what the second has, and
  -- past it no entry has a number of the first.
  pub record IsPartOf (p q : PassView O R S) : Type 0 where
    pub numbers : (number : ℕ) → Contains (numbers_of p) number → Contains (numbers_of q) number
    pub claims : Claims (numbers_of p) p.seen q.seen

  -- so it is, and the number under which the second calls is none of the first
  pub record IsOtherIn (p q : PassView O R S) : Type 0 where
    pub part : IsPartOf p q
    pub other : ¬ Contains (numbers_of p) q.number

  -- past the mark stands a call of the pass's own, with an operation that the test picks
  pub record HasOwnPast (test : O → Bool) (mark : ℕ) (p : PassView O R S) : Type 0 where
    pub before : List (Entry O R)
    pub op : O
    pub reply : R
    pub later : List (Entry O R)
    pub whole : p.seen ≡ (before ++ entry p.number op reply ∷ []) ++ later
    pub past : mark ≤ length before
    pub picked : test op ≡ true

  -- The last of the pass's own calls with an operation that the test picks: past it stands none.
  pub record LastOf (test : O → Bool) (p : PassView O R S) (op : O) (reply : R) : Type 0 where
    pub before : List (Entry O R)
    pub later : List (Entry O R)
    pub whole : p.seen ≡ (before ++ entry p.number op reply ∷ []) ++ later
    pub picked : test op ≡ true
    pub none : OwnsNone test (numbers_of p) later

  -- A limit has ended a loop at this pass, where its answers end loops so: the answer to its last call, or what it has
  -- seen is a full history.
  abbrev pub IsAtLimit : (Result R Refusal → Option Over) → PassView O R S → Type 0
  IsAtLimit end p =
      ((op : O) × (reply : R) × LastOwn p op reply × (end (Ok reply) ≡ Some Limit)) ⊎ ((t : Origin S) × (p.turnstile ≡ Some t) × (length p.seen ≡ t.start.limit))

  -- one call of a pass
  abbrev pub CallsBy : (S → O → R) → (S → O → S) → PassView O R S → O → Result R Refusal → PassView O R S → Type 0
  CallsBy reply after p op result q = turnstile.CallsBy reply after p op result q
