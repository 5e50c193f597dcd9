-- What the calls of a turnstile say of its passes.
use Rattle.std.specs.Prelude.{◌≡◌, ℕ, ◌+◌, ◌<◌, ◌≤◌, List, [], ◌∷◌, ◌++◌, length, max, Option, Some, None, Result, MatchResult}
use Rattle.turnstile.specs.declared.history.Entry.{Entry}
use Rattle.turnstile.specs.declared.view.Start.{Start}
use Rattle.turnstile.specs.declared.turnstile.Refusal.{Refusal}
use Rattle.turnstile.specs.declared.turnstile.Refusal.TheVariants.{HistoryFull, Memory}
use Rattle.turnstile.specs.History.{ShareNone, replay, IsLegal, Foreign, Claims, longer, entry}
use Rattle.turnstile.specs.Passes.{Origin, PassView, TurnView}

module _ {O R S : Type 0} where
  -- all numbers of a pass: its own, and those joined to it
  abbrev pub numbers_of : PassView O R S → List ℕ
  numbers_of p = p.number ∷ p.joined

  -- the pass is of this turnstile
  abbrev pub IsOf : Origin S → PassView O R S → Type 0
  IsOf t p = p.turnstile ≡ Some t

  -- a pass without a turn has got one, and is else as before, save what it has seen
  abbrev pub HasEntered : Origin S → PassView O R S → PassView O R S → Type 0
  HasEntered t p q = (p.turn ≡ None) × (q ≡ record p { turnstile = None; turn = Some t; seen = q.seen })

  -- the pass without its turn
  abbrev pub outside : Origin S → PassView O R S → PassView O R S
  outside t p = record p { turnstile = Some t; turn = None }

  -- the first pass of a turnstile
  abbrev pub first_pass : Origin S → PassView O R S
  first_pass t = record { turnstile = Some t; turn = None; number = 0; joined = []; made = 1; seen = [] }

  -- a pass is as before, save what it has seen
  abbrev pub HasOnlySeen : PassView O R S → PassView O R S → Type 0
  HasOnlySeen p q = q ≡ record p { seen = q.seen }

  -- a pass is as before, but may know of more passes
  abbrev pub HasOnlyMade : PassView O R S → PassView O R S → Type 0
  HasOnlyMade p q = (q ≡ record p { made = q.made }) × (p.made ≤ q.made)

  -- a new pass has seen as much, under one new number that is past all that were known
  abbrev pub IsSplitOff : PassView O R S → PassView O R S → Type 0
  IsSplitOff p q = (q ≡ record p { number = q.number; joined = []; made = q.number + 1 }) × (p.made ≤ q.number) × Foreign (q.number ∷ []) p.seen

  -- a pass with the numbers of both, the greater count of passes, and the longer of what they saw
  abbrev pub joined_pass : PassView O R S → PassView O R S → PassView O R S
  joined_pass p q = record p { joined = p.joined ++ numbers_of q; made = max p.made q.made; seen = longer p.seen q.seen }

  -- Neither of joined passes missed a call of its own: past what each had seen there is none with its
  -- numbers. No number is in both.
  abbrev pub Agree : PassView O R S → PassView O R S → PassView O R S → Type 0
  Agree p q r = Claims (numbers_of p) p.seen r.seen × Claims (numbers_of q) q.seen r.seen × ShareNone (numbers_of p) (numbers_of q)

-- the history is full, or it is not
abbrev pub IsFull : Refusal → ℕ → ℕ → Type 0
IsFull HistoryFull len limit = len ≡ limit
IsFull Memory len limit = len < limit

module _ {O R S : Type 0} where
  -- past what the pass had seen there are only calls of others
  abbrev pub Waited : PassView O R S → List (Entry O R) → Type 0
  Waited p seen = (between : List (Entry O R)) × (seen ≡ p.seen ++ between) × Foreign (numbers_of p) between

  -- past what the pass had seen there is its own call alone
  abbrev pub CalledNext : PassView O R S → O → R → List (Entry O R) → Type 0
  CalledNext p op r seen = seen ≡ p.seen ++ entry p.number op r ∷ []

  -- After a refusal the pass has seen nothing more. The history has `limit` entries where it is full, and
  -- else fewer.
  abbrev pub FoundNone : Start S → PassView O R S → Refusal → List (Entry O R) → Type 0
  FoundNone x p e seen = (seen ≡ p.seen) × IsFull e (length seen) x.limit

module _ {S O R : Type 0} (reply : S → O → R) (after : S → O → S) where
  -- past what a pass had seen there are calls of others and then its own, in one legal history within the
  -- limit
  abbrev pub Called : Start S → PassView O R S → O → R → List (Entry O R) → Type 0
  Called x p op r seen = (between : List (Entry O R)) × (seen ≡ (p.seen ++ between) ++ entry p.number op r ∷ []) × Foreign (numbers_of p) between × IsLegal reply after x.state seen × (length seen ≤ x.limit)

  -- After a refusal there are only calls of others past what a pass had seen, in one legal history. It has
  -- `limit` entries where it is full, and else fewer.
  abbrev pub Found : Start S → PassView O R S → Refusal → List (Entry O R) → Type 0
  Found x p e seen = (between : List (Entry O R)) × (seen ≡ p.seen ++ between) × Foreign (numbers_of p) between × IsLegal reply after x.state seen × IsFull e (length seen) x.limit

  -- a pass has this turn, and has seen the whole history of its object
  pub record IsTurn (t : Origin S) (p : PassView O R S) (h : TurnView O R S) : Type 0 where
    pub turn : p.turn ≡ Some t
    pub whole : h.history ≡ p.seen
    pub legal : IsLegal reply after t.start.state p.seen
    pub object : h.state ≡ Some (replay reply after t.start.state p.seen)
    pub bounded : length p.seen ≤ t.start.limit

  -- the object gave this reply, and has the state after the op
  abbrev pub Does : TurnView O R S → O → R → TurnView O R S → Type 0
  Does h op r g = (s : S) × (h.state ≡ Some s) × (r ≡ reply s op) × (g.state ≡ Some (after s op))

  -- One call of a pass: `Called` where it was answered, `Found` where it was refused, with the pass otherwise
  -- as before. What it has seen is legal.
  pub record CallsBy (p : PassView O R S) (op : O) (result : Result R Refusal) (q : PassView O R S) : Type 0 where
    pub origin : Origin S
    pub of : p.turnstile ≡ Some origin
    pub only : HasOnlySeen p q
    pub call : MatchResult result (λ r. Called origin.start p op r q.seen) (λ e. Found origin.start p e q.seen)

  -- The object was shown to a pass, and no call was made: it has seen what it had seen, then calls of others.
  -- What it has seen is legal, and what was read is read of the state that all of it leaves.
  pub record LooksBy (p : PassView O R S) (Shows : S → Type 0) (q : PassView O R S) : Type 0 where
    pub origin : Origin S
    pub of : p.turnstile ≡ Some origin
    pub only : HasOnlySeen p q
    pub waited : Waited p q.seen
    pub legal : IsLegal reply after origin.start.state q.seen
    pub bounded : length q.seen ≤ origin.start.limit
    pub shows : Shows (replay reply after origin.start.state q.seen)

  -- the pass is of this turnstile, or has this turn in it
  abbrev pub IsSeated : Origin S → Option (TurnView O R S) → PassView O R S → Type 0
  IsSeated t None p = p ≡ outside t p
  IsSeated t (Some turn) p = IsTurn t p turn
