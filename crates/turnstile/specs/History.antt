-- A history of calls, replayed by the plain definition of an object.
use Rattle.std.specs.Prelude.{◌≡◌, ℕ, ◌+◌, ◌<◌, ◌==◌, if◌then◌else◌, List, [], ◌∷◌, ◌++◌, length, nat_lt, Contains}
use Rattle.turnstile.specs.declared.history.Entry.{Entry}

-- how often x stands in the list
abbrev pub times : ℕ → List ℕ → ℕ
times x [] = 0
times x (y ∷ ys) = (if y == x then 1 else 0) + times x ys

-- no number stands in both lists
abbrev pub ShareNone : List ℕ → List ℕ → Type 0
ShareNone xs ys = (k : ℕ) → Contains xs k → ¬ Contains ys k

-- the weights of the members, added up
abbrev pub total : {V : Type 0} → (V → ℕ) → List V → ℕ
total f [] = 0
total f (v ∷ vs) = f v + total f vs

module _ {S O R : Type 0} (reply : S → O → R) (after : S → O → S) where
  -- the state after a list of calls
  abbrev pub replay : S → List (Entry O R) → S
  replay s [] = s
  replay s (e ∷ es) = replay (after s e.op) es

  -- each call has the reply that the object gives there
  abbrev pub IsLegal : S → List (Entry O R) → Type 0
  IsLegal s [] = Unit {0}
  IsLegal s (e ∷ es) = (e.reply ≡ reply s e.op) × IsLegal (after s e.op) es

module _ {O R : Type 0} where
  -- no entry has one of these numbers
  abbrev pub Foreign : List ℕ → List (Entry O R) → Type 0
  Foreign numbers [] = Unit {0}
  Foreign numbers (e ∷ es) = (¬ Contains numbers e.number) × Foreign numbers es

  -- each entry has one of these numbers
  abbrev pub Own : List ℕ → List (Entry O R) → Type 0
  Own numbers [] = Unit {0}
  Own numbers (e ∷ es) = Contains numbers e.number × Own numbers es

  -- each entry has a number below n
  abbrev pub Drawn : ℕ → List (Entry O R) → Type 0
  Drawn n [] = Unit {0}
  Drawn n (e ∷ es) = (e.number < n) × Drawn n es

  -- the list begins the history, and past its end no entry has one of these numbers
  pub record Claims (numbers : List ℕ) (seen log : List (Entry O R)) : Type 0 where
    pub rest : List (Entry O R)
    pub is : log ≡ seen ++ rest
    pub foreign : Foreign numbers rest

  -- the longer of two lists
  abbrev pub longer : List (Entry O R) → List (Entry O R) → List (Entry O R)
  longer xs ys = if nat_lt (length xs) (length ys) then ys else xs

  -- a call by the pass with a number
  abbrev pub entry : ℕ → O → R → Entry O R
  entry k op r = record { number = k; op = op; reply = r }
