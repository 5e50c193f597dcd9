-- What each step tells: of the step, the seat before, the number found and the seat after.
use mathlib.Core.Option as maybe
use Rattle.std.specs.Prelude.{◌≡◌, ◌≢◌, ℕ, ◌+◌, ◌%◌, ◌^◌, ◌<◌, ◌≤◌, List, [], ◌∷◌, ◌++◌, length, true, false, Option, Some, None}
use Rattle.atomic_table.specs.Table.{Me, Step, rest}
use Rattle.turnstile.specs.declared.history.Entry.{Entry}
use Rattle.turnstile.specs.declared.view.Held.{Held}
use Rattle.turnstile.specs.declared.view.Start.{Start}
use Rattle.turnstile.specs.declared.view.View.{View}
use Rattle.turnstile.specs.History.{times, replay, IsLegal, Foreign, Claims, entry}
use Rattle.turnstile.specs.Turns.{AllClaim}

abbrev pub Sat : Type 0 → Type 0 → Type 0 → Type 0 → Type 0 → Type 0
Sat X H S O R = Me (Option (Held X H)) (View S O R)

module _ {X H O R : Type 0} (entries : H → List (Entry O R)) where
  abbrev pub items_of : Option (Held X H) → List (Entry O R)
  items_of (Some held) = entries held.history
  items_of None = []

  -- the entries of the value that a step announces
  abbrev pub said_of : maybe.Option (Option (Held X H)) → List (Entry O R)
  said_of maybe.none = []
  said_of (maybe.some slot) = items_of slot

abbrev pub state_in : {X H S : Type 0} → (X → S) → Option (Held X H) → Option S
state_in state (Some held) = Some (state held.object)
state_in state None = None

abbrev pub first_of : List ℕ → ℕ
first_of [] = 0
first_of (t ∷ ts) = t

module _ {X H S O R : Type 0} where
  -- a ticket was drawn, whose word was found
  abbrev pub drew : Step (Option (Held X H)) → Sat X H S O R → ℕ → Sat X H S O R → Type 0
  drew st m r n = (t : ℕ) × (r ≡ t % 2 ^ 64) × (n ≡ (record m.0 { tickets = t ∷ [] }, m.1))

  abbrev pub left : Step (Option (Held X H)) → Sat X H S O R → ℕ → Sat X H S O R → Type 0
  left st m r n = n ≡ (record m.0 { tickets = []; come = false }, rest m.1)

  -- a number was drawn, or more passes were made than was known
  abbrev pub numbered : Step (Option (Held X H)) → Sat X H S O R → ℕ → Sat X H S O R → Type 0
  numbered st m r n = (r ≡ st.first → (n ≡ (record m.0 { numbers = r ∷ []; made = r + 1 }, m.1)) × Foreign (r ∷ []) m.0.seen)
      × (r ≢ st.first → (n ≡ (record m.0 { made = r }, m.1)) × (st.first < r))

  abbrev pub counted : Step (Option (Held X H)) → Sat X H S O R → ℕ → Sat X H S O R → Type 0
  counted st m r n = (n ≡ (record m.0 { made = r }, m.1)) × (m.0.made ≤ r)

module _ {X H S O R : Type 0} (entries : H → List (Entry O R)) where
  -- the history is now that of the value that is announced
  abbrev pub noted : Step (Option (Held X H)) → Sat X H S O R → ℕ → Sat X H S O R → Type 0
  noted st m r n = n ≡ (record m.0 { seen = said_of entries st.said }, m.1)

module _ {X H S O R : Type 0} (entries : H → List (Entry O R)) (state : X → S) (reply : S → O → R) (after : S → O → S) where
  -- the slot is here, with all that was done so far
  pub record Turn (v : View S O R) (n : Sat X H S O R) : Type 0 where
    pub held : Held X H
    pub slot : n.1 ≡ (0, Some held) ∷ []
    pub view : n.0 ≡ record v { seen = entries held.history; come = true }
    pub claims : Claims v.numbers v.seen (entries held.history)
    pub legal : (x : Start S) → v.start ≡ Some x → IsLegal reply after x.state (entries held.history) × (state held.object ≡ replay reply after x.state (entries held.history)) × (length (entries held.history) ≤ x.limit)

  -- where its ticket is served, the seat has its turn; otherwise nothing changed
  abbrev pub looked : Step (Option (Held X H)) → Sat X H S O R → ℕ → Sat X H S O R → Type 0
  looked st m r n = (r ≡ first_of m.0.tickets % 2 ^ 64 → Turn m.0 n) × (r ≢ first_of m.0.tickets % 2 ^ 64 → n ≡ m)

module _ {S O R : Type 0} where
  -- what a look shows of a view
  pub record Told (v : View S O R) : Type 0 where
    pub log : List (Entry O R)
    pub past : AllClaim v.numbers v.past log
    pub seen : Claims v.numbers v.seen log
    pub once : (k : ℕ) → times k v.numbers ≤ 1
    pub few : length v.numbers ≤ 2 ^ 32

module _ {X H S O R : Type 0} where
  -- what was claimed before holds, and is then forgotten
  abbrev pub told : Step (Option (Held X H)) → Sat X H S O R → ℕ → Sat X H S O R → Type 0
  told st m r n = (n ≡ (record m.0 { past = [] }, m.1)) × Told m.0

module _ {X H S O R : Type 0} (entries : H → List (Entry O R)) (state : X → S) (reply : S → O → R) (after : S → O → S) (x : Start S) where
  -- the turn has come, and the value is in hand
  pub record Begun (v : View S O R) (held : Held X H) (m : Sat X H S O R) : Type 0 where
    pub ticket : ℕ
    pub seat : m ≡ (record v { seen = entries held.history; tickets = ticket ∷ []; come = true }, (0, None) ∷ [])
    pub claims : Claims v.numbers v.seen (entries held.history)
    pub legal : IsLegal reply after x.state (entries held.history)
    pub object : state held.object ≡ replay reply after x.state (entries held.history)
    pub bounded : length (entries held.history) ≤ x.limit

  -- the seat may leave with this value, to whose history nothing was added
  pub record MayLeave (held : Held X H) (m : Sat X H S O R) : Type 0 where
    pub begins : m.0.start ≡ Some x
    pub come : m.0.come ≡ true
    pub slot : m.1 ≡ (0, None) ∷ []
    pub history : entries held.history ≡ m.0.seen
    pub object : state held.object ≡ replay reply after x.state m.0.seen

module _ {X H S O R : Type 0} (entries : H → List (Entry O R)) (reply : S → O → R) (after : S → O → S) (x : Start S) where
  -- an entry was added to the history of this value, and it may be noted
  pub record MayNote (said : Option (Held X H)) (m : Sat X H S O R) : Type 0 where
    pub come : m.0.come ≡ true
    pub past : m.0.past ≡ []
    pub entry : Entry O R
    pub history : items_of entries said ≡ m.0.seen ++ entry ∷ []
    pub own : 0 < times entry.number m.0.numbers
    pub right : entry.reply ≡ reply (replay reply after x.state m.0.seen) entry.op
    pub room : length m.0.seen < x.limit

module _ {X H S O R : Type 0} (entries : H → List (Entry O R)) (state : X → S) (reply : S → O → R) (after : S → O → S) where
  -- what applying an op does to a history and an object
  abbrev pub Applied : Held X H → ℕ → O → R → Held X H → Type 0
  Applied h k op r g = (entries g.history ≡ entries h.history ++ entry k op r ∷ []) × (r ≡ reply (state h.object) op) × (state g.object ≡ after (state h.object) op)

module _ {X H S O R : Type 0} (entries : H → List (Entry O R)) where
  -- the seat once it has given up its turn
  abbrev pub gone : Held X H → Sat X H S O R → Sat X H S O R
  gone held m = (record m.0 { seen = entries held.history; tickets = []; come = false }, [])
