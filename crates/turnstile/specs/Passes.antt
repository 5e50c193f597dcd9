-- What contracts see of a turnstile and of a pass.
use Rattle.std.specs.Prelude.{◌≡◌, ℕ, if◌then◌else◌, List, [], ◌∷◌, length, drop, true, false, Option, Some, None}
use Rattle.atomic_table.specs.Seated.{TableId}
use Rattle.turnstile.specs.declared.history.Entry.{Entry}
use Rattle.turnstile.specs.declared.view.Start.{Start}
use Rattle.turnstile.specs.declared.view.Held.{Held}
use Rattle.turnstile.specs.declared.view.View.{View}
use Rattle.turnstile.specs.Plays.{Sat, items_of, state_in}

-- which turnstile it is, and how it began
pub record Origin (S : Type 0) : Type 0 where
  pub table : TableId
  pub start : Start S

-- what a pass knows: the turnstile that it is of, or the one in which it has a turn, its own number and those joined to it, a count of passes that were made, and what it has seen of the history
pub record PassView (O R S : Type 0) : Type 0 where
  pub turnstile : Option (Origin S)
  pub turn : Option (Origin S)
  pub number : ℕ
  pub joined : List ℕ
  pub made : ℕ
  pub seen : List (Entry O R)

abbrev pub opened : {S : Type 0} → TableId → Start S → Origin S
opened z x = record { table = z; start = x }

abbrev pub origin : {S : Type 0} → TableId → Option (Start S) → Option (Origin S)
origin z (Some x) = Some (opened z x)
origin z None = None

abbrev pub pass_view : {S O R : Type 0} → TableId → View S O R → ℕ → PassView O R S
pass_view z v number = record { turnstile = if v.come then None else origin z v.start; turn = if v.come then origin z v.start else None; number = number; joined = drop 1 v.numbers; made = v.made; seen = v.seen }

-- the seat of a pass, with these counts of it: it makes no call, or it has its turn, and the value is out of the slot
pub record Sits {X H S O R : Type 0} (m : Sat X H S O R) (number made joined len : ℕ) : Type 0 where
  pub rests : m.0.come ≡ false → (m.1 ≡ []) × (m.0.tickets ≡ [])
  pub holds : m.0.come ≡ true → m.1 ≡ (0, None) ∷ []
  pub past : m.0.past ≡ []
  pub numbers : m.0.numbers ≡ number ∷ drop 1 m.0.numbers
  pub made_is : m.0.made ≡ made
  pub joined_is : joined ≡ length (drop 1 m.0.numbers)
  pub len_is : len ≡ length m.0.seen

-- what a turn holds: the history, and the state of the object
pub record TurnView (O R S : Type 0) : Type 0 where
  pub history : List (Entry O R)
  pub state : Option S

abbrev pub turn_view : {X H S O R : Type 0} → (H → List (Entry O R)) → (X → S) → Option (Held X H) → TurnView O R S
turn_view entries state slot = record { history = items_of entries slot; state = state_in state slot }
