-- The rule of a turnstile's table.
use Rattle.std.specs.Prelude.{◌≡◌, ℕ, ◌+◌, ◌%◌, ◌^◌, ◌<◌, ◌≤◌, List, [], ◌∷◌, ◌++◌, length, max, true, false, Option, Some, None}
use mathlib.Core.Option as maybe
use lib.ListN.{get_elem?}
use Rattle.atomic_table.specs.Table.{State}
use Rattle.turnstile.specs.declared.history.Entry.{Entry}
use Rattle.turnstile.specs.declared.view.Held.{Held}
use Rattle.turnstile.specs.declared.view.Start.{Start}
use Rattle.turnstile.specs.declared.view.Opening.{Opening}
use Rattle.turnstile.specs.declared.view.Claim.{Claim}
use Rattle.turnstile.specs.declared.view.View.{View}
use Rattle.turnstile.specs.History.{times, total, replay, IsLegal, Drawn, Claims, longer}

abbrev pub start_of : {X S : Type 0} → (X → S) → Opening X → Start S
start_of state key = record { state = state key.object.value; limit = key.limit }

module _ {O R : Type 0} where
  -- what was claimed before still holds, and with no number that is not among these
  abbrev pub AllClaim : List ℕ → List (Claim O R) → List (Entry O R) → Type 0
  AllClaim numbers [] log = Unit {0}
  AllClaim numbers (c ∷ cs) log = ((k : ℕ) → times k c.numbers ≤ times k numbers) × Claims c.numbers c.seen log × AllClaim numbers cs log

module _ {S O R : Type 0} where
  abbrev pub claim : View S O R → Claim O R
  claim v = record { numbers = v.numbers; seen = v.seen }

  abbrev pub opening_view : Start S → View S O R
  opening_view x = record { start = Some x; numbers = 0 ∷ []; made = 1; seen = []; past = []; tickets = []; come = false }

  abbrev pub spent_view : View S O R
  spent_view = record { start = None; numbers = []; made = 0; seen = []; past = []; tickets = []; come = false }

  -- a seat that is split off, with no number yet
  abbrev pub unnumbered : View S O R → View S O R
  unnumbered v = record { start = v.start; numbers = []; made = v.made; seen = v.seen; past = []; tickets = []; come = false }

  abbrev pub joined : View S O R → View S O R → View S O R
  joined v w = record { start = v.start; numbers = v.numbers ++ w.numbers; made = max v.made w.made; seen = longer v.seen w.seen; past = claim v ∷ claim w ∷ []; tickets = v.tickets; come = v.come }

  -- what a view knows
  pub record Knows (start : Start S) (passes serving : ℕ) (log : List (Entry O R)) (v : View S O R) : Type 0 where
    pub begins : (x : Start S) → v.start ≡ Some x → x ≡ start
    pub made : v.made ≤ passes
    pub fits : length v.tickets ≤ length v.numbers
    pub seen : Claims v.numbers v.seen log
    pub past : AllClaim v.numbers v.past log
    pub come : v.come ≡ true → (v.tickets ≡ serving ∷ []) × (v.seen ≡ log)

-- the numbers from low up to high are out, each with one member, and no others
pub record Out {V : Type 0} (of : V → List ℕ) (low high : ℕ) (views : List V) : Type 0 where
  pub once : (k : ℕ) → low ≤ k → k < high → total (λ v. times k (of v)) views ≡ 1
  pub below : (k : ℕ) → k < low → total (λ v. times k (of v)) views ≡ 0
  pub above : (k : ℕ) → high ≤ k → total (λ v. times k (of v)) views ≡ 0
  pub counted : total (λ v. length (of v)) views + low ≡ high

module _ {X H S O R : Type 0} (entries : H → List (Entry O R)) (state : X → S) (reply : S → O → R) (after : S → O → S) (start : Start S) where
  -- the value is at home, with this history
  pub record AtHome (homes : List (maybe.Option (Option (Held X H)))) (log : List (Entry O R)) : Type 0 where
    pub held : Held X H
    pub is : homes ≡ maybe.some (Some held) ∷ []
    pub history : entries held.history ≡ log
    pub object : state held.object ≡ replay reply after start.state log

  pub record Stands (passes drawn serving : ℕ) (log : List (Entry O R)) (homes : List (maybe.Option (Option (Held X H)))) (views : List (View S O R)) : Type 0 where
    pub few : passes ≤ 2 ^ 32
    pub legal : IsLegal reply after start.state log
    pub known : Drawn passes log
    pub bounded : length log ≤ start.limit
    pub numbers : Out (λ v. v.numbers) 0 passes views
    pub tickets : Out (λ v. v.tickets) serving drawn views
    pub each : (j : ℕ) (v : View S O R) → get_elem? views j ≡ maybe.some v → Knows start passes serving log v
    pub home : ((j : ℕ) (v : View S O R) → get_elem? views j ≡ maybe.some v → v.come ≡ false) → AtHome homes log

  -- the words are the passes that were made, the next ticket, the ticket that is served, and the length of the history
  pub record Turning (s : State (Option (Held X H)) (View S O R)) : Type 0 where
    pub passes : ℕ
    pub drawn : ℕ
    pub serving : ℕ
    pub log : List (Entry O R)
    pub words : s.words ≡ passes ∷ (drawn % 2 ^ 64) ∷ (serving % 2 ^ 64) ∷ length log ∷ []
    pub stands : Stands passes drawn serving log s.homes s.views
