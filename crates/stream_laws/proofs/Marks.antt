-- Positions of a log judged by a list of tests: a position is marked where its event passes.
use Rattle.stream_laws.proofs.Prelude.{◌≡◌, ℕ, zero, suc, ◌<◌, ◌≤◌, max, Bool, true, false, List, [], ◌∷◌, ◌++◌, length, get_or, if◌then◌else◌, past}

-- no position from a up to b is marked
abbrev pub IsClear : List Bool → ℕ → ℕ → Type 0
IsClear marks a b = (q : ℕ) → a ≤ q → q < b → get_or marks q false ≡ false

-- the marked positions below n, rising
abbrev pub marked_below : List Bool → ℕ → List ℕ
marked_below marks zero = []
marked_below marks (suc n) = if get_or marks n false then marked_below marks n ++ n ∷ [] else marked_below marks n

-- the next marked positions from a on, none passed over, none twice
abbrev pub IsNext : List Bool → ℕ → List ℕ → Type 0
IsNext marks a [] = Unit {0}
IsNext marks a (position ∷ positions) =
    (a ≤ position) × IsClear marks a position × (get_or marks position false ≡ true) × IsNext marks (suc position) positions

-- marked positions that pass over none from a on; there may be repeats
abbrev pub IsCovering : List Bool → ℕ → List ℕ → Type 0
IsCovering marks a [] = Unit {0}
IsCovering marks a (position ∷ positions) =
    IsClear marks a position × (get_or marks position false ≡ true) × IsCovering marks (max a (suc position)) positions

-- how far these positions cover
abbrev pub reach : ℕ → List ℕ → ℕ
reach a [] = a
reach a (position ∷ positions) = reach (max a (suc position)) positions

-- open or closed: the handled positions are the first marked ones, and what runs is next
pub record IsInTurn (marks : List Bool) (handled running : List ℕ) : Type 0 where
  pub first : handled ≡ marked_below marks (past handled)
  pub next : IsNext marks (past handled) running

-- open: what is on its way, the running turn's positions and then the waiting ones, passes over no
-- marked position, and nothing unhandled is behind resume or unsent behind cursor
pub record IsServed (marks : List Bool) (handled on_way : List ℕ) (resume cursor low : ℕ) : Type 0 where
  pub covering : IsCovering marks (past handled) on_way
  pub sent : IsClear marks (reach (past handled) on_way) cursor
  pub safe : IsClear marks (past handled) resume
  pub low_resume : low ≤ resume
  pub resume_cursor : resume ≤ cursor
  pub cursor_end : cursor ≤ length marks
