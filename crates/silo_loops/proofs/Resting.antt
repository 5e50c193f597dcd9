-- Lines that begin anew, one after another.
use Rattle.silo_loops.proofs.Prelude.{◌≡◌, ℕ, ◌<◌, ◌≤◌, ◌+◌, List, ◌++◌, ◌⊎◌, inl, inr, length, map, take, drop, refl, arith, cases_lt, append-nil, drop_all, take_all}
use Rattle.silo_loops.specs.Lines.{LineView, rested}

pub lt-cases : (k at : ℕ) → k < at + 1 → (k < at) ⊎ (k ≡ at)
lt-cases k at below = elim (cases_lt k at) as (λ s. (k < at) ⊎ (k ≡ at)) [ inl less ↦ inl less | inr more ↦ inr (omega arith) ]

pub rested-all : (old : List LineView) (at : ℕ) → length old ≤ at → map rested (take at old) ++ drop at old ≡ map rested old
rested-all old at past = rw (take_all at old past, drop_all at old past, append-nil (map rested old)) refl
