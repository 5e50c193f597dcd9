-- Steps of a loop, one after another.
use Rattle.silo_loops.specs.declared.advance.Advance.{Advance}
use Rattle.silo_loops.specs.declared.advance.Advance.TheVariants.{Did}

-- from one state to another by such steps, or by none
pub data Chain {A : Type 0} (Step : A → A → Type 0) : A → A → Type 0 where
  Stays : {v : A} → Chain Step v v
  Steps : {v u w : A} → Step v u → Chain Step u w → Chain Step v w

-- steps that did something, or none, and then the one that is answered
abbrev pub Visits : {V : Type 0} → (Advance → V → V → Type 0) → Advance → V → V → Type 0
Visits {V} advances did v w = (u : V) × Chain (advances Did) v u × advances did u w

-- some steps, or none
abbrev pub Goes : {V : Type 0} → (Advance → V → V → Type 0) → V → V → Type 0
Goes {V} advances v w = Chain (λ v w. (did : Advance) × advances did v w) v w
