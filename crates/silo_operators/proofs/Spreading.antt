-- What an operator keeps.
use Rattle.silo_operators.proofs.Prelude.{HasNoDoubles, goes-length, goes-refl, goes-some, on-refl, DirectoryPass, LineView, GoOn, sym, ◌≢◌, ℕ, List, [], ◌∷◌, ◌++◌, Contains, refl, ◌∙◌, get_or_default}
use Rattle.std.proofs.lemmas.List.Quantifiers.{all_pairs_push}
use Rattle.silo_operators.specs.Operators.{HasOnlyGoneOn, IsOperator, OperatorView}

pub only-refl : (v : OperatorView) → HasOnlyGoneOn v v
only-refl v = record { on = record { lines = goes-refl v.lines; directory = on-refl v.directory }; live = refl; assignment = refl }

-- an operator whose passes have seen more
pub operator-on : (v : OperatorView) (ls : List LineView) (d : DirectoryPass) → IsOperator v → GoOn v.lines ls → IsOperator (record v { lines = ls; directory = d })
operator-on v ls d kept on = record { some = goes-some v.lines ls on kept.some; assigned = kept.assigned ∙ sym (goes-length v.lines ls on); once = kept.once }

pub one-more : (live : List ℕ) (silo : ℕ) → HasNoDoubles live → (Contains live silo → ⊥) → HasNoDoubles (live ++ silo ∷ [])
one-more live silo once none =
    all_pairs_push (λ (one other : ℕ). one ≢ other) live silo once (λ k d within same. none (k, within, get_or_default live k silo d within ∙ same))
