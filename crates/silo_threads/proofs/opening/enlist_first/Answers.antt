use Rattle.silo_threads.proofs.Prelude.{List, ℕ, Contains, ap, subst, ◌∙◌, ◌++◌, ◌∷◌, []}
use Rattle.silo_operators.specs.Operators.{OperatorView}
use Rattle.silo_threads.proofs.Standing.{range-absent, range-next}
use Rattle.silo_threads.proofs.opening.enlist_first.Goals as goal

pub enlist-requires-after_bounds : goal.enlist-requires-after_bounds
enlist-requires-after_bounds g c κs within = λ here. range-absent c.loop-silo.silo (subst (λ (o : OperatorView). Contains o.live c.loop-silo.silo) c.loop-silo.invariant here)

pub loop-silo-preserved : goal.loop-silo-preserved
loop-silo-preserved g c =
    c.in_ok-enlist.ensures.ok ∙ ap (λ (o : OperatorView). record o { live = o.live ++ c.loop-silo.silo ∷ [] }) c.loop-silo.invariant
    ∙ ap (λ (xs : List ℕ). record c.args.operator.now { live = xs }) (range-next c.loop-silo.silo)
