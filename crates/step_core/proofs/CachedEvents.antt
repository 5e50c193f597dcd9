-- The events of the log at the positions of the cache, where the log grows and where the cache begins anew.
use Rattle.step_core.proofs.Prelude.{◌≡◌, ◌∙◌, ap, ℕ, ◌+◌, ◌-◌, ◌≤◌, List, ◌++◌, length, take, drop, arith, drop-append-le, drop-drop, drop-take, length-drop, take-append-le, Event, between}

-- a longer log has the same events at the positions before
pub between-longer : (log more : List Event) (from to : ℕ) → from ≤ to → to ≤ length log → between (log ++ more) from to ≡ between log from to
between-longer log more from to order within =
    ap (take (to - from)) (drop-append-le from log more (omega arith))
    ∙ take-append-le (to - from) (drop from log) more (omega (arith, length-drop from log))

-- without the first events it begins as many positions further on
pub between-drop : (log : List Event) (from to count : ℕ) → from + count ≤ to → drop count (between log from to) ≡ between log (from + count) to
between-drop log from to count order =
    ap (λ n. drop count (take n (drop from log))) {x = to - from} {y = count + (to - (from + count))} (omega arith)
    ∙ drop-take count (to - (from + count)) (drop from log)
    ∙ ap (take (to - (from + count))) (drop-drop count from log)
