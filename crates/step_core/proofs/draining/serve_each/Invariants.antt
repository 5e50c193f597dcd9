use Rattle.step_core.proofs.Prelude.{length, ◌<◌, option_map, IfSome, sub_lt, above, open_names}
use Rattle.step_core.specs.Serving.{name_of}
use Rattle.step_core.proofs.DueNames.{GoesOn}
use Rattle.step_core.proofs.draining.serve_each.Given as goal

abbrev pub invariant-loop-number : goal.invariant-loop-number
invariant-loop-number l =
    GoesOn l.fn.partition l.partition (option_map (name_of l.partition) l.last) × IfSome l.last (λ number. number < length l.partition.subs)

abbrev pub decreases-loop-number : goal.decreases-loop-number
decreases-loop-number l = length (above sub_lt (option_map (name_of l.partition) l.last) (open_names l.fn.partition))
