use Rattle.step_core.proofs.Prelude.{length, ◌<◌, option_map, IfSome, sub_lt, above, open_names, name_at}
use Rattle.step_core.specs.PlainOf.{plain_of}
use Rattle.step_core.proofs.DueNames.{ArePast}
use Rattle.step_core.proofs.looking.least_deliverable.Given as goal

abbrev pub invariant-loop-number : goal.invariant-loop-number
invariant-loop-number l =
    ArePast (plain_of l.parts) (option_map (name_at l.parts.subs) l.last) × IfSome l.last (λ number. number < length l.parts.subs.registry.names)

abbrev pub decreases-loop-number : goal.decreases-loop-number
decreases-loop-number l = length (above sub_lt (option_map (name_at l.parts.subs) l.last) (open_names (plain_of l.parts)))
