use Rattle.turnstile.proofs.Prelude.{◌≡◌, ◌≤◌, ◌-◌, []}
use Rattle.turnstile.specs.Turns.{unnumbered}
use Rattle.turnstile.proofs.turnstile.Turnstile.split.Given as goal

-- the new seat has no number yet, and knows of as many passes as were found
abbrev pub invariant-loop-made : goal.invariant-loop-made
invariant-loop-made g l = (l.seat.table_id ≡ l.pass-inside.seat.table_id) × (l.seat.me ≡ (record (unnumbered l.pass-inside.seat.me.0) { made = l.made }, [])) × (l.pass-inside.made ≤ l.made)

abbrev pub decreases-loop-made : goal.decreases-loop-made
decreases-loop-made g l = 4294967296 - l.made
