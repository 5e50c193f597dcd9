use Rattle.turnstile.proofs.Prelude.{◌≡◌}
use Rattle.turnstile.proofs.lock.Lock.enter.Given as goal

-- while it waits, the seat is as it was once the ticket was drawn
abbrev pub invariant-loop : goal.invariant-loop
invariant-loop g l = (l.seat.table_id ≡ l.initial.seat.table_id) × (l.seat.id ≡ l.initial.seat.id) × (l.seat.me ≡ l.initial.seat.me)
