-- Where the cache lies in the log.
use Rattle.step_core.proofs.Prelude.{high, ◌≤◌, length, arith, IsReached}
use Rattle.step_core.specs.declared.parts.Parts.{Parts}
use Rattle.step_core.specs.PlainOf.{plain_of}
use Rattle.step_core.proofs.Shared.{history-of}

pub high-end : (parts : Parts) → IsReached (plain_of parts) → high parts.agent.cache ≤ length parts.queue.events
high-end parts reached = (history-of (plain_of parts) reached).fits.log.high_end

pub low-end : (parts : Parts) → IsReached (plain_of parts) → parts.agent.cache.low ≤ length parts.queue.events
low-end parts reached = let end = high-end parts reached in omega (arith, end)
