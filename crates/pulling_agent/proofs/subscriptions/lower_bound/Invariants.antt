use Rattle.pulling_agent.proofs.Prelude.{token_at, ◌≡◌, ℕ, ◌-◌, ◌<◌, ◌≤◌, true, false, length, get_or, token_lt}
use Rattle.pulling_agent.proofs.subscriptions.lower_bound.Given as goal

-- the tokens below low are less than the one sought, and those from high on aren't
abbrev pub invariant-loop-low : goal.invariant-loop-low
invariant-loop-low l =
    record {
      order : l.low ≤ l.high;
      within : l.high ≤ length l.handled;
      less : (i : ℕ) → i < l.low → token_lt (token_at l.queue (get_or l.handled i 0)) l.token ≡ true;
      others : (i : ℕ) → l.high ≤ i → i < length l.handled → token_lt (token_at l.queue (get_or l.handled i 0)) l.token ≡ false;
    }

abbrev pub decreases-loop-low : goal.decreases-loop-low
decreases-loop-low l = l.high - l.low
