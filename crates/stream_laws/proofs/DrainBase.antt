-- What holds at each step of a drain: the invariant, and how many turns there were since the drain began.
use Rattle.stream_laws.proofs.Prelude.{◌≡◌, ℕ, ◌-◌, ◌≤◌, length, subst, arith, ◌∙◌, SubName, binding_after, handled_after, published_after, Reply, Op, PlainPartition}
use Rattle.stream_laws.specs.DrainLaws.{sum_open}
use Rattle.stream_model.specs.Step.{step}
use Rattle.stream_laws.proofs.DrainRule.{Tally, tally_after, turns_after}
use Rattle.stream_laws.proofs.IdleGrains.{IsIdle}
use Rattle.stream_laws.proofs.Invariant.{Fits}
use Rattle.stream_laws.proofs.KeptStep.{kept-step}
use Rattle.stream_laws.proofs.Summary.{Summary, after}
use Rattle.stream_laws.proofs.UniqueSteps.{IsSteady, steady-own, steady-step}

-- how many events a subscription has handled since
abbrev pub handled_since : Summary → Summary → SubName → ℕ
handled_since t0 t s = length (t.handled s) - length (t0.handled s)

-- since t0 was said, with a cache of so many blocks
pub record IsTold (cache : ℕ) (t0 : Summary) (t : Tally) (p : PlainPartition) : Type 0 where
  pub fits : Fits t.said p
  pub steady : IsSteady (cache, p.limits) p
  pub events : t.said.events ≡ t0.events
  pub binding : (s : SubName) → t.said.binding s ≡ t0.binding s
  pub longer : (s : SubName) → length (t0.handled s) ≤ length (t.said.handled s)
  pub turns : sum_open (handled_since t0 t.said) p.subs ≡ t.turns

pub record IsSound (cache : ℕ) (t0 : Summary) (t : Tally) (p : PlainPartition) : Type 0 where
  pub told : IsTold cache t0 t p
  pub idle : IsIdle p

-- one more step, which publishes, subscribes and adds no rule
pub told-step : (cache : ℕ) (t0 : Summary) (t : Tally) (p : PlainPartition) (op : Op) (q : PlainPartition) (answer : Reply) → step p op ≡ (q, answer) → IsTold cache t0 t p
    → published_after t.said.events op answer ≡ t.said.events
    → ((s : SubName) → binding_after s (t.said.binding s) t.said.batches op answer ≡ t.said.binding s)
    → ((s : SubName) → length (t.said.handled s) ≤ length (handled_after s t.said.turn (t.said.handled s) op answer))
    → sum_open (handled_since t0 (after t.said op answer)) q.subs ≡ turns_after t.turns op
    → IsTold cache t0 (tally_after t op answer) q
told-step cache t0 t p op q answer is told events binding longer turns =
    record {
      fits = subst (λ (out : PlainPartition × Reply). Fits (after t.said op out.1) out.0) is (kept-step t.said p op told.fits).0;
      steady = steady-own (cache, p.limits) q (subst (λ (out : PlainPartition × Reply). IsSteady (cache, p.limits) out.0) is (steady-step (cache, p.limits) p op told.steady));
      events = events ∙ told.events;
      binding = λ s. binding s ∙ told.binding s;
      longer = λ s. omega (arith, longer s, told.longer s);
      turns = turns;
    }
