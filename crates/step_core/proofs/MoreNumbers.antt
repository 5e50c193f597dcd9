-- Numbers below a length are below a greater one.
use Rattle.step_core.proofs.Prelude.{PlainActivation, RunningTurn, Delivery, ℕ, ◌<◌, ◌≤◌, List, Option, Some, None, arith, AllByRecursion, All-weaken, GrainId}
use Rattle.step_core.specs.Numbers.{IsBelow, TurnIsBelow}

running-more : (n m : ℕ) → n ≤ m → (running : Option RunningTurn) → TurnIsBelow n running → TurnIsBelow m running
running-more n m more None below = tt
running-more n m more (Some run) below = omega arith

pub below-more : (n m : ℕ) → n ≤ m → (a : PlainActivation) → IsBelow n a → IsBelow m a
below-more n m more a below =
    record {
      waiting = All-weaken (λ (d : Delivery). d.sub < n) (λ (d : Delivery). d.sub < m) (λ d here. omega arith) a.mailbox below.waiting;
      running = running-more n m more a.running below.running;
      subs = All-weaken (λ (sub : ℕ). sub < n) (λ (sub : ℕ). sub < m) (λ sub here. omega arith) a.subs below.subs;
    }

pub numbered-more : (n m : ℕ) → n ≤ m → (grains : List (GrainId × PlainActivation)) → AllByRecursion (λ (g : GrainId × PlainActivation). IsBelow n g.1) grains → AllByRecursion (λ (g : GrainId × PlainActivation). IsBelow m g.1) grains
numbered-more n m more grains all =
    All-weaken (λ (g : GrainId × PlainActivation). IsBelow n g.1) (λ (g : GrainId × PlainActivation). IsBelow m g.1) (λ g. below-more n m more g.1) grains all
