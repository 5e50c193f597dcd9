-- A grain's mailbox and its turn.
use Rattle.std.specs.Prelude.{ℕ, suc, ◌+◌, ◌-◌, ◌^◌, min, Bool, true, false, ◌&&◌, ◌||◌, not, List, [], ◌∷◌, ◌++◌, length, drop, filter, Option, Some, None, is_some, ◌==◌, nat_lt, nat_le, if◌then◌else◌}
use Rattle.std.specs.List.{list_any}
use Rattle.consumer_grain.specs.declared.mailbox.Delivery.{Delivery}
use Rattle.consumer_grain.specs.declared.activation.RunningTurn.{RunningTurn}
use Rattle.consumer_grain.specs.declared.told.Offered.{Offered}
use Rattle.consumer_grain.specs.declared.told.Offered.TheVariants as offer
use Rattle.consumer_grain.specs.declared.told.Begun.{Begun}
use Rattle.consumer_grain.specs.declared.told.Begun.TheVariants as begun
use Rattle.consumer_grain.specs.declared.told.Ended.{Ended}
use Rattle.consumer_grain.specs.declared.told.Ended.TheVariants as ended
use Rattle.stream_ident.specs.Blocks.{turn_size}
use Rattle.stream_ident.specs.Words.{rising_front}
use Rattle.stream_ident.specs.declared.limits.TheConstants.{MAILBOX_PLACES}

-- how often it was activated, whether it is active, what waits for it, the oldest first, the turn that
-- runs, and the subscriptions that something was offered for, from the least number to the greatest
pub record PlainActivation : Type 0 where
  pub number : ℕ
  pub active : Bool
  pub mailbox : List Delivery
  pub running : Option RunningTurn
  pub subs : List ℕ

-- a grain that was never active
abbrev pub new_activation : PlainActivation
new_activation = record { number = 0; active = false; mailbox = []; running = None; subs = [] }

-- rising numbers with one more, unless it is there
abbrev pub with_number : ℕ → List ℕ → List ℕ
with_number n [] = n ∷ []
with_number n (m ∷ ms) = if nat_lt n m then n ∷ m ∷ ms else if n == m then m ∷ ms else m ∷ with_number n ms

abbrev pub without_number : ℕ → List ℕ → List ℕ
without_number n ms = filter (λ m. not (n == m)) ms

-- the number of the next activation: one more, up to the greatest of 64 bits
abbrev pub next_activation : ℕ → ℕ
next_activation number = min (suc number) (2 ^ 64 - 1)

-- active, with one more delivery; the activation has the next number where it wasn't active
abbrev pub woken : PlainActivation → Delivery → PlainActivation
woken a delivery =
    record {
      number = if a.active then a.number else next_activation a.number;
      active = true;
      mailbox = a.mailbox ++ delivery ∷ [];
      running = a.running;
      subs = with_number delivery.sub a.subs;
    }

-- a delivery is taken, or refused where the mailbox is full
abbrev pub offered : PlainActivation → Delivery → PlainActivation × Offered
offered a delivery = if nat_le MAILBOX_PLACES (length a.mailbox) then (a, offer.MailboxFull) else (woken a delivery, offer.Delivered)

abbrev pub is_in : List ℕ → ℕ → Bool
is_in numbers number = list_any (λ n. n == number) numbers

-- A delivery that is taken and is the first of its subscription. Only this may take memory.
abbrev pub offer_takes_memory : PlainActivation → Delivery → Bool
offer_takes_memory a delivery = not (nat_le MAILBOX_PLACES (length a.mailbox)) && not (is_in a.subs delivery.sub)

-- the positions of the longest front of the deliveries, at most n, that are all of one subscription and
-- rise from this position on
abbrev pub front_of : ℕ → ℕ → ℕ → List Delivery → List ℕ
front_of n sub from deliveries = rising_front (λ a b. a == b) (λ (d : Delivery). d.sub) (λ (d : Delivery). d.position) n sub from deliveries

abbrev pub started : PlainActivation → ℕ → ℕ → List ℕ → PlainActivation
started a sub turn positions =
    record a {
      mailbox = drop (length positions) a.mailbox;
      running = Some (record { sub = sub; turn = turn; positions = positions });
    }

abbrev pub begin_turn : PlainActivation → ℕ → List ℕ → ℕ → PlainActivation × Begun
begin_turn a sub positions turn = (started a sub turn positions, begun.Turn sub positions)

-- a repeat, which isn't past what its subscription has handled, leaves the mailbox alone
abbrev pub begin_front : PlainActivation → ℕ → ℕ → ℕ → List Delivery → PlainActivation × Begun
begin_front a past turn size [] = (a, begun.Empty)
begin_front a past turn size (d ∷ deliveries) =
    if nat_lt d.position past then (record a { mailbox = deliveries }, begun.Dropped d)
    else begin_turn a d.sub (front_of size d.sub d.position a.mailbox) turn

-- How a turn begins with the front deliveries. The number `past` is one past the last position that their
-- subscription has handled.
abbrev pub begin : PlainActivation → ℕ → ℕ → ℕ → PlainActivation × Begun
begin a past turn max_events =
    if is_some a.running then (a, begun.Busy)
    else if not a.active then (a, begun.Empty)
    else begin_front a past turn (turn_size max_events) a.mailbox

abbrev pub is_front_new : ℕ → List Delivery → Bool
is_front_new past [] = false
is_front_new past (d ∷ deliveries) = not (nat_lt d.position past)

-- whether a turn would begin
abbrev pub can_begin : PlainActivation → ℕ → Bool
can_begin a past = not (is_some a.running) && (a.active && is_front_new past a.mailbox)

abbrev pub is_turn : ℕ → ℕ → ℕ → Option RunningTurn → Bool
is_turn own activation turn None = false
is_turn own activation turn (Some run) = (activation == own) && (turn == run.turn)

-- the turn that runs, if it is this turn of this activation
abbrev pub current_turn : PlainActivation → ℕ → ℕ → Option RunningTurn
current_turn a activation turn = if is_turn a.number activation turn a.running then a.running else None

-- no turn runs any more
abbrev pub without_turn : PlainActivation → PlainActivation
without_turn a = record a { running = None }

abbrev pub commit_turn : PlainActivation → Option RunningTurn → PlainActivation × Ended
commit_turn a None = (a, ended.Stale)
commit_turn a (Some run) = (without_turn a, ended.Turn run)

-- the turn that runs ends, if it is this turn of this activation
abbrev pub commit : PlainActivation → ℕ → ℕ → PlainActivation × Ended
commit a activation turn = commit_turn a (current_turn a activation turn)

-- a subscription's deliveries leave the mailbox; a running turn stays
abbrev pub forgotten : ℕ → PlainActivation → PlainActivation
forgotten sub a = record a { mailbox = filter (λ d. not (sub == d.sub)) a.mailbox; subs = without_number sub a.subs }

abbrev pub running_count : Option RunningTurn → ℕ
running_count None = 0
running_count (Some run) = length run.positions

-- how many deliveries a deactivation loses
abbrev pub lost : PlainActivation → ℕ
lost a = length a.mailbox + running_count a.running

-- nothing waits or runs any more
abbrev pub deactivated : PlainActivation → PlainActivation
deactivated a = record a { active = false; mailbox = []; running = None }

abbrev pub runs : ℕ → Option RunningTurn → Bool
runs sub None = false
runs sub (Some run) = sub == run.sub

-- a delivery of the subscription waits or runs
abbrev pub holds : ℕ → PlainActivation → Bool
holds sub a = list_any (λ (d : Delivery). sub == d.sub) a.mailbox || runs sub a.running
