-- The number of the last turn: it rises by one with each turn that is handed out, and with nothing else.
use Rattle.stream_laws.proofs.Prelude.{◌≡◌, refl, ℕ, ◌+◌, ◌-◌, ◌*◌, min, ◌==◌, ◌&&◌, not, nat_lt, nat_le, List, [], ◌∷◌, length, Option, Some, None, is_some, arith, cond_both, pull_size, turn_size, past, GrainId, SubName, BLOCK_EVENTS, MAILBOX_PLACES, Token, between, grain_at, is_spent, next_position, sub_at, drops, handled_at, is_stale, room, subs_with, Reply, Delivery, Grain, PlainPartition, RunningTurn, Subscription}
use Rattle.stream_model.specs.declared.reply.Reply.TheVariants as reply
use Rattle.stream_model.specs.Pulling.{ack, ack_of, ack_position, deliver, deliver_position, deliver_to, pull, pull_count, pull_events, pull_want}
use Rattle.stream_model.specs.Turns.{begin, begin_for, begin_front, begin_in, begin_turn, commit, commit_for, commit_running}

-- how many turns a reply hands out
abbrev pub handed_out : Reply → ℕ
handed_out (reply.Turn s activation turn events note) = 1
handed_out _ = 0

abbrev pub Rises : PlainPartition → PlainPartition × Reply → Type 0
Rises p out = out.0.turns ≡ p.turns + handed_out out.1

rises-begin_for : (p : PlainPartition) (g : GrainId) (n : ℕ) (st : Grain) (d : Delivery) (deliveries : List Delivery) (found : Option Subscription) → Rises p (begin_for p g n st d deliveries found)
unfolding begin_for begin_turn
rises-begin_for p g n st d deliveries None = omega arith
rises-begin_for p g n st d deliveries (Some r) =
    cond_both (nat_lt d.position (past r.handled)) _ _ (Rises p) (λ _. omega arith)
    (λ _. cond_both (is_spent p) _ _ (Rises p) (λ _. omega arith) (λ _. omega arith))

rises-begin_front : (p : PlainPartition) (g : GrainId) (n : ℕ) (st : Grain) (deliveries : List Delivery) → Rises p (begin_front p g n st deliveries)
unfolding begin_front
rises-begin_front p g n st [] = omega arith
rises-begin_front p g n st (d ∷ deliveries) = rises-begin_for p g n st d deliveries (sub_at p d.sub)

rises-begin_in : (p : PlainPartition) (g : GrainId) (n : ℕ) (st : Grain) → Rises p (begin_in p g n st)
unfolding begin_in
rises-begin_in p g n st =
    cond_both (is_some st.running) _ _ (Rises p) (λ _. omega arith)
    (λ _. cond_both (not st.active) _ _ (Rises p) (λ _. omega arith) (λ _. rises-begin_front p g n st st.mailbox))

pub rises-begin : (p : PlainPartition) (g : GrainId) (n : ℕ) → Rises p (begin p g n)
unfolding begin
rises-begin p g n = rises-begin_in p g (turn_size n) (grain_at p g)

abbrev pub Stays : PlainPartition → PlainPartition × Reply → Type 0
Stays p out = out.0.turns ≡ p.turns

stays-commit_for : (p : PlainPartition) (g : GrainId) (st : Grain) (run : RunningTurn) (note : ℕ) (found : Option Subscription) → Stays p (commit_for p g st run note found)
unfolding commit_for
stays-commit_for p g st run note None = refl
stays-commit_for p g st run note (Some r) = cond_both (not r.is_open) _ _ (Stays p) (λ _. refl) (λ _. refl)

stays-commit_running : (p : PlainPartition) (g : GrainId) (st : Grain) (activation turn note : ℕ) (running : Option RunningTurn) → Stays p (commit_running p g st activation turn note running)
unfolding commit_running
stays-commit_running p g st activation turn note None = refl
stays-commit_running p g st activation turn note (Some run) =
    cond_both ((activation == st.activation) && (turn == run.turn)) _ _ (Stays p) (λ _. stays-commit_for p g st run note (sub_at p run.sub)) (λ _. refl)

pub stays-commit : (p : PlainPartition) (g : GrainId) (activation turn note : ℕ) → Stays p (commit p g activation turn note)
unfolding commit
stays-commit p g activation turn note = stays-commit_running p g (grain_at p g) activation turn note (grain_at p g).running

stays-deliver_position : (p : PlainPartition) (s : SubName) (r : Subscription) (st : Grain) (next : Option ℕ) → Stays p (deliver_position p s r st next)
unfolding deliver_position
stays-deliver_position p s r st None = refl
stays-deliver_position p s r st (Some position) =
    cond_both (nat_le MAILBOX_PLACES (length st.mailbox)) _ _ (Stays p) (λ _. refl)
    (λ _. cond_both (not st.active && is_spent p) _ _ (Stays p) (λ _. refl) (λ _. refl))

stays-deliver_to : (p : PlainPartition) (s : SubName) (found : Option Subscription) → Stays p (deliver_to p s found)
unfolding deliver_to
stays-deliver_to p s None = refl
stays-deliver_to p s (Some r) =
    cond_both (not r.is_open) _ _ (Stays p) (λ _. refl) (λ _. stays-deliver_position p s r (grain_at p r.grain) (next_position p r))

pub stays-deliver : (p : PlainPartition) (generation : ℕ) (s : SubName) → Stays p (deliver p generation s)
unfolding deliver
stays-deliver p generation s = cond_both (is_stale p generation) _ _ (Stays p) (λ _. refl) (λ _. stays-deliver_to p s (sub_at p s))

stays-pull_events : (p : PlainPartition) (low high : ℕ) (subs : List (SubName × Subscription)) → Stays p (pull_events p low high subs)
unfolding pull_events
stays-pull_events p low high subs = cond_both (nat_lt p.limits.subs (length subs)) _ _ (Stays p) (λ _. refl) (λ _. refl)

stays-pull_want : (p : PlainPartition) (want : ℕ) → Stays p (pull_want p want)
unfolding pull_want pull_count
stays-pull_want p want =
    let count = min want (room p + BLOCK_EVENTS * drops p want) in
    cond_both (count == 0) _ _ (Stays p) (λ _. refl)
    (λ _. stays-pull_events p (p.low + BLOCK_EVENTS * drops p want) (p.high + count) (subs_with p.rules p.high p.subs (between p.log p.high (p.high + count))))

pub stays-pull : (p : PlainPartition) (generation max_events : ℕ) → Stays p (pull p generation max_events)
unfolding pull
stays-pull p generation max_events =
    cond_both (is_stale p generation) _ _ (Stays p) (λ _. refl)
    (λ _. cond_both (p.high == length p.log) _ _ (Stays p) (λ _. refl) (λ _. stays-pull_want p (min (pull_size max_events) (length p.log - p.high))))

stays-ack_position : (p : PlainPartition) (s : SubName) (r : Subscription) (positions : List ℕ) → Stays p (ack_position p s r positions)
unfolding ack_position
stays-ack_position p s r [] = refl
stays-ack_position p s r (position ∷ positions) = refl

stays-ack_of : (p : PlainPartition) (s : SubName) (token : Token) (found : Option Subscription) → Stays p (ack_of p s token found)
unfolding ack_of
stays-ack_of p s token None = refl
stays-ack_of p s token (Some r) = cond_both (not r.is_open) _ _ (Stays p) (λ _. refl) (λ _. stays-ack_position p s r (handled_at p r token))

pub stays-ack : (p : PlainPartition) (generation : ℕ) (s : SubName) (token : Token) → Stays p (ack p generation s token)
unfolding ack
stays-ack p generation s token = cond_both (is_stale p generation) _ _ (Stays p) (λ _. refl) (λ _. stays-ack_of p s token (sub_at p s))
