-- To serve a subscription makes, opens and closes none: the names stay as they are, and so do those of the open ones.
use Rattle.step_core.proofs.Prelude.{◌≡◌, ◌∙◌, ap, sym, refl, ℕ, zero, suc, ◌-◌, nat_lt, nat_le, ◌==◌, ◌&&◌, not, Bool, List, [], ◌∷◌, ◌++◌, length, filter, map, Option, Some, None, cond_both, turn_size, same_sub, sub_lt, keys_where, past, GrainId, StreamId, SubName, MAILBOX_PLACES, Token, Progress, after_ack, after_begin, after_commit, after_last_deliver, and_then, ask, go_on, in_order, last_handled, next_note, open_names, grain_at, is_spent, next_position, sub_at, acknowledged, is_stale, Reply, Op, Ack, Begin, Commit, Deliver, Grain, PlainPartition, Subscription, is_some}
use Rattle.stream_model.specs.declared.plain.Delivery.{Delivery}
use Rattle.stream_model.specs.declared.plain.RunningTurn.{RunningTurn}
use Rattle.stream_model.specs.declared.reply.Reply.TheVariants as reply
use Rattle.stream_model.specs.Draining as draining
use Rattle.stream_model.specs.Draining.{acknowledge, after_deliver, deliver_all, deliver_once_more, serve, take_turn}
use Rattle.stream_model.specs.Pulling.{ack, ack_of, ack_position, caught_up, deliver, deliver_position, deliver_to, handled_at}
use Rattle.stream_model.specs.Step.{step}
use Rattle.stream_model.specs.Turns.{begin, begin_for, begin_front, begin_in, begin_turn, commit, commit_for, commit_running}
use Rattle.step_core.specs.DrainPhases.{Ends}
use Rattle.step_core.specs.Serving.{names_of}
use Rattle.step_core.proofs.OnceOps.{with_value-map}
use Rattle.step_core.proofs.Shared.{taken-alike}

abbrev pub open_keys : PlainPartition → List SubName
open_keys p = keys_where (λ (r : Subscription). r.is_open) p.subs

-- who is subscribed to what, from when on, and whether it is open
pub record Face : Type 0 where
  pub name : SubName
  pub stream : StreamId
  pub grain : GrainId
  pub start : Token
  pub is_open : Bool

abbrev pub face : SubName × Subscription → Face
face entry = record { name = entry.0; stream = entry.1.stream; grain = entry.1.grain; start = entry.1.start; is_open = entry.1.is_open }

abbrev pub faces : PlainPartition → List Face
faces p = map face p.subs

-- an operation leaves the faces, the rules and the last number as they were
abbrev pub StayIn : PlainPartition → PlainPartition × Reply → Type 0
StayIn p out = (faces out.0 ≡ faces p) × (out.0.rules ≡ p.rules) × (out.0.explicit ≡ p.explicit)

-- the names of all, and of the open ones
names-of-faces : (subs : List (SubName × Subscription)) → map (λ (e : SubName × Subscription). e.0) subs ≡ map (λ (f : Face). f.name) (map face subs)
names-of-faces [] = refl
names-of-faces (entry ∷ subs) = ap (λ rest. entry.0 ∷ rest) (names-of-faces subs)

keys-of-faces : (subs : List (SubName × Subscription)) → keys_where (λ (r : Subscription). r.is_open) subs ≡ map (λ (f : Face). f.name) (filter (λ (f : Face). f.is_open) (map face subs))
keys-of-faces [] = refl
keys-of-faces (entry ∷ subs) =
    taken-alike (λ (e : SubName × Subscription). e.0) (λ (f : Face). f.name) (λ (e : SubName × Subscription). e.1.is_open) (λ (f : Face). f.is_open) entry (face entry) subs (map face subs) refl refl (keys-of-faces subs)

-- ---- Deliver

stay-deliver_position : (p : PlainPartition) (s : SubName) (r : Subscription) (st : Grain) (next : Option ℕ) → sub_at p s ≡ Some r → StayIn p (deliver_position p s r st next)
unfolding deliver_position
stay-deliver_position p s r st None found = (with_value-map face same_sub s r (caught_up p s r) p.subs found (λ key. refl), refl, refl)
stay-deliver_position p s r st (Some position) found =
    cond_both (nat_le MAILBOX_PLACES (length st.mailbox)) _ _ (StayIn p) (λ _. (refl, refl, refl))
    (λ _. cond_both (not st.active && is_spent p) _ _ (StayIn p) (λ _. (refl, refl, refl))
    (λ _. (with_value-map face same_sub s r (record r { cursor = suc position }) p.subs found (λ key. refl), refl, refl)))

stay-deliver_to : (p : PlainPartition) (s : SubName) (found : Option Subscription) → sub_at p s ≡ found → StayIn p (deliver_to p s found)
unfolding deliver_to
stay-deliver_to p s None found = (refl, refl, refl)
stay-deliver_to p s (Some r) found =
    cond_both (not r.is_open) _ _ (StayIn p) (λ _. (refl, refl, refl)) (λ _. stay-deliver_position p s r (grain_at p r.grain) (next_position p r) found)

pub stay-deliver : (p : PlainPartition) (generation : ℕ) (s : SubName) → StayIn p (step p (Deliver generation s))
unfolding step deliver
stay-deliver p generation s = cond_both (is_stale p generation) _ _ (StayIn p) (λ _. (refl, refl, refl)) (λ _. stay-deliver_to p s (sub_at p s) refl)

-- ---- Ack

stay-ack_position : (p : PlainPartition) (s : SubName) (r : Subscription) (positions : List ℕ) → sub_at p s ≡ Some r → StayIn p (ack_position p s r positions)
unfolding ack_position
stay-ack_position p s r [] found = (refl, refl, refl)
stay-ack_position p s r (position ∷ positions) found = (with_value-map face same_sub s r (acknowledged r position) p.subs found (λ key. refl), refl, refl)

stay-ack_of : (p : PlainPartition) (s : SubName) (token : Token) (found : Option Subscription) → sub_at p s ≡ found → StayIn p (ack_of p s token found)
unfolding ack_of
stay-ack_of p s token None found = (refl, refl, refl)
stay-ack_of p s token (Some r) found =
    cond_both (not r.is_open) _ _ (StayIn p) (λ _. (refl, refl, refl)) (λ _. stay-ack_position p s r (handled_at p r token) found)

pub stay-ack : (p : PlainPartition) (generation : ℕ) (s : SubName) (token : Token) → StayIn p (step p (Ack generation s token))
unfolding step ack
stay-ack p generation s token = cond_both (is_stale p generation) _ _ (StayIn p) (λ _. (refl, refl, refl)) (λ _. stay-ack_of p s token (sub_at p s) refl)

-- ---- Begin

stay-begin_for : (p : PlainPartition) (g : GrainId) (size : ℕ) (st : Grain) (d : Delivery) (deliveries : List Delivery) (found : Option Subscription) → StayIn p (begin_for p g size st d deliveries found)
unfolding begin_for begin_turn
stay-begin_for p g size st d deliveries None = (refl, refl, refl)
stay-begin_for p g size st d deliveries (Some r) =
    cond_both (nat_lt d.position (past r.handled)) _ _ (StayIn p) (λ _. (refl, refl, refl)) (λ _. cond_both (is_spent p) _ _ (StayIn p) (λ _. (refl, refl, refl)) (λ _. (refl, refl, refl)))

stay-begin_front : (p : PlainPartition) (g : GrainId) (size : ℕ) (st : Grain) (mailbox : List Delivery) → StayIn p (begin_front p g size st mailbox)
unfolding begin_front
stay-begin_front p g size st [] = (refl, refl, refl)
stay-begin_front p g size st (d ∷ deliveries) = stay-begin_for p g size st d deliveries (sub_at p d.sub)

pub stay-begin : (p : PlainPartition) (g : GrainId) (max_events : ℕ) → StayIn p (step p (Begin g max_events))
unfolding step begin begin_in
stay-begin p g max_events =
    let st = grain_at p g in
    cond_both (is_some st.running) _ _ (StayIn p) (λ _. (refl, refl, refl))
    (λ _. cond_both (not st.active) _ _ (StayIn p) (λ _. (refl, refl, refl)) (λ _. stay-begin_front p g (turn_size max_events) st st.mailbox))

-- ---- Commit

stay-commit_for : (p : PlainPartition) (g : GrainId) (st : Grain) (run : RunningTurn) (note : ℕ) (found : Option Subscription) → sub_at p run.sub ≡ found → StayIn p (commit_for p g st run note found)
unfolding commit_for
stay-commit_for p g st run note None found = (refl, refl, refl)
stay-commit_for p g st run note (Some r) found =
    cond_both (not r.is_open) _ _ (StayIn p) (λ _. (refl, refl, refl))
    (λ _. (with_value-map face same_sub run.sub r (record r { handled = r.handled ++ run.positions; note = note }) p.subs found (λ key. refl), refl, refl))

stay-commit_running : (p : PlainPartition) (g : GrainId) (st : Grain) (activation turn note : ℕ) (running : Option RunningTurn) → StayIn p (commit_running p g st activation turn note running)
unfolding commit_running
stay-commit_running p g st activation turn note None = (refl, refl, refl)
stay-commit_running p g st activation turn note (Some run) =
    cond_both ((activation == st.activation) && (turn == run.turn)) _ _ (StayIn p) (λ _. stay-commit_for p g st run note (sub_at p run.sub) refl) (λ _. (refl, refl, refl))

pub stay-commit : (p : PlainPartition) (g : GrainId) (activation turn note : ℕ) → StayIn p (step p (Commit g activation turn note))
unfolding step commit
stay-commit p g activation turn note = stay-commit_running p g (grain_at p g) activation turn note (grain_at p g).running

-- ---- the phases of a drain

-- the operations leave the names of the open subscriptions
abbrev Keeps : PlainPartition → Progress → Type 0
Keeps p m = faces m.now ≡ faces p

keeps-ask : (p : PlainPartition) (op : Op) (next : PlainPartition → Reply → Progress) → StayIn p (step p op) → ((q : PlainPartition) (answer : Reply) → Keeps q (next q answer)) → Keeps p (ask p op next)
keeps-ask p op next stay after = after (step p op).0 (step p op).1 ∙ stay.0

keeps-go_on : (p q : PlainPartition) (entries : List _) (end : Option draining.Stop) (next : PlainPartition → Progress) → faces q ≡ faces p → ((q : PlainPartition) → Keeps q (next q)) → Keeps p (go_on entries q end next)
keeps-go_on p q entries None next first after = after q ∙ first
keeps-go_on p q entries (Some why) next first after = first

keeps-and_then : (p : PlainPartition) (m : Progress) (next : PlainPartition → Progress) → Keeps p m → ((q : PlainPartition) → Keeps q (next q)) → Keeps p (and_then m next)
keeps-and_then p m next first after = keeps-go_on p m.now m.entries m.stop next first after

keeps-commit : (p : PlainPartition) (answer : Reply) → Keeps p (after_commit p answer)
keeps-commit p (reply.Committed s token) = refl
keeps-commit p _ = refl

keeps-begin : (g : GrainId) (p : PlainPartition) (answer : Reply) → Keeps p (after_begin g p answer)
keeps-begin g p (reply.Turn s activation turn events note) = keeps-ask p (Commit g activation turn (next_note note)) after_commit (stay-commit p g activation turn (next_note note)) keeps-commit
keeps-begin g p (reply.Dropped s token) = refl
keeps-begin g p reply.Spent = refl
keeps-begin g p _ = refl

keeps-take_turn : (g : GrainId) (p : PlainPartition) → Keeps p (take_turn g p)
unfolding take_turn
keeps-take_turn g p = keeps-ask p (Begin g 1) (after_begin g) (stay-begin p g 1) (keeps-begin g)

keeps-deliver : (n : ℕ) (s : SubName) (g : GrainId) (p : PlainPartition) (answer : Reply) → Keeps p (after_deliver n s g p answer)
unfolding after_deliver
keeps-deliver zero s g p (reply.Delivered token) = refl
keeps-deliver zero s g p reply.Nothing = refl
keeps-deliver zero s g p reply.Spent = refl
keeps-deliver zero s g p _ = refl
keeps-deliver (suc n) s g p (reply.Delivered token) =
    keeps-and_then p (take_turn g p) (λ q. ask q (Deliver q.generation s) (λ r answer. after_deliver n s g r answer)) (keeps-take_turn g p)
    (λ q. keeps-ask q (Deliver q.generation s) (λ r answer. after_deliver n s g r answer) (stay-deliver q q.generation s) (λ r answer. keeps-deliver n s g r answer))
keeps-deliver (suc n) s g p reply.Nothing = refl
keeps-deliver (suc n) s g p reply.Spent = refl
keeps-deliver (suc n) s g p _ = refl

keeps-last : (p : PlainPartition) (answer : Reply) → Keeps p (after_last_deliver p answer)
keeps-last p reply.Nothing = refl
keeps-last p _ = refl

keeps-once_more : (s : SubName) (p : PlainPartition) → Keeps p (deliver_once_more s p)
unfolding deliver_once_more
keeps-once_more s p = keeps-ask p (Deliver p.generation s) after_last_deliver (stay-deliver p p.generation s) keeps-last

keeps-ack : (p : PlainPartition) (answer : Reply) → Keeps p (after_ack p answer)
keeps-ack p reply.Acked = refl
keeps-ack p _ = refl

keeps-acknowledge : (s : SubName) (p : PlainPartition) (token : Option Token) → Keeps p (acknowledge s p token)
unfolding acknowledge
keeps-acknowledge s p None = refl
keeps-acknowledge s p (Some token) = keeps-ask p (Ack p.generation s token) after_ack (stay-ack p p.generation s token) keeps-ack

keeps-serve : (s : SubName) (p : PlainPartition) (found : Option Subscription) → Keeps p (serve s p found)
unfolding serve deliver_all
keeps-serve s p None = refl
keeps-serve s p (Some r) =
    keeps-and_then p (deliver_all s r p) (λ q. and_then (acknowledge s q (last_handled q (sub_at q s))) (deliver_once_more s))
    (keeps-ask p (Deliver p.generation s) (λ q answer. after_deliver (p.high - r.cursor) s r.grain q answer) (stay-deliver p p.generation s) (λ q answer. keeps-deliver (p.high - r.cursor) s r.grain q answer))
    (λ q. keeps-and_then q (acknowledge s q (last_handled q (sub_at q s))) (deliver_once_more s) (keeps-acknowledge s q (last_handled q (sub_at q s))) (keeps-once_more s))

-- a subscription that was served in full
served-faces : (p q : PlainPartition) (s : SubName) → Ends p q (Some None) (serve s p (sub_at p s)) → faces q ≡ faces p
served-faces p q s ends = ap faces ends.0 ∙ keeps-serve s p (sub_at p s)

pub served-keeps : (p q : PlainPartition) (s : SubName) → Ends p q (Some None) (serve s p (sub_at p s)) → open_names q ≡ open_names p
served-keeps p q s ends =
    ap (in_order sub_lt)
    (keys-of-faces q.subs ∙ ap (λ (fs : List Face). map (λ (f : Face). f.name) (filter (λ (f : Face). f.is_open) fs)) (served-faces p q s ends) ∙ sym (keys-of-faces p.subs))

pub served-names : (p q : PlainPartition) (s : SubName) → Ends p q (Some None) (serve s p (sub_at p s)) → names_of q ≡ names_of p
served-names p q s ends = names-of-faces q.subs ∙ ap (map (λ (f : Face). f.name)) (served-faces p q s ends) ∙ sym (names-of-faces p.subs)
