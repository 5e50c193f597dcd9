-- What a drain does is a run of steps, each entry with the reply of its step.
use Rattle.stream_laws.proofs.Prelude.{ℕ, zero, suc, ◌-◌, List, [], ◌∷◌, length, Option, Some, None, refl, grain_lt, keys_where, least, GrainId, SubName, Token, Progress, Stop, after_ack, after_begin, after_commit, after_last_deliver, all_waiting, and_then, ask, drain_round, drain_where, empty_mailboxes, go_on, last_handled, least_waiting, next_note, open_names, is_running, empty, sub_at, Reply, Leads, Op, Pull, Deliver, Ack, Begin, Commit, PlainPartition, Subscription}
use Rattle.stream_model.specs.declared.reply.Reply.TheVariants as reply
use Rattle.stream_model.specs.Draining.{acknowledge, after_deliver, after_pull, deliver_all, deliver_once_more, drain, drain_all, serve, serve_each, take_turn, take_turns}
use Rattle.stream_laws.specs.DrainLaws.{DrainStands}
use Rattle.stream_model.specs.History.{Entry}
use Rattle.stream_model.specs.Step.{step}
use Rattle.stream_model.proofs.Reaching.{leads-append}

-- the entries of what was done lead from p to the partition after it
abbrev pub LeadsOn : PlainPartition → Progress → Type 0
LeadsOn p m = Leads p m.entries m.now

leads-ask : (p : PlainPartition) (op : Op) (next : PlainPartition → Reply → Progress) → ((q : PlainPartition) (answer : Reply) → LeadsOn q (next q answer)) → LeadsOn p (ask p op next)
leads-ask p op next later = (refl, later (step p op).0 (step p op).1)

leads-go_on : (p : PlainPartition) (entries : List Entry) (q : PlainPartition) (stop : Option Stop) (next : PlainPartition → Progress) → Leads p entries q → ((r : PlainPartition) → LeadsOn r (next r)) → LeadsOn p (go_on entries q stop next)
leads-go_on p entries q None next first later = leads-append p q (next q).now entries (next q).entries first (later q)
leads-go_on p entries q (Some why) next first later = first

leads-and_then : (p : PlainPartition) (m : Progress) (next : PlainPartition → Progress) → LeadsOn p m → ((r : PlainPartition) → LeadsOn r (next r)) → LeadsOn p (and_then m next)
leads-and_then p m next first later = leads-go_on p m.entries m.now m.stop next first later

leads-after_commit : (p : PlainPartition) (answer : Reply) → LeadsOn p (after_commit p answer)
leads-after_commit p (reply.Committed s token) = refl
leads-after_commit p answer = refl

leads-after_begin : (g : GrainId) (p : PlainPartition) (answer : Reply) → LeadsOn p (after_begin g p answer)
leads-after_begin g p (reply.Turn s activation turn events note) = leads-ask p (Commit g activation turn (next_note note)) after_commit leads-after_commit
leads-after_begin g p (reply.Dropped s token) = refl
leads-after_begin g p reply.Spent = refl
leads-after_begin g p answer = refl

leads-take_turn : (g : GrainId) (p : PlainPartition) → LeadsOn p (take_turn g p)
unfolding take_turn
leads-take_turn g p = leads-ask p (Begin g 1) (after_begin g) (leads-after_begin g)

leads-take_turns : (n : ℕ) (p : PlainPartition) (g : Option GrainId) → LeadsOn p (take_turns n p g)
unfolding take_turns
leads-take_turns n p None = refl
leads-take_turns zero p (Some g) = refl
leads-take_turns (suc n) p (Some g) = leads-and_then p (take_turn g p) (λ q. take_turns n q (least_waiting q)) (leads-take_turn g p) (λ q. leads-take_turns n q (least_waiting q))

leads-after_deliver : (n : ℕ) (s : SubName) (g : GrainId) (p : PlainPartition) (answer : Reply) → LeadsOn p (after_deliver n s g p answer)
unfolding after_deliver
leads-after_deliver n s g p reply.Nothing = refl
leads-after_deliver n s g p reply.Spent = refl
leads-after_deliver zero s g p answer = refl
leads-after_deliver (suc n) s g p (reply.Delivered token) =
    leads-and_then p (take_turn g p) (λ q. ask q (Deliver q.generation s) (λ r answer. after_deliver n s g r answer)) (leads-take_turn g p)
    (λ q. leads-ask q (Deliver q.generation s) (λ r answer. after_deliver n s g r answer) (leads-after_deliver n s g))
leads-after_deliver (suc n) s g p answer = refl

leads-deliver_all : (s : SubName) (r : Subscription) (p : PlainPartition) → LeadsOn p (deliver_all s r p)
unfolding deliver_all
leads-deliver_all s r p = leads-ask p (Deliver p.generation s) (λ q answer. after_deliver (p.high - r.cursor) s r.grain q answer) (leads-after_deliver (p.high - r.cursor) s r.grain)

leads-after_ack : (p : PlainPartition) (answer : Reply) → LeadsOn p (after_ack p answer)
leads-after_ack p reply.Acked = refl
leads-after_ack p answer = refl

leads-acknowledge : (s : SubName) (p : PlainPartition) (token : Option Token) → LeadsOn p (acknowledge s p token)
unfolding acknowledge
leads-acknowledge s p None = refl
leads-acknowledge s p (Some token) = leads-ask p (Ack p.generation s token) after_ack leads-after_ack

leads-after_last_deliver : (p : PlainPartition) (answer : Reply) → LeadsOn p (after_last_deliver p answer)
leads-after_last_deliver p reply.Nothing = refl
leads-after_last_deliver p answer = refl

leads-deliver_once_more : (s : SubName) (p : PlainPartition) → LeadsOn p (deliver_once_more s p)
unfolding deliver_once_more
leads-deliver_once_more s p = leads-ask p (Deliver p.generation s) after_last_deliver leads-after_last_deliver

leads-serve : (s : SubName) (p : PlainPartition) (r : Option Subscription) → LeadsOn p (serve s p r)
unfolding serve
leads-serve s p None = refl
leads-serve s p (Some r) =
    leads-and_then p (deliver_all s r p) (λ q. and_then (acknowledge s q (last_handled q (sub_at q s))) (deliver_once_more s)) (leads-deliver_all s r p)
    (λ q. leads-and_then q (acknowledge s q (last_handled q (sub_at q s))) (deliver_once_more s) (leads-acknowledge s q (last_handled q (sub_at q s))) (leads-deliver_once_more s))

leads-serve_each : (names : List SubName) (p : PlainPartition) → LeadsOn p (serve_each names p)
unfolding serve_each
leads-serve_each [] p = refl
leads-serve_each (s ∷ names) p = leads-and_then p (serve s p (sub_at p s)) (serve_each names) (leads-serve s p (sub_at p s)) (leads-serve_each names)

leads-drain_round : (p : PlainPartition) → LeadsOn p (drain_round p)
leads-drain_round p =
    leads-and_then p (empty_mailboxes p) (λ q. serve_each (open_names q) q) (leads-take_turns (all_waiting p) p (least_waiting p)) (λ q. leads-serve_each (open_names q) q)

leads-after_pull : (n : ℕ) (p : PlainPartition) (answer : Reply) → LeadsOn p (after_pull n p answer)
unfolding after_pull
leads-after_pull n p reply.Dry = refl
leads-after_pull n p reply.TooMany = refl
leads-after_pull zero p answer = refl
leads-after_pull (suc n) p (reply.Pulled count low high) =
    leads-and_then p (drain_round p) (λ q. ask q (Pull q.generation 32) (λ r answer. after_pull n r answer)) (leads-drain_round p)
    (λ q. leads-ask q (Pull q.generation 32) (λ r answer. after_pull n r answer) (leads-after_pull n))
leads-after_pull (suc n) p answer = refl

leads-drain_all : (p : PlainPartition) → LeadsOn p (drain_all p)
unfolding drain_all
leads-drain_all p =
    leads-and_then p (drain_round p) (λ q. ask q (Pull q.generation 32) (λ r answer. after_pull (length p.log - p.high) r answer)) (leads-drain_round p)
    (λ q. leads-ask q (Pull q.generation 32) (λ r answer. after_pull (length p.log - p.high) r answer) (leads-after_pull (length p.log - p.high)))

leads-drain_where : (p : PlainPartition) (g : Option GrainId) → LeadsOn p (drain_where p g).0
leads-drain_where p None = leads-drain_all p
leads-drain_where p (Some g) = refl

pub drain-stands : DrainStands
unfolding drain
drain-stands blocks limits history p stands =
    leads-append (empty blocks limits) p (drain p).0.now history (drain p).0.entries stands (leads-drain_where p (least grain_lt (keys_where is_running p.grains)))
