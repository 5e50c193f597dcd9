-- A drain commits each turn that it begins: the number of the last turn rises by its commits.
use Rattle.stream_laws.proofs.Prelude.{◌≡◌, ◌∙◌, ap, sym, refl, ℕ, zero, suc, ◌+◌, ◌-◌, Bool, false, List, [], ◌∷◌, ◌++◌, length, filter, Option, Some, None, if◌then◌else◌, arith, filter-append, GrainId, SubName, Token, Progress, Stop, after_ack, after_begin, after_commit, after_last_deliver, all_waiting, and_then, ask, commits, drain_round, empty_mailboxes, go_on, is_commit, last_handled, least_waiting, next_note, open_names, sub_at, Reply, Op, Pull, Deliver, Ack, Begin, Commit, PlainPartition, Subscription}
use Rattle.std.proofs.Common.{length-append}
use Rattle.stream_model.specs.declared.reply.Reply.TheVariants as reply
use Rattle.stream_model.specs.Draining.{acknowledge, after_deliver, after_pull, deliver_all, deliver_once_more, drain_all, serve, serve_each, take_turn, take_turns}
use Rattle.stream_model.specs.History.{Entry}
use Rattle.stream_model.specs.Step.{step}
use Rattle.stream_laws.proofs.TurnNumbers.{Stays, handed_out, rises-begin, stays-ack, stays-commit, stays-deliver, stays-pull}

commits-append : (xs ys : List Entry) → commits (xs ++ ys) ≡ commits xs + commits ys
commits-append xs ys =
    ap length (filter-append (λ (e : Entry). is_commit e.op) xs ys)
    ∙ length-append (filter (λ (e : Entry). is_commit e.op) xs) (filter (λ (e : Entry). is_commit e.op) ys)

-- the number of the last turn rises by the commits
abbrev pub Counts : PlainPartition → Progress → Type 0
Counts p m = m.now.turns ≡ p.turns + commits m.entries

counts-go_on : (p : PlainPartition) (entries : List Entry) (q : PlainPartition) (stop : Option Stop) (next : PlainPartition → Progress) → q.turns ≡ p.turns + commits entries → ((r : PlainPartition) → Counts r (next r)) → Counts p (go_on entries q stop next)
counts-go_on p entries q None next first later =
    let rest = later q in
    let both = commits-append entries (next q).entries in
    omega (arith, first, rest, both)
counts-go_on p entries q (Some why) next first later = first

counts-and_then : (p : PlainPartition) (m : Progress) (next : PlainPartition → Progress) → Counts p m → ((r : PlainPartition) → Counts r (next r)) → Counts p (and_then m next)
counts-and_then p m next first later = counts-go_on p m.entries m.now m.stop next first later

-- nothing is done
counts-none : (p : PlainPartition) → p.turns ≡ p.turns + 0
counts-none p = omega arith

-- the commits of a list whose first entry is one or isn't
abbrev commits_by : Bool → Entry → List Entry → ℕ
commits_by b e entries = length (if b then e ∷ filter (λ e. is_commit e.op) entries else filter (λ e. is_commit e.op) entries)

-- an operation that is no commit and hands out no turn
counts-ask : (p : PlainPartition) (op : Op) (next : PlainPartition → Reply → Progress) → is_commit op ≡ false → Stays p (step p op) → ((q : PlainPartition) (answer : Reply) → Counts q (next q answer)) → Counts p (ask p op next)
counts-ask p op next none stays later =
    let rest = later (step p op).0 (step p op).1 in
    let own = ap (λ b. commits_by b (record { op = op; reply = (step p op).1 }) (next (step p op).0 (step p op).1).entries) none in
    rest ∙ ap (λ turns. turns + commits (next (step p op).0 (step p op).1).entries) stays ∙ ap (λ n. p.turns + n) (sym own)

-- a commit
counts-after_commit : (p : PlainPartition) (answer : Reply) → Counts p (after_commit p answer)
counts-after_commit p (reply.Committed s token) = counts-none p
counts-after_commit p _ = counts-none p

counts-commit : (p : PlainPartition) (g : GrainId) (activation turn note : ℕ) → (ask p (Commit g activation turn note) after_commit).now.turns + 1 ≡ p.turns + commits (ask p (Commit g activation turn note) after_commit).entries
unfolding step
counts-commit p g activation turn note =
    let stays : (step p (Commit g activation turn note)).0.turns ≡ p.turns = stays-commit p g activation turn note in
    let rest = counts-after_commit (step p (Commit g activation turn note)).0 (step p (Commit g activation turn note)).1 in
    omega (arith, stays, rest)

-- what follows the reply to a Begin commits the turn, where one was handed out
counts-after_begin : (g : GrainId) (turns : ℕ) (q : PlainPartition) (answer : Reply) → q.turns ≡ turns + handed_out answer → (after_begin g q answer).now.turns ≡ turns + commits (after_begin g q answer).entries
counts-after_begin g turns q (reply.Turn s activation turn events note) rises =
    let rest = counts-commit q g activation turn (next_note note) in omega (arith, rises, rest)
counts-after_begin g turns q (reply.Dropped s token) rises = rises
counts-after_begin g turns q reply.Spent rises = rises
counts-after_begin g turns q _ rises = rises

counts-take_turn : (g : GrainId) (p : PlainPartition) → Counts p (take_turn g p)
unfolding take_turn step
counts-take_turn g p = counts-after_begin g p.turns (step p (Begin g 1)).0 (step p (Begin g 1)).1 (rises-begin p g 1)

counts-take_turns : (n : ℕ) (p : PlainPartition) (g : Option GrainId) → Counts p (take_turns n p g)
unfolding take_turns
counts-take_turns n p None = counts-none p
counts-take_turns zero p (Some g) = counts-none p
counts-take_turns (suc n) p (Some g) = counts-and_then p (take_turn g p) (λ q. take_turns n q (least_waiting q)) (counts-take_turn g p) (λ q. counts-take_turns n q (least_waiting q))

counts-deliver : (p : PlainPartition) (s : SubName) (next : PlainPartition → Reply → Progress) → ((q : PlainPartition) (answer : Reply) → Counts q (next q answer)) → Counts p (ask p (Deliver p.generation s) next)
unfolding step
counts-deliver p s next later = counts-ask p (Deliver p.generation s) next refl (stays-deliver p p.generation s) later

counts-after_deliver : (n : ℕ) (s : SubName) (g : GrainId) (p : PlainPartition) (answer : Reply) → Counts p (after_deliver n s g p answer)
unfolding after_deliver
counts-after_deliver n s g p reply.Nothing = counts-none p
counts-after_deliver n s g p reply.Spent = counts-none p
counts-after_deliver zero s g p _ = counts-none p
counts-after_deliver (suc n) s g p (reply.Delivered token) =
    counts-and_then p (take_turn g p) (λ q. ask q (Deliver q.generation s) (λ r answer. after_deliver n s g r answer)) (counts-take_turn g p)
    (λ q. counts-deliver q s (λ r answer. after_deliver n s g r answer) (counts-after_deliver n s g))
counts-after_deliver (suc n) s g p _ = counts-none p

counts-deliver_all : (s : SubName) (r : Subscription) (p : PlainPartition) → Counts p (deliver_all s r p)
unfolding deliver_all
counts-deliver_all s r p = counts-deliver p s (λ q answer. after_deliver (p.high - r.cursor) s r.grain q answer) (counts-after_deliver (p.high - r.cursor) s r.grain)

counts-after_ack : (p : PlainPartition) (answer : Reply) → Counts p (after_ack p answer)
counts-after_ack p reply.Acked = counts-none p
counts-after_ack p _ = counts-none p

counts-acknowledge : (s : SubName) (p : PlainPartition) (token : Option Token) → Counts p (acknowledge s p token)
unfolding acknowledge step
counts-acknowledge s p None = counts-none p
counts-acknowledge s p (Some token) = counts-ask p (Ack p.generation s token) after_ack refl (stays-ack p p.generation s token) counts-after_ack

counts-after_last_deliver : (p : PlainPartition) (answer : Reply) → Counts p (after_last_deliver p answer)
counts-after_last_deliver p reply.Nothing = counts-none p
counts-after_last_deliver p _ = counts-none p

counts-deliver_once_more : (s : SubName) (p : PlainPartition) → Counts p (deliver_once_more s p)
unfolding deliver_once_more
counts-deliver_once_more s p = counts-deliver p s after_last_deliver counts-after_last_deliver

counts-serve : (s : SubName) (p : PlainPartition) (r : Option Subscription) → Counts p (serve s p r)
unfolding serve
counts-serve s p None = counts-none p
counts-serve s p (Some r) =
    counts-and_then p (deliver_all s r p) (λ q. and_then (acknowledge s q (last_handled q (sub_at q s))) (deliver_once_more s)) (counts-deliver_all s r p)
    (λ q. counts-and_then q (acknowledge s q (last_handled q (sub_at q s))) (deliver_once_more s) (counts-acknowledge s q (last_handled q (sub_at q s))) (counts-deliver_once_more s))

counts-serve_each : (names : List SubName) (p : PlainPartition) → Counts p (serve_each names p)
unfolding serve_each
counts-serve_each [] p = counts-none p
counts-serve_each (s ∷ names) p = counts-and_then p (serve s p (sub_at p s)) (serve_each names) (counts-serve s p (sub_at p s)) (counts-serve_each names)

counts-drain_round : (p : PlainPartition) → Counts p (drain_round p)
counts-drain_round p =
    counts-and_then p (empty_mailboxes p) (λ q. serve_each (open_names q) q) (counts-take_turns (all_waiting p) p (least_waiting p)) (λ q. counts-serve_each (open_names q) q)

counts-pull : (p : PlainPartition) (next : PlainPartition → Reply → Progress) → ((q : PlainPartition) (answer : Reply) → Counts q (next q answer)) → Counts p (ask p (Pull p.generation 32) next)
unfolding step
counts-pull p next later = counts-ask p (Pull p.generation 32) next refl (stays-pull p p.generation 32) later

counts-after_pull : (n : ℕ) (p : PlainPartition) (answer : Reply) → Counts p (after_pull n p answer)
unfolding after_pull
counts-after_pull n p reply.Dry = counts-none p
counts-after_pull n p reply.TooMany = counts-none p
counts-after_pull zero p _ = counts-none p
counts-after_pull (suc n) p (reply.Pulled count low high) =
    counts-and_then p (drain_round p) (λ q. ask q (Pull q.generation 32) (λ r answer. after_pull n r answer)) (counts-drain_round p)
    (λ q. counts-pull q (λ r answer. after_pull n r answer) (counts-after_pull n))
counts-after_pull (suc n) p _ = counts-none p

pub counts-drain_all : (p : PlainPartition) → Counts p (drain_all p)
unfolding drain_all
counts-drain_all p =
    counts-and_then p (drain_round p) (λ q. ask q (Pull q.generation 32) (λ r answer. after_pull (length p.log - p.high) r answer)) (counts-drain_round p)
    (λ q. counts-pull q (λ r answer. after_pull (length p.log - p.high) r answer) (counts-after_pull (length p.log - p.high)))

-- so the commits of a drain are the turns since
pub turns-since : (p new : PlainPartition) → new ≡ (drain_all p).now → new.turns ≡ p.turns + commits (drain_all p).entries
turns-since p new is = ap (λ (q : PlainPartition). q.turns) is ∙ counts-drain_all p
