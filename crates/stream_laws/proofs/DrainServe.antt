-- A round of a drain: the mailboxes emptied, and each open subscription served.
use Rattle.stream_laws.proofs.Prelude.{◌≡◌, ℕ, ◌≤◌, true, false, List, [], ◌∷◌, Option, Some, refl, sym, subst, arith, ◌∙◌, both_ways, or_from, AllByRecursion, list_any, All-weaken, same_sub-equal, sub_equality, same_sub, sub_lt, keys_where, SubName, and_then, drain_round, empty_mailboxes, last_handled, open_names, sub_at, PlainPartition, Subscription}
use Rattle.stream_model.specs.Draining.{acknowledge, deliver_all, deliver_once_more, serve, serve_each}
use Rattle.stream_laws.proofs.DrainAck.{IsAcked, IsSettled, meets-acknowledge, meets-deliver_once_more}
use Rattle.stream_laws.proofs.DrainBase.{IsSound}
use Rattle.stream_laws.proofs.IdleGrains.{IsEmptied}
use Rattle.stream_laws.proofs.KeyLists.{All-in_order, All-keys_where, any-in_order, any-keys_where, each-entry}
use Rattle.stream_laws.proofs.DrainMail.{EmptiedSound, meets-empty_mailboxes}
use Rattle.stream_laws.proofs.DrainRule.{Meets, Tally, meets-and_then, meets-weaken}
use Rattle.stream_laws.proofs.DrainServing.{IsSeen, IsServing, ServingSound, meets-deliver_all, serving-later}
use Rattle.stream_laws.proofs.Summary.{Summary}
use Rattle.stream_laws.proofs.Unique.{AreUnique}

-- one open subscription
meets-serve : (cache : ℕ) (t0 : Summary) (s : SubName) (t : Tally) (p : PlainPartition) (r : Subscription) → IsSound cache t0 t p → IsEmptied p → sub_at p s ≡ Some r → r.is_open ≡ true
    → Meets (ServingSound IsSettled cache t0 p s) t (serve s p (Some r))
unfolding serve
meets-serve cache t0 s t p r sound empty found is_open =
    meets-and_then (ServingSound IsSeen cache t0 p s) (ServingSound IsSettled cache t0 p s) t (deliver_all s r p) (λ q. and_then (acknowledge s q (last_handled q (sub_at q s))) (deliver_once_more s))
    (meets-deliver_all cache t0 s t p r sound empty found is_open)
    (λ u q seen. meets-and_then (ServingSound IsAcked cache t0 q s) (ServingSound IsSettled cache t0 p s) u (acknowledge s q (last_handled q (sub_at q s))) (deliver_once_more s)
    (meets-acknowledge cache t0 s u q seen.1.now seen.0 seen.1.emptied seen.1.found seen.1.is_open seen.1.fact)
    (λ v w acked. meets-weaken (ServingSound IsSettled cache t0 w s) (ServingSound IsSettled cache t0 p s) v (deliver_once_more s w)
    (λ x z settled. (settled.0, serving-later IsSeen IsSettled p q z s seen.1 (serving-later IsAcked IsSettled q w z s acked.1 settled.1)))
    (meets-deliver_once_more cache t0 s v w acked.1.now acked.0 acked.1.emptied acked.1.found acked.1.is_open acked.1.fact)))

-- a name of an open subscription
pub record IsOpenAt (p : PlainPartition) (s : SubName) : Type 0 where
  pub record_of : Subscription
  pub found : sub_at p s ≡ Some record_of
  pub is_open : record_of.is_open ≡ true

-- the resumes of the open subscriptions, other than these, stand at or past the cache's end
abbrev SettledBut : PlainPartition → List SubName → Type 0
SettledBut p names = (s : SubName) (r : Subscription) → sub_at p s ≡ Some r → r.is_open ≡ true → list_any (same_sub s) names ≡ false → p.high ≤ r.resume

abbrev pub AllSettled : PlainPartition → Type 0
AllSettled p = (s : SubName) (r : Subscription) → sub_at p s ≡ Some r → r.is_open ≡ true → p.high ≤ r.resume

-- what a round leaves
abbrev pub RoundSound : ℕ → Summary → PlainPartition → Tally → PlainPartition → Type 0
RoundSound cache t0 p u q = IsSound cache t0 u q × IsEmptied q × (q.log ≡ p.log) × (q.high ≡ p.high) × AllSettled q

-- what holds of the served name and of the others holds of each name
by-name : (P : SubName → Type 0) (s x : SubName) → P s → (same_sub x s ≡ false → P x) → P x
by-name P s x here others =
    (elim (same_sub x s) as (λ b. same_sub x s ≡ b → P x) [
      | true ↦ λ same. subst P (sym (same_sub-equal x s same)) here
      | false ↦ λ other. others other
    ]) refl

still-open : (p q : PlainPartition) (s x : SubName) → IsServing IsSettled p q s → IsOpenAt p x → IsOpenAt q x
still-open p q s x served before =
    by-name (IsOpenAt q) s x (record { record_of = served.now; found = served.found; is_open = served.is_open })
    (λ other. record { record_of = before.record_of; found = served.others x other ∙ before.found; is_open = before.is_open })

settled-next : (p q : PlainPartition) (s : SubName) (names : List SubName) → IsServing IsSettled p q s → SettledBut p (s ∷ names) → SettledBut q names
settled-next p q s names served before x =
    by-name (λ x. (r : Subscription) → sub_at q x ≡ Some r → r.is_open ≡ true → list_any (same_sub x) names ≡ false → q.high ≤ r.resume) s x
    (λ r found is_open behind.
    let same : served.now ≡ r = (let facts = served.found in cc) in
    subst (λ (r : Subscription). q.high ≤ r.resume) same served.fact)
    (λ other r found is_open behind.
    let enough = before x r (sym (served.others x other) ∙ found) is_open (or_from (same_sub x s) (list_any (same_sub x) names) other behind) in
    omega (arith, served.high, enough))

-- each of the names
meets-serve_each : (cache : ℕ) (t0 : Summary) (names : List SubName) (t : Tally) (p : PlainPartition) → IsSound cache t0 t p → IsEmptied p → AllByRecursion (IsOpenAt p) names → SettledBut p names
    → Meets (RoundSound cache t0 p) t (serve_each names p)
unfolding serve_each
meets-serve_each cache t0 [] t p sound empty opens settled = (sound, empty, refl, refl, λ s r found is_open. settled s r found is_open refl)
meets-serve_each cache t0 (s ∷ names) t p sound empty opens settled =
    meets-and_then (ServingSound IsSettled cache t0 p s) (RoundSound cache t0 p) t (serve s p (sub_at p s)) (serve_each names)
    (subst (λ (o : Option Subscription). Meets (ServingSound IsSettled cache t0 p s) t (serve s p o)) (sym opens.0.found)
    (meets-serve cache t0 s t p opens.0.record_of sound empty opens.0.found opens.0.is_open))
    (λ u q served. meets-weaken (RoundSound cache t0 q) (RoundSound cache t0 p) u (serve_each names q)
    (λ v w round. (round.0, round.1, round.2 ∙ served.1.log, round.3 ∙ served.1.high, round.4))
    (meets-serve_each cache t0 names u q served.0 served.1.emptied
    (All-weaken (IsOpenAt p) (IsOpenAt q) (λ x before. still-open p q s x served.1 before) names opens.1)
    (settled-next p q s names served.1 settled)))

-- the open names, in order, are those of all open subscriptions
pub open-names : (p : PlainPartition) → AreUnique same_sub p.subs → AllByRecursion (IsOpenAt p) (open_names p)
open-names p unique =
    All-in_order (IsOpenAt p) sub_lt (keys_where (λ (r : Subscription). r.is_open) p.subs)
    (All-keys_where (IsOpenAt p) (λ (r : Subscription). r.is_open) p.subs
    (each-entry same_sub sub_equality (λ (s : SubName) (r : Subscription). r.is_open ≡ true → IsOpenAt p s) p.subs unique (λ s r found is_open. record { record_of = r; found = found; is_open = is_open })))

none-settled : (p : PlainPartition) → SettledBut p (open_names p)
none-settled p s r found is_open missing =
    let names = keys_where (λ (r : Subscription). r.is_open) p.subs in
    absurd (both_ways (list_any (same_sub s) (open_names p)) missing (any-in_order (same_sub s) sub_lt names ∙ any-keys_where same_sub (λ (r : Subscription). r.is_open) s r p.subs found is_open))

pub meets-drain_round : (cache : ℕ) (t0 : Summary) (t : Tally) (p : PlainPartition) → IsSound cache t0 t p → Meets (RoundSound cache t0 p) t (drain_round p)
meets-drain_round cache t0 t p sound =
    meets-and_then (EmptiedSound cache t0 p) (RoundSound cache t0 p) t (empty_mailboxes p) (λ q. serve_each (open_names q) q)
    (meets-empty_mailboxes cache t0 t p sound)
    (λ u q empty. meets-weaken (RoundSound cache t0 q) (RoundSound cache t0 p) u (serve_each (open_names q) q)
    (λ v w round. (round.0, round.1, round.2 ∙ empty.2, round.3 ∙ empty.3, round.4))
    (meets-serve_each cache t0 (open_names q) u q empty.0 empty.1 (open-names q empty.0.told.steady.subs) (none-settled q)))
