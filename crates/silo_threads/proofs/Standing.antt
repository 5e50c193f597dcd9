-- What a change of silos leaves.
use Rattle.silo_threads.proofs.Prelude.{IsBalanced, goes-length, goes-places, goes-refl, on-refl, split-places, still-at, taken-silo, DirectoryPass, LineView, QueuePass, places, IsOtherIn, OwnsNone, AreSilent, AreTakenIn, GoOn, GoesOn, HasRun, IsFresh, IsSilent, IsSiloAt, IsSplitLine, LineGoesOn, SiloView, ◌≡◌, ◌⊎◌, inl, inr, ℕ, zero, suc, ◌<◌, ◌≤◌, ◌+◌, Bool, true, false, List, [], ◌∷◌, ◌++◌, length, drop, get_or, map, remove, Contains, Some, Result, Ok, Err, refl, sym, ap, subst, ◌∙◌, arith, get_or-map, length-append, length-map, length_push, map-append, slice_get-get_or, slice_get_within, AllByRecursion, AllZip, range_with_len, slice_index, unwrap_or, replicate, ◌||◌, AllocError, All-push, All-weaken, map-id, Reply, Op, Entry, IfOk, OnOk}
use Rattle.std.proofs.lemmas.List.Edits.{length-remove}
use Rattle.std.proofs.lemmas.List.FromFn.{get_or-range_with_len, length-range_with_len, map-range_with_len_more}
use Rattle.std.specs.List.{slice_get}
use Rattle.activation_directory.specs.declared.op.DirectoryOp.{DirectoryOp}
use Rattle.activation_directory.specs.declared.reply.DirectoryReply.{DirectoryReply}
use Rattle.queue_callers.specs.Calls.{IsUnused, turnstiles}
use Rattle.queue_callers.specs.declared.ends.LoopEnds.{LoopEnds}
use Rattle.queue_callers.specs.declared.finishing.Finished.{Finished}
use Rattle.queue_callers.specs.Finishing.{CallersAloneProduce, HaveBegun, IsFinished, OnHistories}
use Rattle.queue_callers.specs.Gathering.{AreAt, gathered, passes_of}
use Rattle.stream_ident.proofs.WordLemmas.{All-at}
use Rattle.silo_loops.proofs.Running.{agent-stays, worker-stays}
use Rattle.silo_operators.specs.declared.halt.Halt.{Halt}
use Rattle.silo_operators.specs.declared.halt.Halt.TheVariants as halt
use Rattle.silo_operators.specs.Changes.{AreDeactivated, HasFound, HasMade, HasSince, HaveMoved, HaveMovedNowhere, HaveStayed, HoldsGrains, IsDeactivation, IsMove, IsNoneLeft, IsRelease, IsSpentMove, StaysBehind, is_move}
use Rattle.silo_operators.specs.Operators.{HasOnlyGoneOn, HasSpread, IsUnspread, OperatorGoesOn, OperatorView}
use Rattle.silo_operators.proofs.Changing.{each-earlier, each-later, nowhere-silents, nowhere-trans, op-trans, stayed-earlier}
use Rattle.silo_operators.proofs.Rows.{all-at, zip-at, zip-both}
use Rattle.queue_callers.proofs.Splitting.{line-turnstiles, split-unused}
use Rattle.silo_operators.proofs.Spreading.{only-refl}
use Rattle.silo_operators.proofs.Making.{goes-longer, last-earlier, made-earlier, made-since-silent}
use Rattle.silo_threads.specs.Clusters.{AreAtQueues, AreFresh, AreStarted, ClusterView, HasEnded, HasLeft, HasMetLimit, HasNoted, HaveComeBack, HaveEnded, HaveSeenNone, IsAtDirectory, IsCluster, IsEmptied, IsHaltedWith, IsLimitedAt, IsOpened, MayGo, RunsOn, WereLeft, WereMoved, all_noted, is_fixed, none_ended, noted}
use Rattle.silo_threads.specs.declared.config.Config.{Config}

pub on_ok_both : {A E P Q R : Type 0} → (r : Result A E) → (P → Q → R) → OnOk r P → OnOk r Q → OnOk r R
on_ok_both (Ok x) f p q = f p q
on_ok_both (Err e) f p q = tt

pub op-refl : (v : OperatorView) → OperatorGoesOn v v
op-refl v = record { lines = goes-refl v.lines; directory = on-refl v.directory }

-- an operator of which only the silos that live are others
pub op-same : (u v : OperatorView) → v.lines ≡ u.lines → v.directory ≡ u.directory → OperatorGoesOn u v
op-same u v lines directory =
    record {
      lines = subst (λ (ls : List LineView). GoOn u.lines ls) (sym lines) (goes-refl u.lines);
      directory = subst (λ (d : DirectoryPass). GoesOn u.directory d) (sym directory) (on-refl u.directory);
    }

sits-one : (v w : OperatorView) (s : SiloView) → OperatorGoesOn v w → IsSiloAt v.lines v.directory s → IsSiloAt w.lines w.directory s
sits-one v w s on at =
    record {
      agent = still-at s.agent.lines v.lines w.lines at.agent on.lines;
      first = (still-at s.first.lines v.lines w.lines at.first.0 on.lines, at.first.1 ∙ sym on.directory.turnstile);
      second = (still-at s.second.lines v.lines w.lines at.second.0 on.lines, at.second.1 ∙ sym on.directory.turnstile);
    }

pub only-trans : (u v w : OperatorView) → HasOnlyGoneOn u v → HasOnlyGoneOn v w → HasOnlyGoneOn u w
only-trans u v w a b = record { on = op-trans u v w a.on b.on; live = b.live ∙ a.live; assignment = b.assignment ∙ a.assignment }

pub sits-on : (v w : OperatorView) (ss : List SiloView) → OperatorGoesOn v w → AllByRecursion (IsSiloAt v.lines v.directory) ss → AllByRecursion (IsSiloAt w.lines w.directory) ss
sits-on v w ss on all = All-weaken (IsSiloAt v.lines v.directory) (IsSiloAt w.lines w.directory) (λ s at. sits-one v w s on at) ss all

module _ {A : Type 0} (P : A → Type 0) where
  pub all-remove : (xs : List A) (at : ℕ) → AllByRecursion P xs → AllByRecursion P (remove xs at)
  all-remove [] zero all = all
  all-remove [] (suc at) all = all
  all-remove (x ∷ xs) zero all = all.1
  all-remove (x ∷ xs) (suc at) all = (all.0, all-remove xs at all.1)

-- a silo whose loops came back is at the same turnstiles
pub same-at : (lines : List LineView) (d : DirectoryPass) (s t : SiloView) → IsSiloAt lines d s → HasRun s t → IsSiloAt lines d t
same-at lines d s t at ran =
    let first = worker-stays s.first t.first ran.first in
    let second = worker-stays s.second t.second ran.second in
    record {
      agent = agent-stays s.agent t.agent ran.agent ∙ at.agent;
      first = (first.lines ∙ at.first.0, first.directory ∙ at.first.1);
      second = (second.lines ∙ at.second.0, second.directory ∙ at.second.1);
    }

-- what was moved since is moved since what was before
moved-earlier : (old new fresh : List LineView) (before now : List ℕ) → GoOn old new → GoOn new fresh → HaveMoved new fresh before now → HaveMoved old fresh before now
moved-earlier old new fresh before now on on2 moved k was is a b differs =
    let middle = zip-at LineGoesOn new fresh k is on2 b in
    let goes = zip-both LineGoesOn old new k was middle.0 on a middle.1 in
    last-earlier is_move (IsMove (slice_index now k)) (length was.pass.seen) (length middle.0.pass.seen) is.pass (goes-longer was.pass middle.0.pass goes) (moved k middle.0 is middle.1 b differs)

pub spread-from : (u v w : OperatorView) → OperatorGoesOn u v → OperatorGoesOn v w → v.assignment ≡ u.assignment → HasSpread v w → HasSpread u w
spread-from u v w on on2 same spread =
    record {
      balanced = subst (λ (xs : List ℕ). IsBalanced xs w.live w.assignment) same spread.balanced;
      moved = subst (λ (xs : List ℕ). HaveMoved u.lines w.lines xs w.assignment) same (moved-earlier u.lines v.lines w.lines v.assignment w.assignment on.lines on2.lines spread.moved);
    }

-- a limit that was met since is met since what was before
limited-earlier : (u v w : OperatorView) (queue : ℕ) → OperatorGoesOn u v → IsLimitedAt v w queue → IsLimitedAt u w queue
limited-earlier u v w queue on limited =
    let first = zip-at LineGoesOn u.lines v.lines queue limited.was on.lines limited.had in
    record {
      was = first.0;
      is = limited.is;
      had = first.1;
      has = limited.has;
      cause =
          elim limited.cause as (λ s. HasFound halt.Limit limited.is.pass ⊎ ((silo : ℕ) × HasSince first.0 limited.is (IsSpentMove silo))) [
            | inl found ↦ inl found
            | inr spent ↦ inr (spent.0, made-earlier (IsSpentMove spent.0) (length first.0.pass.seen) (length limited.was.pass.seen) limited.is.pass (goes-longer first.0.pass limited.was.pass first.2) spent.1)
          ];
    }

pub met-earlier : (u v w : OperatorView) → OperatorGoesOn u v → HasMetLimit v w → HasMetLimit u w
met-earlier u v w on (inl found) = inl found
met-earlier u v w on (inr limited) = inr (limited.0, limited-earlier u v w limited.0 on limited.1)

-- a spread or an eviction that was broken off at a limit has met one
behind-limited : (v w : OperatorView) (fresh : List ℕ) (behind : StaysBehind halt.Limit v.lines w.lines v.assignment fresh) → IsLimitedAt v w behind.queue
behind-limited v w fresh behind =
    record {
      was = behind.was;
      is = behind.is;
      had = behind.had;
      has = behind.has;
      cause =
          elim behind.unmoved.1 as (λ s. HasFound halt.Limit behind.is.pass ⊎ ((silo : ℕ) × HasSince behind.was behind.is (IsSpentMove silo))) [
            | inl found ↦ inl found
            | inr spent ↦ inr (slice_index fresh behind.queue, spent.1)
          ];
    }

pub spread-met : (u v w : OperatorView) → OperatorGoesOn u v → (v.live ≡ [] → ⊥) → (why : Halt) → why ≡ halt.Limit → IsUnspread why v.assignment v.live v.lines w.lines → HasMetLimit u w
spread-met u v w on some halt.Limit is (inl nothing) = absurd (some (nothing.1 refl))
spread-met u v w on some halt.Limit is (inr left) = inr (left.2.queue, limited-earlier u v w left.2.queue on (behind-limited v w left.0 left.2))
spread-met u v w on some halt.Memory is unspread = absurd (cc (is))

pub evict-met : (u w : OperatorView) (silo : ℕ) (d : DirectoryPass) → OperatorGoesOn u w → (why : Halt) → why ≡ halt.Limit → HoldsGrains why silo d w.directory w.lines → HasMetLimit u w
evict-met u w silo d on halt.Limit is (none, inl found) = inl found
evict-met u w silo d on halt.Limit is (none, inr at) =
    let first = zip-at LineGoesOn u.lines w.lines at.0 at.1 on.lines at.2 in
    inr (at.0, record { was = first.0; is = at.1; had = first.1; has = at.2; cause = inl at.3 })
evict-met u w silo d on halt.Memory is holds = absurd (cc (is))

-- some silo lives where one came, and where one of two or more went
pub came-some : (live : List ℕ) (silo : ℕ) → live ++ silo ∷ [] ≡ [] → ⊥
came-some live silo none = absurd (omega (arith, length_push live silo, ap (λ (xs : List ℕ). length xs) none))

pub left-some : (live : List ℕ) (place : ℕ) → place < length live → 1 < length live → remove live place ≡ [] → ⊥
left-some live place within others none =
    omega (arith, others, length-remove live place within, ap (λ (xs : List ℕ). length xs) none)

-- what holds of both answers to a change that was broken off holds of the one that is given
pub halted-so : {T : Type 0} (r : Result T AllocError) (limit : T) (P : Result T AllocError → Type 0) (h : Halt) → IsHaltedWith h limit r → (h ≡ halt.Limit → P (Ok limit)) → ((e : AllocError) → P (Err e)) → P r
halted-so r limit P halt.Limit is met memory = subst P (sym is) (met refl)
halted-so (Ok x) limit P halt.Memory is met memory = absurd (cc (is))
halted-so (Err e) limit P halt.Memory is met memory = memory e

-- What is left once a silo went: its passes were joined, its grains taken, it lives no more, and the queues are spread.
pub left-whole : (silo place : ℕ) (v u t s w : OperatorView) → HasOnlyGoneOn v u → IsSilent v.directory u.directory → AreSilent v.lines u.lines → HasOnlyGoneOn u t → HaveMovedNowhere u.lines t.lines → AreDeactivated silo u.directory t.directory u.lines t.lines
    → HasMade (length u.directory.seen) t.directory (IsNoneLeft silo) → s ≡ record t { live = remove t.live place } → OperatorGoesOn s w → w.directory ≡ s.directory → w.live ≡ s.live → HasSpread s w → HaveStayed s.lines w.lines s.assignment w.assignment → HasLeft silo place v w
left-whole silo place v u t s w back silent silents taken nowhere gone none_left dismissed on kept live spread stayed =
    let directory : w.directory ≡ t.directory = kept ∙ ap (λ (o : OperatorView). o.directory) dismissed in
    let lines : s.lines ≡ t.lines = ap (λ (o : OperatorView). o.lines) dismissed in
    let later : GoOn t.lines w.lines = subst (λ (ls : List LineView). GoOn ls w.lines) lines on.lines in
    let away = op-trans v u t back.on taken.on in
    record {
      live = live ∙ ap (λ (o : OperatorView). o.live) dismissed ∙ ap (λ (xs : List ℕ). remove xs place) (taken.live ∙ back.live);
      none_left = subst (λ (d : DirectoryPass). HasMade (length v.directory.seen) d (IsNoneLeft silo)) (sym directory)
          (made-earlier (IsNoneLeft silo) (length v.directory.seen) (length u.directory.seen) t.directory (goes-longer v.directory u.directory back.on.directory) none_left);
      deactivated = subst (λ (d : DirectoryPass). AreDeactivated silo v.directory d v.lines w.lines) (sym directory)
          (λ grain made.
          each-later (IsDeactivation grain) v.lines t.lines w.lines away.lines later
          (each-earlier (IsDeactivation grain) v.lines u.lines t.lines back.on.lines taken.on.lines (gone grain (made-since-silent (IsRelease silo grain) v.directory u.directory t.directory silent taken.on.directory made))));
      stayed =
          stayed-earlier v.lines t.lines w.lines v.assignment w.assignment away.lines later
          (nowhere-trans v.lines u.lines t.lines back.on.lines taken.on.lines (nowhere-silents v.lines u.lines silents) nowhere)
          (subst (λ (xs : List ℕ). HaveStayed t.lines w.lines xs w.assignment) (ap (λ (o : OperatorView). o.assignment) dismissed ∙ taken.assignment ∙ back.assignment)
          (subst (λ (ls : List LineView). HaveStayed ls w.lines s.assignment w.assignment) lines stayed));
      spread = spread-from v s w (op-trans v t s away (op-same t s lines (ap (λ (o : OperatorView). o.directory) dismissed))) on (ap (λ (o : OperatorView). o.assignment) dismissed ∙ taken.assignment ∙ back.assignment) spread;
    }

other-shorter : (p q : DirectoryPass) → IsOtherIn p q → length p.seen ≤ length q.seen
other-shorter p q other =
    let long = ap (λ (es : List (Entry DirectoryOp DirectoryReply)). length es) other.part.claims.is ∙ length-append p.seen other.part.claims.rest in
    omega (arith, long)

-- what was found past all that a pass had taken in was found past what the workers had seen
pub emptied-whole : (silo : ℕ) (lines : List LineView) (d e : DirectoryPass) (s : SiloView) → silo ≡ s.silo → AreTakenIn lines d s → HasMade (length d.seen) e (IsNoneLeft silo) → IsEmptied e s
emptied-whole silo lines d e s named taken none_left =
    let made = subst (λ k. HasMade (length d.seen) e (IsNoneLeft k)) named none_left in (
      made-earlier (IsNoneLeft s.silo) (length s.first.directory.seen) (length d.seen) e (other-shorter s.first.directory d taken.first_asks) made,
      made-earlier (IsNoneLeft s.silo) (length s.second.directory.seen) (length d.seen) e (other-shorter s.second.directory d taken.second_asks) made,
    )

at-goes : (config : Config) (ls ms : List LineView) → GoOn ls ms → AreAtQueues config ls → AreAtQueues config ms
at-goes config [] [] on at = tt
at-goes config (l ∷ ls) (m ∷ ms) on at = ((at.0.0, on.0.turnstile ∙ at.0.1, at.0.2), at-goes config ls ms on.1 at.1)
at-goes config _ _ on at = absurd on

first-silo : (n queue : ℕ) → slice_index (replicate n 0) queue ≡ 0
first-silo zero queue = refl
first-silo (suc n) zero = refl
first-silo (suc n) (suc queue) = first-silo n queue

-- the queues were spread from the first silo
moved-first : (ls ms : List LineView) (n : ℕ) (assignment : List ℕ) → GoOn ls ms → HaveMoved ls ms (replicate n 0) assignment → WereMoved ms assignment
moved-first ls ms n assignment on moved queue l had other =
    let was = zip-at LineGoesOn ls ms queue l on had in
    last-earlier is_move (IsMove (slice_index assignment queue)) 0 (length was.0.pass.seen) l.pass (omega arith) (moved queue was.0 l was.1 had (λ same. other (same ∙ first-silo n queue)))

-- those that stay there were moved nowhere, where the passes had seen nothing before
left-first : (ls ms : List LineView) (n : ℕ) (assignment : List ℕ) → GoOn ls ms → HaveSeenNone ls → HaveStayed ls ms (replicate n 0) assignment → WereLeft ms assignment
left-first ls ms n assignment on unseen stayed queue l had here =
    let was = zip-at LineGoesOn ls ms queue l on had in
    let none = all-at (λ (line : LineView). line.pass.seen ≡ []) ls queue was.0 unseen was.1 in
    subst (λ (es : List (Entry Op Reply)). OwnsNone is_move (l.pass.number ∷ []) (drop (length es) l.pass.seen)) none (stayed queue was.0 l was.1 had (here ∙ sym (first-silo n queue)))

-- one number more at the end
pub range-next : (n : ℕ) → range_with_len 0 n ++ n ∷ [] ≡ range_with_len 0 (n + 1)
range-next n =
    ap (λ xs. xs ++ n ∷ []) (sym (map-id (range_with_len 0 n))) ∙ sym (map-range_with_len_more (λ (k : ℕ). k) 0 n n (omega arith)) ∙ map-id (range_with_len 0 (n + 1))

pub range-absent : (n : ℕ) → Contains (range_with_len 0 n) n → ⊥
range-absent n (at, within, here) =
    let less : at < n = omega (arith, length-range_with_len 0 n, within) in
    absurd (omega (arith, less, get_or-range_with_len 0 n at n less, here))

all-unused : (ls ms : List LineView) → AllZip IsSplitLine ls ms → AllByRecursion IsUnused (map (λ (l : LineView). l.pass) ms)
all-unused [] [] all = tt
all-unused (l ∷ ls) (m ∷ ms) all = (split-unused l.pass m.pass all.0.0, all-unused ls ms all.1)
all-unused _ _ all = absurd all

-- the silo at a place lives there
pub silo-place : (ss : List SiloView) (live : List ℕ) (place : ℕ) (s : SiloView) → map (λ (x : SiloView). x.silo) ss ≡ live → place < length ss → s ≡ get_or ss place s → slice_get live place ≡ Some s.silo
silo-place ss live place s loops within read =
    slice_get-get_or live place s.silo (omega (arith, within, length-map ss (λ (x : SiloView). x.silo), ap (λ (xs : List ℕ). length xs) loops))
    ∙ ap (λ k. Some k) (ap (λ (xs : List ℕ). get_or xs place s.silo) (sym loops) ∙ get_or-map (λ (x : SiloView). x.silo) ss place s s.silo within ∙ ap (λ (x : SiloView). x.silo) (sym read))

pub map-remove : (ss : List SiloView) (place : ℕ) → map (λ (x : SiloView). x.silo) (remove ss place) ≡ remove (map (λ (x : SiloView). x.silo) ss) place
map-remove [] zero = refl
map-remove [] (suc place) = refl
map-remove (s ∷ ss) zero = refl
map-remove (s ∷ ss) (suc place) = ap (λ (xs : List ℕ). s.silo ∷ xs) (map-remove ss place)

pub not-fixed : (v : ClusterView) → v.is_parked ≡ false → v.is_halted ≡ false → is_fixed v ≡ false
not-fixed v parked halted = ap (λ b. b || v.is_halted) parked ∙ halted

-- a cluster of which a silo went, or was to go
pub cluster-gone : (v : ClusterView) (ends : LoopEnds) (o : OperatorView) (ss : List SiloView) (place : ℕ) (halted : Bool) → v.is_parked ≡ false → v.is_halted ≡ false → IsCluster v → ss ≡ remove v.silos place → OperatorGoesOn v.operator o → (halted ≡ false → o.live ≡ remove v.operator.live place)
    → IsCluster (record { operator = o; silos = ss; ends = ends; is_parked = v.is_parked; is_halted = halted; rounds = v.rounds; looks = v.looks })
cluster-gone v ends o ss place halted free goes kept left on live =
    record {
      at = subst (λ (xs : List SiloView). RunsOn o xs) (sym left) (sits-on v.operator o (remove v.silos place) on (all-remove (IsSiloAt v.operator.lines v.operator.directory) v.silos place kept.at));
      fresh = subst (λ (xs : List SiloView). AreFresh v.rounds xs) (sym left) (all-remove (λ s. IsFresh v.rounds s.silo s) v.silos place kept.fresh);
      loops = λ fixed. ap (λ (xs : List SiloView). map (λ (x : SiloView). x.silo) xs) left ∙ map-remove v.silos place ∙ ap (λ (xs : List ℕ). remove xs place) (kept.loops (not-fixed v free goes)) ∙ sym (live (sym (ap (λ b. b || halted) free) ∙ fixed));
      parked = λ parked. let differ : true ≡ false = sym parked ∙ free in absurd (cc (differ));
    }

-- a cluster to which a silo came
pub cluster-came : (v : ClusterView) (ends : LoopEnds) (o : OperatorView) (ss : List SiloView) (silo : ℕ) (s : SiloView) → v.is_parked ≡ false → v.is_halted ≡ false → IsCluster v → ss ≡ v.silos ++ s ∷ [] → s.silo ≡ silo → RunsOn o ss → AreFresh v.rounds ss → o.live ≡ v.operator.live ++ silo ∷ []
    → IsCluster (record { operator = o; silos = ss; ends = ends; is_parked = v.is_parked; is_halted = v.is_halted; rounds = v.rounds; looks = v.looks })
cluster-came v ends o ss silo s free goes kept more named runs fresh live =
    record {
      at = runs;
      fresh = fresh;
      loops = λ fixed. ap (λ (xs : List SiloView). map (λ (x : SiloView). x.silo) xs) more ∙ map-append (λ (x : SiloView). x.silo) v.silos (s ∷ []) ∙ ap (λ (xs : List ℕ). xs ++ s.silo ∷ []) (kept.loops (not-fixed v free goes))
          ∙ ap (λ k. v.operator.live ++ k ∷ []) named ∙ sym live;
      parked = λ parked. let differ : true ≡ false = sym parked ∙ free in absurd (cc (differ));
    }

pub lives-at : (live : List ℕ) (place silo : ℕ) → slice_get live place ≡ Some silo → Contains live silo
lives-at live place silo stood =
    let within = slice_get_within live place silo stood in
    (place, within, ap (λ o. unwrap_or o silo) (sym (slice_get-get_or live place silo within) ∙ stood))

-- where one silo lives, and not one alone, another does
pub may-go : (v : ClusterView) (place silo : ℕ) → slice_get v.operator.live place ≡ Some silo → (length v.operator.live ≡ 1 → ⊥) → MayGo v silo
may-go v place silo stood other = let within = slice_get_within v.operator.live place silo stood in (lives-at v.operator.live place silo stood, omega (arith, within, other))

-- what a new operator comes to, once its first silos live and the queues are spread over them
pub opened-whole : (config : Config) (first lines own : List LineView) (d : DirectoryPass) (v e w : OperatorView) (caller : List QueuePass) → lines ≡ first → length first ≡ config.queues → AreAtQueues config first → HaveSeenNone first → AllZip IsSplitLine first own → caller ≡ passes_of own → IsAtDirectory config d
    → v ≡ record { lines = lines; directory = d; live = []; assignment = replicate (length lines) 0 } → e ≡ record v { live = range_with_len 0 config.silos } → OperatorGoesOn e w → w.live ≡ e.live → HasSpread e w → HaveStayed e.lines w.lines e.assignment w.assignment → IsOpened config w caller
opened-whole config first lines own d v e w caller same many at unseen new passes placed made enlisted on live spread stayed =
    let beside : turnstiles caller ≡ places first = ap (λ (ps : List QueuePass). turnstiles ps) passes ∙ line-turnstiles own ∙ split-places first own new in
    let kept : e.lines ≡ first = ap (λ (o : OperatorView). o.lines) enlisted ∙ ap (λ (o : OperatorView). o.lines) made ∙ same in
    let all : e.assignment ≡ replicate config.queues 0 =
    ap (λ (o : OperatorView). o.assignment) enlisted ∙ ap (λ (o : OperatorView). o.assignment) made ∙ ap (λ n. replicate n 0) (ap (λ (ls : List LineView). length ls) same ∙ many) in
    let there : IsAtDirectory config e.directory = subst (λ (x : DirectoryPass). IsAtDirectory config x) (sym (ap (λ (o : OperatorView). o.directory) enlisted ∙ ap (λ (o : OperatorView). o.directory) made)) placed in
    record {
      live = live ∙ ap (λ (o : OperatorView). o.live) enlisted;
      queues = goes-length e.lines w.lines on.lines ∙ ap (λ (ls : List LineView). length ls) kept ∙ many;
      at = at-goes config e.lines w.lines on.lines (subst (λ (ls : List LineView). AreAtQueues config ls) (sym kept) at);
      directory = (there.0, on.directory.turnstile ∙ there.1, there.2);
      balanced = subst (λ (xs : List ℕ). IsBalanced xs w.live w.assignment) all spread.balanced;
      moved = moved-first e.lines w.lines config.queues w.assignment on.lines (subst (λ (xs : List ℕ). HaveMoved e.lines w.lines xs w.assignment) all spread.moved);
      stayed =
          left-first e.lines w.lines config.queues w.assignment on.lines (subst (λ (ls : List LineView). HaveSeenNone ls) (sym kept) unseen)
          (subst (λ (xs : List ℕ). HaveStayed e.lines w.lines xs w.assignment) all stayed);
      beside = beside ∙ ap (λ (ls : List LineView). places ls) (sym kept) ∙ sym (goes-places e.lines w.lines on.lines);
      each = sym (length-map caller (λ (p : QueuePass). p.turnstile)) ∙ ap (λ ts. length ts) beside ∙ length-map first (λ (l : LineView). l.pass.turnstile) ∙ many;
      unused = subst (λ (ps : List QueuePass). AllByRecursion IsUnused ps) (sym passes) (all-unused first own new);
    }

-- where the silos that run are those that live, one that lives at a place runs there
pub place-within : (ss : List SiloView) (live : List ℕ) (place silo : ℕ) → map (λ (x : SiloView). x.silo) ss ≡ live → slice_get live place ≡ Some silo → place < length ss
place-within ss live place silo loops stood =
    omega (arith, slice_get_within live place silo stood, length-map ss (λ (x : SiloView). x.silo), ap (λ (xs : List ℕ). length xs) loops)

-- a silo that ran came back, and how its loops have ended was noted
pub has-noted : (v w : ClusterView) (place silo : ℕ) (s back : SiloView) → is_fixed v ≡ false → IsCluster v → slice_get v.operator.live place ≡ Some silo → s ≡ get_or v.silos place s → w.silos ≡ remove v.silos place → HasRun s back → HaveComeBack w.operator.lines w.operator.directory back → w.ends ≡ noted v.ends back
    → (back.silo ≡ silo) × ((noted : HasNoted v silo w) × (noted.back ≡ back))
has-noted v w place silo s back fixed kept stood read others ran came ends =
    let within = place-within v.silos v.operator.live place silo (kept.loops fixed) stood in
    let lives = silo-place v.silos v.operator.live place s (kept.loops fixed) within read ∙ ap (λ (k : ℕ). Some k) (sym ran.silo) in
    let named : back.silo ≡ silo = cc (lives, stood) in
    let IsNew : SiloView → Type 0 = λ s. IsFresh v.rounds s.silo s in
    let new : IsFresh v.rounds s.silo s = subst IsNew (sym read) (All-at IsNew v.silos place s kept.fresh within) in
    let found : HasNoted v silo w =
    record {
      place = place;
      started = s;
      stood = slice_get-get_or v.silos place s within ∙ ap (λ (x : SiloView). Some x) (sym read);
      fresh = subst (λ k. IsFresh v.rounds k s) (sym ran.silo ∙ named) new;
      others = others;
      back = back;
      ran = ran;
      come = came;
      ends = ends;
    } in
    (named, (found, refl))

-- what came back stays so
pub taken-op : (v w : OperatorView) (s : SiloView) → OperatorGoesOn v w → AreTakenIn v.lines v.directory s → AreTakenIn w.lines w.directory s
taken-op v w s on taken = taken-silo v.lines w.lines v.directory w.directory s on.lines on.directory taken

pub all-back : (v w : OperatorView) (ss : List SiloView) → OperatorGoesOn v w → AllByRecursion (HaveComeBack v.lines v.directory) ss → AllByRecursion (HaveComeBack w.lines w.directory) ss
all-back v w ss on all =
    All-weaken (HaveComeBack v.lines v.directory) (HaveComeBack w.lines w.directory) (λ s came. record { taken = taken-op v w s on came.taken; causes = came.causes }) ss all

-- callers of lines are at them while those go on
pub callers-on : (ls ms : List LineView) (callers : List (List QueuePass)) → GoOn ls ms → AllByRecursion (AreAt (places ls)) callers → AllByRecursion (AreAt (places ms)) callers
callers-on ls ms callers on at = subst (λ ts. AllByRecursion (AreAt ts) callers) (sym (goes-places ls ms on)) at

-- what is said of each end of a cluster, taken together
pub finished-whole : {H : Type 0} (entries : H → List (Entry Op Reply)) (c : ClusterView) (Ended : List LineView → DirectoryPass → LoopEnds → Type 0) (callers : List (List QueuePass)) (lines : List LineView) (d : DirectoryPass) (ends : LoopEnds) (result : Result (Finished H) AllocError) → GoOn c.operator.lines lines → GoesOn c.operator.directory d → Ended lines d ends
    → IfOk result (IsFinished entries ends (gathered (passes_of lines) callers)) → IfOk result (OnHistories entries (HaveBegun (passes_of lines) callers)) → IfOk result (OnHistories entries (CallersAloneProduce callers)) → IfOk result (HasEnded entries c Ended callers)
finished-whole entries c Ended callers lines d ends (Ok answer) on asks ended finished begun producers = record { lines = lines; on = on; directory = d; asks = asks; ends = ends; ended = ended; finished = finished; begun = begun; producers = producers }
finished-whole entries c Ended callers lines d ends (Err e) on asks ended finished begun producers = tt

-- one silo more whose loops have done nothing
pub fresh-push : (rounds silo : ℕ) (ss : List SiloView) (s : SiloView) → AreFresh rounds ss → IsFresh rounds silo s → AreFresh rounds (ss ++ s ∷ [])
fresh-push rounds silo ss s fresh new = All-push (λ (x : SiloView). IsFresh rounds x.silo x) ss s fresh (subst (λ k. IsFresh rounds k s) (sym new.0) new)

-- the loops of so many silos, numbered from 0 on, were made and have done nothing; the operator is as before
pub record AreMade (rounds n : ℕ) (old now : OperatorView) (made : List SiloView) : Type 0 where
  pub same : now ≡ old
  pub only : HasOnlyGoneOn old now
  pub many : length made ≡ n
  pub started : AreStarted n made
  pub fresh : AreFresh rounds made
  pub runs : RunsOn now made

pub made-none : (rounds : ℕ) (v : OperatorView) (ss : List SiloView) → ss ≡ [] → AreMade rounds 0 v v ss
made-none rounds v ss none =
    subst (λ (xs : List SiloView). AreMade rounds 0 v v xs) (sym none) (record { same = refl; only = only-refl v; many = refl; started = refl; fresh = tt; runs = tt })

pub made-more : (rounds n : ℕ) (u v w : OperatorView) (ss more : List SiloView) (s : SiloView) → AreMade rounds n u v ss → w ≡ v → HasOnlyGoneOn v w → IsFresh rounds n s → IsSiloAt w.lines w.directory s → more ≡ ss ++ s ∷ [] → AreMade rounds (n + 1) u w more
made-more rounds n u v w ss more s made same only new at put =
    subst (λ (xs : List SiloView). AreMade rounds (n + 1) u w xs) (sym put)
    (record {
      same = same ∙ made.same;
      only = only-trans u v w made.only only;
      many = length_push ss s ∙ ap (λ k. k + 1) made.many;
      started =
          map-append (λ (x : SiloView). x.silo) ss (s ∷ []) ∙ ap (λ (xs : List ℕ). xs ++ s.silo ∷ []) made.started ∙ ap (λ k. range_with_len 0 n ++ k ∷ []) new.0 ∙ range-next n;
      fresh = fresh-push rounds n ss s made.fresh new;
      runs = All-push (IsSiloAt w.lines w.directory) ss s (sits-on v w ss only.on made.runs) at;
    })

-- one silo more of which it was noted how its loops have ended
pub noted-push : (ends : LoopEnds) (ss : List SiloView) (s : SiloView) → all_noted ends (ss ++ s ∷ []) ≡ noted (all_noted ends ss) s
noted-push ends [] s = refl
noted-push ends (x ∷ ss) s = noted-push (noted ends x) ss s

-- one silo more whose loops came back
pub ended-push : (v w : OperatorView) (ends mid new : LoopEnds) (back : List SiloView) (s : SiloView) → OperatorGoesOn v w → HaveEnded ends back v.lines v.directory mid → new ≡ noted mid s → HaveComeBack w.lines w.directory s
    → HaveEnded ends (back ++ s ∷ []) w.lines w.directory new
ended-push v w ends mid new back s on had is came =
    (is ∙ ap (λ (e : LoopEnds). noted e s) had.0 ∙ sym (noted-push ends back s), All-push (HaveComeBack w.lines w.directory) back s (all-back v w back on had.1) came)

-- a parked cluster stays one, whose loops are elsewhere
pub parked-stays : (v : ClusterView) (ends : LoopEnds) (o : OperatorView) (halted : Bool) → v.is_parked ≡ true → IsCluster v → IsCluster (record { operator = o; silos = v.silos; ends = ends; is_parked = v.is_parked; is_halted = halted; rounds = v.rounds; looks = v.looks })
parked-stays v ends o halted parked kept =
    record {
      at = subst (λ (ss : List SiloView). RunsOn o ss) (sym (kept.parked parked)) tt;
      fresh = kept.fresh;
      loops = λ fixed. let differ : true ≡ false = sym (ap (λ b. b || halted) parked) ∙ fixed in absurd (cc (differ));
      parked = λ same. kept.parked parked;
    }

-- where one silo lives alone, it is this one
pub only-one : (live : List ℕ) (silo : ℕ) → Contains live silo → length live ≡ 1 → live ≡ silo ∷ []
only-one [] silo lives one = absurd (omega (arith, one))
only-one (x ∷ []) silo (zero, within, here) one = ap (λ k. k ∷ []) here
only-one (x ∷ []) silo (suc at, within, here) one = absurd (omega (arith, within))
only-one (x ∷ y ∷ ys) silo lives one = absurd (omega (arith, one))

-- ends of which each is of no loop
pub ends-none : (e : LoopEnds) → e.memory ≡ false → e.limit ≡ false → e.rounds ≡ false → e ≡ none_ended
ends-none e memory limit rounds =
    ap (λ (b : Bool). record e { memory = b }) memory ∙ ap (λ (b : Bool). record none_ended { limit = b; rounds = e.rounds }) limit ∙ ap (λ (b : Bool). record none_ended { rounds = b }) rounds
