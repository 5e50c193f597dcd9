-- Lines whose passes make calls, one after another.
use Rattle.silo_operators.proofs.Prelude.{after, replied, first-of-all, goes-refl, goes-set, goes-trans, on-trans, calls-number, owns-append, owns-foreign, CallsOn, DirectoryPass, LineView, QueuePass, OwnsNone, AreSilent, GoOn, GoesOn, LineGoesOn, LineIsSilent, ◌≡◌, ◌≢◌, ℕ, zero, suc, ◌<◌, ◌≤◌, ◌+◌, false, inl, inr, List, [], ◌∷◌, ◌++◌, append_assoc, drop, length, get_or, set, Some, Result, Ok, Err, refl, sym, ap, subst, ◌∙◌, arith, drop-append_seam, drop-append-le, slice_get-get_or, slice_get_within, Reply, Op, numbers_of, entry, Entry, Refusal}
use Rattle.std.proofs.Math.ListN.{length-set}
use Rattle.std.proofs.lemmas.List.{get_or-set_same}
use Rattle.std.proofs.lemmas.Option.{slice_get_read}
use Rattle.std.specs.List.{slice_get}
use Rattle.stream_ident.specs.declared.ident.GrainId.{GrainId}
use Rattle.stream_model.specs.declared.op.Op.TheVariants as op
use Rattle.stream_model.specs.declared.reply.Reply.TheVariants as reply
use Rattle.activation_directory.specs.declared.op.DirectoryOp.TheVariants as asked
use Rattle.activation_directory.specs.declared.reply.DirectoryReply.TheVariants as directory
use Rattle.shared_partition.specs.Directories as places
use Rattle.silo_loops.proofs.Resting.{lt-cases}
use Rattle.silo_loops.proofs.Stepping.{one-line}
use Rattle.silo_operators.specs.declared.halt.Halt.{Halt}
use Rattle.silo_operators.specs.declared.halt.Halt.TheVariants as halt
use Rattle.silo_operators.specs.declared.leaving.Release.{Release}
use Rattle.silo_operators.specs.declared.leaving.Release.TheVariants as release
use Rattle.silo_operators.specs.Changes.{AreDeactivated, AtEachQueue, HasFound, HasMade, HasSince, HasMovedNowhere, HaveMovedNowhere, HaveOnlySeen, HaveStayed, HoldsGrains, IsDeactivated, IsDeactivation, IsMove, IsNoneLeft, IsRelease, IsSpentMove, IsUnmoved, LineHasOnlySeen, Releases, halt_of, is_move}
use Rattle.silo_operators.specs.Operators.{OperatorGoesOn, OperatorView}
use Rattle.silo_operators.proofs.Rows.{zip-at, zip-both, zip-refl}
use Rattle.silo_operators.proofs.Making.{found-refused, goes-called, goes-longer, made-called, made-cases, made-earlier, made-later, made-none, made-refused, owns-fewer}

pub get-here : (ls : List LineView) (at : ℕ) (m : LineView) → at < length ls → slice_get (set ls at m) at ≡ Some m
get-here ls at m within = slice_get_read (set ls at m) (length ls) at m (sym (length-set ls at m)) within (sym (get_or-set_same ls at m m within))

get-other : (ls : List LineView) (at k : ℕ) (l : LineView) → k ≢ at → slice_get (set ls at l) k ≡ slice_get ls k
get-other [] at k l other = refl
get-other (x ∷ ls) zero zero l other = absurd (other refl)
get-other (x ∷ ls) zero (suc k) l other = refl
get-other (x ∷ ls) (suc at) zero l other = refl
get-other (x ∷ ls) (suc at) (suc k) l other = get-other ls at k l (λ same. other (ap (λ n. suc n) same))

-- R holds of each of the first so many lines before and after; the others are as they were
pub record Since (R : ℕ → LineView → LineView → Type 0) (at : ℕ) (old new : List LineView) : Type 0 where
  pub on : GoOn old new
  pub made : (k : ℕ) (was is : LineView) → k < at → slice_get old k ≡ Some was → slice_get new k ≡ Some is → R k was is
  pub rest : (k : ℕ) → at ≤ k → slice_get new k ≡ slice_get old k

module _ (R : ℕ → LineView → LineView → Type 0) where
  pub since-none : (old : List LineView) → Since R 0 old old
  since-none old = record { on = goes-refl old; made = λ k was is below a b. absurd (omega arith); rest = λ k past. refl }

  pub since-on : (old new : List LineView) (at : ℕ) (l m : LineView) → at < length new → l ≡ get_or new at l → LineGoesOn l m → Since R at old new → GoOn old (set new at m)
  since-on old new at l m within read on since = goes-trans old new (set new at m) since.on (goes-set new at l m within (subst (λ (w : LineView). LineGoesOn w m) read on))

  -- the line that is next is as it was
  pub since-next : (old new : List LineView) (at : ℕ) (l : LineView) → at < length new → l ≡ get_or new at l → Since R at old new → slice_get old at ≡ Some l
  since-next old new at l within read since = sym (since.rest at (omega arith)) ∙ slice_get-get_or new at l within ∙ ap (λ (w : LineView). Some w) (sym read)

  pub since-more : (old new : List LineView) (at : ℕ) (l m : LineView) → at < length new → l ≡ get_or new at l → LineGoesOn l m → R at l m → Since R at old new → Since R (at + 1) old (set new at m)
  since-more old new at l m within read on holds since =
      record {
        on = since-on old new at l m within read on since;
        made = λ k was is below a b.
            elim (lt-cases k at below) as (λ s. R k was is) [
              | inl less ↦ since.made k was is less a (sym (get-other new at k m (λ same. absurd (omega (arith, same)))) ∙ b)
              | inr same ↦
                  let is_last : m ≡ is = one-line (set new at m) k m is (ap (λ n. slice_get (set new at m) n) same ∙ get-here new at m within) b in
                  let is_first : l ≡ was = one-line old k l was (ap (λ n. slice_get old n) same ∙ since-next old new at l within read since) a in
                  subst (λ n. R n was is) (sym same) (subst (λ (w : LineView). R at was w) is_last (subst (λ (w : LineView). R at w m) is_first holds))
            ];
        rest = λ k past. get-other new at k m (λ same. absurd (omega (arith, past, same))) ∙ since.rest k (omega (arith, past));
      }

  pub since-all : (old new : List LineView) (at : ℕ) → length old ≤ at → Since R at old new → AtEachQueue old new R
  since-all old new at past since = λ k was is a b. let within = slice_get_within old k was a in since.made k was is (omega (arith, within)) a b

-- lines of which each is as before, save what its pass has seen
pub seen-refl : (ls : List LineView) → HaveOnlySeen ls ls
seen-refl ls = zip-refl LineHasOnlySeen (λ l. (refl, refl)) ls

seen-trans : (l m n : LineView) → LineHasOnlySeen l m → LineHasOnlySeen m n → LineHasOnlySeen l n
seen-trans l m n a b = (b.0 ∙ a.0, b.1 ∙ ap (λ (p : QueuePass). record p { seen = n.pass.seen }) a.1)

pub seen-set : (old new : List LineView) (at : ℕ) (l m : LineView) → at < length new → l ≡ get_or new at l → LineHasOnlySeen l m → HaveOnlySeen old new → HaveOnlySeen old (set new at m)
seen-set [] [] at l m within read one all = absurd (omega arith)
seen-set (x ∷ xs) (y ∷ ys) zero l m within read one all = (seen-trans x y m all.0 (subst (λ (w : LineView). LineHasOnlySeen w m) read one), all.1)
seen-set (x ∷ xs) (y ∷ ys) (suc at) l m within read one all = (all.0, seen-set xs ys at l m (omega arith) read one all.1)
seen-set _ _ at l m within read one all = absurd all

-- A queue that was moved nowhere: one other call was made, calls of others came, or it stays so.
nowhere-more : (l m : LineView) (more : List (Entry Op Reply)) → m.pass.seen ≡ l.pass.seen ++ more → OwnsNone is_move (m.pass.number ∷ []) more → HasMovedNowhere l m
nowhere-more l m more seen none =
    subst (λ (es : List (Entry Op Reply)). OwnsNone is_move (m.pass.number ∷ []) es) (sym (ap (λ (es : List (Entry Op Reply)). drop (length l.pass.seen) es) seen ∙ drop-append_seam l.pass.seen more)) none

pub nowhere-called : (l : LineView) (o : Op) (r : Reply) (m : LineView) → CallsOn l o (Ok r) m → is_move o ≡ false → HasMovedNowhere l m
nowhere-called l o r m calls other =
    let between = calls.call.call.0 in
    let last = entry l.pass.number o r in
    let number = calls-number replied after l.pass o (Ok r) m.pass calls.call in
    let others = owns-fewer is_move (l.pass.number ∷ []) (numbers_of l.pass) between (first-of-all l.pass.number l.pass.joined) (owns-foreign is_move (numbers_of l.pass) between calls.call.call.2) in
    let own = owns-append is_move (l.pass.number ∷ []) between (last ∷ []) others ((λ here. other), tt) in
    nowhere-more l m (between ++ last ∷ []) (calls.call.call.1 ∙ append_assoc l.pass.seen between (last ∷ [])) (subst (λ n. OwnsNone is_move (n ∷ []) (between ++ last ∷ [])) (sym number) own)

pub nowhere-silent : (l m : LineView) → LineIsSilent l m → HasMovedNowhere l m
nowhere-silent l m silent =
    nowhere-more l m silent.on.more silent.on.seen (subst (λ n. OwnsNone is_move (n ∷ []) silent.on.more) (sym silent.on.number) (owns-foreign is_move (l.pass.number ∷ []) silent.on.more silent.foreign))

nowhere-both : (l m n : LineView) → LineGoesOn l m → LineGoesOn m n → HasMovedNowhere l m → HasMovedNowhere m n → HasMovedNowhere l n
nowhere-both l m n on on2 first second =
    let whole = ap (λ (es : List (Entry Op Reply)). drop (length l.pass.seen) es) on2.seen ∙ drop-append-le (length l.pass.seen) m.pass.seen on2.more (goes-longer l.pass m.pass on) in
    let rest = ap (λ (es : List (Entry Op Reply)). drop (length m.pass.seen) es) on2.seen ∙ drop-append_seam m.pass.seen on2.more in
    let front = subst (λ k. OwnsNone is_move (k ∷ []) (drop (length l.pass.seen) m.pass.seen)) (sym on2.number) first in
    subst (λ (es : List (Entry Op Reply)). OwnsNone is_move (n.pass.number ∷ []) es) (sym whole)
    (owns-append is_move (n.pass.number ∷ []) (drop (length l.pass.seen) m.pass.seen) on2.more front (subst (λ (es : List (Entry Op Reply)). OwnsNone is_move (n.pass.number ∷ []) es) rest second))

pub nowhere-trans : (old new fresh : List LineView) → GoOn old new → GoOn new fresh → HaveMovedNowhere old new → HaveMovedNowhere new fresh → HaveMovedNowhere old fresh
nowhere-trans old new fresh on on2 first second queue was is had has =
    let middle = zip-at LineGoesOn new fresh queue is on2 has in
    nowhere-both was middle.0 is (zip-both LineGoesOn old new queue was middle.0 on had middle.1) middle.2 (first queue was middle.0 had middle.1) (second queue middle.0 is middle.1 has)

pub nowhere-silents : (old new : List LineView) → AreSilent old new → HaveMovedNowhere old new
nowhere-silents old new silent queue was is had has = nowhere-silent was is (zip-both LineIsSilent old new queue was is silent had has)

-- queues that stay where they are stay so, seen from before as well
pub stayed-earlier : (old new fresh : List LineView) (before now : List ℕ) → GoOn old new → GoOn new fresh → HaveMovedNowhere old new → HaveStayed new fresh before now → HaveStayed old fresh before now
stayed-earlier old new fresh before now on on2 nowhere stayed queue was is had has same =
    let middle = zip-at LineGoesOn new fresh queue is on2 has in
    nowhere-both was middle.0 is (zip-both LineGoesOn old new queue was middle.0 on had middle.1) middle.2 (nowhere queue was middle.0 had middle.1) (stayed queue middle.0 is middle.1 has same)

-- a Move that was answered Spent, and one that was refused
pub unmoved-spent : (l : LineView) (silo : ℕ) (m : LineView) → CallsOn l (op.Move silo) (Ok reply.Spent) m → IsUnmoved halt.Limit silo l m
unmoved-spent l silo m calls = (
  λ made.
      elim (made-cases replied after (IsMove silo) (length l.pass.seen) l.pass (op.Move silo) reply.Spent m.pass calls.call (omega arith) made) as (λ s. ⊥) [
        | inl earlier ↦ made-none (IsMove silo) l.pass earlier
        | inr is ↦ let differ = is.1.2 in absurd (cc (differ))
      ],
  inr (refl, made-called replied after (IsSpentMove silo) l.pass (op.Move silo) reply.Spent m.pass calls.call (refl, refl)),
)

pub unmoved-refused : (l : LineView) (silo : ℕ) (e : Refusal) (m : LineView) → CallsOn l (op.Move silo) (Err e) m → IsUnmoved (halt_of e) silo l m
unmoved-refused l silo e m calls = (
  λ made. made-none (IsMove silo) l.pass (made-refused replied after (IsMove silo) (length l.pass.seen) l.pass (op.Move silo) e m.pass calls.call (omega arith) made),
  inl (found-refused replied after l.pass (op.Move silo) e m.pass calls.call),
)

-- calls that were made at each queue since are so later, and so they are since what was before
pub each-later : (P : Op → Reply → Type 0) (old new fresh : List LineView) → GoOn old new → GoOn new fresh → AtEachQueue old new (λ k was is. HasSince was is P) → AtEachQueue old fresh (λ k was is. HasSince was is P)
each-later P old new fresh on on2 each k was is a b =
    let middle = zip-at LineGoesOn new fresh k is on2 b in
    let goes = zip-both LineGoesOn old new k was middle.0 on a middle.1 in
    made-later P (length was.pass.seen) middle.0.pass is.pass middle.2 (goes-longer was.pass middle.0.pass goes) (each k was middle.0 a middle.1)

pub each-earlier : (P : Op → Reply → Type 0) (old new fresh : List LineView) → GoOn old new → GoOn new fresh → AtEachQueue new fresh (λ k was is. HasSince was is P) → AtEachQueue old fresh (λ k was is. HasSince was is P)
each-earlier P old new fresh on on2 each k was is a b =
    let middle = zip-at LineGoesOn new fresh k is on2 b in
    let goes = zip-both LineGoesOn old new k was middle.0 on a middle.1 in
    made-earlier P (length was.pass.seen) (length middle.0.pass.seen) is.pass (goes-longer was.pass middle.0.pass goes) (each k middle.0 is middle.1 b)

-- a silo's grains leave, one after another
pub one-gone : (silo : ℕ) (d e f : DirectoryPass) (old new fresh : List LineView) (other : GrainId) → GoesOn d e → Releases silo e (Ok (release.Grain other)) f → GoOn old new → GoOn new fresh → IsDeactivated new fresh other
    → AreDeactivated silo d e old new → AreDeactivated silo d f old fresh
one-gone silo d e f old new fresh other on calls lines lines2 done before grain made =
    elim (made-cases places.replied places.after (IsRelease silo grain) (length d.seen) e (asked.Down silo) (directory.Released other calls.0) f calls.1 (goes-longer d e on) made) as (λ s. IsDeactivated old fresh grain) [
      | inl earlier ↦ each-later (IsDeactivation grain) old new fresh lines lines2 (before grain earlier)
      | inr is ↦
          let named : grain ≡ other = cc (is.1.1) in
          subst (λ g. IsDeactivated old fresh g) (sym named) (each-earlier (IsDeactivation other) old new fresh lines lines2 done)
    ]

pub all-gone : (silo : ℕ) (d e f : DirectoryPass) (old new : List LineView) → GoesOn d e → Releases silo e (Ok release.NoneLeft) f → AreDeactivated silo d e old new → AreDeactivated silo d f old new × HasMade (length d.seen) f (IsNoneLeft silo)
all-gone silo d e f old new on calls before = (
  λ grain made.
      elim (made-cases places.replied places.after (IsRelease silo grain) (length d.seen) e (asked.Down silo) directory.NoneLeft f calls (goes-longer d e on) made) as (λ s. IsDeactivated old new grain) [
        | inl earlier ↦ before grain earlier
        | inr is ↦ let differ = is.1.1 in absurd (cc (differ))
      ],
  made-earlier (IsNoneLeft silo) (length d.seen) (length e.seen) f (goes-longer d e on) (made-called places.replied places.after (IsNoneLeft silo) e (asked.Down silo) directory.NoneLeft f calls (refl, refl)),
)

-- While grains come, none is said to be left.
pub none-released : (silo : ℕ) (d e f : DirectoryPass) (grain : GrainId) → GoesOn d e → Releases silo e (Ok (release.Grain grain)) f → (HasMade (length d.seen) e (IsNoneLeft silo) → ⊥) → HasMade (length d.seen) f (IsNoneLeft silo) → ⊥
none-released silo d e f grain on calls none made =
    elim (made-cases places.replied places.after (IsNoneLeft silo) (length d.seen) e (asked.Down silo) (directory.Released grain calls.0) f calls.1 (goes-longer d e on) made) as (λ s. ⊥) [
      | inl earlier ↦ none earlier
      | inr is ↦ let differ = is.1 in absurd (cc (differ))
    ]

pub holds-refused : (why : Halt) (silo : ℕ) (d e f : DirectoryPass) (lines : List LineView) → GoesOn d e → Releases silo e (Err why) f → (HasMade (length d.seen) e (IsNoneLeft silo) → ⊥) → HoldsGrains why silo d f lines
holds-refused why silo d e f lines on calls none = (
  λ made. none (made-refused places.replied places.after (IsNoneLeft silo) (length d.seen) e (asked.Down silo) calls.0 f calls.2 (goes-longer d e on) made),
  inl (subst (λ (h : Halt). HasFound h f) (sym calls.1) (found-refused places.replied places.after e (asked.Down silo) calls.0 f calls.2)),
)

pub released-on : (silo : ℕ) (d : DirectoryPass) (result : Result Release Halt) (e : DirectoryPass) → Releases silo d result e → GoesOn d e
released-on silo d (Ok (release.Grain grain)) e calls = goes-called places.replied places.after d (asked.Down silo) (Ok (directory.Released grain calls.0)) e calls.1
released-on silo d (Ok release.NoneLeft) e calls = goes-called places.replied places.after d (asked.Down silo) (Ok directory.NoneLeft) e calls
released-on silo d (Err why) e calls = goes-called places.replied places.after d (asked.Down silo) (Err calls.0) e calls.2

-- an operator that goes on, and then goes on again
pub op-trans : (u v w : OperatorView) → OperatorGoesOn u v → OperatorGoesOn v w → OperatorGoesOn u w
op-trans u v w a b = record { lines = goes-trans u.lines v.lines w.lines a.lines b.lines; directory = on-trans u.directory v.directory w.directory a.directory b.directory }
