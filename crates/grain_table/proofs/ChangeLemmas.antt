-- One activation of a table changed.
use Rattle.grain_table.proofs.Prelude.{PlainActivation, ranked-set, IsListed, AreRanked, ◌≡◌, ◌∙◌, ap, ap₂, sym, refl, subst, ℕ, zero, suc, ◌<◌, true, false, true≢false, List, [], ◌∷◌, length, get_or, set, Some, arith, ◌+◌, ◌≤◌, filter, if◌then◌else◌, Bool, ◌++◌, is_some, None, Bor, Option, slice_index, nat_lt, ◌&&◌, not, IsTrue, ◌↔◌, ◌^◌, length-set, get_or-set_same, false_from_ne_true, lt-ltb, get_or_default, get_or_push, length_push, option_copied, grain_order, grain_lt, same_grain, change_at, GrainId}
use Rattle.stream_ident.proofs.WordLemmas.{set-change_at}
use Rattle.consumer_grain.specs.declared.activation.RunningTurn.{RunningTurn}
use Rattle.consumer_grain.specs.declared.mailbox.Delivery.{Delivery}
use Rattle.grain_table.specs.Grains.{PlainGrains, is_ready, is_running, AreDistinct, AreIdle}
use Rattle.grain_table.specs.Changes.{no_grain, activation_at}
use Rattle.grain_table.specs.Table.{is_entry_ready, name_of, running_in, standing_of, AreReady, IsKept, IsKeptBut, IsTable}
use Rattle.grain_table.specs.declared.table.Standing.{Standing}
use Rattle.grain_table.proofs.TableLemmas.{distinct-ranked, read_entry}
use Rattle.ranked_index.proofs.ListedLemmas.{listed-but, listed-more}

-- ---- how many turns run

-- a borrowed value is there where the value is
pub some-copied : {T : Type 0} (o : Option (Bor T)) → is_some (option_copied o) ≡ is_some o
some-copied None = refl
some-copied (Some t) = refl

count-first : (e : GrainId × PlainActivation) (es : PlainGrains) → running_in (e ∷ es) ≡ running_in es + (if is_running e.1 then 1 else 0)
count-first e es = by (is_running e.1)
  where
    by : (b : Bool) → length (if b then e ∷ filter (λ (x : GrainId × PlainActivation). is_running x.1) es else filter (λ (x : GrainId × PlainActivation). is_running x.1) es) ≡ running_in es + (if b then 1 else 0)
    by true = omega arith
    by false = omega arith

count-written : (grains : PlainGrains) (number : ℕ) (x : GrainId × PlainActivation) → number < length grains
    → running_in (set grains number x) + (if is_running (activation_at grains number) then 1 else 0) ≡ running_in grains + (if is_running x.1 then 1 else 0)
count-written [] number x within = absurd (omega arith)
count-written (e ∷ es) zero x within = omega (arith, count-first e es, count-first x es)
count-written (e ∷ es) (suc n) x within = omega (arith, count-first e es, count-first e (set es n x), count-written es n x (omega arith))

-- each counts at most once
one-most : (b : Bool) → (if b then 1 else 0) ≤ 1
one-most true = omega arith
one-most false = omega arith

count-most : (grains : PlainGrains) → running_in grains ≤ length grains
count-most [] = omega arith
count-most (e ∷ es) = omega (arith, count-first e es, one-most (is_running e.1), count-most es)

count-one : (grains : PlainGrains) (number : ℕ) → number < length grains → (if is_running (activation_at grains number) then 1 else 0) ≤ running_in grains
count-one [] number within = absurd (omega arith)
count-one (e ∷ es) zero within = omega (arith, count-first e es)
count-one (e ∷ es) (suc n) within = omega (arith, count-first e es, count-one es n (omega arith))

count-none : (grains : PlainGrains) (number : ℕ) → running_in grains ≡ 0 → number < length grains → is_running (activation_at grains number) ≡ false
count-none grains number none within =
    false_from_ne_true (is_running (activation_at grains number)) (λ is.
    let one : ◌≡◌ {A = ℕ} (if is_running (activation_at grains number) then 1 else 0) 1 = ap {B = ℕ} (λ (b : Bool). if b then 1 else 0) is in
    absurd (omega (arith, none, one, count-one grains number within)))

count-more : (grains : PlainGrains) (e : GrainId × PlainActivation) → running_in (grains ++ e ∷ []) ≡ running_in grains + (if is_running e.1 then 1 else 0)
count-more [] e = count-first e []
count-more (x ∷ xs) e = omega (arith, count-first x xs, count-first x (xs ++ e ∷ []), count-more xs e)

-- ---- all but one grain is kept

-- a grain stands among the ready ones just where it is ready
listed-ready : (grains : PlainGrains) (numbers : List ℕ) (number : ℕ) → number < length grains → AreReady grains numbers → IsTrue (is_ready (activation_at grains number)) ↔ IsListed numbers number
listed-ready grains numbers number within are = (
  (λ yes. are.listed no_grain number within yes),
  (λ there. ap (λ (n : ℕ). is_entry_ready (get_or grains n no_grain)) (sym there.at) ∙ are.passing no_grain there.place there.within),
)

-- an entry that was read
module _ (grains old : PlainGrains) (number : ℕ) (e : GrainId × PlainActivation) (seen : e ≡ get_or grains number e) (same : grains ≡ old) (inside : number < length old) where
  within : number < length grains
  within = omega (arith, inside, ap length same)

  read : get_or grains number no_grain ≡ e
  read = read_entry grains number e no_grain within seen

  pub was-at : e.1 ≡ activation_at old number
  was-at = ap (λ (x : GrainId × PlainActivation). x.1) (sym read) ∙ ap (λ (gs : PlainGrains). activation_at gs number) same

  -- and changed
  pub changed : (change : PlainActivation → PlainActivation) (a : PlainActivation) → a ≡ change e.1 → set grains number (e.0, a) ≡ change_at change number old
  changed change a is =
      ap₂ (λ (x : GrainId × PlainActivation) (b : PlainActivation). set grains number (x.0, b)) (sym read) (is ∙ ap (λ (x : GrainId × PlainActivation). change x.1) (sym read))
      ∙ set-change_at change number grains no_grain within ∙ ap (change_at change number) same

  named : (d : GrainId × PlainActivation) → e.0 ≡ name_of (get_or grains number d)
  named d = ap name_of (sym read ∙ get_or_default grains number no_grain d within)

  module _ (order ready : List ℕ) (room running : ℕ) (is : IsTable grains order ready room running) (a : PlainActivation) where
    pub changed-ranked : AreRanked name_of grain_lt (set grains number (e.0, a)) order
    changed-ranked = ranked-set grains order number (e.0, a) within name_of grain_lt named is.ranked

    pub changed-but : (before : Standing) → before ≡ standing_of e.1 → IsKeptBut number before (set grains number (e.0, a)) ready room running
    changed-but before stands =
        let long = length-set grains number (e.0, a) in
        let stood : before ≡ standing_of (activation_at grains number) = stands ∙ ap (λ (x : GrainId × PlainActivation). standing_of x.1) (sym read) in
        let now : ◌≡◌ {A = ℕ} (if is_running (activation_at (set grains number (e.0, a)) number) then 1 else 0) (if is_running a then 1 else 0) =
        ap {B = ℕ} (λ (x : GrainId × PlainActivation). if is_running x.1 then 1 else 0) (get_or-set_same grains number (e.0, a) no_grain within) in
        let ran : ◌≡◌ {A = ℕ} (if before.runs then 1 else 0) (if is_running (activation_at grains number) then 1 else 0) = ap {B = ℕ} (λ (s : Standing). if s.runs then 1 else 0) stood in
        record {
          within = omega (arith, long, within);
          distinct = distinct-ranked (set grains number (e.0, a)) order changed-ranked;
          are_ready = listed-but name_of grain_lt same_grain grain_order is_entry_ready grains ready number (e.0, a) within named is.kept.are_ready;
          was_ready = subst (λ (s : Standing). IsTrue s.is_ready ↔ IsListed ready number) (sym stood) (listed-ready grains ready number within is.kept.are_ready);
          fits = omega (arith, long, is.kept.fits);
          few = omega (arith, long, is.kept.few);
          counted = omega (arith, is.kept.counted, now, ran, count-written grains number (e.0, a) within);
        }

-- one grain more
pub added-but : (grains : PlainGrains) (ready : List ℕ) (room running more : ℕ) (e : GrainId × PlainActivation) → IsKept grains ready room running → AreDistinct (grains ++ e ∷ []) → length grains + 1 ≤ more → length grains + 1 ≤ 2 ^ 63
    → IsKeptBut (length grains) (record { is_ready = false; runs = false }) (grains ++ e ∷ []) ready more running
added-but grains ready room running more e is distinct fits few =
    let long = length_push grains e in
    let now : ◌≡◌ {A = ℕ} (if is_running (activation_at (grains ++ e ∷ []) (length grains)) then 1 else 0) (if is_running e.1 then 1 else 0) = ap {B = ℕ} (λ (x : GrainId × PlainActivation). if is_running x.1 then 1 else 0) (get_or_push grains e no_grain (length grains) refl) in
    record {
      within = omega (arith, long);
      distinct = distinct;
      are_ready = listed-more name_of grain_lt same_grain grain_order is_entry_ready grains ready e is.are_ready;
      was_ready = ((λ no. absurd (true≢false (sym no))), (λ there. absurd (omega (arith, ap {B = ℕ} (λ n. n) there.at, is.are_ready.rising.within there.place there.within))));
      fits = omega (arith, long, fits);
      few = omega (arith, long, few);
      counted = omega (arith, is.counted, now, count-more grains e);
    }

module _ (number : ℕ) (before : Standing) (grains : PlainGrains) (ready : List ℕ) (room running : ℕ) (but : IsKeptBut number before grains ready room running) where
  pub some-ran : IsTrue before.runs → 0 < running
  some-ran ran =
      let one : ◌≡◌ {A = ℕ} (if before.runs then 1 else 0) 1 = ap {B = ℕ} (λ (b : Bool). if b then 1 else 0) ran in
      omega (arith, but.counted, one, count-one grains number but.within)

  pub few-run : running + 1 < 2 ^ 64
  few-run = omega (arith, but.counted, one-most before.runs, count-most grains, but.few)

-- ---- none ready, and none running

-- where none is ready and no turn runs, nothing waits either
pub idle-all : (grains : PlainGrains) → AreReady grains [] → running_in grains ≡ 0 → AreIdle grains
idle-all grains are none i d within =
    let same = get_or_default grains i d no_grain within in
    let rests : is_running (activation_at grains i) ≡ false = count-none grains i none within in (
      ap (λ (e : GrainId × PlainActivation). e.1.mailbox) same ∙ waits (activation_at grains i) rests (λ is. absurd (omega (arith, (are.listed no_grain i within is).within))),
      ap (λ (e : GrainId × PlainActivation). e.1.running) same ∙ no-run (activation_at grains i).running rests,
    )
  where
    no-run : (o : Option RunningTurn) → is_some o ≡ false → o ≡ None
    no-run None is = refl
    no-run (Some run) is = absurd (cc)

    waits : (a : PlainActivation) → is_running a ≡ false → (is_ready a ≡ true → ⊥) → a.mailbox ≡ []
    waits a rests isnt = by a.mailbox refl
      where
        by : (mailbox : List Delivery) → a.mailbox ≡ mailbox → a.mailbox ≡ []
        by [] is = is
        by (d ∷ ds) is = absurd (isnt (rw (is, rests, lt-ltb 0 (suc (length ds)) (omega arith)) refl))

-- where nothing waits and no turn runs, none is ready
pub idle-ready : (grains : PlainGrains) (numbers : List ℕ) → AreReady grains numbers → AreIdle grains → length numbers ≡ 0
idle-ready grains [] are idle = refl
idle-ready grains (n ∷ ns) are idle =
    let within : slice_index (n ∷ ns) 0 < length grains = are.rising.within 0 (omega arith) in
    let empty : is_ready (activation_at grains (slice_index (n ∷ ns) 0)) ≡ false = unready (activation_at grains (slice_index (n ∷ ns) 0)) (idle (slice_index (n ∷ ns) 0) no_grain within).0 in
    absurd (true≢false (sym (are.passing no_grain 0 (omega arith)) ∙ empty))
  where
    unready : (a : PlainActivation) → a.mailbox ≡ [] → is_ready a ≡ false
    unready a none = ap (λ (ds : List Delivery). nat_lt 0 (length ds) && not (is_running a)) none

pub idle-running : (grains : PlainGrains) → AreIdle grains → running_in grains ≡ 0
idle-running [] idle = refl
idle-running (e ∷ es) idle =
    let rests : ◌≡◌ {A = ℕ} (if is_running e.1 then 1 else 0) 0 = ap {B = ℕ} (λ (o : Option RunningTurn). if is_some o then 1 else 0) (idle 0 e (omega arith)).1 in
    omega (arith, count-first e es, rests, idle-running es (λ i d within. idle (suc i) d (omega arith)))
