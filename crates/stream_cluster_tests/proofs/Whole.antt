-- A parked cluster and all that was handed out with it stay whole.
use Rattle.std.proofs.Common.{◌≡◌, ◌≢◌, ℕ, ◌<◌, true, false, List, length, get_or, set, remove, Contains, Some, Result, Ok, Err, sym, ap, subst, ◌∙◌}
use Rattle.std.specs.Prelude.{◌||◌}
use Rattle.std.proofs.lemmas.List.{length-map}
use Rattle.std.proofs.lemmas.List.Quantifiers.{all_pairs_remove}
use Rattle.std.specs.List.{insert, slice_get}
use Rattle.std.specs.declared.alloc.AllocError.{AllocError}
use Rattle.stream_ident.proofs.WordLemmas.{All-at}
use Rattle.queue_balancer.specs.Balance.{HasNoDoubles}
use Rattle.silo_loops.specs.Lines.{QueuePass}
use Rattle.silo_loops.specs.Silos.{HasRun, IsSiloAt, SiloView}
use Rattle.silo_loops.proofs.Going.{goes-places}
use Rattle.silo_operators.specs.Operators.{OperatorGoesOn}
use Rattle.silo_threads.specs.Clusters.{AnswersRetire, AnswersUp, ClusterView, HasHalted, IsDown, IsNewParked, RunsOn, is_fixed}
use Rattle.silo_threads.specs.declared.config.Config.{Config}
use Rattle.silo_threads.specs.declared.cluster.Retired.{Retired}
use Rattle.silo_threads.specs.declared.cluster.Retired.TheVariants as retired
use Rattle.silo_threads.specs.declared.cluster.SiloUp.{SiloUp}
use Rattle.silo_threads.specs.declared.cluster.SiloUp.TheVariants as up
use Rattle.silo_threads.proofs.Standing.{all-remove, lives-at, map-remove, same-at, silo-place, sits-on}
use Rattle.stream_cluster_tests.specs.Parked.{IsLeft, IsWhole, silos_of}
use Rattle.stream_cluster_tests.proofs.Standing.{all-set, insert-remove, insert-removed, one-place, range-once, silos-set}

-- a new parked cluster
pub whole-new : (config : Config) (c : ClusterView) (caller : List QueuePass) (crew : List SiloView) → IsNewParked config c caller crew → IsWhole c caller crew
whole-new config c caller crew new =
    record {
      parked = new.parked;
      runs = new.at;
      live = λ goes. new.silos;
      once = subst (λ (xs : List ℕ). HasNoDoubles xs) (sym (new.silos ∙ new.opened.live)) (range-once 0 config.silos);
      beside = new.opened.beside;
    }

-- the loops of one silo at a place
pub runs-at : (c : ClusterView) (crew : List SiloView) (at : ℕ) (s : SiloView) → at < length crew → s ≡ get_or crew at s → RunsOn c.operator crew → IsSiloAt c.operator.lines c.operator.directory s
runs-at c crew at s within is runs = subst (λ (x : SiloView). IsSiloAt c.operator.lines c.operator.directory x) (sym is) (All-at (IsSiloAt c.operator.lines c.operator.directory) crew at s runs within)

-- a step of a loop of the silo at a place
pub whole-step : (c : ClusterView) (caller : List QueuePass) (crew later : List SiloView) (at : ℕ) (s t : SiloView) → at < length crew → s ≡ get_or crew at s → HasRun s t → later ≡ set crew at t → IsWhole c caller crew → IsWhole c caller later
whole-step c caller crew later at s t within is ran put whole =
    let silos : silos_of later ≡ silos_of crew = ap (λ (xs : List SiloView). silos_of xs) put ∙ silos-set crew at s t within is ran.silo in
    let here = same-at c.operator.lines c.operator.directory s t (runs-at c crew at s within is whole.runs) ran in
    record {
      parked = whole.parked;
      runs = subst (λ (xs : List SiloView). RunsOn c.operator xs) (sym put) (all-set (IsSiloAt c.operator.lines c.operator.directory) crew at t whole.runs here);
      live = λ goes. silos ∙ whole.live goes;
      once = subst (λ (xs : List ℕ). HasNoDoubles xs) (sym silos) whole.once;
      beside = whole.beside;
    }

-- the loops of the silo at a place were taken out, took steps or none, and came back
pub whole-put-back : (c : ClusterView) (caller : List QueuePass) (crew left later : List SiloView) (at : ℕ) (s t : SiloView) → at < length crew → s ≡ get_or crew at s → left ≡ remove crew at → HasRun s t → later ≡ insert left at t → IsWhole c caller crew → IsWhole c caller later
whole-put-back c caller crew left later at s t within is out ran put whole =
    whole-step c caller crew later at s t within is ran (put ∙ ap (λ (xs : List SiloView). insert xs at t) out ∙ insert-removed crew at t within) whole

-- the silo at a place lives, unless a change was broken off
lives : (c : ClusterView) (caller : List QueuePass) (crew : List SiloView) (at : ℕ) (s : SiloView) → at < length crew → s ≡ get_or crew at s → IsWhole c caller crew → c.is_halted ≡ false → slice_get c.operator.live at ≡ Some s.silo
lives c caller crew at s within is whole goes = silo-place crew c.operator.live at s (whole.live goes) within is

-- the operator's passes went on, and the loops of the silo at a place are gone
whole-left : (v w : ClusterView) (caller : List QueuePass) (crew later : List SiloView) (at : ℕ) → at < length crew → later ≡ remove crew at → OperatorGoesOn v.operator w.operator → w.is_parked ≡ v.is_parked
    → (w.is_halted ≡ false → silos_of later ≡ w.operator.live) → IsWhole v caller crew → IsWhole w caller later
whole-left v w caller crew later at within left on same live whole =
    let silos : silos_of later ≡ remove (silos_of crew) at = ap (λ (xs : List SiloView). silos_of xs) left ∙ map-remove crew at in
    record {
      parked = same ∙ whole.parked;
      runs = subst (λ (xs : List SiloView). RunsOn w.operator xs) (sym left) (sits-on v.operator w.operator (remove crew at) on (all-remove (IsSiloAt v.operator.lines v.operator.directory) crew at whole.runs));
      live = live;
      once = subst (λ (xs : List ℕ). HasNoDoubles xs) (sym silos) (all_pairs_remove (λ (one other : ℕ). one ≢ other) (silos_of crew) at (subst (λ n. at < n) (sym (length-map crew (λ (x : SiloView). x.silo))) within) whole.once);
      beside = whole.beside ∙ sym (goes-places v.operator.lines w.operator.lines on.lines);
    }

-- a silo was retired
whole-down : (v w : ClusterView) (caller : List QueuePass) (crew later : List SiloView) (at : ℕ) (s : SiloView) → at < length crew → s ≡ get_or crew at s → later ≡ remove crew at → v.is_halted ≡ false → IsDown v s.silo w → IsWhole v caller crew → IsWhole w caller later
whole-down v w caller crew later at s within is left goes gone whole =
    let here = lives v caller crew at s within is whole goes in
    let same : gone.place ≡ at = one-place v.operator.live gone.place at s.silo (subst (λ (xs : List ℕ). HasNoDoubles xs) (whole.live goes) whole.once) gone.stood here in
    let live : silos_of later ≡ w.operator.live =
    ap (λ (xs : List SiloView). silos_of xs) left ∙ map-remove crew at ∙ ap (λ (xs : List ℕ). remove xs at) (whole.live goes) ∙ ap (λ k. remove v.operator.live k) (sym same) ∙ sym gone.left.live in
    whole-left v w caller crew later at within left gone.on gone.same.0 (λ free. live) whole

-- a change was broken off
whole-halted : (v w : ClusterView) (caller : List QueuePass) (crew later : List SiloView) (at : ℕ) → at < length crew → later ≡ remove crew at → HasHalted v w → IsWhole v caller crew → IsWhole w caller later
whole-halted v w caller crew later at within left halted whole =
    whole-left v w caller crew later at within left halted.on halted.same.0 (λ free. let differ : true ≡ false = sym halted.halted ∙ free in absurd (cc (differ))) whole

-- the loops that were taken out came again, where they had been
whole-back : (v w : ClusterView) (caller : List QueuePass) (crew left later : List SiloView) (at : ℕ) (s back : SiloView) → at < length crew → s ≡ get_or crew at s → left ≡ remove crew at → back ≡ s → later ≡ insert left at back → w ≡ v → IsWhole v caller crew → IsWhole w caller later
whole-back v w caller crew left later at s back within is out same put kept whole =
    let again : later ≡ crew = put ∙ ap (λ (xs : List SiloView). insert xs at back) out ∙ ap (λ (x : SiloView). insert (remove crew at) at x) same ∙ insert-remove crew at s within is in
    subst (λ (xs : List SiloView). IsWhole w caller xs) (sym again) (subst (λ (c : ClusterView). IsWhole c caller crew) (sym kept) whole)

pub whole-lives : (c : ClusterView) (caller : List QueuePass) (crew : List SiloView) (at : ℕ) (s : SiloView) → at < length crew → s ≡ get_or crew at s → IsWhole c caller crew → c.is_halted ≡ false → Contains c.operator.live s.silo
whole-lives c caller crew at s within is whole goes = lives-at c.operator.live at s.silo (lives c caller crew at s within is whole goes)

-- what is left once the loops at a place were given back
pub whole-after : {G H D : Type 0} (v w : ClusterView) (caller : List QueuePass) (crew left later : List SiloView) (at : ℕ) (s : SiloView) (result : Result (Retired G H D) AllocError) → at < length crew → s ≡ get_or crew at s → left ≡ remove crew at
    → AnswersRetire v s result w → IsLeft result at left later → IsWhole v caller crew → IsWhole w caller later
whole-after v w caller crew left later at s (Ok retired.Down) within is out answers kept whole = whole-down v w caller crew later at s within is (kept ∙ out) answers.0 answers.2 whole
whole-after v w caller crew left later at s (Ok retired.Limit) within is out answers kept whole = whole-halted v w caller crew later at within (kept ∙ out) answers.0.2 whole
whole-after v w caller crew left later at s (Ok (retired.LastSilo back)) within is out answers kept whole = whole-back v w caller crew left later at s back within is out answers.2 kept answers.3 whole
whole-after v w caller crew left later at s (Ok (retired.Halted back)) within is out answers kept whole = whole-back v w caller crew left later at s back within is out answers.1 kept answers.2 whole
whole-after v w caller crew left later at s (Err e) within is out answers kept whole = whole-halted v w caller crew later at within (kept ∙ out) answers.2 whole

-- no silo comes to a parked cluster
is-fixed : (v : ClusterView) → v.is_parked ≡ true → is_fixed v ≡ false → {A : Type 0} → A
is-fixed v parked moves = let differ : true ≡ false = sym (ap (λ p. p || v.is_halted) parked) ∙ moves in absurd (cc (differ))

up-fixed : (v w : ClusterView) (silo : ℕ) (result : Result SiloUp AllocError) → v.is_parked ≡ true → AnswersUp v silo result w → w ≡ v
up-fixed v w silo (Ok up.Halted) parked answers = answers.1
up-fixed v w silo (Ok up.Already) parked answers = answers.2
up-fixed v w silo (Ok up.Up) parked answers = is-fixed v parked answers.0
up-fixed v w silo (Ok up.Limit) parked answers = is-fixed v parked answers.0
up-fixed v w silo (Err e) parked answers = is-fixed v parked answers.0

pub whole-fixed : (v w : ClusterView) (caller : List QueuePass) (crew : List SiloView) (silo : ℕ) (result : Result SiloUp AllocError) → AnswersUp v silo result w → IsWhole v caller crew → IsWhole w caller crew
whole-fixed v w caller crew silo result answers whole = subst (λ (c : ClusterView). IsWhole c caller crew) (sym (up-fixed v w silo result whole.parked answers)) whole
