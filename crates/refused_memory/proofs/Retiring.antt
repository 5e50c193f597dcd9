-- A parked cluster whose first silo is given back.
use Rattle.std.proofs.Common.{◌≡◌, ℕ, ◌≤◌, ◌<◌, List, [], ◌∷◌, length, get_or, map, remove, Contains, Result, Ok, Err, sym, ap, subst, ◌∙◌, arith}
use Rattle.std.proofs.lemmas.List.{length-map}
use Rattle.std.proofs.lemmas.List.FromFn.{length-range_with_len}
use Rattle.std.specs.List.{AllByRecursion}
use Rattle.std.specs.declared.alloc.AllocError.{AllocError}
use Rattle.stream_ident.proofs.WordLemmas.{All-at}
use Rattle.silo_loops.specs.Lines.{QueuePass, places}
use Rattle.silo_loops.specs.Silos.{IsSiloAt, SiloView}
use Rattle.queue_callers.specs.Gathering.{AreAt}
use Rattle.silo_operators.specs.Operators.{OperatorGoesOn, OperatorView}
use Rattle.silo_threads.specs.Clusters.{AnswersRetire, ClusterView, IsNewParked, RunsOn}
use Rattle.silo_threads.specs.declared.config.Config.{Config}
use Rattle.silo_threads.specs.declared.cluster.Retired.{Retired}
use Rattle.silo_threads.specs.declared.cluster.Retired.TheVariants as retired
use Rattle.silo_threads.proofs.Standing.{all-remove, callers-on, lives-at, op-refl, silo-place, sits-on}

-- the loops at the first place have their passes at the operator's turnstiles, and their silo lives
pub first-at : (o : OperatorView) (crew : List SiloView) (s : SiloView) → 0 < length crew → s ≡ get_or crew 0 s → RunsOn o crew → IsSiloAt o.lines o.directory s
first-at o crew s some is runs = subst (λ (x : SiloView). IsSiloAt o.lines o.directory x) (sym is) (All-at (IsSiloAt o.lines o.directory) crew 0 s runs some)

pub first-lives : (o : OperatorView) (crew : List SiloView) (s : SiloView) → 0 < length crew → s ≡ get_or crew 0 s → map (λ (x : SiloView). x.silo) crew ≡ o.live → Contains o.live s.silo
first-lives o crew s some is live = lives-at o.live 0 s.silo (silo-place crew o.live 0 s live some is)

-- whatever is answered, the operator's passes go on, and the cluster stays parked
goes-on : {G H D : Type 0} (v w : ClusterView) (s : SiloView) (result : Result (Retired G H D) AllocError) → AnswersRetire v s result w → OperatorGoesOn v.operator w.operator
goes-on v w s (Ok retired.Down) answers = answers.2.on
goes-on v w s (Ok retired.Limit) answers = answers.0.2.on
goes-on v w s (Ok (retired.LastSilo back)) answers = subst (λ (c : ClusterView). OperatorGoesOn v.operator c.operator) (sym answers.3) (op-refl v.operator)
goes-on v w s (Ok (retired.Halted back)) answers = subst (λ (c : ClusterView). OperatorGoesOn v.operator c.operator) (sym answers.2) (op-refl v.operator)
goes-on v w s (Err e) answers = answers.2.on

pub stays-parked : {G H D : Type 0} (v w : ClusterView) (s : SiloView) (result : Result (Retired G H D) AllocError) → AnswersRetire v s result w → w.is_parked ≡ v.is_parked
stays-parked v w s (Ok retired.Down) answers = answers.2.same.0
stays-parked v w s (Ok retired.Limit) answers = answers.0.2.same.0
stays-parked v w s (Ok (retired.LastSilo back)) answers = ap (λ (c : ClusterView). c.is_parked) answers.3
stays-parked v w s (Ok (retired.Halted back)) answers = ap (λ (c : ClusterView). c.is_parked) answers.2
stays-parked v w s (Err e) answers = answers.2.same.0

-- the other loops and the callers still have their passes there
pub others-at : {G H D : Type 0} (v w : ClusterView) (crew left : List SiloView) (s : SiloView) (result : Result (Retired G H D) AllocError) → left ≡ remove crew 0 → AnswersRetire v s result w → RunsOn v.operator crew → RunsOn w.operator left
others-at v w crew left s result out answers runs =
    subst (λ (xs : List SiloView). RunsOn w.operator xs) (sym out) (sits-on v.operator w.operator (remove crew 0) (goes-on v w s result answers) (all-remove (IsSiloAt v.operator.lines v.operator.directory) crew 0 runs))

pub callers-at : {G H D : Type 0} (v w : ClusterView) (callers : List (List QueuePass)) (s : SiloView) (result : Result (Retired G H D) AllocError) → AnswersRetire v s result w → AllByRecursion (AreAt (places v.operator.lines)) callers → AllByRecursion (AreAt (places w.operator.lines)) callers
callers-at v w callers s result answers at = callers-on v.operator.lines w.operator.lines callers (goes-on v w s result answers).lines at

-- a new cluster has the loops of some silo
pub some-silo : (config : Config) (c : ClusterView) (caller : List QueuePass) (crew : List SiloView) → 1 ≤ config.silos → IsNewParked config c caller crew → 0 < length crew
some-silo config c caller crew some new =
    let many : length crew ≡ config.silos = sym (length-map crew (λ (x : SiloView). x.silo)) ∙ ap (λ (ns : List ℕ). length ns) (new.silos ∙ new.opened.live) ∙ length-range_with_len 0 config.silos in
    omega (arith, some, many)

-- its first caller has passes at its turnstiles
pub first-caller : (config : Config) (c : ClusterView) (caller : List QueuePass) (crew : List SiloView) (callers : List (List QueuePass)) → callers ≡ caller ∷ [] → IsNewParked config c caller crew → AllByRecursion (AreAt (places c.operator.lines)) callers
first-caller config c caller crew callers one new = subst (λ (xs : List (List QueuePass)). AllByRecursion (AreAt (places c.operator.lines)) xs) (sym one) (new.opened.beside, tt)
