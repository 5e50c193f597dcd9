-- What a line does, by what it asks for.
use Rattle.script_runs.proofs.Prelude.{IsErrAnd, QueuePass, gone-refl, zip-refl, op-refl, AnswersDown, AnswersUp, ClusterView, is_fixed, turnstiles, AllZip, HasGoneOn, Looks, LooksAWhile, LooksInVain, LooksQuiet, OperatorGoesOn, ◌≡◌, ◌≢◌, ◌≤◌, ℕ, inl, inr, true, false, List, Option, None, Result, Ok, Err, IfOk, refl, sym, ap, subst, ◌∙◌, true≢false, AllocError, is_producer, Op, op_of, Command, EachOp, HistoryFull}
use Rattle.silo_threads.specs.declared.cluster.SiloDown.{SiloDown}
use Rattle.silo_threads.specs.declared.cluster.SiloDown.TheVariants as down
use Rattle.silo_threads.specs.declared.cluster.SiloUp.{SiloUp}
use Rattle.silo_threads.specs.declared.cluster.SiloUp.TheVariants as up
use Rattle.stream_script.specs.declared.parser.command.Command.TheVariants as command
use Rattle.script_runs.specs.ScriptReport.{live_after}
use Rattle.script_runs.specs.Told as script
use Rattle.script_runs.proofs.Changing.{came, is-last, lacks, same-on, stays, went}
use Rattle.script_runs.proofs.Fronts.{each-part, silent-part, step-part, told-part}
use Rattle.script_runs.proofs.Growing.{scripts-grow}
use Rattle.script_runs.specs.declared.producer.answer.Answer.{Answer}
use Rattle.script_runs.specs.declared.producer.answer.Answer.TheVariants as answer
use Rattle.script_runs.specs.Telling.{AsksEachOnce, AsksOnce, EndsAsking, Tells, TellsUnlessLimit, with_missed}
use Rattle.script_runs.specs.declared.runs.line.Stop.{Stop}
use Rattle.script_runs.specs.declared.runs.line.Stop.TheVariants as stop
use Rattle.script_runs.specs.Lines.{ChangesBy, DoesLine, EndsLine, IsUnquiet, MeetsLimit, StopsBy, TellsInPart, WaitsAWhile, WaitsInVain, came_up, unless_limit, went_down}

-- a line that asks for something at the queues
pub tells-line : (v : ClusterView) (old new : List QueuePass) (said : Command) (a : Answer) → ((live : List ℕ) → live_after live said ≡ live) → Tells old said a new → (said ≡ command.Drain → LooksQuiet v.looks old new) → DoesLine v old said a v new
tells-line v old new said a same tells quiet =
    record {
      live = λ once. (sym (same v.operator.live), once);
      told = tells.told;
      printed = λ begins alone missed lines number fresh has silos is. tells.printed begins alone missed lines number fresh has silos;
      quiet = quiet;
      stays = λ free. (free, refl);
    }

-- a line by which a silo comes or goes
changes-line : (v w : ClusterView) (passes : List QueuePass) (said : Command) (a : Answer) → ((queue : ℕ) → script.op_at queue said ≡ None) → (said ≡ command.Drain → ⊥) → ChangesBy v said a w → DoesLine v passes said a w passes
changes-line v w passes said a none other changes =
    record {
      live = changes.live;
      told = λ begins alone missed lines number fresh has queue p at.
          let now = with_missed a number missed in
          has queue p at
          ∙ ap (λ (numbers : List ℕ). script.told numbers queue lines) (sym (changes.found number missed))
          ∙ ap (λ (asked : Option Op). script.with_told now (script.told now queue lines) number asked) (sym (none queue))
          ∙ sym (scripts-grow.told now queue lines (record { number = number; command = said }));
      printed = λ begins alone missed lines number fresh has silos is. changes.prints (with_missed a number missed) silos lines number is;
      quiet = λ drains. absurd (other drains);
      stays = changes.stays;
    }

-- ---- how a line with this command ends

-- the command and the result are these
pub ends-so : {v w : ClusterView} {old new : List QueuePass} {said here : Command} {result gave : Result Answer Stop} → said ≡ here → result ≡ gave → EndsLine v old here gave w new → EndsLine v old said result w new
ends-so is same ends = rw (is, same) ends

-- ---- a line that asks at the queues

asked-ends : (v : ClusterView) (old new : List QueuePass) (said : Command) (asked : Result Answer AllocError) → ((live : List ℕ) → live_after live said ≡ live) → (said ≡ command.Drain → ⊥)
    → AllZip HasGoneOn old new → turnstiles new ≡ turnstiles old → IfOk asked (λ a. TellsUnlessLimit old said a new) → TellsInPart old said new → (asked ≡ Ok answer.Limit → MeetsLimit said v old v new) → EndsLine v old said (unless_limit asked) v new
asked-ends v old new said (Ok answer.Limit) same other on at tells part meets = record { line = tt; part = part; stops = λ free. meets refl; on = on; at = at; cluster = op-refl v.operator }
asked-ends v old new said (Ok a) same other on at tells part meets =
    record { line = tells-line v old new said a same (tells (λ limit. absurd (cc limit))) (λ drains. absurd (other drains)); part = tt; stops = λ free. tt; on = on; at = at; cluster = op-refl v.operator }
asked-ends v old new said (Err e) same other on at tells part meets = record { line = tt; part = part; stops = λ free. tt; on = on; at = at; cluster = op-refl v.operator }

pub step-ends : (v : ClusterView) (old new : List QueuePass) (queue : ℕ) (op : Op) (asked : Result Answer AllocError) → is_producer op ≡ true → AllZip HasGoneOn old new → turnstiles new ≡ turnstiles old
    → IfOk asked (λ a. TellsUnlessLimit old (command.Step queue op) a new) → AsksOnce old queue op asked new → EndsLine v old (command.Step queue op) (unless_limit asked) v new
step-ends v old new queue op asked produces on at tells once =
    asked-ends v old new (command.Step queue op) asked (λ live. refl) (λ drains. absurd (cc drains)) on at tells (step-part old new queue op asked produces once)
    (λ is. record { before = old; on = zip-refl HasGoneOn gone-refl old; queue = queue; asks = subst (λ (r : Result Answer AllocError). AsksOnce old queue op r new) is once })

pub each-ends : (v : ClusterView) (old new : List QueuePass) (each : EachOp) (asked : Result Answer AllocError) → is_producer (op_of each) ≡ true → AllZip HasGoneOn old new → turnstiles new ≡ turnstiles old
    → IfOk asked (λ a. TellsUnlessLimit old (command.Each each) a new) → AsksEachOnce old (op_of each) asked new → EndsAsking old (op_of each) asked new
    → EndsLine v old (command.Each each) (unless_limit asked) v new
each-ends v old new each asked produces on at tells once ends =
    asked-ends v old new (command.Each each) asked (λ live. refl) (λ drains. absurd (cc drains)) on at tells (each-part old new each asked produces once tells)
    (λ is. subst (λ (r : Result Answer AllocError). EndsAsking old (op_of each) r new) is ends)

-- ---- a line by which a silo was to come or to go

module _ (v w : ClusterView) (passes : List QueuePass) (said : Command) (none : (queue : ℕ) → script.op_at queue said ≡ None) where
  changed-ends : (a : Answer) → (said ≡ command.Drain → ⊥) → ChangesBy v said a w → EndsLine v passes said (Ok a) w passes
  changed-ends a other changes = record { line = changes-line v w passes said a none other changes; part = tt; stops = λ free. tt; on = zip-refl HasGoneOn gone-refl passes; at = refl; cluster = changes.on }

  halted-ends : (why : Stop) → (is_fixed v ≡ false → StopsBy why said v passes w passes) → OperatorGoesOn v.operator w.operator → EndsLine v passes said (Err why) w passes
  halted-ends why stops on = record { line = tt; part = silent-part passes said none; stops = stops; on = zip-refl HasGoneOn gone-refl passes; at = refl; cluster = on }

pub up-ends : (v w : ClusterView) (passes : List QueuePass) (silo : ℕ) (r : Result SiloUp AllocError) → AnswersUp v silo r w → EndsLine v passes (command.Up silo) (came_up r) w passes
up-ends v w passes silo (Ok up.Up) a = changed-ends v w passes (command.Up silo) (λ queue. refl) answer.Taken (λ drains. absurd (cc drains)) (came v w silo a.1 a.2)
up-ends v w passes silo (Ok up.Already) a = changed-ends v w passes (command.Up silo) (λ queue. refl) answer.Refused (λ drains. absurd (cc drains)) (stays v w silo a.1 a.2)
up-ends v w passes silo (Ok up.Limit) a = halted-ends v w passes (command.Up silo) (λ queue. refl) stop.Limit (λ free. a.3) a.2.on
up-ends v w passes silo (Ok up.Halted) a = halted-ends v w passes (command.Up silo) (λ queue. refl) stop.Limit (λ free. absurd (true≢false (sym a.0 ∙ free))) (same-on v w a.1)
up-ends v w passes silo (Err e) a = halted-ends v w passes (command.Up silo) (λ queue. refl) stop.Memory (λ free. tt) a.2.on

pub down-ends : (v w : ClusterView) (passes : List QueuePass) (silo : ℕ) (r : Result SiloDown AllocError) → AnswersDown v silo r w → EndsLine v passes (command.Down silo) (went_down r) w passes
down-ends v w passes silo (Ok down.Down) a = changed-ends v w passes (command.Down silo) (λ queue. refl) answer.Taken (λ drains. absurd (cc drains)) (went v w silo a.1 a.2)
down-ends v w passes silo (Ok down.NotLive) a = changed-ends v w passes (command.Down silo) (λ queue. refl) answer.Refused (λ drains. absurd (cc drains)) (lacks v w silo a.1 a.2)
down-ends v w passes silo (Ok down.LastSilo) a = changed-ends v w passes (command.Down silo) (λ queue. refl) answer.Refused (λ drains. absurd (cc drains)) (is-last v w silo a.1 a.2)
down-ends v w passes silo (Ok down.Limit) a = halted-ends v w passes (command.Down silo) (λ queue. refl) stop.Limit (λ free. a.4) a.2.on
down-ends v w passes silo (Ok down.Halted) a = halted-ends v w passes (command.Down silo) (λ queue. refl) stop.Limit (λ free. absurd (true≢false (sym a.0 ∙ free))) (same-on v w a.1)
down-ends v w passes silo (Err e) a = halted-ends v w passes (command.Down silo) (λ queue. refl) stop.Memory (λ free. tt) a.2.on

-- ---- why a wait was stopped

vain-now : (made : ℕ) (old new : List QueuePass) → LooksInVain made old new → WaitsInVain made old new
vain-now made old new vain = record { before = old; on = zip-refl HasGoneOn gone-refl old; vain = vain }

awhile-now : (v : ClusterView) (looks : ℕ) (old new : List QueuePass) → looks ≡ v.looks → LooksAWhile looks old new → WaitsAWhile v.looks old new
awhile-now v looks old new same some = (some.0, some.1, subst (λ n. some.0 ≤ n) same some.2, vain-now some.0 old new some.3)

pub unquiet-stops : (why : Stop) (v w : ClusterView) (looks : ℕ) (old new : List QueuePass) → looks ≡ v.looks → IsUnquiet why looks old new → StopsBy why command.Drain v old w new
unquiet-stops stop.Limit v w looks old new same (inl full) =
    inl (record { before = old; on = zip-refl HasGoneOn gone-refl old; ends = subst (λ n. Looks n (Err HistoryFull) old new) same full })
unquiet-stops stop.Limit v w looks old new same (inr some) = inr (awhile-now v looks old new same some)
unquiet-stops stop.NotQuiet v w looks old new same unquiet = (refl, vain-now v.looks old new (subst (λ n. LooksInVain n old new) same unquiet))
unquiet-stops stop.RoundLimit v w looks old new same unquiet = (refl, awhile-now v looks old new same unquiet)
unquiet-stops stop.Memory v w looks old new same unquiet = tt

-- ---- a line that drains

pub quiet-ends : (v : ClusterView) (looks : ℕ) (old new : List QueuePass) → looks ≡ v.looks → AllZip HasGoneOn old new → turnstiles new ≡ turnstiles old → Tells old command.Drain answer.Taken new → LooksQuiet looks old new
    → EndsLine v old command.Drain (Ok answer.Taken) v new
quiet-ends v looks old new same on at tells quiet =
    let line = tells-line v old new command.Drain answer.Taken (λ live. refl) tells (λ drains. subst (λ n. LooksQuiet n old new) same quiet) in
    record { line = line; part = tt; stops = λ free. tt; on = on; at = at; cluster = op-refl v.operator }

pub unquiet-ends : (v : ClusterView) (looks : ℕ) (old new : List QueuePass) (result : Result Answer Stop) (why : Stop) → IsErrAnd result (λ h. h ≡ why) → looks ≡ v.looks → AllZip HasGoneOn old new → turnstiles new ≡ turnstiles old
    → Tells old command.Drain answer.Taken new → IsUnquiet why looks old new → EndsLine v old command.Drain result v new
unquiet-ends v looks old new (Ok a) why is same on at tells unquiet = absurd is
unquiet-ends v looks old new (Err h) why is same on at tells unquiet =
    let stops = unquiet-stops h v v looks old new same (subst (λ (s : Stop). IsUnquiet s looks old new) (sym is) unquiet) in
    record { line = tt; part = told-part old new command.Drain answer.Taken tells.told; stops = λ free. stops; on = on; at = at; cluster = op-refl v.operator }
