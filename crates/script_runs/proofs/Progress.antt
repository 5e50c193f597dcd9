-- How far a script is done.
use Rattle.script_runs.proofs.Prelude.{IsErrAnd, owns-foreign, QueuePass, asks-foreign, gone-refl, gone-trans, all-at, zip-refl, zip-trans, met-earlier, op-refl, IsUnused, turnstiles, ClusterView, is_fixed, HasGoneOn, Looks, LooksQuiet, OperatorGoesOn, ◌≡◌, ℕ, suc, ◌<◌, ◌≤◌, inl, inr, true, false, ◌||◌, Contains, List, [], ◌∷◌, ◌++◌, Result, Ok, Err, IfErr, OnOk, length, get_or, refl, sym, ap, subst, ◌∙◌, arith, append_assoc, ◌==◌, ne_eqb, append-nil, AllByRecursion, AllZip, range_with_len, AllocError, All-push, All-weaken, is_producer, Op, op_of, Command, numbers_of, HistoryFull}
use Rattle.std.proofs.lemmas.List.FromFn.{get_or-range_with_len, length-range_with_len}
use Rattle.std.proofs.lemmas.List.Sums.{fold-append}
use Rattle.queue_balancer.specs.Balance.{HasNoDoubles}
use Rattle.silo_operators.proofs.Changing.{op-trans}
use Rattle.stream_script.specs.declared.parser.command.Command.TheVariants as command
use Rattle.script_runs.specs.declared.reader.line.Line.{Line}
use Rattle.script_runs.specs.declared.reader.script_line.ScriptLine.{ScriptLine}
use Rattle.script_runs.specs.declared.reader.script_line.ScriptLine.TheVariants as printed
use Rattle.script_runs.specs.ScriptLaws.{HasNoLine}
use Rattle.script_runs.specs.ScriptReport.{command_printed, live_after, live_silos, script_lines}
use Rattle.script_runs.specs.Told as script
use Rattle.script_runs.proofs.Growing.{scripts-grow}
use Rattle.script_runs.proofs.Misses.{misses-change-no-other}
use Rattle.script_runs.specs.declared.producer.answer.Answer.{Answer}
use Rattle.script_runs.specs.declared.producer.answer.Answer.TheVariants as answer
use Rattle.script_runs.specs.Telling.{AloneProduces, AsksLast, BeginsEmpty, HasTold, IsNewNumber, ProducesAlone, Tells, printed_lines, told_at, with_missed}
use Rattle.script_runs.proofs.Seen.{alone-as, alone-front, none-told}
use Rattle.script_runs.specs.Scripts.{IsScript, RisesFrom}
use Rattle.script_runs.specs.declared.runs.line.Stop.{Stop}
use Rattle.script_runs.specs.declared.runs.line.Stop.TheVariants as stop
use Rattle.script_runs.specs.Lines.{DoesLine, HasToldFront, IsUnquiet, MeetsLimit, StaysOpen, StopsBy, TellsInPart, WaitsAWhile, WaitsInVain, next_command}
use Rattle.script_runs.specs.Runs.{DoesAll, DoesFront, EndsLines, IsPrinted, IsUntouched, missed_in, with_printed}
use Rattle.script_runs.proofs.Doing.{unquiet-stops}
use Rattle.script_runs.proofs.Fronts.{none-left, told-part}
use Rattle.script_runs.proofs.Placing.{all-from}

-- ---- passes that have seen more

pub on-all : (ps qs rs : List QueuePass) → AllZip HasGoneOn ps qs → AllZip HasGoneOn qs rs → AllZip HasGoneOn ps rs
on-all ps qs rs a b = zip-trans HasGoneOn HasGoneOn HasGoneOn gone-trans ps qs rs a b

-- nobody else had produced before, where nobody else has now
back-one : (p q : QueuePass) → HasGoneOn p q → ProducesAlone q → ProducesAlone p
back-one p q on alone = (alone-front (numbers_of p) p.seen on.more (subst (λ es. AllByRecursion (λ e. is_producer e.op ≡ true → Contains (numbers_of p) e.number) es) on.seen (alone-as p q on alone))).0

pub alone-back : (ps qs : List QueuePass) → AllZip HasGoneOn ps qs → AloneProduces qs → AloneProduces ps
alone-back ps qs on alone = all-from HasGoneOn ProducesAlone ps qs on (λ k p q had at is. back-one p q is (all-at ProducesAlone qs k q alone at))

begins-on : (ps qs : List QueuePass) → AllZip HasGoneOn ps qs → AllByRecursion BeginsEmpty ps → AllByRecursion BeginsEmpty qs
begins-on [] [] on begins = tt
begins-on (p ∷ ps) (q ∷ qs) on begins = ((begins.0.0, ap (λ (w : QueuePass). w.turnstile) on.0.only ∙ begins.0.1, begins.0.2), begins-on ps qs on.1 begins.1)
begins-on _ _ on begins = absurd on

-- a caller that has made no call was told nothing
unused-told : (p : QueuePass) → IsUnused p → ProducesAlone p → told_at p ≡ []
unused-told p unused alone =
    none-told (record p { seen = [] }) p
    (record { on = record { only = refl; more = p.seen; seen = refl; own = asks-foreign (numbers_of p) p.seen unused.silent }; none = owns-foreign is_producer (numbers_of p) p.seen unused.silent }) alone

-- ---- numbers of lines

abbrev AreUpTo : ℕ → List ℕ → Type 0
AreUpTo last numbers = AllByRecursion (λ (number : ℕ). number ≤ last) numbers

not-missed : (number last : ℕ) (missed : List ℕ) → last < number → AreUpTo last missed → script.is_among number missed ≡ false
not-missed number last [] above below = refl
not-missed number last (m ∷ missed) above below =
    ap (λ b. b || script.is_among number missed) (ne_eqb m number (λ same. omega (arith, above, below.0, same))) ∙ not-missed number last missed above below.1

fresh-number : (number last : ℕ) (missed : List ℕ) (lines : List Line) → last < number → AllByRecursion (λ (line : Line). line.number ≤ last) lines → AreUpTo last missed → IsNewNumber number missed lines
fresh-number number last missed lines above below up =
    (All-weaken (λ (line : Line). line.number ≤ last) (λ (line : Line). (number == line.number) ≡ false) (λ line less. ne_eqb number line.number (λ same. omega (arith, above, less, same))) lines below, not-missed number last missed above up)

missed-up : (a : Answer) (number last : ℕ) (missed : List ℕ) → last < number → AreUpTo last missed → AreUpTo number (with_missed a number missed)
missed-up answer.Missed number last missed above up = (omega arith, All-weaken (λ (m : ℕ). m ≤ last) (λ (m : ℕ). m ≤ number) (λ m less. omega (arith, above, less)) missed up)
missed-up a number last missed above up = All-weaken (λ (m : ℕ). m ≤ last) (λ (m : ℕ). m ≤ number) (λ m less. omega (arith, above, less)) missed up

-- ---- what a line more prints

missed-more : (a : Answer) (number : ℕ) (found : List ScriptLine) → missed_in (found ++ printed_lines a number) ≡ with_missed a number (missed_in found)
missed-more answer.Missed number found = fold-append with_printed [] found (printed.Miss number ∷ [])
missed-more answer.Refused number found = fold-append with_printed [] found (printed.Refused number ∷ [])
missed-more a number found = ap (λ (lines : List ScriptLine). missed_in lines) (append-nil found)

before-printed : (a : Answer) (number : ℕ) (missed : List ℕ) (silos : ℕ) (lines : List Line) → HasNoLine number lines → script_lines (with_missed a number missed) silos lines ≡ script_lines missed silos lines
before-printed answer.Missed number missed silos lines none = misses-change-no-other.printed missed number silos lines none
before-printed a number missed silos lines none = refl

-- ---- the lines that are left

get-next : (xs left : List Line) (x : Line) → length xs < length (xs ++ left) → x ≡ get_or (xs ++ left) (length xs) x → (rest : List Line) × (left ≡ x ∷ rest)
get-next [] [] x within is = absurd (omega (arith, within))
get-next [] (y ∷ left) x within is = (left, ap (λ (z : Line). z ∷ left) (sym is))
get-next (z ∷ xs) left x within is = get-next xs left x (omega (arith, within)) is

-- ---- how far

pub record Progress (lines : List Line) (v : ClusterView) (old : List QueuePass) (done : List Line) (found : List ScriptLine) (w : ClusterView) (now : List QueuePass) : Type 0 where
  pub left : List Line
  pub whole : lines ≡ done ++ left
  pub last : ℕ
  pub rises : RisesFrom last left
  pub below : AllByRecursion (λ (line : Line). line.number ≤ last) done
  pub missed : AllByRecursion (λ (number : ℕ). number ≤ last) (missed_in found)
  pub on : AllZip HasGoneOn old now
  pub at : turnstiles now ≡ turnstiles old
  pub cluster : OperatorGoesOn v.operator w.operator
  pub stays : StaysOpen v w
  pub live : (silos : ℕ) → IsUntouched silos v old → (w.operator.live ≡ live_silos silos done) × HasNoDoubles w.operator.live
  pub told : (silos : ℕ) → IsUntouched silos v old → AloneProduces now → HasTold (missed_in found) done now
  pub printed : (silos : ℕ) → IsUntouched silos v old → AloneProduces now → IsPrinted silos done found

range-once : (many : ℕ) → HasNoDoubles (range_with_len 0 many)
range-once many i j d before within same =
    let there : j < many = subst (λ m. j < m) (length-range_with_len 0 many) within in
    let here : i < many = omega (arith, before, there) in
    omega (arith, get_or-range_with_len 0 many i d here, get_or-range_with_len 0 many j d there, same, before)

pub begins : (queues : ℕ) (lines : List Line) (v : ClusterView) (old : List QueuePass) → IsScript queues lines → Progress lines v old [] [] v old
begins queues lines v old is =
    record {
      left = lines;
      whole = refl;
      last = 0;
      rises = is.rises;
      below = tt;
      missed = tt;
      on = zip-refl HasGoneOn gone-refl old;
      at = refl;
      cluster = op-refl v.operator;
      stays = λ free. (free, refl);
      live = λ silos untouched. (untouched.live, subst (λ (live : List ℕ). HasNoDoubles live) (sym untouched.live) (range-once silos));
      told = λ silos untouched alone queue p at. unused-told p (all-at IsUnused old queue p untouched.unused at) (all-at ProducesAlone old queue p alone at);
      printed = λ silos untouched alone. refl;
    }

-- a wait and a call since then are so since what was before
waits-earlier : (made : ℕ) (old now new : List QueuePass) → AllZip HasGoneOn old now → WaitsInVain made now new → WaitsInVain made old new
waits-earlier made old now new on waits = record { before = waits.before; on = on-all old now waits.before on waits.on; vain = waits.vain }

awhile-earlier : (v w : ClusterView) (old now new : List QueuePass) → w.looks ≡ v.looks → AllZip HasGoneOn old now → WaitsAWhile w.looks now new → WaitsAWhile v.looks old new
awhile-earlier v w old now new same on waits = (waits.0, waits.1, subst (λ n. waits.0 ≤ n) same waits.2, waits-earlier waits.0 old now new on waits.3)

last-earlier : (op : Op) (result : Result Answer AllocError) (old now new : List QueuePass) → AllZip HasGoneOn old now → AsksLast now op result new → AsksLast old op result new
last-earlier op result old now new on last = record { before = last.before; on = on-all old now last.before on last.on; queue = last.queue; asks = last.asks }

limit-earlier : (asked : Command) (v w u : ClusterView) (old now new : List QueuePass) → OperatorGoesOn v.operator w.operator → w.looks ≡ v.looks → AllZip HasGoneOn old now → MeetsLimit asked w now u new → MeetsLimit asked v old u new
limit-earlier (command.Step queue op) v w u old now new goes same on meets = last-earlier op (Ok answer.Limit) old now new on meets
limit-earlier (command.Each each) v w u old now new goes same on meets = last-earlier (op_of each) (Ok answer.Limit) old now new on meets
limit-earlier command.Drain v w u old now new goes same on (inl full) =
    inl (record { before = full.before; on = on-all old now full.before on full.on; ends = subst (λ n. Looks n (Err HistoryFull) full.before new) same full.ends })
limit-earlier command.Drain v w u old now new goes same on (inr some) = inr (awhile-earlier v w old now new same on some)
limit-earlier (command.Up silo) v w u old now new goes same on meets = met-earlier v.operator w.operator u.operator goes meets
limit-earlier (command.Down silo) v w u old now new goes same on meets = met-earlier v.operator w.operator u.operator goes meets
limit-earlier command.Report v w u old now new goes same on meets = absurd meets

-- ---- what follows of how far

module _ {lines : List Line} {v : ClusterView} {old : List QueuePass} {done : List Line} {found : List ScriptLine} {w : ClusterView} {now : List QueuePass} (far : Progress lines v old done found w now) where
  -- what was so before the next line, where it is so now
  has-told : (new : List QueuePass) → AllZip HasGoneOn now new → (silos : ℕ) → IsUntouched silos v old → AloneProduces new → HasTold (missed_in found) done now
  has-told new on silos untouched alone = far.told silos untouched (alone-back now new on alone)

  has-printed : (new : List QueuePass) → AllZip HasGoneOn now new → (silos : ℕ) → IsUntouched silos v old → AloneProduces new → IsPrinted silos done found
  has-printed new on silos untouched alone = far.printed silos untouched (alone-back now new on alone)

  empties : {silos : ℕ} → IsUntouched silos v old → AllByRecursion BeginsEmpty now
  empties untouched = begins-on old now far.on untouched.empty

  -- the next line, and that its number is new
  next-line : (line : Line) → length done < length lines → line ≡ get_or lines (length done) line
      → (rest : List Line) × (far.left ≡ line ∷ rest) × (far.last < line.number) × RisesFrom line.number rest × IsNewNumber line.number (missed_in found) done
  next-line line within is =
      let next = get-next done far.left line (subst (λ (ls : List Line). length done < length ls) far.whole within) (subst (λ (ls : List Line). line ≡ get_or ls (length done) line) far.whole is) in
      let rises = subst (λ (ls : List Line). RisesFrom far.last ls) next.1 far.rises in
      (next.0, next.1, rises.0, rises.1, fresh-number line.number far.last (missed_in found) done rises.0 far.below far.missed)

  -- a number past all lines
  new-number : IsNewNumber (suc far.last) (missed_in found) done
  new-number = fresh-number (suc far.last) far.last (missed_in found) done (omega arith) far.below far.missed

  -- one line more was done
  pub does : (line : Line) (a : Answer) (more : List ScriptLine) (u : ClusterView) (new : List QueuePass) → length done < length lines → line ≡ get_or lines (length done) line → DoesLine w now line.command a u new
      → more ≡ found ++ printed_lines a line.number → AllZip HasGoneOn now new → turnstiles new ≡ turnstiles now → OperatorGoesOn w.operator u.operator
      → Progress lines v old (done ++ line ∷ []) more u new
  does line a more u new within is line_does prints on at cluster =
      let next = next-line line within is in
      let number = line.number in
      let missed = missed_in found in
      let fresh = next.4 in
      let same : missed_in more ≡ with_missed a number missed = ap (λ (lines : List ScriptLine). missed_in lines) prints ∙ missed-more a number found in
      record {
        left = next.0;
        whole = far.whole ∙ ap (λ (ls : List Line). done ++ ls) next.1 ∙ sym (append_assoc done (line ∷ []) next.0);
        last = number;
        rises = next.3;
        below = All-push (λ (l : Line). l.number ≤ number) done line (All-weaken (λ (l : Line). l.number ≤ far.last) (λ (l : Line). l.number ≤ number) (λ l less. omega (arith, next.2, less)) done far.below) (omega arith);
        missed = subst (λ (numbers : List ℕ). AllByRecursion (λ (m : ℕ). m ≤ number) numbers) (sym same) (missed-up a number far.last missed next.2 far.missed);
        on = on-all old now new far.on on;
        at = at ∙ far.at;
        cluster = op-trans v.operator w.operator u.operator far.cluster cluster;
        stays = λ free.
            let before = far.stays free in
            let after = line_does.stays before.0 in
            (after.0, after.1 ∙ before.1);
        live = λ silos untouched.
            let was = far.live silos untouched in
            let is_now = line_does.live was.1 in
            (is_now.0 ∙ ap (λ (live : List ℕ). live_after live line.command) was.0 ∙ sym (scripts-grow.live silos done line), is_now.1);
        told = λ silos untouched alone.
            subst (λ (numbers : List ℕ). HasTold numbers (done ++ line ∷ []) new) (sym same)
            (line_does.told (empties untouched) alone missed done number fresh (has-told new on silos untouched alone));
        printed = λ silos untouched alone.
            let has = line_does.printed (empties untouched) alone missed done number fresh (has-told new on silos untouched alone) silos (far.live silos untouched).0 in
            prints
            ∙ (λ i. has-printed new on silos untouched alone i ++ sym has i)
            ∙ (ap (λ (front : List ScriptLine). front ++ command_printed (with_missed a number missed) silos done number line.command) (sym (before-printed a number missed silos done fresh.0))
            ∙ (sym (scripts-grow.printed (with_missed a number missed) silos done line)
            ∙ ap (λ (numbers : List ℕ). script_lines numbers silos (done ++ line ∷ [])) (sym same)));
      }

  -- why a line was stopped is why the script is
  pub stops-later : (why : Stop) (asked : Command) (u : ClusterView) (new : List QueuePass) → is_fixed v ≡ false → StopsBy why asked w now u new → StopsBy why asked v old u new
  stops-later stop.Limit asked u new free stops = limit-earlier asked v w u old now new far.cluster (far.stays free).1 far.on stops
  stops-later stop.NotQuiet asked u new free stops = (stops.0, waits-earlier v.looks old now new far.on (subst (λ n. WaitsInVain n now new) (far.stays free).1 stops.1))
  stops-later stop.RoundLimit asked u new free stops = (stops.0, awhile-earlier v w old now new (far.stays free).1 far.on stops.1)
  stops-later stop.Memory asked u new free stops = tt

  -- a line was stopped, or the wait past the last one
  stopped : {T : Type 0} (result : Result T Stop) (why : Stop) (more : List ScriptLine) (u : ClusterView) (new : List QueuePass) → IsErrAnd result (λ h. h ≡ why) → more ≡ found
      → AllZip HasGoneOn now new → turnstiles new ≡ turnstiles now → OperatorGoesOn w.operator u.operator
      → ((silos : ℕ) → IsUntouched silos v old → AloneProduces new → HasToldFront (missed_in found) done far.left new)
      → StopsBy why (next_command far.left) v old u new → EndsLines lines v old result more u new
  stopped (Ok x) why more u new err same on at cluster told stops = absurd err
  stopped (Err h) why more u new err same on at cluster told stops =
      let front : DoesFront lines v old more new = record {
        done = done;
        left = far.left;
        whole = far.whole;
        printed = λ silos untouched alone. subst (λ (ls : List ScriptLine). IsPrinted silos done ls) (sym same) (has-printed new on silos untouched alone);
        told = λ silos untouched alone. subst (λ (ls : List ScriptLine). HasToldFront (missed_in ls) done far.left new) (sym same) (told silos untouched alone);
      } in
      record {
        all = tt;
        front = (front, subst (λ (s : Stop). StopsBy s (next_command far.left) v old u new) (sym err) stops);
        on = on-all old now new far.on on;
        at = at ∙ far.at;
        cluster = op-trans v.operator w.operator u.operator far.cluster cluster;
      }

  -- the next line was
  pub line-stopped : {T : Type 0} (result : Result T Stop) (why : Stop) (more : List ScriptLine) (line : Line) (u : ClusterView) (new : List QueuePass) → IsErrAnd result (λ h. h ≡ why) → more ≡ found
      → length done < length lines → line ≡ get_or lines (length done) line → AllZip HasGoneOn now new → turnstiles new ≡ turnstiles now → OperatorGoesOn w.operator u.operator
      → TellsInPart now line.command new → StopsBy why line.command v old u new → EndsLines lines v old result more u new
  line-stopped result why more line u new err same within is on at cluster part stops =
      let next = next-line line within is in
      stopped result why more u new err same on at cluster
      (λ silos untouched alone.
      subst (λ (left : List Line). HasToldFront (missed_in found) done left new) (sym next.1)
      (part (empties untouched) alone (missed_in found) done line.number next.4 (has-told new on silos untouched alone)))
      (subst (λ (left : List Line). StopsBy why (next_command left) v old u new) (sym next.1) stops)

  -- all lines were done, and then it was waited until all queues were quiet
  pub wait-ends : {T : Type 0} (result : Result T Stop) (looks : ℕ) (new : List QueuePass) → looks ≡ w.looks → done ≡ lines → is_fixed v ≡ false → AllZip HasGoneOn now new → turnstiles new ≡ turnstiles now
      → Tells now command.Drain answer.Taken new → OnOk result (LooksQuiet looks now new) → IfErr result (λ why. IsUnquiet why looks now new) → EndsLines lines v old result found w new
  wait-ends (Ok x) looks new same all free on at tells quiet unquiet =
      let missed = missed_in found in
      let line : Line = record { number = suc far.last; command = command.Drain } in
      let ends : DoesAll lines v old found w new = record {
        quiet = record { before = now; on = far.on; ends = subst (λ n. LooksQuiet n now new) (same ∙ (far.stays free).1) quiet };
        printed = λ silos untouched alone. subst (λ (ls : List Line). IsPrinted silos ls found) all (has-printed new on silos untouched alone);
        told = λ silos untouched alone queue p at.
            tells.told (empties untouched) alone missed done (suc far.last) new-number (has-told new on silos untouched alone) queue p at
            ∙ scripts-grow.told missed queue done line
            ∙ ap (λ (ls : List Line). script.told missed queue ls) all;
        live = λ silos untouched. (far.live silos untouched).0 ∙ ap (λ (ls : List Line). live_silos silos ls) all;
      } in
      record { all = ends; front = tt; on = on-all old now new far.on on; at = at ∙ far.at; cluster = far.cluster }
  wait-ends (Err why) looks new same all free on at tells quiet unquiet =
      let none = none-left done far.left (all ∙ far.whole) in
      stopped (Err why) why found w new refl refl on at (op-refl w.operator)
      (λ silos untouched alone.
      subst (λ (left : List Line). HasToldFront (missed_in found) done left new) (sym none)
      (told-part now new command.Drain answer.Taken tells.told (empties untouched) alone (missed_in found) done (suc far.last) new-number (has-told new on silos untouched alone)))
      (subst (λ (left : List Line). StopsBy why (next_command left) v old w new) (sym none) (stops-later why command.Drain w new free (unquiet-stops why w w looks now new same unquiet)))
