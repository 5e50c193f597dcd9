-- Subscriptions that are caught up one after another.
use Rattle.step_core.proofs.Prelude.{caught_up, AreIdle, AreUnique, PlainRegistry, PlainCache, high, ◌≡◌, ◌∙◌, ap, sym, subst, refl, ℕ, zero, suc, ◌<◌, ◌≤◌, max, true, false, length, get_or, Option, Some, None, arith, length-map, option_map, IfSome, MatchOption, sub_lt, above, keys_where, past, SubName, Explicit, reached-leads, open_names, is_due, sub_at, IsReached, PlainPartition, Subscription, AreRecords, PlainTable, name_at, no_entry, state_at}
use Rattle.stream_model.specs.Draining as draining
use Rattle.stream_model.specs.Draining.{serve, serve_each}
use Rattle.pulling_agent.specs.declared.told.Sought.TheVariants as sought
use Rattle.subscription_table.specs.Idle as table
use Rattle.subscription_table.specs.Idle.{IsNextDue}
use Rattle.subscription_table.proofs.StateLemmas.{fits-caught_up}
use Rattle.subscription_table.proofs.TableLemmas.{Fits, records-with}
use Rattle.step_core.specs.declared.parts.Parts.{Parts}
use Rattle.step_core.specs.Assembly.{Agrees}
use Rattle.step_core.specs.declared.draining.Stop.{Stop}
use Rattle.step_core.specs.DrainPhases.{Ends, halted}
use Rattle.step_core.specs.PlainOf.{plain_of}
use Rattle.step_core.specs.Serving.{name_of, names_of, next_due, CatchUp, CatchesUpFrom, IsCaughtUp}
use Rattle.step_core.proofs.AssembledTable.{agrees-led}
use Rattle.step_core.proofs.CatchOps.{caught-assembled, caught-leads, caught-up}
use Rattle.step_core.proofs.DueNames.{due-past, fewer-left, goes-on, goes-on-halted, GoesOn}
use Rattle.step_core.proofs.HandOps.{Searched, Stands, held-idle, high-few, with_subs}
use Rattle.step_core.proofs.KeptNames.{served-names}
use Rattle.step_core.proofs.LeafOps.{due-is}
use Rattle.step_core.proofs.SettledOps.{serves-caught-up}

-- ---- of the parts

-- those that are caught up one after another
pub record IsRun (parts : Parts) (t : PlainTable) (first more last : ℕ) : Type 0 where
  pub agrees : Agrees (with_subs parts t)
  pub registry : t.registry ≡ parts.subs.registry
  pub within : last < length parts.subs.registry.names
  pub caught : CatchUp (plain_of parts) (plain_of (with_subs parts t)) (name_at parts.subs first) more (name_at parts.subs last)

-- the first of them
one-caught : (parts : Parts) (t : PlainTable) (number : ℕ) → Agrees parts → AreIdle parts.grains → table.CatchesUp parts.agent.cache parts.subs t number → IsRun parts t number zero number
one-caught parts t number agrees idle catches =
    let stands : Stands parts number = record { agrees = agrees; within = catches.within } in
    let between = catches.idle.between in
    let state = state_at parts.subs number in
    let there : number < length parts.subs.states = omega (arith, catches.within, agrees.records.long) in
    let searched : Searched parts t number false sought.Nothing = (catches.is, between.is_open, catches.idle.none) in
    let reach : past state.handled ≤ max state.cursor (high parts.agent.cache) = omega (arith, between.handled) in
    let caught = caught-up parts t number stands (held-idle parts number stands idle) reach searched in
    let registry : t.registry ≡ parts.subs.registry = ap (λ (t : PlainTable). t.registry) catches.is in
    let fits : Fits state state = record { start = refl; openness = refl; cursor = agrees.records.cursors number there; resume = agrees.records.resumes number there } in
    record {
      agrees =
          agrees-led parts (with_subs parts t) agrees (caught-assembled parts t number stands searched)
          (subst (λ (r : PlainRegistry). AreUnique r.names) (sym registry) agrees.unique)
          (subst AreRecords (sym catches.is)
          (records-with parts.subs agrees.records number catches.within (caught_up (high parts.agent.cache) false state) (fits-caught_up state fits (high parts.agent.cache) false (omega (arith, high-few parts agrees)))))
          agrees.distinct (caught-leads (plain_of parts) (plain_of (with_subs parts t)) (name_at parts.subs number) true caught);
      registry = registry;
      within = catches.within;
      caught = (refl, caught);
    }

next-is : (parts : Parts) (before number : ℕ) → IsNextDue (high parts.agent.cache) parts.subs before number → Some (name_at parts.subs number) ≡ next_due (plain_of parts) (Some (name_at parts.subs before))
next-is parts before number next =
    due-past (Some (name_at parts.subs before)) (keys_where (is_due (plain_of parts)) (plain_of parts).subs) (name_at parts.subs number)
    (due-is parts (Some (name_at parts.subs before)) ∙ next.next) next.past

pub run-caught : (parts : Parts) (t : PlainTable) (first more last : ℕ) → Agrees parts → AreIdle parts.grains → table.CatchUp parts.agent.cache parts.subs t first more last → IsRun parts t first more last
run-caught parts t first zero last agrees idle (same, catches) = subst (IsRun parts t first zero) (sym same) (one-caught parts t first agrees idle catches)
run-caught parts t first (suc more) last agrees idle (mid, (before, (run, (next, catches)))) =
    let rest = run-caught parts mid first more before agrees idle run in
    let here = with_subs parts mid in
    let one = one-caught here t last rest.agrees idle catches in
    let name : (number : ℕ) → name_at mid number ≡ name_at parts.subs number = λ number. ap (λ (r : PlainRegistry). (get_or r.names number no_entry).0) rest.registry in
    let next : Some (name_at parts.subs last) ≡ next_due (plain_of here) (Some (name_at parts.subs before)) =
    sym (ap Some (name last)) ∙ next-is here before last next ∙ ap (λ (s : SubName). next_due (plain_of here) (Some s)) (name before) in
    let caught : IsCaughtUp (plain_of here) (plain_of (with_subs parts t)) (name_at parts.subs last) = subst (IsCaughtUp (plain_of here) (plain_of (with_subs parts t))) (name last) one.caught.1 in
    record {
      agrees = one.agrees;
      registry = one.registry ∙ rest.registry;
      within = omega (arith, catches.within, ap (λ (r : PlainRegistry). length r.names) rest.registry);
      caught = (plain_of here, (name_at parts.subs before, (rest.caught, (next, caught))));
    }

-- whether they are, where nothing has changed if they aren't
pub record IsCaught (parts : Parts) (t : PlainTable) (number : ℕ) (o : Option ℕ) : Type 0 where
  pub agrees : Agrees (with_subs parts t)
  pub within : IfSome o (λ last. last < length t.registry.names)
  pub told : CatchesUpFrom (name_at parts.subs) (plain_of parts) (plain_of (with_subs parts t)) number o

pub runs-caught : (parts : Parts) (t : PlainTable) (number : ℕ) (cache : PlainCache) (o : Option ℕ) → Agrees parts → AreIdle parts.grains → cache ≡ parts.agent.cache
    → MatchOption o (t ≡ parts.subs) (λ last. (more : ℕ) × table.CatchUp cache parts.subs t number more last) → IsCaught parts t number o
runs-caught parts t number cache None agrees idle is same = record {
  agrees = subst (λ (t : PlainTable). Agrees (with_subs parts t)) (sym same) agrees;
  within = tt;
  told = ap (λ (t : PlainTable). plain_of (with_subs parts t)) same;
}
runs-caught parts t number cache (Some last) agrees idle is (more, run) =
    let rest = run-caught parts t number more last agrees idle (subst (λ (c : PlainCache). table.CatchUp c parts.subs t number more last) is run) in
    record {
      agrees = rest.agrees;
      within = omega (arith, rest.within, ap (λ (r : PlainRegistry). length r.names) rest.registry);
      told = (more, rest.caught);
    }

-- by names that are the same
pub caught-by : (name other : ℕ → SubName) → ((number : ℕ) → name number ≡ other number) → (old new : PlainPartition) (number : ℕ) (o : Option ℕ) → CatchesUpFrom name old new number o → CatchesUpFrom other old new number o
caught-by name other same old new number None unchanged = unchanged
caught-by name other same old new number (Some last) (more, run) =
    (more, subst (λ (s : SubName). CatchUp old new s more (other last)) (same number) (subst (λ (s : SubName). CatchUp old new (name number) more s) (same last) run))

-- ---- of the plain partition

-- they are served
pub record IsPast (start here new : PlainPartition) (last : Option SubName) (final : SubName) : Type 0 where
  pub reached : IsReached new
  pub names : names_of new ≡ names_of here
  pub goes : GoesOn start new (Some final)
  pub fewer : length (above sub_lt (Some final) (open_names start)) < length (above sub_lt last (open_names start))

one-past : (start here new : PlainPartition) (last : Option SubName) (d : SubName) → IsReached here → GoesOn start here last → Some d ≡ next_due here last → Ends here new (Some None) (serve d here (sub_at here d)) → IsPast start here new last d
one-past start here new last d reached before next served = record {
  reached = reached-leads here (serve d here (sub_at here d)).entries new reached served.2;
  names = served-names here new d served;
  goes = goes-on start here new last d reached before next served;
  fewer = fewer-left start here last d reached before next;
}

pub run-past : (start here new : PlainPartition) (last : Option SubName) (first : SubName) (more : ℕ) (final : SubName) → IsReached here → GoesOn start here last → Some first ≡ next_due here last → CatchUp here new first more final → IsPast start here new last final
run-past start here new last first zero final reached before next (same, caught) =
    subst (IsPast start here new last) (sym same) (one-past start here new last first reached before next (serves-caught-up here new first caught))
run-past start here new last first (suc more) final reached before next (mid, (d, (run, (after, caught)))) =
    let rest = run-past start here mid last first more d reached before next run in
    let one = one-past start mid new (Some d) final rest.reached rest.goes after (serves-caught-up mid new final caught) in
    record {
      reached = one.reached;
      names = one.names ∙ rest.names;
      goes = one.goes;
      fewer = omega (arith, one.fewer, rest.fewer);
    }

-- and so on from the last of them, by its number
pub record GoesOnFrom (start here new : PlainPartition) (last : Option SubName) (number : ℕ) : Type 0 where
  pub goes : GoesOn start new (Some (name_of new number))
  pub fewer : length (above sub_lt (Some (name_of new number)) (open_names start)) < length (above sub_lt last (open_names start))
  pub long : length new.subs ≡ length here.subs

module _ (start here new : PlainPartition) (last found : Option ℕ) (number : ℕ) (reached : IsReached here) (before : GoesOn start here (option_map (name_of here) last)) (is : found ≡ Some number)
    (due : option_map (name_of here) found ≡ next_due here (option_map (name_of here) last)) where
  abbrev after : Option SubName
  after = option_map (name_of here) last

  next-named : Some (name_of here number) ≡ next_due here after
  next-named = sym (ap (option_map (name_of here)) is) ∙ due

  from-past : (end : ℕ) → IsPast start here new after (name_of here end) → GoesOnFrom start here new after end
  from-past end past =
      let name : name_of here end ≡ name_of new end = ap (λ names. get_or names end (Explicit 0)) (sym past.names) in
      record {
        goes = subst (λ (s : SubName). GoesOn start new (Some s)) name past.goes;
        fewer = subst (λ (s : SubName). length (above sub_lt (Some s) (open_names start)) < length (above sub_lt after (open_names start))) name past.fewer;
        long = sym (length-map new.subs (λ (e : SubName × Subscription). e.0)) ∙ ap length past.names ∙ length-map here.subs (λ (e : SubName × Subscription). e.0);
      }

  -- served where nothing had changed before
  served-as : (stood : PlainPartition) (end : Option (Option draining.Stop)) → stood ≡ here → Ends stood new end (serve (name_of stood number) stood (sub_at stood (name_of stood number))) → Ends here new end (serve (name_of here number) here (sub_at here (name_of here number)))
  served-as stood end same ends = subst (λ (p : PlainPartition). Ends p new end (serve (name_of p number) p (sub_at p (name_of p number)))) same ends

  pub served-from : (stood : PlainPartition) → stood ≡ here → Ends stood new (Some None) (serve (name_of stood number) stood (sub_at stood (name_of stood number))) → GoesOnFrom start here new after number
  served-from stood same ends = from-past number (one-past start here new after (name_of here number) reached before next-named (served-as stood (Some None) same ends))

  pub halted-from : (stood : PlainPartition) (why : Stop) → stood ≡ here → Ends stood new (halted why) (serve (name_of stood number) stood (sub_at stood (name_of stood number))) → Ends start new (halted why) (serve_each (open_names start) start)
  halted-from stood why same ends = goes-on-halted start here new after (name_of here number) why reached before next-named (served-as stood (halted why) same ends)

  pub caught-from : (end : ℕ) → CatchesUpFrom (name_of here) here new number (Some end) → GoesOnFrom start here new after end
  caught-from end run = from-past end (run-past start here new after (name_of here number) run.0 (name_of here end) reached before next-named run.1)
