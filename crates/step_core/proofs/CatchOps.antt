-- What is done for a subscription at once, and what that makes of the partition.
use Rattle.step_core.proofs.Prelude.{advanced, caught_up, committed, SubState, high, leads-append, new_grain, next-bounds, next_event, registration_at, running_in, stepped, unwrap_or, waiting_in, Grain, PlainCache, StreamId, ◌≡◌, ◌∙◌, ap, ap₂, sym, subst, refl, ℕ, suc, ◌+◌, ◌^◌, ◌<◌, ◌≤◌, max, Bool, true, false, List, [], ◌∷◌, ◌++◌, ◌||◌, nat_lt, length, Option, Some, None, arith, le-ltb, get_or-set_same, set-set, false≢true, option_map, past, SubName, next_note, same_Some, IfSome, Entry, is_spent, sub_at, with_sub, Leads, PlainPartition, Subscription, PlainTable, name_at, no_entry, no_state, state_at, with_state}
use Rattle.pulling_agent.specs.declared.told.Sought.{Sought}
use Rattle.pulling_agent.specs.declared.told.Sought.TheVariants as sought
use Rattle.stream_laws.proofs.MarkLemmas.{past-append}
use Rattle.subscription_table.proofs.TableLemmas.{Fits, records-with}
use Rattle.step_core.specs.declared.parts.Parts.{Parts}
use Rattle.step_core.specs.DrainPhases.{Ends}
use Rattle.step_core.specs.PlainOf.{plain_of}
use Rattle.step_core.specs.Records.{record_of}
use Rattle.step_core.specs.Serving.{is_held, name_of, serve_up_to, turned, CatchesUp, HandlesNext, HasNext, IsCaughtUp, IsReady, IsHandledLast, IsHandledOnce}
use Rattle.step_core.specs.Assembly.{Agrees, IsAssembled}
use Rattle.step_core.proofs.AssembledTable.{agrees-led, assembled-subs}
use Rattle.step_core.proofs.HandOps.{Searched, Stands, high-few, named, sought-is, sought-next, with_subs}
use Rattle.step_core.proofs.KnownOps.{known-state}
use Rattle.step_core.proofs.NamesOps.{name_of-same, record-of-number}
use Rattle.step_core.proofs.OnceOps.{turn-leads}
use Rattle.step_core.proofs.RecordOps.{record-set}
use Rattle.step_core.proofs.SettledOps.{served-caught}
use Rattle.step_core.proofs.Shared.{distinct-of-unique, name-same}
use Rattle.step_core.proofs.ViewLemmas.{records-length}

found-at : (parts : Parts) (number : ℕ) → Stands parts number → sub_at (plain_of parts) (name_at parts.subs number) ≡ Some (record_of parts number)
found-at parts number stands =
    ap (sub_at (plain_of parts)) (sym (name-same parts.subs number))
    ∙ record-of-number parts number no_entry no_state (distinct-of-unique parts.subs.registry.names stands.agrees.unique) (sym stands.agrees.records.long) stands.within

pub caught-up : (parts : Parts) (t : PlainTable) (number : ℕ) → Stands parts number → is_held (plain_of parts) (name_at parts.subs number) (record_of parts number) ≡ false
    → past (record_of parts number).handled ≤ max (record_of parts number).cursor (plain_of parts).high → Searched parts t number false sought.Nothing → IsCaughtUp (plain_of parts) (plain_of (with_subs parts t)) (name_at parts.subs number)
caught-up parts t number stands free reach searched =
    let p = plain_of parts in
    let s = name_at parts.subs number in
    let r = record_of parts number in
    let state = state_at parts.subs number in
    let top = max state.cursor (high parts.agent.cache) in
    let found = found-at parts number stands in
    let is : plain_of (with_subs parts t) ≡ with_sub p s (record r { cursor = top; resume = top }) =
    ap (λ (t : PlainTable). plain_of (with_subs parts t)) searched.0
    ∙ sym (record-set parts s number no_entry no_state (caught_up (high parts.agent.cache) false state) (λ (r : Subscription). record r { cursor = max r.cursor (high parts.agent.cache); resume = max r.cursor (high parts.agent.cache) })
    (sym stands.agrees.records.long) (named parts number stands) refl) in
    record {
      record_of = r;
      found = found;
      served = λ n g. subst (λ (q : PlainPartition). Ends p q (Some None) (serve_up_to n s g p)) (sym is)
          (served-caught p s r stands.agrees.reached found searched.1 (sought-next parts number None stands searched.1 searched.2) (λ held. absurd (cc)) reach n g);
    }

-- a state that follows its cursor keeps what grains know
pub caught-assembled : (parts : Parts) (t : PlainTable) (number : ℕ) → Stands parts number → Searched parts t number false sought.Nothing → IsAssembled (with_subs parts t)
caught-assembled parts t number stands searched =
    subst (λ (t : PlainTable). IsAssembled (with_subs parts t)) (sym searched.0)
    (assembled-subs parts (with_state parts.subs number (caught_up (high parts.agent.cache) false (state_at parts.subs number))) (record { names = refl; most_names = refl; most_rules = refl })
    (known-state parts.subs.registry.names parts.subs.states parts.grains number (caught_up (high parts.agent.cache) false (state_at parts.subs number)) stands.agrees.assembled.known (omega (arith, stands.within, stands.agrees.records.long)) (λ is_open. is_open)
    (λ at none unheld. (refl, none))) stands.agrees.assembled)

-- ---- the next event handled

-- the state after that
abbrev turned_state : ℕ → ℕ → SubState → SubState
turned_state position note state = advanced position (committed (position ∷ []) note state)

abbrev pub turned_parts : Parts → PlainTable → Parts
turned_parts parts t = record parts { subs = t; rises = parts.rises + 1; turns = parts.turns + 1 }

handled-once : (parts : Parts) (t : PlainTable) (number position note : ℕ) → Stands parts number → note ≡ next_note (state_at parts.subs number).note → is_spent (plain_of parts) ≡ false → IsReady (plain_of parts) (record_of parts number) position
    → t ≡ with_state parts.subs number (turned_state position note (state_at parts.subs number))
    → IsHandledOnce (plain_of parts) (plain_of (turned_parts parts t)) (name_at parts.subs number)
handled-once parts t number position note stands is_note left ready is =
    let p = plain_of parts in
    let s = name_at parts.subs number in
    let r = record_of parts number in
    let state = state_at parts.subs number in
    record {
      record_of = r;
      position = position;
      activation = ready.activation;
      can = record {
        found = found-at parts number stands;
        is_open = ready.is_open;
        next = ready.next;
        fresh = le-ltb position (past r.handled) ready.fresh;
        rests = ready.rests;
        left = left;
      };
      is =
          ap (λ (t : PlainTable). plain_of (turned_parts parts t)) (is ∙ ap (λ (n : ℕ). with_state parts.subs number (turned_state position n state)) is_note)
          ∙ ap₂ (λ (rises turns : ℕ). record (plain_of (with_subs parts (with_state parts.subs number (turned_state position (next_note state.note) state)))) { rises = rises; turns = turns }) (more p.rises) (more p.turns)
          ∙ ap (λ (q : PlainPartition). record q { rises = suc p.rises; turns = suc p.turns })
          (sym (record-set parts s number no_entry no_state (turned_state position (next_note state.note) state) (λ (r : Subscription). turned r position) (sym stands.agrees.records.long) (named parts number stands) refl));
    }
  where
    more : (n : ℕ) → n + 1 ≡ suc n
    more n = omega arith

handled-assembled : (parts : Parts) (t : PlainTable) (number position note : ℕ) → Stands parts number → 0 < past (state_at parts.subs number).handled → t ≡ with_state parts.subs number (turned_state position note (state_at parts.subs number))
    → IsAssembled (turned_parts parts t)
handled-assembled parts t number position note stands some is =
    subst (λ (t : PlainTable). IsAssembled (turned_parts parts t)) (sym is)
    (record {
      most_subs = stands.agrees.assembled.most_subs;
      most_rules = stands.agrees.assembled.most_rules;
      most_events = stands.agrees.assembled.most_events;
      cached = stands.agrees.assembled.cached;
      numbered = stands.agrees.assembled.numbered;
      known =
          known-state parts.subs.registry.names parts.subs.states parts.grains number (turned_state position note (state_at parts.subs number)) stands.agrees.assembled.known (omega (arith, stands.within, stands.agrees.records.long)) (λ is_open. is_open)
          (λ at none unheld. let zero_past : past (state_at parts.subs number).handled ≡ 0 = ap past none in absurd (omega (arith, some, zero_past)));
    })

-- ---- what leads to the partition after it

pub caught-leads : (old new : PlainPartition) (s : SubName) (b : Bool) → CatchesUp old new s b → (entries : List Entry) × Leads old entries new
caught-leads old new s true caught = ((serve_up_to 0 s caught.record_of.grain old).entries, (caught.served 0 caught.record_of.grain).2)
caught-leads old new s false unchanged = ([], unchanged)

once-leads : (old new : PlainPartition) (s : SubName) → IsHandledOnce old new s → (entries : List Entry) × Leads old entries new
once-leads old new s handled =
    let leads = turn-leads old s handled.record_of handled.position handled.activation handled.can in
    (leads.0, subst (λ (q : PlainPartition). Leads old leads.0 q) (sym handled.is) leads.1)

last-leads : (old new : PlainPartition) (s : SubName) → IsHandledLast old new s → (entries : List Entry) × Leads old entries new
last-leads old new s handled =
    let first = once-leads old handled.between s handled.once in
    let rest = caught-leads handled.between new s true handled.rest in
    (first.0 ++ rest.0, leads-append old handled.between new first.0 rest.0 first.1 rest.1)

pub handled-leads : (old new : PlainPartition) (s : SubName) (told : Option Sought) → HandlesNext old new s told → (entries : List Entry) × Leads old entries new
handled-leads old new s None unchanged = ([], unchanged)
handled-leads old new s (Some (sought.Next next)) handled = once-leads old new s handled.0
handled-leads old new s (Some sought.Nothing) handled = last-leads old new s handled
handled-leads old new s (Some sought.Closed) handled = last-leads old new s handled

-- ---- the next event handled, and the one after it sought

-- a state written twice is the later one
stepped-twice : (t : PlainTable) (number : ℕ) (state : SubState) (r : SubState × Sought) → stepped (with_state t number state) number r ≡ stepped t number r
stepped-twice t number state (new, told) = ap {B = PlainTable × Sought} (λ (states : List SubState). (record t { states = states }, told)) (set-set t.states number state new)

module _ (parts : Parts) (number position note : ℕ) (stands : Stands parts number) (is_note : note ≡ next_note (state_at parts.subs number).note) (left : is_spent (plain_of parts) ≡ false) (ready : IsReady (plain_of parts) (record_of parts number) position) where
  abbrev name : SubName
  name = name_at parts.subs number

  abbrev stream : StreamId
  stream = (registration_at parts.subs number).stream

  abbrev after : SubState
  after = turned_state position note (state_at parts.subs number)

  abbrev mid : Parts
  mid = turned_parts parts (with_state parts.subs number after)

  there : number < length parts.subs.states
  there = omega (arith, stands.within, stands.agrees.records.long)

  once : IsHandledOnce (plain_of parts) (plain_of mid) name
  once = handled-once parts (with_state parts.subs number after) number position note stands is_note left ready refl

  stands-mid : Stands mid number
  stands-mid =
      let cursor : suc position + 2 < 2 ^ 64 = omega (arith, ready.within, high-few parts stands.agrees) in
      let fits : Fits (state_at parts.subs number) after = record { start = refl; openness = refl; cursor = cursor; resume = stands.agrees.records.resumes number there } in
      record {
        agrees =
            agrees-led parts mid stands.agrees (handled-assembled parts (with_state parts.subs number after) number position note stands ready.some refl) stands.agrees.unique
            (records-with parts.subs stands.agrees.records number stands.within after fits) stands.agrees.distinct (once-leads (plain_of parts) (plain_of mid) name once);
        within = stands.within;
      }

  written : state_at mid.subs number ≡ after
  written = get_or-set_same parts.subs.states number after no_state there

  free : is_held (plain_of mid) name (record_of mid number) ≡ false
  free = ap (λ (o : Option Grain). nat_lt 0 (length (waiting_in name (unwrap_or o new_grain).mailbox)) || nat_lt 0 (length (running_in name (unwrap_or o new_grain).running))) ready.rests

  reach : past (state_at mid.subs number).handled ≤ max (state_at mid.subs number).cursor (high parts.agent.cache)
  reach =
      let end : past after.handled ≡ suc position = past-append (state_at parts.subs number).handled (position ∷ []) in
      subst (λ (s : SubState). past s.handled ≤ max s.cursor (high parts.agent.cache)) (sym written) (omega (arith, end))

  module _ (t : PlainTable) (told : Sought) (cache : PlainCache) (own : cache ≡ parts.agent.cache) (is : ◌≡◌ {A = PlainTable × Sought} (t, told) (stepped parts.subs number (next_event cache after stream false))) where
    searched : Searched mid t number false told
    searched =
        sought-is mid.subs t number parts.agent.cache stream false told
        (is
        ∙ ap {B = PlainTable × Sought} (λ (k : PlainCache). stepped parts.subs number (next_event k after stream false)) own
        ∙ sym (stepped-twice parts.subs number after (next_event parts.agent.cache after stream false))
        ∙ ap {B = PlainTable × Sought} (λ (s : SubState). stepped mid.subs number (next_event parts.agent.cache s stream false)) (sym written))

    pub handled : IsAssembled (turned_parts parts t) × HandlesNext (plain_of parts) (plain_of (turned_parts parts t)) name (Some told)
    handled = by told searched
      where
        by : (told : Sought) → Searched mid t number false told → IsAssembled (turned_parts parts t) × HandlesNext (plain_of parts) (plain_of (turned_parts parts t)) name (Some told)
        by sought.Closed found = absurd (false≢true (sym found.1 ∙ ap (λ (s : SubState). s.live) written ∙ ready.is_open))
        by sought.Nothing found =
            (caught-assembled mid t number stands-mid found, record { between = plain_of mid; once = once; rest = caught-up mid t number stands-mid free reach found })
        by (sought.Next next) found =
            let follows = sought-next mid number (Some next) stands-mid found.1 found.2 in
            let bounds = next-bounds (plain_of mid) (record_of mid number) next follows in
            let cursor : (state_at mid.subs number).cursor ≡ suc position = ap (λ (s : SubState). s.cursor) written in
            let end : past (state_at mid.subs number).handled ≡ suc position = ap (λ (s : SubState). past s.handled) written ∙ past-append (state_at parts.subs number).handled (position ∷ []) in
            let again : IsReady (plain_of mid) (record_of mid number) next =
            record {
              is_open = found.1;
              next = follows;
              some = omega (arith, end);
              fresh = omega (arith, end, cursor, bounds.0);
              within = bounds.1;
              activation = ready.activation;
              rests = ready.rests;
            } in
            subst (λ (t : PlainTable). IsAssembled (turned_parts parts t) × (IsHandledOnce (plain_of parts) (plain_of (turned_parts parts t)) name × HasNext (plain_of (turned_parts parts t)) name next)) (sym found.0)
            (stands-mid.agrees.assembled, (once, record { record_of = record_of mid number; found = found-at mid number stands-mid; ready = again }))

-- ---- names by number, of the parts and of the plain partition

pub name-is : (parts : Parts) (number : ℕ) → Agrees parts → name_of (plain_of parts) number ≡ name_at parts.subs number
name-is parts number agrees = name_of-same parts number (sym agrees.records.long) ∙ name-same parts.subs number

pub option-name-is : (parts : Parts) (o : Option ℕ) → Agrees parts → option_map (name_of (plain_of parts)) o ≡ option_map (name_at parts.subs) o
option-name-is parts None agrees = refl
option-name-is parts (Some number) agrees = ap Some (name-is parts number agrees)

pub count-is : (parts : Parts) (p : PlainPartition) → Agrees parts → plain_of parts ≡ p → length p.subs ≡ length parts.subs.registry.names
count-is parts p agrees same =
    ap (λ (p : PlainPartition). length p.subs) (sym same) ∙ records-length parts.subs.registry.names parts.subs.states (sym agrees.records.long)

-- the record of the name with a number
pub number-found : (parts : Parts) (number : ℕ) → Agrees parts → number < length parts.subs.registry.names → sub_at (plain_of parts) (name_of (plain_of parts) number) ≡ Some (record_of parts number)
number-found parts number agrees within =
    ap (sub_at (plain_of parts)) (name-is parts number agrees) ∙ found-at parts number (record { agrees = agrees; within = within })

-- the next event of the subscription with a number is that of the one with its name
pub next-ready : (parts : Parts) (p : PlainPartition) (number position : ℕ) → Agrees parts → plain_of parts ≡ p → number < length p.subs → HasNext p (name_of p number) position → IsReady (plain_of parts) (record_of parts number) position
next-ready parts p number position agrees same within next =
    let there : number < length parts.subs.registry.names = omega (arith, within, count-is parts p agrees same) in
    let found : Some next.record_of ≡ Some (record_of parts number) = sym next.found ∙ ap (λ (p : PlainPartition). sub_at p (name_of p number)) (sym same) ∙ number-found parts number agrees there in
    subst (λ (p : PlainPartition). IsReady p (record_of parts number) position) (sym same)
    (subst (λ (r : Subscription). IsReady p r position) (same_Some next.record_of (record_of parts number) found) next.ready)

pub ready-next : (parts : Parts) (p : PlainPartition) (number : ℕ) (o : Option ℕ) → Agrees parts → plain_of parts ≡ p → number < length p.subs → IfSome o (IsReady (plain_of parts) (record_of parts number)) → IfSome o (HasNext p (name_of p number))
ready-next parts p number None agrees same within none = none
ready-next parts p number (Some position) agrees same within ready =
    let there : number < length parts.subs.registry.names = omega (arith, within, count-is parts p agrees same) in
    subst (λ (p : PlainPartition). HasNext p (name_of p number) position) same
    (record { record_of = record_of parts number; found = number-found parts number agrees there; ready = ready })
