-- Pull keeps what holds of a history and its partition.
use Rattle.stream_laws.proofs.Prelude.{◌≡◌, ◌∙◌, ap, sym, subst, refl, ℕ, ◌+◌, ◌-◌, ◌*◌, ◌≤◌, ◌==◌, min, nat_lt, Bool, true, false, List, ◌++◌, length, get_or, Option, Some, None, is_some, arith, cond_both, false≢true, flat_map, or_else-parts, pull_size, batch_token, is_owed, same_sub, or_else, value_at, Event, SubName, BLOCK_EVENTS, Binding, between, new_subscription, no_event, sub_at, token_at, all_implied, drops, implied, is_stale, room, subs_with, PlainPartition, Subscription}
use Rattle.stream_ident.specs.declared.ident.SubName.TheVariants as name
use Rattle.stream_model.specs.declared.op.Op.TheVariants as op
use Rattle.stream_model.specs.declared.reply.Reply.TheVariants as reply
use Rattle.stream_model.specs.Pulling.{pull, pull_count, pull_events, pull_want}
use Rattle.stream_laws.proofs.EachChanged.{served-low}
use Rattle.stream_laws.proofs.EventLemmas.{mark-at}
use Rattle.stream_laws.proofs.ImpliedRecords.{All-made, IsMade, fold-added-at, found-of-all, none-made-at}
use Rattle.stream_laws.proofs.Invariant.{Fits, GrainsFit, Kept, LogFits, NamesFit, NumbersFit, SubFits, SubsFit, UnmadeFit, bound_by_rules, marks_of, running_of, waiting_of}
use Rattle.stream_laws.proofs.LogLemmas.{between-at, length-between}
use Rattle.stream_laws.proofs.MarkLemmas.{IsClear-join}
use Rattle.stream_laws.proofs.Marks.{IsClear}
use Rattle.stream_laws.proofs.PassedPositions.{IsPassed, passed-free}
use Rattle.stream_laws.proofs.NewRecords.{SubFits-new, running-unmade, waiting-unmade}
use Rattle.stream_laws.proofs.OneChanged.{GrainsFit-carried_to}
use Rattle.stream_laws.proofs.RuleLemmas.{implied-owed}
use Rattle.stream_laws.proofs.Summary.{Summary, after}

-- the new ends of the cache
record AreEnds (p : PlainPartition) (low high : ℕ) : Type 0 where
  higher : p.high ≤ high
  within : high ≤ length p.log
  passed : IsPassed p low

module _ (t : Summary) (p : PlainPartition) (generation max_events count low high : ℕ) (ends : AreEnds p low high) (fits : Fits t p) where
  abbrev events : List Event
  events = between p.log p.high high

  abbrev made : List (SubName × Subscription)
  made = all_implied p.rules p.high events

  abbrev next : PlainPartition
  next = record p { low = low; high = high; subs = subs_with p.rules p.high p.subs events }

  abbrev told : Summary
  told = after t (op.Pull generation max_events) (reply.Pulled count (token_at p low) (token_at p high))

  log-pulled : LogFits told next
  log-pulled =
      let old = fits.log in
      let lower = ends.passed.high in
      let higher = ends.higher in
      record { log = old.log; batches = old.batches; low = refl; low_high = omega arith; high_end = ends.within; rising = old.rising; ended = old.ended }

  -- a record is an old one, or was made
  found-next : (s : SubName) → sub_at next s ≡ or_else (sub_at p s) (value_at same_sub s made)
  found-next s = fold-added-at s p.subs made

  found-old : (s : SubName) (r : Subscription) → sub_at p s ≡ Some r → sub_at next s ≡ Some r
  found-old s r found = found-next s ∙ ap (λ o. or_else o (value_at same_sub s made)) found

  all_made : (s : SubName) (r : Subscription) → value_at same_sub s made ≡ Some r → IsMade p.rules p.high (s, r)
  all_made s r found = found-of-all (IsMade p.rules p.high) s r made (All-made p.rules p.high events fits.names.differ) found

  old-pulled : (s : SubName) (r : Subscription) → sub_at p s ≡ Some r → SubFits told p.log low s r (running_of p s r) (waiting_of p s r)
  old-pulled s r found =
      let old = fits.subs s r found in
      record {
        binding = old.binding;
        handled = old.handled;
        closed = old.closed;
        note = old.note;
        in_turn = old.in_turn;
        served = λ is_open.
            served-low (marks_of r.stream r.start p.log) r.handled (running_of p s r ++ waiting_of p s r) r.resume r.cursor p.low low (ends.passed.resumes s r found is_open) (old.served is_open);
      }

  -- what its rule binds it to starts where none was owed so far
  new-pulled : (s : SubName) (r : Subscription) → sub_at p s ≡ None → IsMade p.rules p.high (s, r) → SubFits told p.log low s r (running_of p s r) (waiting_of p s r)
  new-pulled s r none made =
      let old = fits.unmade s none in
      let bound : t.binding s ≡ Some (record { stream = made.stream; start = batch_token made.from }) =
      ap t.binding made.name ∙ fits.names.implied made.kind made.stream ∙ made.bound
      in
      let end = fits.log.high_end in
      subst (λ (r : Subscription). SubFits told p.log low s r (running_of p s r) (waiting_of p s r)) (sym made.value)
      (SubFits-new told p.log low s made.stream made.grain (batch_token made.from) p.high
      (running_of p s (new_subscription made.stream made.grain (batch_token made.from) p.high)) (waiting_of p s (new_subscription made.stream made.grain (batch_token made.from) p.high))
      bound old.handled old.closed old.note
      (running-unmade t p s none fits.grains made.grain) (waiting-unmade t p s none fits.grains made.grain)
      (old.unseen _ bound) ends.passed.high end)

  subs-pulled : SubsFit told next
  subs-pulled s r found = by (sub_at p s) refl
    where
      by : (o : Option Subscription) → sub_at p s ≡ o → SubFits told p.log low s r (running_of p s r) (waiting_of p s r)
      by (Some was) is =
          let now = found-old s was is in
          let same : was ≡ r = cc in
          old-pulled s r (is ∙ ap {B = Option Subscription} Some same)
      by None is = new-pulled s r is (all_made s r (ap (λ o. or_else o (value_at same_sub s made)) (sym is) ∙ sym (found-next s) ∙ found))

  -- what binds a name is a rule, where it has no record
  bound-by-rule : (s : SubName) (b : Binding) → sub_at p s ≡ None → t.binding s ≡ Some b → bound_by_rules s p.rules ≡ Some b
  bound-by-rule (name.Explicit n) b none bound = let unbound = fits.names.unbound n none in cc
  bound-by-rule (name.Implicit kind stream) b none bound = sym (fits.names.implied kind stream) ∙ bound

  -- none of the events that were taken is owed by a name that they didn't make
  unseen-pulled : (s : SubName) (b : Binding) → value_at same_sub s made ≡ None → bound_by_rules s p.rules ≡ Some b → IsClear (marks_of b.stream b.start p.log) p.high high
  unseen-pulled s b none bound q from to =
      let end = ends.within in
      let size = length-between p.log p.high high end in
      let same : p.high + (q - p.high) ≡ q = omega arith in
      let event : get_or events (q - p.high) no_event ≡ get_or p.log q no_event =
      between-at p.log p.high high (q - p.high) (omega arith) ∙ ap (λ q. get_or p.log q no_event) same
      in
      let absent = none-made-at (λ event. flat_map (implied p.high event) p.rules) s events none (q - p.high) (omega arith) in
      mark-at (λ event. is_owed b.stream b.start event) p.log q (omega arith) ∙ by (is_owed b.stream b.start (get_or p.log q no_event)) refl event absent
    where
      by : (owed : Bool) → is_owed b.stream b.start (get_or p.log q no_event) ≡ owed → get_or events (q - p.high) no_event ≡ get_or p.log q no_event
          → value_at same_sub s (flat_map (implied p.high (get_or events (q - p.high) no_event)) p.rules) ≡ None → owed ≡ false
      by false is event absent = refl
      by true is event absent =
          let there = implied-owed s p.rules p.high b (get_or events (q - p.high) no_event) bound (ap (is_owed b.stream b.start) event ∙ is) in
          absurd (false≢true (ap is_some (sym absent) ∙ there))

  unmade-pulled : UnmadeFit told next
  unmade-pulled s none =
      let parts = or_else-parts (sub_at p s) (value_at same_sub s made) (sym (found-next s) ∙ none) in
      let old = fits.unmade s parts.0 in
      record {
        handled = old.handled;
        closed = old.closed;
        note = old.note;
        unseen = λ b bound.
            IsClear-join (marks_of b.stream b.start p.log) 0 p.high high (old.unseen b bound) (unseen-pulled s b parts.1 (bound-by-rule s b parts.0 bound));
      }

  -- rules make no explicit name
  explicit-unmade : (n : ℕ) (o : Option Subscription) → value_at same_sub (name.Explicit n) made ≡ o → o ≡ None
  explicit-unmade n None is = refl
  explicit-unmade n (Some r) is = let made = all_made (name.Explicit n) r is in let name = made.name in cc

  names-pulled : NamesFit told next
  names-pulled =
      record {
        unused = λ n above.
            found-next (name.Explicit n) ∙ ap (λ o. or_else o (value_at same_sub (name.Explicit n) made)) (fits.names.unused n above) ∙ explicit-unmade n _ refl;
        unbound = λ n none. fits.names.unbound n (or_else-parts (sub_at p (name.Explicit n)) (value_at same_sub (name.Explicit n) made) (sym (found-next (name.Explicit n)) ∙ none)).0;
        implied = fits.names.implied;
        differ = fits.names.differ;
      }

  grains-pulled : GrainsFit told next
  grains-pulled =
      GrainsFit-carried_to t told p next (λ s r found. (r, found-old s r found, refl, refl)) refl (omega arith) (λ g. refl) (λ k. record { events = refl; begun = refl; committed = refl }) fits.grains

  numbers-pulled : NumbersFit told next
  numbers-pulled = record { unused = fits.numbers.unused; uncommitted = fits.numbers.uncommitted; begun = fits.numbers.begun; committed = fits.numbers.committed }

  fits-pulled : Fits told next
  fits-pulled = record { log = log-pulled; subs = subs-pulled; unmade = unmade-pulled; names = names-pulled; grains = grains-pulled; numbers = numbers-pulled }

kept-pull_events : (t : Summary) (p : PlainPartition) (generation max_events low high : ℕ) → AreEnds p low high → Fits t p → Kept t (op.Pull generation max_events) (pull_events p low high (subs_with p.rules p.high p.subs (between p.log p.high high)))
unfolding pull_events
kept-pull_events t p generation max_events low high ends fits =
    cond_both (nat_lt p.limits.subs (length (subs_with p.rules p.high p.subs (between p.log p.high high)))) _ _ (Kept t (op.Pull generation max_events)) (λ _. (fits, tt))
    (λ _. (fits-pulled t p generation max_events (high - p.high) low high ends fits, tt))

-- the blocks that go are free, and the events are in the queue
ends-of : (t : Summary) (p : PlainPartition) (want : ℕ) → want ≤ length p.log - p.high → Fits t p → AreEnds p (p.low + BLOCK_EVENTS * drops p want) (p.high + min want (room p + BLOCK_EVENTS * drops p want))
ends-of t p want queued fits =
    let end = fits.log.high_end in
    record {
      higher = omega arith;
      within = omega arith;
      passed = passed-free t p (drops p want) fits (omega arith);
    }

kept-pull_want : (t : Summary) (p : PlainPartition) (generation max_events want : ℕ) → want ≤ length p.log - p.high → Fits t p → Kept t (op.Pull generation max_events) (pull_want p want)
unfolding pull_want pull_count
kept-pull_want t p generation max_events want queued fits =
    cond_both (min want (room p + BLOCK_EVENTS * drops p want) == 0) _ _ (Kept t (op.Pull generation max_events)) (λ _. (fits, tt))
    (λ _. kept-pull_events t p generation max_events (p.low + BLOCK_EVENTS * drops p want) (p.high + min want (room p + BLOCK_EVENTS * drops p want)) (ends-of t p want queued fits) fits)

pub kept-pull : (t : Summary) (p : PlainPartition) (generation max_events : ℕ) → Fits t p → Kept t (op.Pull generation max_events) (pull p generation max_events)
unfolding pull
kept-pull t p generation max_events fits =
    cond_both (is_stale p generation) _ _ (Kept t (op.Pull generation max_events)) (λ _. (fits, tt))
    (λ _. cond_both (p.high == length p.log) _ _ (Kept t (op.Pull generation max_events)) (λ _. (fits, tt))
    (λ _. kept-pull_want t p generation max_events (min (pull_size max_events) (length p.log - p.high)) (omega arith) fits))
