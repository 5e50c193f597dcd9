-- Publish keeps what holds of a history and its partition.
use Rattle.stream_laws.proofs.Prelude.{◌≡◌, ◌∙◌, ap, sym, subst, ℕ, suc, ◌+◌, ◌<◌, ◌≤◌, ◌==◌, ◌||◌, nat_lt, Bool, List, ◌++◌, length, Some, arith, cond_both, eqb-false, or_parts, length-append, All-weaken, events_of, Event, GrainId, StreamId, BATCH_EVENTS, grain_at, Delivery, PlainPartition, RunningTurn}
use Rattle.stream_model.specs.declared.op.Op.TheVariants as op
use Rattle.stream_model.specs.declared.reply.Reply.TheVariants as reply
use Rattle.stream_model.specs.Publishing.{publish}
use Rattle.stream_laws.proofs.BatchTokens.{IsRising-grown, token_at-grown}
use Rattle.stream_laws.proofs.Invariant.{Fits, GrainsFit, IsBoxed, IsRunning, Kept, LogFits, NamesFit, NumbersFit, SubsFit, UnmadeFit, marks_of, running_of, waiting_of}
use Rattle.stream_laws.proofs.LogGrown.{IsInTurn-marks, IsServed-marks, events_at-grown, marks_of-append}
use Rattle.stream_laws.proofs.RunningTurns.{handled-in_log, turn-in_log}
use Rattle.stream_laws.proofs.LogLemmas.{length-marks_of}
use Rattle.stream_laws.proofs.MarkLemmas.{IsClear-marks}
use Rattle.stream_laws.proofs.Marks.{IsClear, IsInTurn, IsServed}
use Rattle.stream_laws.proofs.Summary.{Summary, after}

module _ (t : Summary) (p : PlainPartition) (stream : StreamId) (payloads : List (List ℕ)) (some : 0 < length payloads) (fits : Fits t p) where
  abbrev next : PlainPartition
  next = record p { log = p.log ++ events_of stream p.batches 0 payloads; batches = suc p.batches }

  abbrev told : Summary
  told = after t (op.Publish stream payloads) (reply.Published p.batches)

  log-published : LogFits told next
  log-published =
      let old = fits.log in
      let rising = IsRising-grown p.log p.batches stream payloads (record { rising = old.rising; ended = old.ended }) in
      let to_high = old.low_high in
      let to_end = old.high_end in
      record {
        log = ap (λ log. log ++ events_of stream p.batches 0 payloads) old.log;
        batches = ap suc old.batches;
        low = old.low ∙ sym (token_at-grown p.log p.batches stream payloads p.low (omega arith) some);
        low_high = to_high;
        high_end = omega (arith, length-append p.log (events_of stream p.batches 0 payloads));
        rising = rising.rising;
        ended = rising.ended;
      }

  abbrev more : List Event
  more = events_of stream p.batches 0 payloads

  subs-published : SubsFit told next
  subs-published s r found =
      let old = fits.subs s r found in
      let Turn : List Bool → Type 0 = λ marks. IsInTurn marks r.handled (running_of p s r) in
      let Serves : List Bool → Type 0 = λ marks. IsServed marks r.handled (running_of p s r ++ waiting_of p s r) r.resume r.cursor p.low in
      let marks = sym (marks_of-append r.stream r.start p.log more) in
      record {
        binding = old.binding;
        handled = old.handled ∙ sym (events_at-grown p.log more r.handled (handled-in_log r.stream r.start p.log r.handled (running_of p s r) old.in_turn));
        closed = old.closed;
        note = old.note;
        in_turn = subst Turn marks (IsInTurn-marks (marks_of r.stream r.start p.log) (marks_of r.stream r.start more) r.handled (running_of p s r) old.in_turn);
        served = λ is_open. subst Serves marks (IsServed-marks (marks_of r.stream r.start p.log) (marks_of r.stream r.start more) r.handled (running_of p s r ++ waiting_of p s r) r.resume r.cursor p.low (old.served is_open));
      }

  unmade-published : UnmadeFit told next
  unmade-published s found =
      let old = fits.unmade s found in
      let within : p.high ≤ length p.log = fits.log.high_end in
      record {
        handled = old.handled;
        closed = old.closed;
        note = old.note;
        unseen = λ b bound.
            subst (λ marks. IsClear marks 0 p.high) (sym (marks_of-append b.stream b.start p.log more))
            (IsClear-marks (marks_of b.stream b.start p.log) (marks_of b.stream b.start more) 0 p.high (omega (arith, within, length-marks_of b.stream b.start p.log)) (old.unseen b bound));
      }

  names-published : NamesFit told next
  names-published = record { unused = fits.names.unused; unbound = fits.names.unbound; implied = fits.names.implied; differ = fits.names.differ }

  running-published : (g : GrainId) (run : RunningTurn) → (grain_at p g).running ≡ Some run → IsRunning told next g run
  running-published g run is =
      let old = (fits.grains.each g).running run is in
      record {
        record_of = old.record_of;
        found = old.found;
        grain = old.grain;
        events = old.events ∙ sym (events_at-grown p.log more run.positions (turn-in_log t p g run is old fits.subs));
        begun = old.begun;
        committed = old.committed;
        number = old.number;
        some = old.some;
        bound = old.bound;
      }

  boxed-published : (g : GrainId) (d : Delivery) → IsBoxed p g d → IsBoxed next g d
  boxed-published g d old = record { record_of = old.record_of; found = old.found; is_open = old.is_open; grain = old.grain }

  grains-published : GrainsFit told next
  grains-published =
      record {
        each = λ g. record {
          boxed = All-weaken (IsBoxed p g) (IsBoxed next g) (boxed-published g) (grain_at p g).mailbox (fits.grains.each g).boxed;
          running = running-published g;
          idle = (fits.grains.each g).idle;
        };
        apart = fits.grains.apart;
      }

  numbers-published : NumbersFit told next
  numbers-published = record { unused = fits.numbers.unused; uncommitted = fits.numbers.uncommitted; begun = fits.numbers.begun; committed = fits.numbers.committed }

  fits-published : Fits told next
  fits-published =
      record {
        log = log-published;
        subs = subs-published;
        unmade = unmade-published;
        names = names-published;
        grains = grains-published;
        numbers = numbers-published;
      }

pub kept-publish : (t : Summary) (p : PlainPartition) (stream : StreamId) (payloads : List (List ℕ)) → Fits t p → Kept t (op.Publish stream payloads) (publish p stream payloads)
unfolding publish
kept-publish t p stream payloads fits =
    cond_both ((length payloads == 0) || nat_lt BATCH_EVENTS (length payloads)) _ _ (Kept t (op.Publish stream payloads)) (λ _. (fits, tt))
    (λ good. cond_both (nat_lt p.limits.events (length p.log + length payloads)) _ _ (Kept t (op.Publish stream payloads)) (λ _. (fits, tt))
    (λ _. (fits-published t p stream payloads (let some = eqb-false (length payloads) 0 (or_parts _ _ good).0 in omega (arith, some)) fits, tt)))
