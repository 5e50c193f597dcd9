-- Commit keeps the invariant, and what it commits was begun once.
use Rattle.stream_laws.proofs.Prelude.{◌≡◌, ◌∙◌, ap, sym, subst, refl, ℕ, suc, pred, ◌≤◌, ◌==◌, ◌&&◌, false, not, [], ◌++◌, Option, Some, None, arith, and_parts, cond_both, cond-true, cond-false, eqb-true, ne_eqb, not-true, true≢false, same_sub-refl, same_sub, past, GrainId, SubName, Token, events_at, grain_at, running_in, sub_at, token_at, waiting_in, committed, ended, Grain, PlainPartition, RunningTurn, Subscription}
use Rattle.stream_model.specs.declared.op.Op.TheVariants as op
use Rattle.stream_model.specs.declared.reply.Reply.TheVariants as reply
use Rattle.stream_model.specs.Turns.{commit, commit_for, commit_running}
use Rattle.stream_laws.proofs.EventLemmas.{events_at-append}
use Rattle.stream_laws.proofs.FitsOne.{Fits-both, Fits-grain, IsToldOf, IsToldOf-refl}
use Rattle.stream_laws.proofs.Invariant.{Fits, IsRunning, Kept, NumbersFit, SubFits, marks_of}
use Rattle.stream_laws.proofs.OneChanged.{apart-others, IsTurnAlike, IsTurnAlike-refl}
use Rattle.stream_laws.proofs.ServedLemmas.{in_turn-handled, served-handled}
use Rattle.stream_laws.proofs.Summary.{Summary, after}

-- a turn runs in a grain, and this is the record of its subscription
module _ (t : Summary) (p : PlainPartition) (g : GrainId) (activation note : ℕ) (run : RunningTurn) (r : Subscription)
    (is_run : (grain_at p g).running ≡ Some run) (found : sub_at p run.sub ≡ Some r) (fits : Fits t p) where
  abbrev st : Grain
  st = record (grain_at p g) { running = None }

  abbrev now : Subscription
  now = record r { handled = r.handled ++ run.positions; note = note }

  runs : IsRunning t p g run
  runs = (fits.grains.each g).running run is_run

  is_grain : r.grain ≡ g
  is_grain = let h = runs.found in let same : runs.record_of ≡ r = cc in ap (λ (q : Subscription). q.grain) (sym same) ∙ runs.grain

  own_positions : running_in run.sub (grain_at p g).running ≡ run.positions
  own_positions = ap (running_in run.sub) is_run ∙ cond-true (same_sub run.sub run.sub) run.positions [] (same_sub-refl run.sub)

  no_positions : (x : SubName) → same_sub x run.sub ≡ false → running_in x None ≡ running_in x (grain_at p g).running
  no_positions x other = sym (ap (running_in x) is_run ∙ cond-false (same_sub x run.sub) run.positions [] other)

  fits_sub : SubFits t p.log p.low run.sub r run.positions (waiting_in run.sub (grain_at p g).mailbox)
  fits_sub =
      subst (λ ps. SubFits t p.log p.low run.sub r ps (waiting_in run.sub (grain_at p g).mailbox)) own_positions
      (subst (λ h. SubFits t p.log p.low run.sub r (running_in run.sub (grain_at p h).running) (waiting_in run.sub (grain_at p h).mailbox)) is_grain
      (fits.subs run.sub r found))

  idle_now : (grain_at p g).active ≡ false → ((grain_at p g).mailbox ≡ []) × (st.running ≡ None)
  idle_now asleep = (((fits.grains.each g).idle asleep).0, refl)

  no_turn : (other : RunningTurn) → None ≡ Some other → ⊥
  no_turn other e = cc

  -- the subscription is closed: the turn ends
  fits_closed : r.is_open ≡ false → SubFits t p.log p.low run.sub r [] (waiting_in run.sub (grain_at p g).mailbox)
  fits_closed closed =
      record {
        binding = fits_sub.binding;
        handled = fits_sub.handled;
        closed = fits_sub.closed;
        note = fits_sub.note;
        in_turn = record { first = fits_sub.in_turn.first; next = tt };
        served = λ is_open. absurd (true≢false (sym is_open ∙ closed));
      }

  fits-ended : r.is_open ≡ false → Fits t (ended p g (grain_at p g))
  fits-ended closed =
      Fits-grain t t p run.sub r g st p.rises p.turns found is_grain (omega arith) (IsToldOf-refl t run.sub)
      no_positions
      (λ x other. refl)
      (λ p' carried is_log is_turns. record {
        boxed = (fits.grains.each g).boxed;
        running = λ other e. absurd (no_turn other e);
        idle = idle_now;
        alike = λ h different other is_other. IsTurnAlike-refl t other.turn;
        apart = λ this e h different other is_other equal. no_turn this e;
      })
      (record { unused = fits.numbers.unused; uncommitted = fits.numbers.uncommitted; begun = fits.numbers.begun; committed = fits.numbers.committed })
      (fits_closed closed)
      fits

  -- it is open: the events of the turn are handled
  module _ (token : Token) where
    abbrev told : Summary
    told = after t (op.Commit g activation run.turn note) (reply.Committed run.sub token)

    fits_now : SubFits told p.log p.low run.sub now [] (waiting_in run.sub (grain_at p g).mailbox)
    fits_now =
        let marks = marks_of r.stream r.start p.log in
        let own = same_sub-refl run.sub in
        record {
          binding = fits_sub.binding;
          handled = cond-true (same_sub run.sub run.sub) (t.handled run.sub ++ t.turn run.turn) (t.handled run.sub) own
              ∙ ap (λ events. events ++ t.turn run.turn) fits_sub.handled
              ∙ ap (λ events. events_at p.log r.handled ++ events) runs.events
              ∙ sym (events_at-append p.log r.handled run.positions);
          closed = fits_sub.closed;
          note = cond-true (same_sub run.sub run.sub) note (t.note run.sub) own;
          in_turn = in_turn-handled marks r.handled run.positions fits_sub.in_turn;
          served = λ is_open.
              served-handled marks r.handled run.positions (waiting_in run.sub (grain_at p g).mailbox) r.resume r.cursor p.low fits_sub.in_turn.next
              (fits_sub.served is_open);
        }

    told_of : IsToldOf t told run.sub
    told_of =
        record {
          events = refl;
          batches = refl;
          low = refl;
          binding = refl;
          others = λ x other. record {
            binding = refl;
            handled = cond-false (same_sub x run.sub) (t.handled x ++ t.turn run.turn) (t.handled x) other;
            closed = refl;
            note = cond-false (same_sub x run.sub) note (t.note x) other;
          };
        }

    -- a turn with another number
    alike_turn : (k : ℕ) → (run.turn ≡ k → ⊥) → IsTurnAlike t told k
    alike_turn k other =
        record { events = refl; begun = refl; committed = cond-false (run.turn == k) (suc (t.committed k)) (t.committed k) (ne_eqb run.turn k other) }

    numbers : NumbersFit told (committed p g (grain_at p g) run r note)
    numbers =
        record {
          unused = fits.numbers.unused;
          uncommitted = λ k above. cond-false (run.turn == k) (suc (t.committed k)) (t.committed k) (ne_eqb run.turn k (λ same. omega (arith, runs.number)))
              ∙ fits.numbers.uncommitted k above;
          begun = fits.numbers.begun;
          committed = λ k. cond_both (run.turn == k) (suc (t.committed k)) (t.committed k) (λ m. m ≤ 1)
              (λ same. omega (arith, ap t.committed (eqb-true run.turn k same), runs.committed))
              (λ _. fits.numbers.committed k);
        }

    fits-committed : Fits told (committed p g (grain_at p g) run r note)
    fits-committed =
        Fits-both t told p run.sub r now g st p.rises p.turns found refl refl is_grain (omega arith) told_of
        no_positions
        (λ x other. refl)
        (λ carried. record {
          boxed = (fits.grains.each g).boxed;
          running = λ other e. absurd (no_turn other e);
          idle = idle_now;
          alike = λ h different other is_other. alike_turn other.turn (apart-others t p g h run other fits.grains is_run different is_other);
          apart = λ this e h different other is_other equal. no_turn this e;
        })
        numbers
        fits_now
        fits

kept-commit_for : (t : Summary) (p : PlainPartition) (g : GrainId) (activation turn note : ℕ) (run : RunningTurn) (found : Option Subscription)
    → run.turn ≡ turn → (grain_at p g).running ≡ Some run → sub_at p run.sub ≡ found
    → Fits t p → Kept t (op.Commit g activation turn note) (commit_for p g (grain_at p g) run note found)
unfolding commit_for
kept-commit_for t p g activation turn note run None is_turn is_run is_found fits = (fits, tt)
kept-commit_for t p g activation turn note run (Some r) is_turn is_run is_found fits =
    subst (λ k. Kept t (op.Commit g activation k note) (commit_for p g (grain_at p g) run note (Some r))) is_turn
    (cond_both (not r.is_open) _ _ (Kept t (op.Commit g activation run.turn note))
    (λ closed. (fits-ended t p g activation note run r is_run is_found fits (not-true r.is_open closed), tt))
    (λ is_open.
    let runs = (fits.grains.each g).running run is_run in (
      fits-committed t p g activation note run r is_run is_found fits (token_at p (pred (past run.positions))),
      (runs.begun, runs.committed, (fits.subs run.sub r is_found).closed ∙ is_open),
    )))

kept-commit_running : (t : Summary) (p : PlainPartition) (g : GrainId) (activation turn note : ℕ) (running : Option RunningTurn)
    → (grain_at p g).running ≡ running
    → Fits t p → Kept t (op.Commit g activation turn note) (commit_running p g (grain_at p g) activation turn note running)
unfolding commit_running
kept-commit_running t p g activation turn note None is_running fits = (fits, tt)
kept-commit_running t p g activation turn note (Some run) is_running fits =
    cond_both ((activation == (grain_at p g).activation) && (turn == run.turn)) _ _ (Kept t (op.Commit g activation turn note))
    (λ both.
    let parts = and_parts (activation == (grain_at p g).activation) (turn == run.turn) both in
    kept-commit_for t p g activation turn note run (sub_at p run.sub) (sym (eqb-true turn run.turn parts.1)) is_running refl fits)
    (λ _. (fits, tt))

pub kept-commit : (t : Summary) (p : PlainPartition) (g : GrainId) (activation turn note : ℕ)
    → Fits t p → Kept t (op.Commit g activation turn note) (commit p g activation turn note)
unfolding commit
kept-commit t p g activation turn note fits =
    kept-commit_running t p g activation turn note (grain_at p g).running refl fits
