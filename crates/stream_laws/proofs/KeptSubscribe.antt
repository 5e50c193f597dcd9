-- Subscribe keeps what holds of a history and its partition.
use Rattle.stream_laws.proofs.Prelude.{◌≡◌, ◌∙◌, ap, sym, refl, ℕ, suc, ◌≤◌, nat_le, Bool, true, false, length, Option, Some, None, if◌then◌else◌, arith, cond_both, cond-true, ne_eqb, same_sub-equal, same_sub-refl, sub_equality, or_else-none, batch_token, same_sub, token_lt, or_else, GrainId, StreamId, SubName, Token, with_value-at, with_value-other, Binding, start_token, low_token, lower_bound, new_subscription, sub_at, with_sub, Start, Latest, At, PlainPartition, Subscription}
use Rattle.stream_ident.specs.declared.ident.SubName.TheVariants as name
use Rattle.stream_model.specs.declared.op.Op.TheVariants as op
use Rattle.stream_model.specs.declared.reply.Reply.TheVariants as reply
use Rattle.stream_model.specs.Publishing.{subscribe, subscribe_at}
use Rattle.stream_laws.proofs.Invariant.{Fits, GrainsFit, Kept, LogFits, NamesFit, NumbersFit, SubsFit, marks_of, running_of, waiting_of}
use Rattle.stream_laws.proofs.LogLemmas.{clear-before}
use Rattle.stream_laws.proofs.LowerBound.{lower_bound-clear, lower_bound-high, lower_bound-low}
use Rattle.stream_laws.proofs.Marks.{IsClear}
use Rattle.stream_laws.proofs.OneChanged.{GrainsFit-carried_to, IsCarried, IsOneChanged, SubsFit-one, UnmadeFit-one}
use Rattle.stream_laws.proofs.NewRecords.{SubFits-new, running-unmade, waiting-unmade}
use Rattle.stream_laws.proofs.Summary.{Summary, after}

-- where a new subscription is owed none of the events before its position
record IsStart (t : Summary) (p : PlainPartition) (stream : StreamId) (start : Start) (token : Token) (position : ℕ) : Type 0 where
  told : start_token start t.batches ≡ token
  clear : IsClear (marks_of stream token p.log) 0 position
  above : p.low ≤ position
  within : position ≤ length p.log

module _ (t : Summary) (p : PlainPartition) (stream : StreamId) (grain : GrainId) (start : Start) (token : Token) (position : ℕ) (is_start : IsStart t p stream start token position) (fits : Fits t p) where
  abbrev own : SubName
  own = name.Explicit (suc p.explicit)

  abbrev new : Subscription
  new = new_subscription stream grain token position

  abbrev next : PlainPartition
  next = record (with_sub p own new) { explicit = suc p.explicit }

  abbrev told : Summary
  told = after t (op.Subscribe stream grain start) (reply.Subscribed (suc p.explicit))

  unmade_before : sub_at p own ≡ None
  unmade_before = fits.names.unused (suc p.explicit) (omega arith)

  log-subscribed : LogFits told next
  log-subscribed =
      let old = fits.log in
      record { log = old.log; batches = old.batches; low = old.low; low_high = old.low_high; high_end = old.high_end; rising = old.rising; ended = old.ended }

  found-new : sub_at next own ≡ Some new
  found-new = with_value-at same_sub sub_equality own new p.subs

  found-other : (s : SubName) → same_sub s own ≡ false → sub_at next s ≡ sub_at p s
  found-other s other = with_value-other same_sub sub_equality s own new p.subs other

  -- what a new number is bound to
  abbrev given : SubName → Option Binding
  given s = if same_sub s own then Some (record { stream = stream; start = start_token start t.batches }) else None

  told-other : (s : SubName) → same_sub s own ≡ false → told.binding s ≡ t.binding s
  told-other s other = ap (λ b. or_else (t.binding s) (if b then Some (record { stream = stream; start = start_token start t.batches }) else None)) other ∙ or_else-none (t.binding s)

  told-new : told.binding own ≡ Some (record { stream = stream; start = token })
  told-new =
      ap (λ o. or_else o (given own)) (fits.names.unbound (suc p.explicit) unmade_before)
      ∙ cond-true (same_sub own own) _ _ (same_sub-refl own)
      ∙ ap (λ token. Some (record { stream = stream; start = token })) is_start.told

  one_changed : IsOneChanged t told p next own new
  one_changed =
      record {
        log = refl;
        low = refl;
        high = refl;
        found = found-new;
        told = λ s other. record { binding = told-other s other; handled = refl; closed = refl; note = refl };
        seen = λ s other. record { found = found-other s other; running = λ g. refl; waiting = λ g. refl };
      }

  subs-subscribed : SubsFit told next
  subs-subscribed =
      let old = fits.unmade own unmade_before in
      SubsFit-one t told p next own new one_changed
      (SubFits-new told p.log p.low own stream grain token position (running_of next own new) (waiting_of next own new)
      told-new old.handled old.closed old.note
      (running-unmade t p own unmade_before fits.grains grain) (waiting-unmade t p own unmade_before fits.grains grain)
      is_start.clear is_start.above is_start.within)
      fits.subs

  -- a record is still there
  carried : IsCarried p next
  carried s r found = by (same_sub s own) refl
    where
      by : (b : Bool) → same_sub s own ≡ b → (now : Subscription) × (sub_at next s ≡ Some now) × (now.is_open ≡ r.is_open) × (now.grain ≡ r.grain)
      by true same =
          let none : sub_at p s ≡ None = ap (sub_at p) (same_sub-equal s own same) ∙ unmade_before in absurd (cc)
      by false other = (r, found-other s other ∙ found, refl, refl)

  -- a name without a record is another
  other-unmade : (s : SubName) → sub_at next s ≡ None → same_sub s own ≡ false
  other-unmade s none = by (same_sub s own) refl
    where
      by : (b : Bool) → same_sub s own ≡ b → b ≡ false
      by true same = let found : sub_at next s ≡ Some new = ap (sub_at next) (same_sub-equal s own same) ∙ found-new in absurd (cc)
      by false other = refl

  names-subscribed : NamesFit told next
  names-subscribed =
      record {
        unused = λ n above.
            found-other (name.Explicit n) (ne_eqb n (suc p.explicit) (λ same. omega arith)) ∙ fits.names.unused n (omega arith);
        unbound = λ n none.
            let other = other-unmade (name.Explicit n) none in
            told-other (name.Explicit n) other ∙ fits.names.unbound n (sym (found-other (name.Explicit n) other) ∙ none);
        implied = λ kind stream. told-other (name.Implicit kind stream) refl ∙ fits.names.implied kind stream;
        differ = fits.names.differ;
      }

  grains-subscribed : GrainsFit told next
  grains-subscribed = GrainsFit-carried_to t told p next carried refl (omega arith) (λ g. refl) (λ k. record { events = refl; begun = refl; committed = refl }) fits.grains

  numbers-subscribed : NumbersFit told next
  numbers-subscribed = record { unused = fits.numbers.unused; uncommitted = fits.numbers.uncommitted; begun = fits.numbers.begun; committed = fits.numbers.committed }

  fits-subscribed : Fits told next
  fits-subscribed =
      record {
        log = log-subscribed;
        subs = subs-subscribed;
        unmade = UnmadeFit-one t told p next own new one_changed fits.unmade;
        names = names-subscribed;
        grains = grains-subscribed;
        numbers = numbers-subscribed;
      }

kept-subscribe_at : (t : Summary) (p : PlainPartition) (stream : StreamId) (grain : GrainId) (start : Start) (token : Token) (position : ℕ) → IsStart t p stream start token position → Fits t p → Kept t (op.Subscribe stream grain start) (subscribe_at p stream grain token position)
unfolding subscribe_at
kept-subscribe_at t p stream grain start token position is_start fits =
    cond_both (nat_le p.limits.subs (length p.subs)) _ _ (Kept t (op.Subscribe stream grain start)) (λ _. (fits, tt))
    (λ _. (fits-subscribed t p stream grain start token position is_start fits, tt))

-- no event is as late as the next batch
latest-start : (t : Summary) (p : PlainPartition) (stream : StreamId) → Fits t p → IsStart t p stream Latest (batch_token p.batches) p.high
latest-start t p stream fits =
    record {
      told = ap batch_token (sym fits.log.batches);
      clear = clear-before stream (batch_token p.batches) p.log 0 p.high (λ q from below within. fits.log.ended q within);
      above = fits.log.low_high;
      within = fits.log.high_end;
    }

token-start : (t : Summary) (p : PlainPartition) (stream : StreamId) (token : Token) → token_lt token (low_token p) ≡ false → Fits t p → IsStart t p stream (At token) token (lower_bound p token)
token-start t p stream token kept fits =
    let below = lower_bound-high t p fits.log token kept in
    let end = fits.log.high_end in
    record {
      told = refl;
      clear = lower_bound-clear t p fits.log token kept stream;
      above = lower_bound-low t p fits.log token kept;
      within = omega arith;
    }

pub kept-subscribe : (t : Summary) (p : PlainPartition) (stream : StreamId) (grain : GrainId) (start : Start) → Fits t p → Kept t (op.Subscribe stream grain start) (subscribe p stream grain start)
unfolding subscribe
kept-subscribe t p stream grain Latest fits =
    kept-subscribe_at t p stream grain Latest (batch_token p.batches) p.high (latest-start t p stream fits) fits
kept-subscribe t p stream grain (At token) fits =
    cond_both (token_lt token (low_token p)) _ _ (Kept t (op.Subscribe stream grain (At token))) (λ _. (fits, tt))
    (λ kept. kept-subscribe_at t p stream grain (At token) token (lower_bound p token) (token-start t p stream token kept fits) fits)
