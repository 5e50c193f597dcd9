-- A purge keeps what holds: low moves up to at most high and each open resume.
use Rattle.stream_laws.proofs.Prelude.{ℕ, ◌+◌, ◌*◌, refl, arith, cond_both, BLOCK_EVENTS, token_at, is_stale, purges, Purge, PlainPartition}
use Rattle.stream_model.specs.Pulling.{purge, purge_to}
use Rattle.stream_laws.proofs.EachChanged.{served-low, told_low}
use Rattle.stream_laws.proofs.Invariant.{Fits, Kept, SubsFit, marks_of}
use Rattle.stream_laws.proofs.OneChanged.{GrainFits-carried, IsCarried}
use Rattle.stream_laws.proofs.PassedPositions.{IsPassed, passed-free}
use Rattle.stream_laws.proofs.Summary.{Summary}

-- such a position as the low one
module _ (t : Summary) (p : PlainPartition) (low : ℕ) (fits : Fits t p) (passed : IsPassed p low) where
  subs-moved : SubsFit (told_low t (token_at p low)) (record p { low = low })
  subs-moved s r found =
      let fit = fits.subs s r found in
      record {
        binding = fit.binding;
        handled = fit.handled;
        closed = fit.closed;
        note = fit.note;
        in_turn = fit.in_turn;
        served = λ is_open. served-low (marks_of r.stream r.start p.log) r.handled _ r.resume r.cursor p.low low (passed.resumes s r found is_open) (fit.served is_open);
      }

  carried-moved : IsCarried p (record p { low = low })
  carried-moved s r found = (r, found, refl, refl)

  pub fits-moved : Fits (told_low t (token_at p low)) (record p { low = low })
  fits-moved =
      record {
        log = record {
          log = fits.log.log;
          batches = fits.log.batches;
          low = refl;
          low_high = passed.high;
          high_end = fits.log.high_end;
          rising = fits.log.rising;
          ended = fits.log.ended;
        };
        subs = subs-moved;
        unmade = λ s none.
            let was = fits.unmade s none in
            record { handled = was.handled; closed = was.closed; note = was.note; unseen = was.unseen };
        names = record { unused = fits.names.unused; unbound = fits.names.unbound; implied = fits.names.implied; differ = fits.names.differ };
        grains = record {
          each = λ g. GrainFits-carried t (told_low t (token_at p low)) p (record p { low = low }) g carried-moved refl (omega arith) refl (λ run is_run. record { events = refl; begun = refl; committed = refl }) (fits.grains.each g);
          apart = fits.grains.apart;
        };
        numbers = record { unused = fits.numbers.unused; uncommitted = fits.numbers.uncommitted; begun = fits.numbers.begun; committed = fits.numbers.committed };
      }

kept-purge_to : (t : Summary) (p : PlainPartition) (generation keep low : ℕ) → Fits t p → IsPassed p low → Kept t (Purge generation keep) (purge_to p low)
unfolding purge_to
kept-purge_to t p generation keep low fits passed = (fits-moved t p low fits passed, tt)

pub kept-purge : (t : Summary) (p : PlainPartition) (generation keep : ℕ) → Fits t p → Kept t (Purge generation keep) (purge p generation keep)
unfolding purge
kept-purge t p generation keep fits =
    cond_both (is_stale p generation) _ _ (Kept t (Purge generation keep)) (λ stale. (fits, tt))
    (λ current. kept-purge_to t p generation keep (p.low + BLOCK_EVENTS * purges p keep) fits (passed-free t p (purges p keep) fits (omega arith)))
