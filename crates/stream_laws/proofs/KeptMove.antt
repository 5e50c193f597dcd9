-- A move keeps what holds: the new cache begins and ends at the least resume, and every cursor goes back.
use Rattle.stream_laws.proofs.Prelude.{◌≡◌, ℕ, suc, Some, refl, subst, arith, cond_both, each_value, least_with, SubName, is_spent, open_resumes, sub_at, token_at, rewound_where, Move, PlainPartition, Subscription}
use Rattle.stream_model.specs.Pulling.{move, move_to}
use Rattle.stream_laws.proofs.EachChanged.{GrainsFit-each, IsEachRewound, NamesFit-each, NumbersFit-each, UnmadeFit-each, each-was, rewound_if, served-low, served-rewound_where, told_low}
use Rattle.stream_laws.proofs.Invariant.{Fits, Kept, SubFits, SubsFit, marks_of, running_of, waiting_of}
use Rattle.stream_laws.proofs.PassedPositions.{IsPassed, passed-least}
use Rattle.stream_laws.proofs.Summary.{Summary}

-- the cache emptied at a position, under the next generation
abbrev moved : PlainPartition → ℕ → ℕ → PlainPartition
moved p silo position =
    record p {
      generation = suc p.generation;
      silo = silo;
      rises = suc p.rises;
      low = position;
      high = position;
      subs = each_value (λ r. rewound_where r.is_open r) p.subs;
    }

module _ (t : Summary) (p : PlainPartition) (silo position : ℕ) (fits : Fits t p) (passed : IsPassed p position) where
  rewound-moved : IsEachRewound (λ r. r.is_open) p (moved p silo position)
  rewound-moved = record { subs = refl; log = refl; batches = refl; explicit = refl; rules = refl; turns = refl }

  sub-moved : (s : SubName) (r : Subscription) → sub_at p s ≡ Some r → SubFits (told_low t (token_at p position)) p.log position s (rewound_if (λ r. r.is_open) r) (running_of p s r) (waiting_of p s r)
  sub-moved s r found =
      let fit = fits.subs s r found in
      record {
        binding = fit.binding;
        handled = fit.handled;
        closed = fit.closed;
        note = fit.note;
        in_turn = fit.in_turn;
        served = λ is_open.
            served-low (marks_of r.stream r.start p.log) r.handled _ r.resume _ p.low position (passed.resumes s r found is_open)
            (served-rewound_where r.is_open (marks_of r.stream r.start p.log) r.handled _ r.resume r.cursor p.low (fit.served is_open));
      }

  subs-moved : SubsFit (told_low t (token_at p position)) (moved p silo position)
  subs-moved s now found =
      let was = each-was (λ r. r.is_open) p (moved p silo position) rewound-moved s now found in
      subst (λ r. SubFits (told_low t (token_at p position)) p.log position s r (running_of p s r) (waiting_of p s r)) was.2 (sub-moved s was.0 was.1)

  fits-moved : Fits (told_low t (token_at p position)) (moved p silo position)
  fits-moved =
      record {
        log = record {
          log = fits.log.log;
          batches = fits.log.batches;
          low = refl;
          low_high = omega arith;
          high_end = let end = fits.log.high_end in let at_most = passed.high in omega arith;
          rising = fits.log.rising;
          ended = fits.log.ended;
        };
        subs = subs-moved;
        unmade = UnmadeFit-each (λ r. r.is_open) p (moved p silo position) rewound-moved t (token_at p position) passed.high fits.unmade;
        names = NamesFit-each (λ r. r.is_open) p (moved p silo position) rewound-moved t (token_at p position) fits.names;
        grains = GrainsFit-each (λ r. r.is_open) p (moved p silo position) rewound-moved t (token_at p position) (λ g. refl) fits.grains;
        numbers = NumbersFit-each (λ r. r.is_open) p (moved p silo position) rewound-moved t (token_at p position) fits.numbers;
      }

kept-move_to : (t : Summary) (p : PlainPartition) (silo position : ℕ) → Fits t p → IsPassed p position → Kept t (Move silo) (move_to p silo position)
unfolding move_to
kept-move_to t p silo position fits passed = (fits-moved t p silo position fits passed, tt)

pub kept-move : (t : Summary) (p : PlainPartition) (silo : ℕ) → Fits t p → Kept t (Move silo) (move p silo)
unfolding move
kept-move t p silo fits =
    cond_both (is_spent p) _ _ (Kept t (Move silo)) (λ spent. (fits, tt))
    (λ rises. kept-move_to t p silo (least_with p.high (open_resumes p)) fits (passed-least p))
