-- Retry keeps the invariant.
use Rattle.stream_laws.proofs.Prelude.{◌≡◌, ℕ, not, ◌++◌, Option, Some, None, refl, cond_both, SubName, sub_at, is_stale, rewound, PlainPartition, Subscription}
use Rattle.stream_model.specs.declared.op.Op.TheVariants as op
use Rattle.stream_model.specs.Pulling.{retry, retry_of}
use Rattle.stream_laws.proofs.FitsOne.{Fits-sub}
use Rattle.stream_laws.proofs.Invariant.{Fits, Kept, SubFits, marks_of, running_of, waiting_of}
use Rattle.stream_laws.proofs.ServedLemmas.{served-rewound}
use Rattle.stream_laws.proofs.Summary.{Summary}

SubFits-rewound : (t : Summary) (p : PlainPartition) (s : SubName) (r : Subscription)
    → SubFits t p.log p.low s r (running_of p s r) (waiting_of p s r)
    → SubFits t p.log p.low s (rewound r) (running_of p s (rewound r)) (waiting_of p s (rewound r))
SubFits-rewound t p s r fits =
    record {
      binding = fits.binding;
      handled = fits.handled;
      closed = fits.closed;
      note = fits.note;
      in_turn = fits.in_turn;
      served = λ is_open.
          served-rewound (marks_of r.stream r.start p.log) r.handled (running_of p s r ++ waiting_of p s r) r.resume r.cursor p.low (fits.served is_open);
    }

kept-retry_of : (t : Summary) (p : PlainPartition) (generation : ℕ) (s : SubName) (found : Option Subscription)
    → sub_at p s ≡ found → Fits t p → Kept t (op.Retry generation s) (retry_of p s found)
unfolding retry_of
kept-retry_of t p generation s None is_found fits = (fits, tt)
kept-retry_of t p generation s (Some r) is_found fits =
    cond_both (not r.is_open) _ _ (Kept t (op.Retry generation s)) (λ _. (fits, tt))
    (λ _. (Fits-sub t p s r (rewound r) is_found refl refl (SubFits-rewound t p s r (fits.subs s r is_found)) fits, tt))

pub kept-retry : (t : Summary) (p : PlainPartition) (generation : ℕ) (s : SubName) → Fits t p → Kept t (op.Retry generation s) (retry p generation s)
unfolding retry
kept-retry t p generation s fits =
    cond_both (is_stale p generation) _ _ (Kept t (op.Retry generation s)) (λ _. (fits, tt))
    (λ _. kept-retry_of t p generation s (sub_at p s) refl fits)
