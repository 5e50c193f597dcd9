-- What holds of a history and the partition that it leaves, along a legal history.
use Rattle.stream_laws.proofs.Prelude.{◌≡◌, ℕ, List, [], ◌∷◌, ◌++◌, reverse, refl, sym, subst, arith, empty, Leads, Stands, Limits, Op, PlainPartition}
use mathlib.Core.List.{reverse_aux}
use Rattle.stream_model.specs.History.{Entry}
use Rattle.stream_model.specs.Step.{step}
use Rattle.stream_laws.proofs.Invariant.{Fits, Kept}
use Rattle.stream_laws.proofs.Summary.{Summary, after, summary}

-- each operation keeps what holds
abbrev pub StepsKeep : Type 0
StepsKeep = (t : Summary) (p : PlainPartition) (op : Op) → Fits t p → Kept t op (step p op)

-- before the first operation
pub fits-empty : (blocks : ℕ) (limits : Limits) → Fits (summary []) (empty blocks limits)
fits-empty blocks limits =
    record {
      log = record {
        log = refl;
        batches = refl;
        low = refl;
        low_high = omega arith;
        high_end = omega arith;
        rising = λ a b below within. absurd (omega arith);
        ended = λ q within. absurd (omega arith);
      };
      subs = λ s r found. absurd (cc);
      unmade = λ s none. record { handled = refl; closed = refl; note = refl; unseen = λ b is_bound. absurd (cc) };
      names = record { unused = λ n above. refl; unbound = λ n none. refl; implied = λ kind stream. refl; differ = tt };
      grains = record {
        each = λ g. record { boxed = tt; running = λ run is_run. absurd (cc); idle = λ inactive. (refl, refl) };
        apart = λ g h run other is_run is_other same. absurd (cc);
      };
      numbers = record { unused = λ k above. refl; uncommitted = λ k above. refl; begun = λ k. omega arith; committed = λ k. omega arith };
    }

-- one step further
pub fits-step : StepsKeep → (before : List Entry) (p : PlainPartition) (e : Entry) → Fits (summary before) p → (step p e.op).1 ≡ e.reply → Fits (summary (e ∷ before)) (step p e.op).0
fits-step keep before p e fits told =
    subst (λ reply. Fits (after (summary before) e.op reply) (step p e.op).0) told (keep (summary before) p e.op fits).0

-- after more entries
pub fits-leads : StepsKeep → (before : List Entry) (p : PlainPartition) (entries : List Entry) (q : PlainPartition) → Fits (summary before) p → Leads p entries q → Fits (summary (reverse_aux entries before)) q
fits-leads keep before p [] q fits leads = subst (λ x. Fits (summary before) x) (sym leads) fits
fits-leads keep before p (e ∷ entries) q fits leads =
    fits-leads keep (e ∷ before) (step p e.op).0 entries q (fits-step keep before p e fits leads.0) leads.1

-- after a legal history
pub fits-stands : StepsKeep → (blocks : ℕ) (limits : Limits) (history : List Entry) (p : PlainPartition) → Stands blocks limits history p → Fits (summary (reverse history)) p
fits-stands keep blocks limits history p stands = fits-leads keep [] (empty blocks limits) history p (fits-empty blocks limits) stands

-- a history that goes on from this partition
pub record Reaches (past rest : List Entry) (q : PlainPartition) : Type 0 where
  pub state : PlainPartition
  pub fits : Fits (summary past) state
  pub leads : Leads state rest q

-- the partition between the first entries and the rest
pub leads-split : (p : PlainPartition) (before rest : List Entry) (q : PlainPartition) → Leads p (before ++ rest) q → (m : PlainPartition) × Leads p before m × Leads m rest q
leads-split p [] rest q leads = (p, refl, leads)
leads-split p (e ∷ before) rest q leads =
    let parts = leads-split (step p e.op).0 before rest q leads.1 in
    (parts.0, (leads.0, parts.1), parts.2)

pub reaches-stands : StepsKeep → (blocks : ℕ) (limits : Limits) (before rest : List Entry) (q : PlainPartition) → Stands blocks limits (before ++ rest) q → Reaches (reverse before) rest q
reaches-stands keep blocks limits before rest q stands =
    let parts = leads-split (empty blocks limits) before rest q stands in
    record { state = parts.0; fits = fits-stands keep blocks limits before parts.0 parts.1; leads = parts.2 }
