-- Each record rewound where a test holds of it, and another low position told.
use Rattle.stream_laws.proofs.Prelude.{◌≡◌, ℕ, ◌≤◌, Bool, true, false, List, [], Some, None, refl, sym, ap, subst, ◌∙◌, arith, if◌then◌else◌, same_sub, each_value, value_at, GrainId, SubName, Token, changed_option, each_value-at, grain_at, sub_at, rewound_where, PlainPartition, Subscription}
use Rattle.stream_ident.specs.declared.ident.SubName.TheVariants as name
use Rattle.stream_laws.proofs.Invariant.{GrainsFit, NamesFit, NumbersFit, RulesDiffer, UnmadeFit, bound_by_rules, marks_of}
use Rattle.stream_laws.proofs.MarkLemmas.{IsClear-within}
use Rattle.stream_laws.proofs.Marks.{IsClear, IsServed}
use Rattle.stream_laws.proofs.OneChanged.{GrainFits-carried, IsCarried}
use Rattle.stream_laws.proofs.ServedLemmas.{served-rewound}
use Rattle.stream_laws.proofs.Summary.{Summary}

-- the same history but for the low token
abbrev pub told_low : Summary → Token → Summary
told_low t token = record t { low = token }

abbrev pub rewound_if : (Subscription → Bool) → Subscription → Subscription
rewound_if test r = rewound_where (test r) r

-- q has the records of p, rewound where the test holds, on the same log
pub record IsEachRewound (test : Subscription → Bool) (p q : PlainPartition) : Type 0 where
  pub subs : q.subs ≡ each_value (λ r. rewound_where (test r) r) p.subs
  pub log : q.log ≡ p.log
  pub batches : q.batches ≡ p.batches
  pub explicit : q.explicit ≡ p.explicit
  pub rules : q.rules ≡ p.rules
  pub turns : q.turns ≡ p.turns

module _ (test : Subscription → Bool) (p q : PlainPartition) (rewound : IsEachRewound test p q) where
  each-at : (s : SubName) → sub_at q s ≡ changed_option (rewound_if test) (sub_at p s)
  each-at s = ap (λ subs. value_at same_sub s subs) rewound.subs ∙ each_value-at same_sub s (rewound_if test) p.subs

  each-found : (s : SubName) (r : Subscription) → sub_at p s ≡ Some r → sub_at q s ≡ Some (rewound_if test r)
  each-found s r found = each-at s ∙ ap (λ o. changed_option (rewound_if test) o) found

  each-none : (s : SubName) → sub_at p s ≡ None → sub_at q s ≡ None
  each-none s none = each-at s ∙ ap (λ o. changed_option (rewound_if test) o) none

  pub each-carried : IsCarried p q
  each-carried s r found = (rewound_if test r, each-found s r found, refl, refl)

  -- what was there before
  pub each-was : (s : SubName) (now : Subscription) → sub_at q s ≡ Some now → (r : Subscription) × (sub_at p s ≡ Some r) × (rewound_if test r ≡ now)
  each-was s now found =
      (elim (sub_at p s) as (λ o. sub_at p s ≡ o → changed_option (rewound_if test) o ≡ Some now → (r : Subscription) × (sub_at p s ≡ Some r) × (rewound_if test r ≡ now)) [
        | None ↦ λ is e. absurd (cc)
        | Some r ↦ λ is e. (r, is, cc)
      ]) refl (sym (each-at s) ∙ found)

  each-was_none : (s : SubName) → sub_at q s ≡ None → sub_at p s ≡ None
  each-was_none s none =
      (elim (sub_at p s) as (λ o. changed_option (rewound_if test) o ≡ None → o ≡ None) [
        | None ↦ λ e. refl
        | Some r ↦ λ e. absurd (cc)
      ]) (sym (each-at s) ∙ none)

  pub NamesFit-each : (t : Summary) (token : Token) → NamesFit t p → NamesFit (told_low t token) q
  NamesFit-each t token names =
      record {
        unused = λ n above. each-none (name.Explicit n) (names.unused n (omega (arith, rewound.explicit, above)));
        unbound = λ n none. names.unbound n (each-was_none (name.Explicit n) none);
        implied = λ kind stream. names.implied kind stream ∙ ap (λ rules. bound_by_rules (name.Implicit kind stream) rules) (sym rewound.rules);
        differ = subst (λ rules. RulesDiffer rules) (sym rewound.rules) names.differ;
      }

  pub NumbersFit-each : (t : Summary) (token : Token) → NumbersFit t p → NumbersFit (told_low t token) q
  NumbersFit-each t token numbers =
      record {
        unused = λ k above. numbers.unused k (omega (arith, rewound.turns, above));
        uncommitted = λ k above. numbers.uncommitted k (omega (arith, rewound.turns, above));
        begun = numbers.begun;
        committed = numbers.committed;
      }

  pub UnmadeFit-each : (t : Summary) (token : Token) → q.high ≤ p.high → UnmadeFit t p → UnmadeFit (told_low t token) q
  UnmadeFit-each t token high unmade s none =
      let was = unmade s (each-was_none s none) in
      record {
        handled = was.handled;
        closed = was.closed;
        note = was.note;
        unseen = λ b bound.
            subst (λ log. IsClear (marks_of b.stream b.start log) 0 q.high) (sym rewound.log)
            (IsClear-within (marks_of b.stream b.start p.log) 0 0 q.high p.high (was.unseen b bound) (omega arith) high);
      }

  -- where the grains are as they were
  pub GrainsFit-each : (t : Summary) (token : Token) → ((g : GrainId) → grain_at q g ≡ grain_at p g) → GrainsFit t p → GrainsFit (told_low t token) q
  GrainsFit-each t token same grains =
      record {
        each = λ g. GrainFits-carried t (told_low t token) p q g each-carried rewound.log (omega (arith, rewound.turns)) (same g) (λ run is_run. record { events = refl; begun = refl; committed = refl }) (grains.each g);
        apart = λ g h run other is_run is_other equal. grains.apart g h run other (ap (λ st. st.running) (sym (same g)) ∙ is_run) (ap (λ st. st.running) (sym (same h)) ∙ is_other) equal;
      }

-- low moves up to a position that the resume has passed
pub served-low : (marks : List Bool) (handled on_way : List ℕ) (resume cursor low now : ℕ) → now ≤ resume → IsServed marks handled on_way resume cursor low → IsServed marks handled on_way resume cursor now
served-low marks handled on_way resume cursor low now passed served =
    record {
      covering = served.covering;
      sent = served.sent;
      safe = served.safe;
      low_resume = passed;
      resume_cursor = served.resume_cursor;
      cursor_end = served.cursor_end;
    }

-- the cursor goes back to the resume, or stays
pub served-rewound_where : (b : Bool) (marks : List Bool) (handled on_way : List ℕ) (resume cursor low : ℕ) → IsServed marks handled on_way resume cursor low → IsServed marks handled on_way resume (if b then resume else cursor) low
served-rewound_where true marks handled on_way resume cursor low served = served-rewound marks handled on_way resume cursor low served
served-rewound_where false marks handled on_way resume cursor low served = served

-- what was on its way is lost, and the cursor goes back to the resume
pub served-lost : (marks : List Bool) (handled on_way : List ℕ) (resume cursor low : ℕ) → IsServed marks handled on_way resume cursor low → IsServed marks handled [] resume resume low
served-lost marks handled on_way resume cursor low served =
    record {
      covering = tt;
      sent = served.safe;
      safe = served.safe;
      low_resume = served.low_resume;
      resume_cursor = omega arith;
      cursor_end = omega (arith, served.resume_cursor, served.cursor_end);
    }
