-- What a pass owns after a call, a split and a join.
use Rattle.silo_loops.proofs.Prelude.{◌≡◌, ℕ, ◌≤◌, Bool, true, false, List, [], ◌∷◌, ◌++◌, length, drop, Contains, Result, Ok, Err, refl, sym, ap, subst, ◌∙◌, append_assoc, arith, ⊎_elim, false≢true, append-nil, length-append, Contains-append_cases, Agree, IsSplitOff, joined_pass, numbers_of, Claims, Foreign, entry, PassView, Entry, Refusal}
use Rattle.silo_loops.specs.Passes.{CallsBy, HasOwnPast, LastOf, LastOwn, OwnsNone}
use Rattle.silo_loops.proofs.Taking.{called-alone}

module _ {O R : Type 0} (test : O → Bool) where
  pub owns-append : (numbers : List ℕ) (xs ys : List (Entry O R)) → OwnsNone test numbers xs → OwnsNone test numbers ys → OwnsNone test numbers (xs ++ ys)
  owns-append numbers [] ys a b = b
  owns-append numbers (x ∷ xs) ys a b = (a.0, owns-append numbers xs ys a.1 b)

  pub owns-foreign : (numbers : List ℕ) (es : List (Entry O R)) → Foreign numbers es → OwnsNone test numbers es
  owns-foreign numbers [] f = tt
  owns-foreign numbers (e ∷ es) f = ((λ own. absurd (f.0 own)), owns-foreign numbers es f.1)

  pub owns-claimed : (numbers : List ℕ) (seen log : List (Entry O R)) → Claims numbers seen log → OwnsNone test numbers seen → OwnsNone test numbers log
  owns-claimed numbers seen log claims own =
      subst (λ es. OwnsNone test numbers es) (sym claims.is) (owns-append numbers seen claims.rest own (owns-foreign numbers claims.rest claims.foreign))

  pub owns-both : (xs ys : List ℕ) (es : List (Entry O R)) → OwnsNone test xs es → OwnsNone test ys es → OwnsNone test (xs ++ ys) es
  owns-both xs ys [] a b = tt
  owns-both xs ys (e ∷ es) a b = ((λ own. ⊎_elim a.0 b.0 (Contains-append_cases xs ys e.number own)), owns-both xs ys es a.1 b.1)

module _ {O R S : Type 0} where
  -- a call of the pass stands in what it has seen later too
  whole-more : (p q : PassView O R S) (more before : List (Entry O R)) (o : O) (r : R) (later : List (Entry O R)) → q.number ≡ p.number → q.seen ≡ p.seen ++ more → p.seen ≡ (before ++ entry p.number o r ∷ []) ++ later
      → q.seen ≡ (before ++ entry q.number o r ∷ []) ++ (later ++ more)
  whole-more p q more before o r later number seen whole =
      seen ∙ ap (λ es. es ++ more) whole ∙ append_assoc (before ++ entry p.number o r ∷ []) later more
      ∙ ap (λ n. (before ++ entry n o r ∷ []) ++ (later ++ more)) (sym number)

module _ {O R S : Type 0} (test : O → Bool) where
  pub owns-joined : (p q : PassView O R S) → Agree p q (joined_pass p q) → OwnsNone test (numbers_of p) p.seen → OwnsNone test (numbers_of q) q.seen
      → OwnsNone test (numbers_of (joined_pass p q)) (joined_pass p q).seen
  owns-joined p q agree a b =
      let r = joined_pass p q in
      owns-both test (numbers_of p) (numbers_of q) r.seen (owns-claimed test (numbers_of p) p.seen r.seen agree.0 a) (owns-claimed test (numbers_of q) q.seen r.seen agree.1 b)

  pub owns-split : (p q : PassView O R S) → IsSplitOff p q → OwnsNone test (numbers_of q) q.seen
  owns-split p q split =
      subst (λ w. OwnsNone test (numbers_of w) w.seen) (sym split.0) (owns-foreign test (q.number ∷ []) p.seen split.2)

  -- what a pass owns past the mark, it owns later
  pub past-more : (mark : ℕ) (p q : PassView O R S) (more : List (Entry O R)) → q.number ≡ p.number → q.seen ≡ p.seen ++ more → HasOwnPast test mark p → HasOwnPast test mark q
  past-more mark p q more number seen h =
      record { before = h.before; op = h.op; reply = h.reply; later = h.later ++ more; whole = whole-more p q more h.before h.op h.reply h.later number seen h.whole; past = h.past; picked = h.picked }

-- an entry with one of these numbers that the test picks stands before those of which none is such
module _ {O R : Type 0} (test : O → Bool) (numbers : List ℕ) where
  not-owned : (front : List (Entry O R)) (e : Entry O R) (later : List (Entry O R)) → Contains numbers e.number → test e.op ≡ true → OwnsNone test numbers ((front ++ e ∷ []) ++ later) → ⊥
  not-owned [] e later own picked none = false≢true (sym (none.0 own) ∙ picked)
  not-owned (x ∷ front) e later own picked none = not-owned front e later own picked none.1

  stands-before : (xs ys front : List (Entry O R)) (e : Entry O R) (later : List (Entry O R)) → Contains numbers e.number → test e.op ≡ true → OwnsNone test numbers ys → xs ++ ys ≡ (front ++ e ∷ []) ++ later
      → (between : List (Entry O R)) × (xs ≡ (front ++ e ∷ []) ++ between)
  stands-before [] ys front e later own picked none is = absurd (not-owned front e later own picked (subst (λ es. OwnsNone test numbers es) is none))
  stands-before (x ∷ xs) ys [] e later own picked none is = (xs, ap (λ y. y ∷ xs) (cc (is)))
  stands-before (x ∷ xs) ys (z ∷ front) e later own picked none is =
      let rest = stands-before xs ys front e later own picked none (ap (λ es. drop 1 es) is) in
      let same : x ≡ z = cc (is) in
      (rest.0, ap (λ y. y ∷ xs) same ∙ ap (λ es. z ∷ es) rest.1)

module _ {O R S : Type 0} (test : O → Bool) where
  -- what a pass owns past the mark it owned before, where it owns nothing of what came
  pub past-before : (mark : ℕ) (p q : PassView O R S) (more : List (Entry O R)) → q.number ≡ p.number → q.seen ≡ p.seen ++ more → OwnsNone test (numbers_of p) more → HasOwnPast test mark q → HasOwnPast test mark p
  past-before mark p q more number seen none h =
      let e = entry p.number h.op h.reply in
      let whole : p.seen ++ more ≡ (h.before ++ e ∷ []) ++ h.later = sym seen ∙ h.whole ∙ ap (λ n. (h.before ++ entry n h.op h.reply ∷ []) ++ h.later) number in
      let here = stands-before test (numbers_of p) p.seen more h.before e h.later (0, omega arith, refl) h.picked none whole in
      record { before = h.before; op = h.op; reply = h.reply; later = here.0; whole = here.1; past = h.past; picked = h.picked }

module _ {S O R : Type 0} (reply : S → O → R) (after : S → O → S) where
  -- of what a call adds the pass owns none that the test picks, where it doesn't pick the call
  adds-none : (test : O → Bool) (p : PassView O R S) (op : O) (result : Result R Refusal) (q : PassView O R S) → test op ≡ false → CallsBy reply after p op result q
      → (more : List (Entry O R)) × (q.seen ≡ p.seen ++ more) × OwnsNone test (numbers_of p) more
  adds-none test p op (Ok r) q none calls =
      let called = calls.call in
      let own = entry p.number op r ∷ [] in
      (called.0 ++ own, called.1 ∙ append_assoc p.seen called.0 own, owns-append test (numbers_of p) called.0 own (owns-foreign test (numbers_of p) called.0 called.2) ((λ _. none), tt))
  adds-none test p op (Err e) q none calls = (calls.call.0, calls.call.1, owns-foreign test (numbers_of p) calls.call.0 calls.call.2)

  -- after a call that the test doesn't pick the pass owns no more that it picks
  pub owns-called : (test : O → Bool) (p : PassView O R S) (op : O) (result : Result R Refusal) (q : PassView O R S) → test op ≡ false → OwnsNone test (numbers_of p) p.seen
      → CallsBy reply after p op result q → OwnsNone test (numbers_of q) q.seen
  owns-called test p op result q none own calls =
      let added = adds-none test p op result q none calls in
      subst (λ numbers. OwnsNone test numbers q.seen) (sym (ap numbers_of calls.only))
      (subst (λ es. OwnsNone test (numbers_of p) es) (sym added.1) (owns-append test (numbers_of p) p.seen added.0 own added.2))

  pub calls-number : (p : PassView O R S) (op : O) (result : Result R Refusal) (q : PassView O R S) → CallsBy reply after p op result q → q.number ≡ p.number
  calls-number p op result q calls = ap (λ (w : PassView O R S). w.number) calls.only

  -- what it owned past the mark it owns after a call
  pub past-called : (test : O → Bool) (mark : ℕ) (p : PassView O R S) (op : O) (result : Result R Refusal) (q : PassView O R S) → CallsBy reply after p op result q → HasOwnPast test mark p → HasOwnPast test mark q
  past-called test mark p op result q calls h =
      let more = called-alone reply after p op result q calls in
      past-more test mark p q more.0 (calls-number p op result q calls) more.1 h

  -- what it owns past the mark later it owned before, unless it is the call itself
  pub past-before-called : (test : O → Bool) (mark : ℕ) (p : PassView O R S) (op : O) (result : Result R Refusal) (q : PassView O R S) → test op ≡ false → CallsBy reply after p op result q → HasOwnPast test mark q → HasOwnPast test mark p
  past-before-called test mark p op result q none calls h =
      let added = adds-none test p op result q none calls in
      past-before test mark p q added.0 (calls-number p op result q calls) added.1 added.2 h

  -- an answered call stands last
  answered-last : (p : PassView O R S) (op : O) (r : R) (q : PassView O R S) → (calls : CallsBy reply after p op (Ok r) q) → q.seen ≡ ((p.seen ++ calls.call.0) ++ entry q.number op r ∷ []) ++ []
  answered-last p op r q calls =
      calls.call.1 ∙ ap (λ n. (p.seen ++ calls.call.0) ++ entry n op r ∷ []) (sym (calls-number p op (Ok r) q calls))
      ∙ sym (append-nil ((p.seen ++ calls.call.0) ++ entry q.number op r ∷ []))

  -- so it is past the mark
  pub past-answered : (test : O → Bool) (mark : ℕ) (p : PassView O R S) (op : O) (r : R) (q : PassView O R S) → CallsBy reply after p op (Ok r) q → mark ≤ length p.seen → test op ≡ true → HasOwnPast test mark q
  past-answered test mark p op r q calls below picked =
      record { before = p.seen ++ calls.call.0; op = op; reply = r; later = []; whole = answered-last p op r q calls; past = grind (arith, length-append p.seen calls.call.0); picked = picked }

  -- and the last of the pass's own
  pub last-answered : (p : PassView O R S) (op : O) (r : R) (q : PassView O R S) → CallsBy reply after p op (Ok r) q → LastOwn q op r
  last-answered p op r q calls = record { before = p.seen ++ calls.call.0; later = []; whole = answered-last p op r q calls; others = tt }

  -- so it is the last of those that the test picks, where it picks it
  pub last-of-answered : (test : O → Bool) (p : PassView O R S) (op : O) (r : R) (q : PassView O R S) → CallsBy reply after p op (Ok r) q → test op ≡ true → LastOf test q op r
  last-of-answered test p op r q calls picked =
      let last = last-answered p op r q calls in
      record { before = last.before; later = last.later; whole = last.whole; picked = picked; none = owns-foreign test (numbers_of q) last.later last.others }

  -- and else the one that was
  pub last-of-called : (test : O → Bool) (p : PassView O R S) (op : O) (r : R) (q : PassView O R S) → CallsBy reply after p op (Ok r) q → test op ≡ false → (o : O) (s : R) → LastOf test p o s → LastOf test q o s
  last-of-called test p op r q calls none o s last =
      let added = adds-none test p op (Ok r) q none calls in
      record {
        before = last.before;
        later = last.later ++ added.0;
        whole = whole-more p q added.0 last.before o s last.later (calls-number p op (Ok r) q calls) added.1 last.whole;
        picked = last.picked;
        none = subst (λ ks. OwnsNone test ks (last.later ++ added.0)) (sym (ap numbers_of calls.only)) (owns-append test (numbers_of p) last.later added.0 last.none added.2);
      }
