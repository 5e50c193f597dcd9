-- What a pass has seen is legal, whether its call was refused or not.
use Rattle.shared_partition.proofs.Prelude.{◌≡◌, List, Some, Result, Ok, Err, MatchResult, subst, Called, CallsBy, Found, IsLegal, Origin, PassView, Entry, Refusal, Start}

module _ {S O R : Type 0} (reply : S → O → R) (after : S → O → S) where
  pub seen-legal : (x : Start S) (p : PassView O R S) (op : O) (result : Result R Refusal) (seen : List (Entry O R))
      → MatchResult result (λ r. Called reply after x p op r seen) (λ e. Found reply after x p e seen)
      → IsLegal reply after x.state seen
  seen-legal x p op (Ok r) seen called = called.3
  seen-legal x p op (Err e) seen found = found.3

  -- so it is after a call by a pass of this turnstile
  pub called-legal : (t : Origin S) (p q : PassView O R S) (op : O) (result : Result R Refusal) → p.turnstile ≡ Some t → CallsBy reply after p op result q → IsLegal reply after t.start.state q.seen
  called-legal t p q op result of calls =
      let same : calls.origin ≡ t = cc (calls.of, of) in
      subst (λ o. IsLegal reply after o.start.state q.seen) same (seen-legal calls.origin.start p op result q.seen calls.call)
