-- A call, or a look, in a turn that is held.
use Rattle.turnstile.proofs.Prelude.{◌≡◌, [], ◌∷◌, ◌++◌, Option, Some, Result, Ok, Err, MatchResult, refl, sym, ap, subst, unwrap_or, ◌∙◌}
use Rattle.turnstile.specs.declared.turnstile.Refusal.{Refusal}
use Rattle.turnstile.specs.Calls.{outside, Called, CalledNext, CallsBy, Found, FoundNone, HasOnlySeen, IsTurn, LooksBy, Waited}
use Rattle.turnstile.specs.History.{entry}
use Rattle.turnstile.specs.Passes.{Origin, PassView, TurnView}

module _ {S O R : Type 0} (reply : S → O → R) (after : S → O → S) (t : Origin S) (p b q : PassView O R S) (op : O) where
  -- the pass waited, if it had no turn, and then made the call
  in-turn : (result : Result R Refusal) (h : TurnView O R S) → outside t b ≡ record (outside t p) { seen = b.seen } → Waited (outside t p) b.seen
      → MatchResult result (λ r. CalledNext b op r q.seen) (λ e. FoundNone t.start b e q.seen) → IsTurn reply after t q h
      → MatchResult result (λ r. Called reply after t.start (outside t p) op r q.seen) (λ e. Found reply after t.start (outside t p) e q.seen)
  in-turn (Ok r) h same waited called turn =
      let number : b.number ≡ p.number = ap (λ (w : PassView O R S). w.number) same in (
        waited.0,
        called ∙ ap (λ n. b.seen ++ entry n op r ∷ []) number ∙ ap (λ es. es ++ entry p.number op r ∷ []) waited.1,
        waited.2,
        turn.legal,
        turn.bounded,
      )
  in-turn (Err e) h same waited found turn = (waited.0, found.0 ∙ waited.1, waited.2, turn.legal, found.1)

  pub called-held : (result : Result R Refusal) (h : TurnView O R S) (w : PassView O R S) → outside t b ≡ record (outside t p) { seen = b.seen } → Waited (outside t p) b.seen → HasOnlySeen b q
      → MatchResult result (λ r. CalledNext b op r q.seen) (λ e. FoundNone t.start b e q.seen) → IsTurn reply after t q h → outside t w ≡ outside t q
      → CallsBy reply after (outside t p) op result (outside t w)
  called-held result h w same waited only call turn settled =
      subst (λ v. CallsBy reply after (outside t p) op result v) (sym settled)
      (record {
        origin = t;
        of = refl;
        only = ap (outside t) only ∙ ap (λ (v : PassView O R S). record v { seen = q.seen }) same;
        call = in-turn result h same waited call turn;
      })

module _ {S O R : Type 0} (reply : S → O → R) (after : S → O → S) (t : Origin S) (p b w : PassView O R S) where
  -- the pass waited, if it had no turn, and the object was shown in its turn
  pub looks-held : (Shows : S → Type 0) (h : TurnView O R S) (state : S) → outside t b ≡ record (outside t p) { seen = b.seen } → Waited (outside t p) b.seen
      → IsTurn reply after t b h → h.state ≡ Some state → Shows state → outside t w ≡ outside t b
      → LooksBy reply after (outside t p) Shows (outside t w)
  looks-held Shows h state same waited turn object shows settled =
      subst (λ v. LooksBy reply after (outside t p) Shows v) (sym settled)
      (record {
        origin = t;
        of = refl;
        only = same;
        waited = waited;
        legal = turn.legal;
        bounded = turn.bounded;
        shows = subst Shows (ap (λ (o : Option S). unwrap_or o state) (sym object ∙ turn.object)) shows;
      })
