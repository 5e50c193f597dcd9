-- Ack keeps the invariant.
use Rattle.stream_laws.proofs.Prelude.{◌≡◌, ℕ, ◌<◌, Bool, true, false, not, List, [], ◌∷◌, ◌++◌, get_or, Option, Some, None, refl, sym, subst, cond_both, AllByRecursion, All-filter, same_token, past, SubName, Token, sub_at, token_at, acknowledged, handled_at, is_stale, PlainPartition, Subscription}
use Rattle.stream_model.specs.declared.op.Op.TheVariants as op
use Rattle.stream_model.specs.Pulling.{ack, ack_of, ack_position}
use Rattle.stream_laws.proofs.FitsOne.{Fits-sub}
use Rattle.stream_laws.proofs.Invariant.{Fits, Kept, SubFits, marks_of, running_of, waiting_of}
use Rattle.stream_laws.proofs.MarkLemmas.{marked_below-all, marked_below-within}
use Rattle.stream_laws.proofs.Marks.{IsInTurn}
use Rattle.stream_laws.proofs.ServedLemmas.{served-acked}
use Rattle.stream_laws.proofs.Summary.{Summary}

-- a handled position with the token is marked, and below the end of what is handled
below-past : (marks : List Bool) (handled running : List ℕ) → IsInTurn marks handled running → AllByRecursion (λ q. q < past handled) handled
below-past marks handled running in_turn =
    subst (λ qs. AllByRecursion (λ q. q < past handled) qs) (sym in_turn.first) (marked_below-within marks (past handled))

marked-handled : (marks : List Bool) (handled running : List ℕ) → IsInTurn marks handled running → AllByRecursion (λ q. get_or marks q false ≡ true) handled
marked-handled marks handled running in_turn =
    subst (λ qs. AllByRecursion (λ q. get_or marks q false ≡ true) qs) (sym in_turn.first) (marked_below-all marks (past handled))

SubFits-acknowledged : (t : Summary) (p : PlainPartition) (s : SubName) (r : Subscription) (position : ℕ)
    → position < past r.handled → get_or (marks_of r.stream r.start p.log) position false ≡ true
    → SubFits t p.log p.low s r (running_of p s r) (waiting_of p s r)
    → SubFits t p.log p.low s (acknowledged r position) (running_of p s (acknowledged r position)) (waiting_of p s (acknowledged r position))
SubFits-acknowledged t p s r position below marked fits =
    record {
      binding = fits.binding;
      handled = fits.handled;
      closed = fits.closed;
      note = fits.note;
      in_turn = fits.in_turn;
      served = λ is_open.
          served-acked (marks_of r.stream r.start p.log) r.handled (running_of p s r ++ waiting_of p s r) r.resume r.cursor p.low position below marked (fits.served is_open);
    }

kept-ack_position : (t : Summary) (p : PlainPartition) (generation : ℕ) (s : SubName) (token : Token) (r : Subscription) (positions : List ℕ)
    → sub_at p s ≡ Some r → AllByRecursion (λ q. q < past r.handled) positions
    → AllByRecursion (λ q. get_or (marks_of r.stream r.start p.log) q false ≡ true) positions
    → Fits t p → Kept t (op.Ack generation s token) (ack_position p s r positions)
unfolding ack_position
kept-ack_position t p generation s token r [] found below marked fits = (fits, tt)
kept-ack_position t p generation s token r (position ∷ positions) found below marked fits =
    (Fits-sub t p s r (acknowledged r position) found refl refl (SubFits-acknowledged t p s r position below.0 marked.0 (fits.subs s r found)) fits, tt)

kept-ack_of : (t : Summary) (p : PlainPartition) (generation : ℕ) (s : SubName) (token : Token) (found : Option Subscription)
    → sub_at p s ≡ found → Fits t p → Kept t (op.Ack generation s token) (ack_of p s token found)
unfolding ack_of
kept-ack_of t p generation s token None is_found fits = (fits, tt)
kept-ack_of t p generation s token (Some r) is_found fits =
    let marks = marks_of r.stream r.start p.log in
    let in_turn = (fits.subs s r is_found).in_turn in
    let has_token : ℕ → Bool = λ position. same_token (token_at p position) token in
    cond_both (not r.is_open) _ _ (Kept t (op.Ack generation s token)) (λ _. (fits, tt))
    (λ _. kept-ack_position t p generation s token r (handled_at p r token) is_found
    (All-filter (λ q. q < past r.handled) has_token r.handled (below-past marks r.handled (running_of p s r) in_turn))
    (All-filter (λ q. get_or marks q false ≡ true) has_token r.handled (marked-handled marks r.handled (running_of p s r) in_turn))
    fits)

pub kept-ack : (t : Summary) (p : PlainPartition) (generation : ℕ) (s : SubName) (token : Token) → Fits t p → Kept t (op.Ack generation s token) (ack p generation s token)
unfolding ack
kept-ack t p generation s token fits =
    cond_both (is_stale p generation) _ _ (Kept t (op.Ack generation s token)) (λ _. (fits, tt))
    (λ _. kept-ack_of t p generation s token (sub_at p s) refl fits)
