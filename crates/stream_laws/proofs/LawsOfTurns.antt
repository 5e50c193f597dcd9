-- The laws on turns, commits and closed subscriptions, from what holds of a legal history.
use Rattle.stream_laws.proofs.Prelude.{◌≡◌, Bool, true, false, List, [], ◌∷◌, ◌++◌, reverse, refl, sym, ap, subst, ◌∙◌, cond-false, false_from_ne_true, or_left, true≢false, same_sub-equal, same_sub, SubName, Entry, closed_after, handled_after, handled_events, Reply, Leads, Op, Commit, Unsubscribe, PlainPartition, Committed, Turn, Unsubscribed}
use mathlib.Core.List.{reverse_aux}
use Rattle.stream_laws.specs.Laws.{CommitsBegun, CommittedOnce, NoneAfterClose, TurnsInOrder}
use Rattle.stream_model.specs.Step.{step}
use Rattle.stream_laws.proofs.Invariant.{Fits}
use Rattle.stream_laws.proofs.Legal.{Reaches, StepsKeep, fits-stands, fits-step, reaches-stands}
use Rattle.stream_laws.proofs.Summary.{Promise, Summary, summary}

-- what the reply of an entry of a legal history promises
entry-promise : StepsKeep → (before : List Entry) (e : Entry) (later : List Entry) (q : PlainPartition) → Reaches (reverse before) (e ∷ later) q → Promise (summary (reverse before)) e.op e.reply
entry-promise keep before e later q reaches =
    subst (λ reply. Promise (summary (reverse before)) e.op reply) reaches.leads.0
    (keep (summary (reverse before)) reaches.state e.op reaches.fits).1

pub turns_in_order-from : StepsKeep → TurnsInOrder
turns_in_order-from keep blocks limits before e later q stands s activation turn note events told =
    let promise : Promise (summary (reverse before)) e.op (Turn s activation turn events note) =
    subst (λ reply. Promise (summary (reverse before)) e.op reply) told (entry-promise keep before e later q (reaches-stands keep blocks limits before (e ∷ later) q stands)) in
    (promise.0, promise.1, promise.2, promise.3)

pub commits_begun-from : StepsKeep → CommitsBegun
commits_begun-from keep blocks limits before e later q stands grain activation turn note s token asked told =
    let promise : Promise (summary (reverse before)) (Commit grain activation turn note) (Committed s token) =
    subst (λ op. Promise (summary (reverse before)) op (Committed s token)) asked
    (subst (λ reply. Promise (summary (reverse before)) e.op reply) told (entry-promise keep before e later q (reaches-stands keep blocks limits before (e ∷ later) q stands))) in
    promise.0

pub committed_once-from : StepsKeep → CommittedOnce
committed_once-from keep blocks limits history p stands turn =
    let numbers = (fits-stands keep blocks limits history p stands).numbers in
    (numbers.begun turn, numbers.committed turn)

-- a subscription stays closed
closed-stays : (s : SubName) (old : Bool) (op : Op) (reply : Reply) → old ≡ true → closed_after s old op reply ≡ true
closed-stays s old (Unsubscribe sub) (Unsubscribed count) closed = or_left old (same_sub s sub) closed
closed-stays s old op reply closed = closed

-- and handles nothing more
handled-stays : (t : Summary) (s : SubName) (op : Op) (reply : Reply) → t.closed s ≡ true → Promise t op reply → handled_after s t.turn (t.handled s) op reply ≡ t.handled s
handled-stays t s (Commit grain activation turn note) (Committed sub token) closed promise =
    let other : same_sub s sub ≡ false = false_from_ne_true (same_sub s sub) (λ same. true≢false (sym closed ∙ (ap (λ name. t.closed name) (same_sub-equal s sub same) ∙ promise.2))) in
    cond-false (same_sub s sub) (t.handled s ++ t.turn turn) (t.handled s) other
handled-stays t s op reply closed promise = refl

handled-stays-on : StepsKeep → (past : List Entry) (p : PlainPartition) (entries : List Entry) (q : PlainPartition) (s : SubName) → Fits (summary past) p → Leads p entries q → (summary past).closed s ≡ true → handled_events (reverse_aux entries past) s ≡ handled_events past s
handled-stays-on keep past p [] q s fits leads closed = refl
handled-stays-on keep past p (e ∷ entries) q s fits leads closed =
    let promise : Promise (summary past) e.op e.reply = subst (λ reply. Promise (summary past) e.op reply) leads.0 (keep (summary past) p e.op fits).1 in
    handled-stays-on keep (e ∷ past) (step p e.op).0 entries q s (fits-step keep past p e fits leads.0) leads.1 (closed-stays s ((summary past).closed s) e.op e.reply closed)
    ∙ handled-stays (summary past) s e.op e.reply closed promise

reverse_aux-append : (xs ys past : List Entry) → reverse_aux (xs ++ ys) past ≡ reverse_aux ys (reverse_aux xs past)
reverse_aux-append [] ys past = refl
reverse_aux-append (x ∷ xs) ys past = reverse_aux-append xs ys (x ∷ past)

pub none_after_close-from : StepsKeep → NoneAfterClose
none_after_close-from keep blocks limits before later p stands s closed =
    let reaches = reaches-stands keep blocks limits before later p stands in
    ap (λ history. handled_events history s) (reverse_aux-append before later [])
    ∙ handled-stays-on keep (reverse before) reaches.state later p s reaches.fits reaches.leads closed
