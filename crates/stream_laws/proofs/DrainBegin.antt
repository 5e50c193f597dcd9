-- Begin and Commit of a turn of one event, as a drain asks for them.
use Rattle.stream_laws.proofs.Prelude.{◌≡◌, ℕ, suc, pred, ◌==◌, not, nat_lt, nat_le, Bool, true, false, List, [], ◌∷◌, Some, None, if◌then◌else◌, refl, ap, ◌∙◌, arith, and_from, eq-eqb, same_sub-refl, same_sub, past, GrainId, events_at, grain_at, is_spent, sub_at, token_at, Reply, begun, committed, dropped, ended, front_of, Begin, Commit, Delivery, Grain, PlainPartition, RunningTurn, Subscription}
use Rattle.std.proofs.Common.{le-leb}
use Rattle.stream_model.specs.declared.reply.Reply.TheVariants as reply
use Rattle.stream_model.specs.Step.{step}
use Rattle.stream_model.specs.Turns.{begin, begin_for, begin_front, begin_in, begin_turn, commit, commit_for, commit_running}

-- a grain with a delivery, and no turn that runs
abbrev pub ready_grain : ℕ → Delivery → List Delivery → Grain
ready_grain activation d deliveries = record { activation = activation; active = true; mailbox = d ∷ deliveries; running = None }

-- the grain while the first delivery's turn runs
abbrev pub turn_of : PlainPartition → Delivery → RunningTurn
turn_of p d = record { sub = d.sub; turn = suc p.turns; positions = d.position ∷ [] }

abbrev pub busy_grain : PlainPartition → ℕ → Delivery → List Delivery → Grain
busy_grain p activation d deliveries = record { activation = activation; active = true; mailbox = deliveries; running = Some (turn_of p d) }

-- the front of one
front-one : (d : Delivery) (deliveries : List Delivery) → front_of 1 d.sub d.position (d ∷ deliveries) ≡ d.position ∷ []
front-one d deliveries =
    let first = and_from (same_sub d.sub d.sub) (nat_le d.position d.position) (same_sub-refl d.sub) (le-leb d.position d.position (omega arith)) in
    rw first refl

begin-to : (p : PlainPartition) (g : GrainId) (activation : ℕ) (d : Delivery) (deliveries : List Delivery) (r : Subscription) → grain_at p g ≡ ready_grain activation d deliveries → sub_at p d.sub ≡ Some r
    → step p (Begin g 1) ≡ begin_for p g 1 (ready_grain activation d deliveries) d deliveries (Some r)
unfolding step begin begin_in begin_front
begin-to p g activation d deliveries r is found =
    ap (begin_in p g 1) is ∙ ap (begin_for p g 1 (ready_grain activation d deliveries) d deliveries) found

abbrev after_repeat : PlainPartition → GrainId → Grain → Delivery → List Delivery → Subscription → Bool → Bool → PlainPartition × Reply
after_repeat p g st d deliveries r repeat spent =
    if repeat then (dropped p g st deliveries, reply.Dropped d.sub (token_at p d.position))
    else if spent then (p, reply.Spent)
    else begin_turn p g st d.sub r.note (front_of 1 d.sub d.position st.mailbox)

begin-tests : (p : PlainPartition) (g : GrainId) (st : Grain) (d : Delivery) (deliveries : List Delivery) (r : Subscription) (repeat spent : Bool) → nat_lt d.position (past r.handled) ≡ repeat → is_spent p ≡ spent
    → begin_for p g 1 st d deliveries (Some r) ≡ after_repeat p g st d deliveries r repeat spent
unfolding begin_for
begin-tests p g st d deliveries r repeat spent is_repeat is_spent_so =
    ap (λ b. after_repeat p g st d deliveries r b (is_spent p)) is_repeat ∙ ap (after_repeat p g st d deliveries r repeat) is_spent_so

pub begin-dropped : (p : PlainPartition) (g : GrainId) (activation : ℕ) (d : Delivery) (deliveries : List Delivery) (r : Subscription) → grain_at p g ≡ ready_grain activation d deliveries → sub_at p d.sub ≡ Some r
    → nat_lt d.position (past r.handled) ≡ true
    → step p (Begin g 1) ≡ (dropped p g (ready_grain activation d deliveries) deliveries, reply.Dropped d.sub (token_at p d.position))
begin-dropped p g activation d deliveries r is found repeat =
    begin-to p g activation d deliveries r is found ∙ begin-tests p g (ready_grain activation d deliveries) d deliveries r true (is_spent p) repeat refl

pub begin-spent : (p : PlainPartition) (g : GrainId) (activation : ℕ) (d : Delivery) (deliveries : List Delivery) (r : Subscription) → grain_at p g ≡ ready_grain activation d deliveries → sub_at p d.sub ≡ Some r
    → nat_lt d.position (past r.handled) ≡ false → is_spent p ≡ true
    → step p (Begin g 1) ≡ (p, reply.Spent)
begin-spent p g activation d deliveries r is found new spent =
    begin-to p g activation d deliveries r is found ∙ begin-tests p g (ready_grain activation d deliveries) d deliveries r false true new spent

-- a turn begins, with the first delivery's event
pub begin-turn : (p : PlainPartition) (g : GrainId) (activation : ℕ) (d : Delivery) (deliveries : List Delivery) (r : Subscription) → grain_at p g ≡ ready_grain activation d deliveries → sub_at p d.sub ≡ Some r
    → nat_lt d.position (past r.handled) ≡ false → is_spent p ≡ false
    → step p (Begin g 1) ≡ (begun p g (ready_grain activation d deliveries) d.sub (d.position ∷ []), reply.Turn d.sub activation (suc p.turns) (events_at p.log (d.position ∷ [])) r.note)
unfolding begin_turn
begin-turn p g activation d deliveries r is found new some =
    begin-to p g activation d deliveries r is found ∙ begin-tests p g (ready_grain activation d deliveries) d deliveries r false false new some
    ∙ ap (begin_turn p g (ready_grain activation d deliveries) d.sub r.note) (front-one d deliveries)

-- its commit
pub commit-turn : (p : PlainPartition) (g : GrainId) (st : Grain) (run : RunningTurn) (note : ℕ) (r : Subscription) → grain_at p g ≡ st → st.running ≡ Some run → sub_at p run.sub ≡ Some r → r.is_open ≡ true
    → step p (Commit g st.activation run.turn note) ≡ (committed p g st run r note, reply.Committed run.sub (token_at p (pred (past run.positions))))
unfolding step commit commit_running commit_for
commit-turn p g st run note r is runs found is_open =
    let current = and_from (st.activation == st.activation) (run.turn == run.turn) (eq-eqb st.activation st.activation refl) (eq-eqb run.turn run.turn refl) in
    ap (λ (st' : Grain). commit_running p g st' st.activation run.turn note st'.running) is
    ∙ ap (commit_running p g st st.activation run.turn note) runs
    ∙ ap {B = PlainPartition × Reply} (λ b. if b then commit_for p g st run note (sub_at p run.sub) else (p, reply.Stale)) current
    ∙ ap (commit_for p g st run note) found
    ∙ ap {B = PlainPartition × Reply} (λ b. if not b then (ended p g st, reply.Closed) else (committed p g st run r note, reply.Committed run.sub (token_at p (pred (past run.positions))))) is_open
