-- The turn of a grain that runs goes on running, step by step, until it is ended.
use Rattle.stream_laws.proofs.Prelude.{◌≡◌, ℕ, suc, ◌+◌, ◌==◌, ◌&&◌, ◌||◌, not, nat_lt, nat_le, true, false, List, [], ◌∷◌, length, Option, Some, None, is_some, unwrap_or, refl, sym, ap, subst, ◌∙◌, and_from, and_parts, both_ways, cond_both, eq-eqb, eqb-true, false_from_ne_true, list_any, grain_equality, same_grain-equal, none_from_is_some, turn_size, batch_token, same_grain, same_name, token_lt, changed_value, past, value_at, with_value, GrainId, StreamId, SubName, BATCH_EVENTS, MAILBOX_PLACES, Rule, Token, changed_option, changed_value-at, changed_value-other, with_value-at, with_value-other, between, grain_at, is_spent, low_token, lower_bound, new_grain, next_position, sub_at, without, handled_at, is_stale, subs_with, woken, Reply, Op, Start, Latest, At, Delivery, Grain, PlainPartition, RunningTurn, Subscription}
use Rattle.stream_ident.specs.declared.ident.SubName.TheVariants as name
use Rattle.stream_model.specs.declared.op.Op.TheVariants as op
use Rattle.stream_model.specs.Publishing.{add_rule, publish, subscribe, subscribe_at, unsubscribe, unsubscribe_from}
use Rattle.stream_model.specs.Pulling.{ack, ack_of, ack_position, deliver, deliver_position, deliver_to, move, move_to, pull, pull_count, pull_events, pull_want, purge, purge_to, retry, retry_of}
use Rattle.stream_model.specs.Step.{step}
use Rattle.stream_model.specs.Turns.{begin, begin_for, begin_front, begin_in, begin_turn, commit, commit_for, commit_running, deactivate, deactivate_in}
use Rattle.stream_laws.specs.Laws.{begins, ends}

-- the number of the turn that runs
abbrev pub turn_of : Option RunningTurn → Option ℕ
turn_of None = None
turn_of (Some run) = Some run.turn

module _ (g : GrainId) (turn : ℕ) where
  -- the grain's turn with this number runs
  abbrev RunsIn : List (GrainId × Grain) → Type 0
  RunsIn grains = turn_of (unwrap_or (value_at same_grain g grains) new_grain).running ≡ Some turn

  abbrev pub Runs : PlainPartition → Type 0
  Runs p = RunsIn p.grains

  abbrev Stays : PlainPartition × Reply → Type 0
  Stays out = Runs out.0

  -- it is that of any grain of the same name
  runs-same : (p : PlainPartition) (h : GrainId) → Runs p → same_grain g h ≡ true → turn_of (grain_at p h).running ≡ Some turn
  runs-same p h runs same = subst (λ x. turn_of (grain_at p x).running ≡ Some turn) (same_grain-equal g h same) runs

  -- a grain was set whose turn is the same, if it is this one
  runs-set : (grains : List (GrainId × Grain)) (h : GrainId) (st : Grain) → (same_grain g h ≡ true → turn_of st.running ≡ Some turn) → RunsIn grains → RunsIn (with_value same_grain h st grains)
  runs-set grains h st here runs =
      (elim (same_grain g h) as (λ b. same_grain g h ≡ b → RunsIn (with_value same_grain h st grains)) [
        | true ↦ λ same.
            subst (λ x. turn_of (unwrap_or (value_at same_grain x (with_value same_grain h st grains)) new_grain).running ≡ Some turn) (sym (same_grain-equal g h same))
            (ap (λ (o : Option Grain). turn_of (unwrap_or o new_grain).running) (with_value-at same_grain grain_equality h st grains) ∙ here same)
        | false ↦ λ other. ap (λ (o : Option Grain). turn_of (unwrap_or o new_grain).running) (with_value-other same_grain grain_equality g h st grains other) ∙ runs
      ]) refl

  -- another grain was set
  runs-apart : (grains : List (GrainId × Grain)) (h : GrainId) (st : Grain) → same_grain g h ≡ false → RunsIn grains → RunsIn (with_value same_grain h st grains)
  runs-apart grains h st apart runs = runs-set grains h st (λ same. absurd (both_ways (same_grain g h) apart same)) runs

  stays-publish : (p : PlainPartition) (stream : StreamId) (payloads : List (List ℕ)) → Runs p → Stays (publish p stream payloads)
  unfolding publish
  stays-publish p stream payloads runs =
      cond_both ((length payloads == 0) || nat_lt BATCH_EVENTS (length payloads)) _ _ Stays (λ _. runs)
      (λ _. cond_both (nat_lt p.limits.events (length p.log + length payloads)) _ _ Stays (λ _. runs) (λ _. runs))

  stays-subscribe_at : (p : PlainPartition) (stream : StreamId) (grain : GrainId) (start : Token) (position : ℕ) → Runs p → Stays (subscribe_at p stream grain start position)
  unfolding subscribe_at
  stays-subscribe_at p stream grain start position runs =
      cond_both (nat_le p.limits.subs (length p.subs)) _ _ Stays (λ _. runs) (λ _. runs)

  stays-subscribe : (p : PlainPartition) (stream : StreamId) (grain : GrainId) (start : Start) → Runs p → Stays (subscribe p stream grain start)
  unfolding subscribe
  stays-subscribe p stream grain Latest runs = stays-subscribe_at p stream grain (batch_token p.batches) p.high runs
  stays-subscribe p stream grain (At token) runs =
      cond_both (token_lt token (low_token p)) _ _ Stays (λ _. runs) (λ _. stays-subscribe_at p stream grain token (lower_bound p token) runs)

  -- deliveries of a subscription that leave a mailbox leave the turn as it is
  turn-without : (s : SubName) (o : Option Grain) → turn_of (unwrap_or (changed_option (without s) o) new_grain).running ≡ turn_of (unwrap_or o new_grain).running
  turn-without s None = refl
  turn-without s (Some st) = refl

  runs-without : (grains : List (GrainId × Grain)) (s : SubName) (h : GrainId) → RunsIn grains → RunsIn (changed_value same_grain h (without s) grains)
  runs-without grains s h runs =
      (elim (same_grain g h) as (λ b. same_grain g h ≡ b → RunsIn (changed_value same_grain h (without s) grains)) [
        | true ↦ λ same.
            subst (λ x. RunsIn (changed_value same_grain x (without s) grains)) (same_grain-equal g h same)
            (ap (λ (o : Option Grain). turn_of (unwrap_or o new_grain).running) (changed_value-at same_grain g (without s) grains)
            ∙ (turn-without s (value_at same_grain g grains) ∙ runs))
        | false ↦ λ other. ap (λ (o : Option Grain). turn_of (unwrap_or o new_grain).running) (changed_value-other same_grain grain_equality g h (without s) grains other) ∙ runs
      ]) refl

  stays-unsubscribe_from : (p : PlainPartition) (s : SubName) (found : Option Subscription) → Runs p → Stays (unsubscribe_from p s found)
  unfolding unsubscribe_from
  stays-unsubscribe_from p (name.Explicit number) None runs = runs
  stays-unsubscribe_from p (name.Implicit kind stream) None runs = runs
  stays-unsubscribe_from p (name.Implicit kind stream) (Some r) runs = runs
  stays-unsubscribe_from p (name.Explicit number) (Some r) runs =
      cond_both (not r.is_open) _ _ Stays (λ _. runs) (λ _. runs-without p.grains (name.Explicit number) r.grain runs)

  stays-unsubscribe : (p : PlainPartition) (s : SubName) → Runs p → Stays (unsubscribe p s)
  unfolding unsubscribe
  stays-unsubscribe p s runs = stays-unsubscribe_from p s (sub_at p s) runs

  stays-add_rule : (p : PlainPartition) (kind namespace : List ℕ) → Runs p → Stays (add_rule p kind namespace)
  unfolding add_rule
  stays-add_rule p kind namespace runs =
      cond_both (list_any (λ (rule : Rule). same_name kind rule.kind && same_name namespace rule.namespace) p.rules) _ _ Stays (λ _. runs)
      (λ _. cond_both (nat_le p.limits.rules (length p.rules)) _ _ Stays (λ _. runs) (λ _. runs))

  stays-pull_count : (p : PlainPartition) (blocks count : ℕ) → Runs p → Stays (pull_count p blocks count)
  unfolding pull_count pull_events
  stays-pull_count p blocks count runs =
      cond_both (count == 0) _ _ Stays (λ _. runs)
      (λ _. cond_both (nat_lt p.limits.subs (length (subs_with p.rules p.high p.subs (between p.log p.high (p.high + count))))) _ _ Stays (λ _. runs) (λ _. runs))

  stays-pull_want : (p : PlainPartition) (want : ℕ) → Runs p → Stays (pull_want p want)
  unfolding pull_want
  stays-pull_want p want runs = stays-pull_count p _ _ runs

  stays-pull : (p : PlainPartition) (generation max_events : ℕ) → Runs p → Stays (pull p generation max_events)
  unfolding pull
  stays-pull p generation max_events runs =
      cond_both (is_stale p generation) _ _ Stays (λ _. runs)
      (λ _. cond_both (p.high == length p.log) _ _ Stays (λ _. runs) (λ _. stays-pull_want p _ runs))

  stays-deliver_position : (p : PlainPartition) (s : SubName) (r : Subscription) (next : Option ℕ) → Runs p → Stays (deliver_position p s r (grain_at p r.grain) next)
  unfolding deliver_position
  stays-deliver_position p s r None runs = runs
  stays-deliver_position p s r (Some position) runs =
      let st = grain_at p r.grain in
      cond_both (nat_le MAILBOX_PLACES (length st.mailbox)) _ _ Stays (λ _. runs)
      (λ _. cond_both (not st.active && is_spent p) _ _ Stays (λ _. runs)
      (λ _. runs-set p.grains r.grain (woken st s position) (runs-same p r.grain runs) runs))

  stays-deliver_to : (p : PlainPartition) (s : SubName) (found : Option Subscription) → Runs p → Stays (deliver_to p s found)
  unfolding deliver_to
  stays-deliver_to p s None runs = runs
  stays-deliver_to p s (Some r) runs =
      cond_both (not r.is_open) _ _ Stays (λ _. runs) (λ _. stays-deliver_position p s r (next_position p r) runs)

  stays-deliver : (p : PlainPartition) (generation : ℕ) (s : SubName) → Runs p → Stays (deliver p generation s)
  unfolding deliver
  stays-deliver p generation s runs = cond_both (is_stale p generation) _ _ Stays (λ _. runs) (λ _. stays-deliver_to p s (sub_at p s) runs)

  stays-retry_of : (p : PlainPartition) (s : SubName) (found : Option Subscription) → Runs p → Stays (retry_of p s found)
  unfolding retry_of
  stays-retry_of p s None runs = runs
  stays-retry_of p s (Some r) runs = cond_both (not r.is_open) _ _ Stays (λ _. runs) (λ _. runs)

  stays-retry : (p : PlainPartition) (generation : ℕ) (s : SubName) → Runs p → Stays (retry p generation s)
  unfolding retry
  stays-retry p generation s runs = cond_both (is_stale p generation) _ _ Stays (λ _. runs) (λ _. stays-retry_of p s (sub_at p s) runs)

  stays-ack_position : (p : PlainPartition) (s : SubName) (r : Subscription) (positions : List ℕ) → Runs p → Stays (ack_position p s r positions)
  unfolding ack_position
  stays-ack_position p s r [] runs = runs
  stays-ack_position p s r (position ∷ positions) runs = runs

  stays-ack_of : (p : PlainPartition) (s : SubName) (token : Token) (found : Option Subscription) → Runs p → Stays (ack_of p s token found)
  unfolding ack_of
  stays-ack_of p s token None runs = runs
  stays-ack_of p s token (Some r) runs =
      cond_both (not r.is_open) _ _ Stays (λ _. runs) (λ _. stays-ack_position p s r (handled_at p r token) runs)

  stays-ack : (p : PlainPartition) (generation : ℕ) (s : SubName) (token : Token) → Runs p → Stays (ack p generation s token)
  unfolding ack
  stays-ack p generation s token runs = cond_both (is_stale p generation) _ _ Stays (λ _. runs) (λ _. stays-ack_of p s token (sub_at p s) runs)

  stays-purge : (p : PlainPartition) (generation keep : ℕ) → Runs p → Stays (purge p generation keep)
  unfolding purge purge_to
  stays-purge p generation keep runs = cond_both (is_stale p generation) _ _ Stays (λ _. runs) (λ _. runs)

  stays-move : (p : PlainPartition) (silo : ℕ) → Runs p → Stays (move p silo)
  unfolding move move_to
  stays-move p silo runs = cond_both (is_spent p) _ _ Stays (λ _. runs) (λ _. runs)

  stays-begin_front : (p : PlainPartition) (h : GrainId) (n : ℕ) (st : Grain) (mailbox : List Delivery) → same_grain g h ≡ false → Runs p → Stays (begin_front p h n st mailbox)
  unfolding begin_front begin_for begin_turn
  stays-begin_front p h n st [] apart runs = runs
  stays-begin_front p h n st (d ∷ deliveries) apart runs = for (sub_at p d.sub)
    where
      for : (found : Option Subscription) → Stays (begin_for p h n st d deliveries found)
      for None = runs
      for (Some r) =
          cond_both (nat_lt d.position (past r.handled)) _ _ Stays (λ _. runs-apart p.grains h _ apart runs)
          (λ _. cond_both (is_spent p) _ _ Stays (λ _. runs) (λ _. runs-apart p.grains h _ apart runs))

  -- a grain of which no turn runs is another
  idle-apart : (p : PlainPartition) (h : GrainId) → Runs p → is_some (grain_at p h).running ≡ false → same_grain g h ≡ false
  idle-apart p h runs idle =
      false_from_ne_true (same_grain g h) (λ same.
      let none = none_from_is_some (grain_at p h).running idle in
      let here : turn_of (grain_at p h).running ≡ Some turn = runs-same p h runs same in
      let gone : turn_of (grain_at p h).running ≡ None = ap turn_of none in cc)

  stays-begin : (p : PlainPartition) (h : GrainId) (max_events : ℕ) → Runs p → Stays (begin p h max_events)
  unfolding begin begin_in
  stays-begin p h max_events runs =
      let st = grain_at p h in
      cond_both (is_some st.running) _ _ Stays (λ _. runs)
      (λ idle. cond_both (not st.active) _ _ Stays (λ _. runs)
      (λ _. stays-begin_front p h (turn_size max_events) st st.mailbox (idle-apart p h runs idle) runs))

  -- what an operation leaves, where its reply doesn't end the turn
  abbrev GoesOn : Op → PlainPartition × Reply → Type 0
  GoesOn op out = ends g turn op out.1 ≡ false → Runs out.0

  -- the commit of a turn that isn't this one is of another grain
  commit-apart : (p : PlainPartition) (h : GrainId) (number : ℕ) (run : RunningTurn) → Runs p → (grain_at p h).running ≡ Some run → (number == run.turn) ≡ true → (same_grain g h && (number == turn)) ≡ false → same_grain g h ≡ false
  commit-apart p h number run runs is_run matches goes_on =
      false_from_ne_true (same_grain g h) (λ same.
      let here : turn_of (grain_at p h).running ≡ Some turn = runs-same p h runs same in
      let there : turn_of (grain_at p h).running ≡ Some run.turn = ap turn_of is_run in
      let equal : run.turn ≡ turn = cc in
      both_ways (same_grain g h && (number == turn)) goes_on
      (and_from (same_grain g h) (number == turn) same (eq-eqb number turn (eqb-true number run.turn matches ∙ equal))))

  goes-commit_for : (p : PlainPartition) (h : GrainId) (st : Grain) (run : RunningTurn) (activation number note : ℕ) (found : Option Subscription)
      → ((same_grain g h && (number == turn)) ≡ false → same_grain g h ≡ false) → Runs p → GoesOn (op.Commit h activation number note) (commit_for p h st run note found)
  unfolding commit_for
  goes-commit_for p h st run activation number note None apart runs = λ _. runs
  goes-commit_for p h st run activation number note (Some r) apart runs =
      cond_both (not r.is_open) _ _ (GoesOn (op.Commit h activation number note))
      (λ _ goes_on. runs-apart p.grains h _ (apart goes_on) runs) (λ _ goes_on. runs-apart p.grains h _ (apart goes_on) runs)

  goes-commit_running : (p : PlainPartition) (h : GrainId) (activation number note : ℕ) (running : Option RunningTurn) → (grain_at p h).running ≡ running → Runs p → GoesOn (op.Commit h activation number note) (commit_running p h (grain_at p h) activation number note running)
  unfolding commit_running
  goes-commit_running p h activation number note None is runs = λ _. runs
  goes-commit_running p h activation number note (Some run) is runs =
      cond_both ((activation == (grain_at p h).activation) && (number == run.turn)) _ _ (GoesOn (op.Commit h activation number note))
      (λ matches. goes-commit_for p h (grain_at p h) run activation number note (sub_at p run.sub)
      (commit-apart p h number run runs is (and_parts (activation == (grain_at p h).activation) (number == run.turn) matches).1) runs)
      (λ _ _. runs)

  goes-commit : (p : PlainPartition) (h : GrainId) (activation number note : ℕ) → Runs p → GoesOn (op.Commit h activation number note) (commit p h activation number note)
  unfolding commit
  goes-commit p h activation number note runs = goes-commit_running p h activation number note (grain_at p h).running refl runs

  goes-deactivate : (p : PlainPartition) (h : GrainId) → Runs p → GoesOn (op.Deactivate h) (deactivate p h)
  unfolding deactivate deactivate_in
  goes-deactivate p h runs =
      cond_both (not (grain_at p h).active) _ _ (GoesOn (op.Deactivate h)) (λ _ _. runs) (λ _ apart. runs-apart p.grains h _ apart runs)

  pub goes-step : (p : PlainPartition) (o : Op) → Runs p → GoesOn o (step p o)
  unfolding step
  goes-step p (op.Publish stream payloads) runs _ = stays-publish p stream payloads runs
  goes-step p (op.Subscribe stream grain start) runs _ = stays-subscribe p stream grain start runs
  goes-step p (op.Unsubscribe sub) runs _ = stays-unsubscribe p sub runs
  goes-step p (op.AddRule kind namespace) runs _ = stays-add_rule p kind namespace runs
  goes-step p (op.Pull generation max_events) runs _ = stays-pull p generation max_events runs
  goes-step p (op.Deliver generation sub) runs _ = stays-deliver p generation sub runs
  goes-step p (op.Retry generation sub) runs _ = stays-retry p generation sub runs
  goes-step p (op.Ack generation sub token) runs _ = stays-ack p generation sub token runs
  goes-step p (op.Purge generation keep) runs _ = stays-purge p generation keep runs
  goes-step p (op.Begin grain max_events) runs _ = stays-begin p grain max_events runs
  goes-step p (op.Commit grain activation number note) runs goes_on = goes-commit p grain activation number note runs goes_on
  goes-step p (op.Deactivate grain) runs goes_on = goes-deactivate p grain runs goes_on
  goes-step p (op.Move silo) runs _ = stays-move p silo runs
  goes-step p (op.Ready after) runs _ = runs
  goes-step p (op.Due after) runs _ = runs
  goes-step p op.Quiet runs _ = runs

  -- a turn that begins: none of the grain ran, and now this one does
  abbrev Begun : PlainPartition → Op → PlainPartition × Reply → Type 0
  Begun p op out = begins g turn op out.1 ≡ true → ((grain_at p g).running ≡ None) × Runs out.0

  begun-here : (p : PlainPartition) (h : GrainId) (st : Grain) (number : ℕ) → turn_of st.running ≡ Some number → (grain_at p h).running ≡ None → (same_grain g h && (number == turn)) ≡ true → ((grain_at p g).running ≡ None) × RunsIn (with_value same_grain h st p.grains)
  begun-here p h st number is idle told =
      let parts = and_parts (same_grain g h) (number == turn) told in
      let same : g ≡ h = same_grain-equal g h parts.0 in (
        ap (λ x. (grain_at p x).running) same ∙ idle,
        ap (λ x. turn_of (unwrap_or (value_at same_grain x (with_value same_grain h st p.grains)) new_grain).running) same
            ∙ (ap (λ (o : Option Grain). turn_of (unwrap_or o new_grain).running) (with_value-at same_grain grain_equality h st p.grains)
            ∙ (is ∙ ap Some (eqb-true number turn parts.1))),
      )

  begun-begin_front : (p : PlainPartition) (h : GrainId) (max_events n : ℕ) (st : Grain) (mailbox : List Delivery) → (grain_at p h).running ≡ None → Begun p (op.Begin h max_events) (begin_front p h n st mailbox)
  unfolding begin_front begin_for begin_turn
  begun-begin_front p h max_events n st [] idle = λ told. absurd (cc)
  begun-begin_front p h max_events n st (d ∷ deliveries) idle = for (sub_at p d.sub)
    where
      for : (found : Option Subscription) → Begun p (op.Begin h max_events) (begin_for p h n st d deliveries found)
      for None = λ told. absurd (cc)
      for (Some r) =
          cond_both (nat_lt d.position (past r.handled)) _ _ (Begun p (op.Begin h max_events)) (λ _ told. absurd (cc))
          (λ _. cond_both (is_spent p) _ _ (Begun p (op.Begin h max_events)) (λ _ told. absurd (cc))
          (λ _ told. begun-here p h _ (suc p.turns) refl idle told))

  begun-begin : (p : PlainPartition) (h : GrainId) (max_events : ℕ) → Begun p (op.Begin h max_events) (begin p h max_events)
  unfolding begin begin_in
  begun-begin p h max_events =
      let st = grain_at p h in
      cond_both (is_some st.running) _ _ (Begun p (op.Begin h max_events)) (λ _ told. absurd (cc))
      (λ idle. cond_both (not st.active) _ _ (Begun p (op.Begin h max_events)) (λ _ told. absurd (cc))
      (λ _. begun-begin_front p h max_events (turn_size max_events) st st.mailbox (none_from_is_some st.running idle)))

  pub begun-step : (p : PlainPartition) (o : Op) → Begun p o (step p o)
  unfolding step
  begun-step p (op.Begin grain max_events) told = begun-begin p grain max_events told
  begun-step p o told = absurd (cc)
