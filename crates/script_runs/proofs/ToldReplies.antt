-- What a producer is answered, by the producers' entries before it.
use Rattle.script_runs.proofs.Prelude.{◌≡◌, ◌∙◌, ap, sym, refl, ℕ, zero, suc, ◌+◌, ◌==◌, ◌&&◌, ◌||◌, not, nat_lt, nat_le, true, false, List, ◌∷◌, length, Option, Some, None, is_some, if◌then◌else◌, arith, and_from, and_right, cond_both, false≢true, le-leb, lt-leb, ltb-false, ltb-true, ne_eqb, or_parts, list_any, batch_token, same_name, token_lt, GrainId, StreamId, SubName, BATCH_EVENTS, Rule, Token, kept-step, unknown_has_no_record-from, fits-stands, leads-split, is_given, is_closed, empty, low_token, lower_bound, sub_at, is_producer, Reply, Stands, Limits, Op, Latest, At, PlainPartition, Subscription}
use Rattle.stream_ident.specs.declared.ident.SubName.TheVariants as name
use Rattle.stream_model.specs.declared.op.Op.TheVariants as op
use Rattle.stream_model.specs.declared.op.Start.{Start}
use Rattle.stream_model.specs.declared.reply.Reply.TheVariants as reply
use Rattle.stream_model.specs.History.{Entry}
use Rattle.stream_model.specs.Publishing.{add_rule, publish, subscribe, subscribe_at, unsubscribe, unsubscribe_from}
use Rattle.stream_model.specs.Step.{step}
use Rattle.script_runs.proofs.Producers.{batches-same, count-same, given-same, producers-tell}
use Rattle.script_runs.proofs.ToldSteps.{told-legal}
use Rattle.script_runs.specs.ScriptLaws.{RepliesAreTold, is_limit, is_miss}
use Rattle.script_runs.specs.Told.{batch_count, has_rule, is_among, producers_entries, rules_of, subscribe_reply, subscribed_count, told_of, told_reply}

-- what the producers' entries tell of the partition
record Knows (before : List Entry) (p : PlainPartition) : Type 0 where
  batches : batch_count (producers_entries before) ≡ p.batches
  number : subscribed_count (producers_entries before) ≡ p.explicit
  rules : rules_of (producers_entries before) ≡ p.rules
  given : (number : ℕ) → is_given (producers_entries before) number ≡ is_some (sub_at p (name.Explicit number))
  closed : (number : ℕ) (r : Subscription) → sub_at p (name.Explicit number) ≡ Some r → is_closed (producers_entries before) (name.Explicit number) ≡ not r.is_open
  unmade : (number : ℕ) → sub_at p (name.Explicit number) ≡ None → is_closed (producers_entries before) (name.Explicit number) ≡ false

knows-legal : (blocks : ℕ) (limits : Limits) (before : List Entry) (p : PlainPartition) → Stands blocks limits before p → Knows before p
knows-legal blocks limits before p stands =
    let fits = fits-stands kept-step blocks limits before p stands in
    let told = told-legal blocks limits before p stands in
    record {
      batches = batches-same before ∙ sym fits.log.batches;
      number = count-same before ∙ sym told.number;
      rules = producers-tell.rules before ∙ sym told.rules;
      given = λ number. given-same before number ∙ sym (unknown_has_no_record-from kept-step blocks limits before p stands number).0;
      closed = λ number r found. producers-tell.closed before (name.Explicit number) ∙ (fits.subs (name.Explicit number) r found).closed;
      unmade = λ number none. producers-tell.closed before (name.Explicit number) ∙ (fits.unmade (name.Explicit number) none).closed;
    }

abbrev Answers : List Entry → Op → PlainPartition × Reply → Type 0
Answers before op out =
    is_limit out.1 ≡ false → (missed : List ℕ) (line : ℕ) → is_among line missed ≡ is_miss out.1
    → told_of out.1 ≡ told_reply missed (producers_entries before) line op

no-batch : (n : ℕ) → ((n == 0) || nat_lt BATCH_EVENTS n) ≡ true → (nat_le 1 n && nat_le n BATCH_EVENTS) ≡ false
no-batch zero bad = refl
no-batch (suc n) bad =
    let many : nat_lt BATCH_EVENTS (suc n) ≡ true = ap (λ b. b || nat_lt BATCH_EVENTS (suc n)) (sym (ne_eqb (suc n) 0 (λ same. omega arith))) ∙ bad in
    and_right (nat_le 1 (suc n)) (nat_le (suc n) BATCH_EVENTS) (lt-leb (suc n) BATCH_EVENTS (ltb-true BATCH_EVENTS (suc n) many))

batch-size : (n : ℕ) → ((n == 0) || nat_lt BATCH_EVENTS n) ≡ false → (nat_le 1 n && nat_le n BATCH_EVENTS) ≡ true
batch-size zero good = absurd (cc)
batch-size (suc n) good =
    let few = (or_parts (suc n == 0) (nat_lt BATCH_EVENTS (suc n)) good).1 in
    and_from (nat_le 1 (suc n)) (nat_le (suc n) BATCH_EVENTS) (le-leb 1 (suc n) (omega arith)) (le-leb (suc n) BATCH_EVENTS (ltb-false BATCH_EVENTS (suc n) few))

module _ (before : List Entry) (p : PlainPartition) (knows : Knows before p) where
  abbrev past : List Entry
  past = producers_entries before

  answers-publish : (stream : StreamId) (payloads : List (List ℕ)) → Answers before (op.Publish stream payloads) (publish p stream payloads)
  unfolding publish
  answers-publish stream payloads =
      cond_both ((length payloads == 0) || nat_lt BATCH_EVENTS (length payloads)) _ _ (Answers before (op.Publish stream payloads))
      (λ bad limit missed line same. sym (ap (λ b. if b then reply.Published (batch_count past) else reply.BadBatch) (no-batch (length payloads) bad)))
      (λ good. cond_both (nat_lt p.limits.events (length p.log + length payloads)) _ _ (Answers before (op.Publish stream payloads))
      (λ full limit missed line same. absurd (cc))
      (λ room limit missed line same.
      ap reply.Published (sym knows.batches)
      ∙ sym (ap (λ b. if b then reply.Published (batch_count past) else reply.BadBatch) (batch-size (length payloads) good))))

  answers-subscribe_at : (stream : StreamId) (grain : GrainId) (from : Start) (start : Token) (position : ℕ)
      → ((missed : List ℕ) (line : ℕ) → is_among line missed ≡ false → told_reply missed past line (op.Subscribe stream grain from) ≡ subscribe_reply past false)
      → Answers before (op.Subscribe stream grain from) (subscribe_at p stream grain start position)
  unfolding subscribe_at
  answers-subscribe_at stream grain from start position asks =
      cond_both (nat_le p.limits.subs (length p.subs)) _ _ (Answers before (op.Subscribe stream grain from))
      (λ full limit missed line same. absurd (cc))
      (λ room limit missed line same. ap (λ n. reply.Subscribed (suc n)) (sym knows.number) ∙ sym (asks missed line same))

  answers-subscribe : (stream : StreamId) (grain : GrainId) (start : Start) → Answers before (op.Subscribe stream grain start) (subscribe p stream grain start)
  unfolding subscribe
  answers-subscribe stream grain Latest = answers-subscribe_at stream grain Latest (batch_token p.batches) p.high (λ missed line same. refl)
  answers-subscribe stream grain (At token) =
      cond_both (token_lt token (low_token p)) _ _ (Answers before (op.Subscribe stream grain (At token)))
      (λ below limit missed line same. sym (ap (subscribe_reply past) same))
      (λ there. answers-subscribe_at stream grain (At token) token (lower_bound p token) (λ missed line same. ap (subscribe_reply past) same))

  answers-unsubscribe_from : (s : SubName) (found : Option Subscription) → sub_at p s ≡ found → Answers before (op.Unsubscribe s) (unsubscribe_from p s found)
  unfolding unsubscribe_from
  answers-unsubscribe_from (name.Explicit number) None is =
      let closed = knows.unmade number is in
      let given = knows.given number ∙ ap is_some is in
      λ limit missed line same. sym (λ i. if closed i then reply.Closed else if given i then reply.Unsubscribed 0 else reply.NoSuch)
  answers-unsubscribe_from (name.Implicit kind stream) None is = λ limit missed line same. refl
  answers-unsubscribe_from (name.Implicit kind stream) (Some r) is = λ limit missed line same. refl
  answers-unsubscribe_from (name.Explicit number) (Some r) is =
      let given = knows.given number ∙ ap is_some is in
      cond_both (not r.is_open) _ _ (Answers before (op.Unsubscribe (name.Explicit number)))
      (λ shut limit missed line same.
      let closed = knows.closed number r is ∙ shut in
      sym (λ i. if closed i then reply.Closed else if given i then reply.Unsubscribed 0 else reply.NoSuch))
      (λ open_sub limit missed line same.
      let closed = knows.closed number r is ∙ open_sub in
      sym (λ i. if closed i then reply.Closed else if given i then reply.Unsubscribed 0 else reply.NoSuch))

  rule-there : (kind namespace : List ℕ) → has_rule past kind namespace ≡ list_any (λ (rule : Rule). same_name kind rule.kind && same_name namespace rule.namespace) p.rules
  rule-there kind namespace = ap (list_any (λ (rule : Rule). same_name kind rule.kind && same_name namespace rule.namespace)) knows.rules

  answers-add_rule : (kind namespace : List ℕ) → Answers before (op.AddRule kind namespace) (add_rule p kind namespace)
  unfolding add_rule
  answers-add_rule kind namespace =
      cond_both (list_any (λ (rule : Rule). same_name kind rule.kind && same_name namespace rule.namespace) p.rules) _ _ (Answers before (op.AddRule kind namespace))
      (λ there limit missed line same. sym (ap (λ b. if b then reply.RuleThere else reply.RuleAdded (batch_count past)) (rule-there kind namespace ∙ there)))
      (λ new. cond_both (nat_le p.limits.rules (length p.rules)) _ _ (Answers before (op.AddRule kind namespace))
      (λ full limit missed line same. absurd (cc))
      (λ room limit missed line same.
      ap reply.RuleAdded (sym knows.batches)
      ∙ sym (ap (λ b. if b then reply.RuleThere else reply.RuleAdded (batch_count past)) (rule-there kind namespace ∙ new))))

  answers-step : (o : Op) → is_producer o ≡ true → Answers before o (step p o)
  unfolding step unsubscribe
  answers-step (op.Publish stream payloads) asks = answers-publish stream payloads
  answers-step (op.Subscribe stream grain start) asks = answers-subscribe stream grain start
  answers-step (op.Unsubscribe sub) asks = answers-unsubscribe_from sub (sub_at p sub) refl
  answers-step (op.AddRule kind namespace) asks = answers-add_rule kind namespace
  answers-step o asks = absurd (false≢true asks)

pub replies-told : RepliesAreTold
replies-told blocks limits before e later q stands asks limit missed line same =
    let parts = leads-split (empty blocks limits) before (e ∷ later) q stands in
    let knows = knows-legal blocks limits before parts.0 parts.1 in
    let answered : (step parts.0 e.op).1 ≡ e.reply = parts.2.0 in
    ap told_of (sym answered)
    ∙ answers-step before parts.0 knows e.op asks (ap is_limit answered ∙ limit) missed line (same ∙ ap is_miss (sym answered))
