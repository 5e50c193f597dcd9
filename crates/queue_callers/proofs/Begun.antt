-- What the given passes have to do with the traces at the end.
use Rattle.queue_callers.proofs.Prelude.{rules, after, replied, told_of, on-refl, GoesOn, owns-append, owns-claimed, NeverProduces, QueuePass, IsOtherIn, OwnsNone, ◌≡◌, ◌⊎◌, ℕ, zero, suc, inl, inr, Bool, false, List, [], ◌∷◌, ◌++◌, Contains, Option, Some, None, Result, Ok, Err, refl, sym, ap, subst, ◌∙◌, append_assoc, arith, Contains-append_cases, AllZip, slice_get, All-weaken, Reply, Op, PlainPartition, legal_last, replay_snoc, joined_pass, numbers_of, HasSome, IsLegal, Own, entry, replay, Entry, Refusal}
use Rattle.std.proofs.lemmas.Bool.{true≢false}
use Rattle.stream_laws.specs.Laws.{QuietIsDone}
use Rattle.stream_model.specs.declared.op.Op.TheVariants as op
use Rattle.stream_model.specs.declared.reply.Reply.TheVariants as reply
use Rattle.stream_model.specs.Looks.{quiet}
use Rattle.turnstile.specs.declared.turnstile.Refusal.TheVariants.{HistoryFull}
use Rattle.stream_model.specs.Producers.{is_producer}
use Rattle.silo_loops.proofs.Going.{taken-goes}
use Rattle.silo_loops.proofs.Taking.{alone-append, alone-fewer, alone-foreign}
use Rattle.queue_callers.specs.Calls.{joined_passes}
use Rattle.queue_callers.specs.declared.asking.Quiet.{Quiet}
use Rattle.queue_callers.specs.Asking.{Asks, IsQuiet}
use Rattle.queue_callers.specs.Closing.{AreTraces, IsTraceOf}
use Rattle.queue_callers.specs.Draining.{ProducesNone}
use Rattle.queue_callers.specs.Finishing.{CallersAloneProduce, CameTo, HasBegun, HasSeenFront, HaveBegun, IsDone}
use Rattle.queue_callers.specs.Gathering.{Gathers, IsFirstOf, gathered}
use Rattle.queue_callers.proofs.GoneOn.{looked-none, none-refl}
use Rattle.silo_operators.proofs.Making.{goes-called, owns-fewer}
use Rattle.queue_callers.proofs.Looking.{look-each, look-keeps, look-replies}
use Rattle.silo_operators.proofs.Rows.{all-at, zip-at, zip-trans}

-- the pass later, which has asked at most whether its queue is quiet
abbrev HasLooked : QueuePass → QueuePass → Type 0
HasLooked p q = GoesOn p q × ProducesNone p q

looked : (result : Result Reply Refusal) (p q : QueuePass) → Asks result p q → HasLooked p q
looked result p q asks = (goes-called replied after p op.Quiet result q asks.calls, looked-none p q result asks)

came-looks : (asked : Option Quiet) (ps qs : List QueuePass) → CameTo asked ps qs → AllZip HasLooked ps qs
came-looks None ps qs came = look-each HasLooked (λ p. (on-refl p, none-refl p)) looked ps (Err HistoryFull) qs came
came-looks (Some answer) ps qs came = look-each HasLooked (λ p. (on-refl p, none-refl p)) looked ps (Ok answer) qs came

-- the history is what the pass has seen, and each entry has a number of the pass
abbrev IsAllOf : QueuePass → List (Entry Op Reply) → Type 0
IsAllOf q history = (history ≡ q.seen) × Own (numbers_of q) history

traces-all : (ps : List QueuePass) (histories : List (List (Entry Op Reply))) (partitions : List PlainPartition) → AreTraces ps histories partitions → AllZip IsAllOf ps histories
traces-all [] [] [] traces = tt
traces-all (p ∷ ps) (h ∷ hs) (t ∷ ts) traces = ((traces.0.whole, traces.0.own), traces-all ps hs ts traces.1)
traces-all _ _ _ traces = absurd traces

-- a pass after which only looks were added, and the history that it then had seen
abbrev EndsAs : QueuePass → List (Entry Op Reply) → Type 0
EndsAs p history = (q : QueuePass) × HasLooked p q × IsAllOf q history

ends-as : (asked : Option Quiet) (ps last : List QueuePass) (histories : List (List (Entry Op Reply))) (partitions : List PlainPartition) → CameTo asked ps last → AreTraces last histories partitions → AllZip EndsAs ps histories
ends-as asked ps last histories partitions came traces =
    zip-trans HasLooked IsAllOf EndsAs (λ p q h looks all. (q, looks, all)) ps last histories (came-looks asked ps last came) (traces-all last histories partitions traces)

begun-place : (c p : QueuePass) (history : List (Entry Op Reply)) → IsOtherIn c p → EndsAs p history → HasBegun c history
begun-place c p history taken ends =
    subst (λ (es : List (Entry Op Reply)). HasBegun c es) (sym ends.2.0) (taken-goes c p ends.0 taken ends.1.0).part.claims

line-front : (l p : QueuePass) (history : List (Entry Op Reply)) → IsFirstOf l p → EndsAs p history → HasSeenFront l history
line-front l p history first ends =
    let claims = first.part.claims in
    let on = ends.1.0 in (
      claims.rest ++ on.more,
      ends.2.0 ∙ on.seen ∙ ap (λ (es : List (Entry Op Reply)). es ++ on.more) claims.is ∙ append_assoc l.seen claims.rest on.more,
      alone-append l claims.rest on.more (alone-foreign l claims.rest claims.foreign) (alone-fewer l p on.more first.part.numbers first.number on.alone),
    )

pub have-begun : (ls : List QueuePass) (cs : List (List QueuePass)) (ps last : List QueuePass) (asked : Option Quiet) (histories : List (List (Entry Op Reply))) (partitions : List PlainPartition) → Gathers ls cs ps → CameTo asked ps last
    → AreTraces last histories partitions → HaveBegun ls cs histories
have-begun ls cs ps last asked histories partitions gathers came traces =
    let ends = ends-as asked ps last histories partitions came traces in
    record {
      of_lines = zip-trans IsFirstOf EndsAs HasSeenFront line-front ls ps histories gathers.first ends;
      of_callers =
          All-weaken (λ (c : List QueuePass). AllZip IsOtherIn c ps) (λ (c : List QueuePass). AllZip HasBegun c histories)
          (λ c taken. zip-trans IsOtherIn EndsAs HasBegun begun-place c ps histories taken ends) cs gathers.others;
    }

-- the numbers of a pass at a queue
abbrev HasNumber : ℕ → ℕ → List QueuePass → Type 0
HasNumber queue k caller = (p : QueuePass) × (slice_get caller queue ≡ Some p) × Contains (numbers_of p) k

joined-at : (ps qs : List QueuePass) (queue : ℕ) (p : QueuePass) → slice_get ps queue ≡ Some p
    → (r : QueuePass) × (slice_get (joined_passes ps qs) queue ≡ Some r) × ((k : ℕ) → Contains (numbers_of r) k → Contains (numbers_of p) k ⊎ HasNumber queue k qs)
joined-at ps [] queue p had = (p, had, λ k here. inl here)
joined-at [] (q ∷ qs) queue p had = absurd (cc)
joined-at (x ∷ ps) (q ∷ qs) zero p had =
    let same : x ≡ p = cc in (
      joined_pass x q,
      refl,
      λ k here.
          elim (Contains-append_cases (numbers_of x) (numbers_of q) k here) as (λ w. Contains (numbers_of p) k ⊎ HasNumber zero k (q ∷ qs)) [
            | inl own ↦ inl (subst (λ (e : QueuePass). Contains (numbers_of e) k) same own)
            | inr theirs ↦ inr (q, refl, theirs)
          ],
    )
joined-at (x ∷ ps) (q ∷ qs) (suc queue) p had = joined-at ps qs queue p had

numbers-gathered : (cs : List (List QueuePass)) (ps : List QueuePass) (queue k : ℕ) (p g : QueuePass) → slice_get ps queue ≡ Some p → slice_get (gathered ps cs) queue ≡ Some g → Contains (numbers_of g) k
    → Contains (numbers_of p) k ⊎ HasSome (λ c. HasNumber queue k c) cs
numbers-gathered [] ps queue k p g had has here =
    let same : g ≡ p = cc in
    inl (subst (λ (e : QueuePass). Contains (numbers_of e) k) same here)
numbers-gathered (c ∷ cs) ps queue k p g had has here =
    let there = joined-at ps c queue p had in
    elim (numbers-gathered cs (joined_passes ps c) queue k there.0 g there.1 has here) as (λ w. Contains (numbers_of p) k ⊎ HasSome (λ e. HasNumber queue k e) (c ∷ cs)) [
      | inl joined ↦ elim (there.2 k joined) as (λ w. Contains (numbers_of p) k ⊎ HasSome (λ e. HasNumber queue k e) (c ∷ cs)) [
        | inl own ↦ inl own
        | inr theirs ↦ inr (inl theirs)
      ]
      | inr some ↦ inr (inr some)
    ]

own-at : (numbers : List ℕ) (es : List (Entry Op Reply)) (e : Entry Op Reply) → Own numbers es → Contains es e → Contains numbers e.number
own-at numbers [] e own here = absurd (omega (arith, here.1))
own-at numbers (x ∷ es) e own (zero, less, same) = subst (λ (w : Entry Op Reply). Contains numbers w.number) same own.0
own-at numbers (x ∷ es) e own (suc k, less, same) = own-at numbers es e own.1 (k, omega arith, same)

none-at : (test : Op → Bool) (numbers : List ℕ) (es : List (Entry Op Reply)) (e : Entry Op Reply) → OwnsNone test numbers es → Contains es e → Contains numbers e.number → test e.op ≡ false
none-at test numbers [] e none here own = absurd (omega (arith, here.1))
none-at test numbers (x ∷ es) e none (zero, less, same) own = subst (λ (w : Entry Op Reply). Contains numbers w.number → test w.op ≡ false) same none.0 own
none-at test numbers (x ∷ es) e none (suc k, less, same) own = none-at test numbers es e none.1 (k, omega arith, same) own

line-none : (l p : QueuePass) (history : List (Entry Op Reply)) → NeverProduces l → IsFirstOf l p → EndsAs p history → OwnsNone is_producer (numbers_of l) history
line-none l p history never first ends =
    let none = ends.1.1 in
    subst (λ (es : List (Entry Op Reply)). OwnsNone is_producer (numbers_of l) es) (sym (ends.2.0 ∙ none.on.seen))
    (owns-append is_producer (numbers_of l) p.seen none.on.more (owns-claimed is_producer (numbers_of l) l.seen p.seen first.part.claims never)
    (owns-fewer is_producer (numbers_of l) (numbers_of p) none.on.more first.part.numbers none.none))

pub callers-alone : (ls : List QueuePass) (cs : List (List QueuePass)) (ps last : List QueuePass) (asked : Option Quiet) (histories : List (List (Entry Op Reply))) (partitions : List PlainPartition) → Gathers ls cs ps → CameTo asked ps last
    → AreTraces last histories partitions → CallersAloneProduce cs histories
callers-alone ls cs ps last asked histories partitions gathers came traces queue history e had inside produces =
    let at = zip-at EndsAs ps histories queue history (ends-as asked ps last histories partitions came traces) had in
    let p = at.0 in
    let ends = at.2 in
    let beside = zip-at IsFirstOf ls ps queue p gathers.first at.1 in
    let l = beside.0 in
    let never = all-at NeverProduces ls queue l gathers.never beside.1 in
    let numbers : numbers_of ends.0 ≡ numbers_of p = ap (λ (w : QueuePass). numbers_of w) ends.1.1.on.only in
    let own : Contains (numbers_of p) e.number = subst (λ ks. Contains ks e.number) numbers (own-at (numbers_of ends.0) history e ends.2.1 inside) in
    let has : slice_get (gathered ls cs) queue ≡ Some p = ap (λ (es : List QueuePass). slice_get es queue) (sym gathers.whole) ∙ at.1 in
    elim (numbers-gathered cs ls queue e.number l p beside.1 has own) as (λ w. HasSome (λ c. HasNumber queue e.number c) cs) [
      | inl mine ↦ absurd (true≢false (sym produces ∙ none-at is_producer (numbers_of l) history e (line-none l p history never beside.2 ends) inside mine))
      | inr some ↦ some
    ]

-- after a look that was answered so, the partition is quiet
trace-quiet : (p q : QueuePass) (history : List (Entry Op Reply)) (partition : PlainPartition) → IsQuiet p q → IsTraceOf q history partition → quiet partition ≡ reply.IsQuiet
trace-quiet p q history partition asks trace =
    let called = asks.calls.call in
    let e = entry p.number op.Quiet reply.IsQuiet in
    let s = trace.origin.start.state in
    let front = p.seen ++ called.0 in
    let whole : history ≡ front ++ e ∷ [] = trace.whole ∙ called.1 in
    let before = replay replied after s front in
    let answered : reply.IsQuiet ≡ quiet before = legal_last replied after s front e (subst (λ (es : List (Entry Op Reply)). IsLegal replied after s es) whole trace.legal) ∙ look-replies before in
    let same : partition ≡ before =
    trace.partition_is ∙ ap (λ (es : List (Entry Op Reply)). replay replied after s es) whole ∙ replay_snoc replied after s front e ∙ look-keeps before in
    ap (λ (w : PlainPartition). quiet w) same ∙ sym answered

trace-done : (p q : QueuePass) (history : List (Entry Op Reply)) (partition : PlainPartition) → QuietIsDone → IsQuiet p q → IsTraceOf q history partition → IsDone history partition
trace-done p q history partition law asks trace =
    let calm = trace-quiet p q history partition asks trace in
    let began = trace.empty in
    record {
      is_quiet = calm;
      handled =
          law began.0 began.1 (told_of history) (replay replied after trace.origin.start.state history) (trace.stands began.0 began.1 began.3)
          (ap (λ (w : PlainPartition). quiet w) (sym trace.partition_is) ∙ calm);
    }

pub traces-done : (ps last : List QueuePass) (histories : List (List (Entry Op Reply))) (partitions : List PlainPartition) → QuietIsDone → AllZip IsQuiet ps last → AreTraces last histories partitions → AllZip IsDone histories partitions
traces-done [] [] [] [] law all traces = tt
traces-done (p ∷ ps) (q ∷ qs) (h ∷ hs) (t ∷ ts) law all traces = (trace-done p q h t law all.0 traces.0, traces-done ps qs hs ts law all.1 traces.1)
traces-done _ _ _ _ law all traces = absurd (search rules)
