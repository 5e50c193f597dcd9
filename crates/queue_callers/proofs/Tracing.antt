-- The ends of turnstiles, one after another.
use Rattle.queue_callers.proofs.Prelude.{BeganEmpty, after, replied, QueuePass, ◌≡◌, ◌≢◌, ℕ, zero, suc, ◌≤◌, inl, inr, List, [], ◌∷◌, ◌++◌, length, map, Result, Ok, IfOk, refl, sym, subst, ◌∙◌, append-nil, AllPairs, AllocError, All-push, Reply, Op, PlainPartition, IsOf, numbers_of, FromAll, all_numbers, Own, Origin, Entry}
use Rattle.stream_laws.specs.Laws.{OneHistory}
use Rattle.shared_partition.proofs.Partitions.{legal-leaves, legal-tells}
use Rattle.queue_callers.specs.declared.closing.Closing.{Closing}
use Rattle.queue_callers.specs.declared.closing.Closing.TheVariants as closing
use Rattle.queue_callers.specs.declared.closing.End.{End}
use Rattle.queue_callers.specs.declared.closing.End.TheVariants as end
use Rattle.queue_callers.specs.Closing.{AreTraces, HasEnd, IsClosing, IsEnd, IsMissing, IsMissingFirst, IsTraceOf}

-- a turnstile that was closed with one pass, as the parts of it are named where it is closed
pub queue-trace : (was t : Origin PlainPartition) (p q : QueuePass) (ps : List QueuePass) (history : List (Entry Op Reply)) (object partition : PlainPartition) → OneHistory → p ≡ q → IsOf was p → BeganEmpty was.start → t ≡ was → ps ≡ p ∷ []
    → FromAll replied after (λ (s : PlainPartition). s) t.start ps history object → partition ≡ object → IsTraceOf q history partition
queue-trace was t p q ps history object partition law same of empty here alone all is =
    let at_start = subst (λ (o : Origin PlainPartition). FromAll replied after (λ (s : PlainPartition). s) o.start ps history object) here all in
    let one : FromAll replied after (λ (s : PlainPartition). s) was.start (p ∷ []) history object = subst (λ (es : List QueuePass). FromAll replied after (λ (s : PlainPartition). s) was.start es history object) alone at_start in
    let numbers : all_numbers (p ∷ []) ≡ numbers_of p = append-nil (numbers_of p) in
    let most : p.made ≤ length (all_numbers (p ∷ [])) = one.most.0 in
    subst (λ (e : QueuePass). IsTraceOf e history partition) same
    (record {
      origin = was;
      of = of;
      empty = empty;
      whole = elim one.longest as (λ w. history ≡ p.seen) [ inl same ↦ sym same | inr none ↦ absurd none ];
      bounded = one.bounded;
      own = subst (λ ks. Own ks history) numbers one.own;
      differ = subst (λ ks. AllPairs (λ one other. one ≢ other) ks) numbers one.differ;
      most = subst (λ ks. p.made ≤ length ks) numbers most;
      legal = one.legal;
      partition_is = is ∙ one.object_is;
      headline = legal-tells was.start history law empty one.legal;
      stands = legal-leaves was.start history one.legal;
    })

-- one more queue behind
pub missing-more : (queue missing : ℕ) (ps : List QueuePass) (p : QueuePass) → IsMissingFirst queue missing ps → HasEnd p → IsMissingFirst queue missing (ps ++ p ∷ [])
missing-more queue missing [] p first ends = absurd first
missing-more zero missing (x ∷ ps) p first ends = (first.0, All-push HasEnd ps p first.1 ends)
missing-more (suc queue) missing (x ∷ ps) p first ends = (first.0, missing-more queue missing ps p first.1 ends)

module _ {H : Type 0} (entries : H → List (Entry Op Reply)) where
  pub missing-here : (ps : List QueuePass) (hs : List H) (ts : List PlainPartition) (missing : ℕ) (p : QueuePass) → AreTraces ps (map entries hs) ts → IsMissing p missing → IsMissingFirst (length hs) missing (ps ++ p ∷ [])
  missing-here [] [] [] missing p traces lost = (lost, tt)
  missing-here (x ∷ ps) (h ∷ hs) (t ∷ ts) missing p traces lost = (record { history = entries h; partition = t; trace = traces.0 }, missing-here ps hs ts missing p traces.1 lost)
  missing-here _ _ _ missing p traces lost = absurd traces

  pub traced-more : (ps : List QueuePass) (hs : List H) (ts : List PlainPartition) (p : QueuePass) (h : H) (t : PlainPartition) → AreTraces ps (map entries hs) ts → IsTraceOf p (entries h) t
      → AreTraces (ps ++ p ∷ []) (map entries (hs ++ h ∷ [])) (ts ++ t ∷ [])
  traced-more [] [] [] p h t traces trace = (trace, tt)
  traced-more (x ∷ ps) (y ∷ hs) (z ∷ ts) p h t traces trace = (traces.0, traced-more ps hs ts p h t traces.1 trace)
  traced-more _ _ _ p h t traces trace = absurd traces

  -- what came of closing one more queue
  abbrev pub Extends : Closing H → End H → Result (Closing H) AllocError → Type 0
  Extends so_far last result =
      IfOk result (λ new. (passes : List QueuePass) (pass : QueuePass) → IsClosing entries passes so_far → IsEnd entries pass last → IsClosing entries (passes ++ pass ∷ []) new)

  -- a turnstile that is not in use had its end
  has-end : (p : QueuePass) (last : End H) → (last ≡ end.InUse → ⊥) → IsEnd entries p last → HasEnd p
  has-end p (end.Traced history partition) free ends = inl (record { history = entries history; partition = partition; trace = ends })
  has-end p (end.NotAll missing) free ends = inr (missing, ends)
  has-end p end.InUse free ends = absurd (free refl)

  pub extends-missing : (so_far : Closing H) (last : End H) (result : Result (Closing H) AllocError) (queue missing : ℕ) → so_far ≡ closing.NotAll queue missing → (last ≡ end.InUse → ⊥) → result ≡ Ok (closing.NotAll queue missing) → Extends so_far last result
  extends-missing so_far last result queue missing was free is =
      subst (λ (r : Result (Closing H) AllocError). Extends so_far last r) (sym is)
      (λ passes pass before ends.
      missing-more queue missing passes pass (subst (λ (e : Closing H). IsClosing entries passes e) was before) (has-end pass last free ends))
