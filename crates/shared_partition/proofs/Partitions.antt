-- What is legal at a turnstile is, without the numbers of the passes, a legal history of the partition.
use Rattle.shared_partition.proofs.Prelude.{◌≡◌, List, [], ◌∷◌, Result, refl, sym, subst, CallsBy, IsOf, LooksBy, IsLegal, replay, Origin, PassView, Entry, Refusal, Start}
use Rattle.stream_laws.specs.Laws.{OneHistory}
use Rattle.stream_model.specs.declared.op.Op.{Op}
use Rattle.stream_model.specs.declared.plain.PlainPartition.{PlainPartition}
use Rattle.stream_model.specs.Replies.{Reply}
use Rattle.stream_model.specs.Step.{Leads}
use Rattle.shared_partition.specs.Partitions.{BeganEmpty, IsOfEmpty, LeavesLegal, TellsOneHistory, after, replied, told_of}
use Rattle.shared_partition.proofs.Legal.{called-legal}

legal-leads : (p : PlainPartition) (entries : List (Entry Op Reply)) → IsLegal replied after p entries → Leads p (told_of entries) (replay replied after p entries)
legal-leads p [] legal = refl
legal-leads p (e ∷ es) legal = (sym legal.0, legal-leads (after p e.op) es legal.1)

pub legal-leaves : (x : Start PlainPartition) (entries : List (Entry Op Reply)) → IsLegal replied after x.state entries → LeavesLegal x entries
legal-leaves x entries legal blocks limits is =
    subst (λ p. Leads p (told_of entries) (replay replied after x.state entries)) is (legal-leads x.state entries legal)

pub legal-tells : (x : Start PlainPartition) (entries : List (Entry Op Reply)) → OneHistory → BeganEmpty x → IsLegal replied after x.state entries → TellsOneHistory entries
legal-tells x entries law began legal =
    law began.0 began.1 (told_of entries) (replay replied after x.state entries) (legal-leaves x entries legal began.0 began.1 began.3)

-- what a call by a pass of such a turnstile has seen
pub called-tells : (p q : PassView Op Reply PlainPartition) (op : Op) (result : Result Reply Refusal) → OneHistory → IsOfEmpty p → CallsBy replied after p op result q → TellsOneHistory q.seen
called-tells p q op result law of calls = legal-tells of.0.start q.seen law of.2 (called-legal replied after of.0 p q op result of.1 calls)

pub called-leaves : (p q : PassView Op Reply PlainPartition) (op : Op) (result : Result Reply Refusal) → CallsBy replied after p op result q → (t : Origin PlainPartition) → IsOf t p → LeavesLegal t.start q.seen
called-leaves p q op result calls t of = legal-leaves t.start q.seen (called-legal replied after t p q op result of calls)

-- what a look by a pass of such a turnstile has seen
module _ (p q : PassView Op Reply PlainPartition) (Shows : PlainPartition → Type 0) where
  looked-legal : (t : Origin PlainPartition) → IsOf t p → LooksBy replied after p Shows q → IsLegal replied after t.start.state q.seen
  looked-legal t of looks =
      let same : looks.origin ≡ t = cc (looks.of, of) in
      subst (λ (o : Origin PlainPartition). IsLegal replied after o.start.state q.seen) same looks.legal

  pub looked-tells : OneHistory → IsOfEmpty p → LooksBy replied after p Shows q → TellsOneHistory q.seen
  looked-tells law of looks = legal-tells of.0.start q.seen law of.2 (looked-legal of.0 of.1 looks)

  pub looked-leaves : LooksBy replied after p Shows q → (t : Origin PlainPartition) → IsOf t p → LeavesLegal t.start q.seen
  looked-leaves looks t of = legal-leaves t.start q.seen (looked-legal t of looks)
