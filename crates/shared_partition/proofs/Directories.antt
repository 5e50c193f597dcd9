-- What is legal at a turnstile is, without the numbers of the passes, a legal history of the directory.
use Rattle.shared_partition.proofs.Prelude.{List, [], ◌∷◌, Result, refl, sym, subst, CallsBy, IsOf, IsLegal, replay, Origin, PassView, Entry, Refusal, Start}
use Rattle.activation_directory.specs.declared.op.DirectoryOp.{DirectoryOp}
use Rattle.activation_directory.specs.declared.reply.DirectoryReply.{DirectoryReply}
use Rattle.activation_directory.specs.Laws.{OnePermitAtATime}
use Rattle.activation_directory.specs.Plain.{PlainDirectory, empty}
use Rattle.activation_directory.specs.Step.{Leads}
use Rattle.shared_partition.specs.Directories.{BeganEmpty, IsOfEmpty, LeavesLegal, TellsOnePermit, after, replied, told_of}
use Rattle.shared_partition.proofs.Legal.{called-legal}

legal-leads : (d : PlainDirectory) (entries : List (Entry DirectoryOp DirectoryReply)) → IsLegal replied after d entries → Leads d (told_of entries) (replay replied after d entries)
legal-leads d [] legal = refl
legal-leads d (e ∷ es) legal = (sym legal.0, legal-leads (after d e.op) es legal.1)

pub legal-leaves : (x : Start PlainDirectory) (entries : List (Entry DirectoryOp DirectoryReply)) → IsLegal replied after x.state entries → LeavesLegal x entries
legal-leaves x entries legal permits is =
    subst (λ d. Leads d (told_of entries) (replay replied after x.state entries)) is (legal-leads x.state entries legal)

pub legal-tells : (x : Start PlainDirectory) (entries : List (Entry DirectoryOp DirectoryReply)) → OnePermitAtATime → BeganEmpty x → IsLegal replied after x.state entries → TellsOnePermit entries
legal-tells x entries law began legal before between later grain silo permit other_silo other_permit is =
    let left = replay replied after x.state entries in
    law began.0 before between later left grain silo permit other_silo other_permit
    (subst (λ history. Leads (empty began.0) history left) is (legal-leaves x entries legal began.0 began.1))

-- what a call by a pass of such a turnstile has seen
pub called-tells : (p q : PassView DirectoryOp DirectoryReply PlainDirectory) (op : DirectoryOp) (result : Result DirectoryReply Refusal) → OnePermitAtATime → IsOfEmpty p → CallsBy replied after p op result q → TellsOnePermit q.seen
called-tells p q op result law of calls = legal-tells of.0.start q.seen law of.2 (called-legal replied after of.0 p q op result of.1 calls)

pub called-leaves : (p q : PassView DirectoryOp DirectoryReply PlainDirectory) (op : DirectoryOp) (result : Result DirectoryReply Refusal) → CallsBy replied after p op result q → (t : Origin PlainDirectory) → IsOf t p → LeavesLegal t.start q.seen
called-leaves p q op result calls t of = legal-leaves t.start q.seen (called-legal replied after t p q op result of calls)
