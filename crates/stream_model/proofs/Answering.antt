-- What an operation owes, by that which it calls.
use Rattle.stream_model.proofs.Prelude.{◌≡◌, ap, sym, subst, true, Result, Ok, Err, OnErr, Performs}
use Rattle.std.specs.declared.alloc.AllocError.{AllocError}
use Rattle.stream_model.specs.declared.plain.PlainPartition.{PlainPartition}
use Rattle.stream_model.specs.Replies.{Reply}
use Rattle.stream_model.specs.Bounds.{IsWithinLimits}
use Rattle.stream_model.specs.Step.{takes_memory}

-- what holds is so of an error
pub on-error : {T E P : Type 0} (r : Result T E) → P → OnErr r P
on-error (Ok x) holds = tt
on-error (Err e) holds = holds

-- two ways of saying one step
pub performs-along : (old new : PlainPartition) (r : Result Reply AllocError) (said wanted : PlainPartition × Reply) → said ≡ wanted → Performs old new r said → Performs old new r wanted
performs-along old new r said wanted same performs = subst (Performs old new r) same performs

pub memory-along : {T E : Type 0} (r : Result T E) (said wanted : PlainPartition × Reply) → said ≡ wanted → OnErr r (takes_memory said.1 ≡ true) → OnErr r (takes_memory wanted.1 ≡ true)
memory-along r said wanted same memory =
    let P : PlainPartition × Reply → Type 0 = λ out. OnErr r (takes_memory out.1 ≡ true) in subst P same memory

-- what an operation leaves is within the limits where its definition keeps them
pub within-after : (old new : PlainPartition) (r : Result Reply AllocError) (stepped : PlainPartition × Reply) → Performs old new r stepped → IsWithinLimits old → IsWithinLimits stepped.0 → IsWithinLimits new
within-after old new (Ok told) stepped performs before after =
    let left : new ≡ stepped.0 = ap (λ out. out.0) performs in subst IsWithinLimits (sym left) after
within-after old new (Err e) stepped unchanged before after = subst IsWithinLimits (sym unchanged) before
