-- What a worker's next step is, and what its passes have done by then.
use Rattle.silo_loops.proofs.Prelude.{DirectoryReply, after, replied, ◌≡◌, ℕ, ◌<◌, List, [], ◌∷◌, length, map, get_or, Some, Result, Ok, refl, sym, ap, subst, ◌∙◌, arith, get_or-set_same, length-set, slice_get-get_or, slice_get-map, slice_get_within, slice_get, slice_set, option_map, Event, Reply, Op, Refusal}
use Rattle.stream_ident.specs.declared.ident.GrainId.{GrainId}
use Rattle.stream_model.specs.declared.op.Op.TheVariants as op
use Rattle.stream_model.specs.declared.reply.Reply.TheVariants as reply
use Rattle.activation_directory.specs.declared.op.DirectoryOp.TheVariants as asked
use Rattle.activation_directory.specs.declared.reply.DirectoryReply.TheVariants as told
use Rattle.shared_partition.specs.Directories as directory
use Rattle.silo_loops.specs.declared.worker_walk.Step.{Step}
use Rattle.silo_loops.specs.declared.worker_walk.Step.TheVariants as step
use Rattle.silo_loops.specs.Answers.{heard_of, end_in, end_of, events_after}
use Rattle.silo_loops.specs.Lines.{DirectoryPass, LineView, QueuePass, rested}
use Rattle.silo_loops.specs.Passes.{CallsBy}
use Rattle.silo_loops.specs.Walks.{Fits, IsAt, IsFree, Keeps, Nothing, step_after_begin, step_after_commit, step_after_enter, work_in}
use Rattle.silo_loops.specs.Workers.{commit_in, turn_in}
use Rattle.silo_loops.proofs.Owning.{last-answered}

-- an answer ends a loop as its result does
pub end-heard : (result : Result Reply Refusal) → end_in (heard_of result) ≡ end_of result
end-heard (Ok reply.TooMany) = refl
end-heard _ = refl

pub begun-work : (at : ℕ) (grain : GrainId) (permit : ℕ) (old : List Event) (result : Result Reply Refusal) → work_in at (step_after_begin grain permit (heard_of result)) (events_after result old) ≡ turn_in at result
begun-work at grain permit old (Ok (reply.Turn sub activation turn events note)) = refl
begun-work at grain permit old _ = refl

pub begun-fits : (d : DirectoryPass) (p q : QueuePass) (grain : GrainId) (permit most : ℕ) (result : Result Reply Refusal) → Keeps d grain permit
    → CallsBy replied after p (op.Begin grain most) result q → Fits (step_after_begin grain permit (heard_of result)) d q
begun-fits d p q grain permit most (Ok (reply.Turn sub activation turn events note)) keeps calls =
    (keeps, (most, events, note, last-answered replied after p (op.Begin grain most) (reply.Turn sub activation turn events note) q calls))
begun-fits d p q grain permit most _ keeps calls = keeps

pub committed-work : (at : ℕ) (grain : GrainId) (permit : ℕ) (events : List Event) (result : Result Reply Refusal) → work_in at (step_after_commit grain permit (heard_of result)) events ≡ commit_in at result
committed-work at grain permit events (Ok (reply.Committed sub token)) = refl
committed-work at grain permit events _ = refl

pub committed-fits : (d : DirectoryPass) (p q : QueuePass) (grain : GrainId) (permit : ℕ) (o : Op) (result : Result Reply Refusal) → Keeps d grain permit
    → CallsBy replied after p o result q → Fits (step_after_commit grain permit (heard_of result)) d q
committed-fits d p q grain permit o (Ok (reply.Committed sub token)) keeps calls = (keeps, (o, last-answered replied after p o (reply.Committed sub token) q calls))
committed-fits d p q grain permit o _ keeps calls = keeps

pub entered-fits : (d e : DirectoryPass) (p : QueuePass) (grain : GrainId) (silo : ℕ) (result : Result DirectoryReply Refusal)
    → CallsBy directory.replied directory.after d (asked.Enter grain silo) result e → Fits (step_after_enter grain result) e p
entered-fits d e p grain silo (Ok (told.Entered permit)) calls =
    (silo, last-answered directory.replied directory.after d (asked.Enter grain silo) (told.Entered permit) e calls)
entered-fits d e p grain silo _ calls = tt

pub entered-work : (at : ℕ) (grain : GrainId) (events : List Event) (result : Result DirectoryReply Refusal) → work_in at (step_after_enter grain result) events ≡ Nothing
entered-work at grain events (Ok (told.Entered permit)) = refl
entered-work at grain events _ = refl

pub free-work : (at : ℕ) (s : Step) (events : List Event) → IsFree s → work_in at s events ≡ Nothing
free-work at (step.Handle grain permit turn) events free = absurd free
free-work at (step.Tell grain permit sub token) events free = absurd free
free-work at _ events free = refl

pub free-fits : (s : Step) (d : DirectoryPass) (p : QueuePass) → IsFree s → Fits s d p
free-fits step.Rest d p free = tt
free-fits step.Look d p free = tt
free-fits (step.Enter grain) d p free = tt
free-fits _ d p free = absurd free

-- what was set is found
pub get-set : {A : Type 0} (xs : List A) (k : ℕ) (x y : A) → slice_get xs k ≡ Some x → slice_get (slice_set xs k y) k ≡ Some y
get-set xs k x y had =
    let within = slice_get_within xs k x had in
    slice_get-get_or (slice_set xs k y) k y (omega (arith, length-set xs k y)) ∙ ap (λ z. Some z) (get_or-set_same xs k y y within)

-- a worker that is free is at any of its queues
pub free-at : (at : ℕ) (lines : List LineView) {s : Step} {d : DirectoryPass} → at < length lines → IsFree s → LineView → IsAt at s lines d
free-at at lines {s} {d} within free any =
    record { line = get_or lines at any; had = slice_get-get_or lines at any within; fits = free-fits s d (get_or lines at any).pass free }

-- a worker that has done nothing is at its first queue
pub fresh-at : (lines : List LineView) {at : ℕ} {s : Step} {d : DirectoryPass} → at ≡ 0 → s ≡ step.Rest → 0 < length lines → IsAt at s lines d
fresh-at [] first rests some = absurd (omega arith)
fresh-at (l ∷ lines) {at} {s} {d} first rests some =
    record { line = l; had = ap (λ k. slice_get (l ∷ lines) k) first; fits = subst (λ t. Fits t d l.pass) (sym rests) tt }

-- lines that begin anew leave a worker where it is
pub rested-at : {at : ℕ} {s : Step} {lines new : List LineView} {d : DirectoryPass} → new ≡ map rested lines → IsAt at s lines d → IsAt at s new d
rested-at {at} {s} {lines} {d = d} same here =
    subst (λ ls. IsAt at s ls d) (sym same) (record { line = rested here.line; had = slice_get-map rested lines at ∙ ap (λ o. option_map rested o) here.had; fits = here.fits })
