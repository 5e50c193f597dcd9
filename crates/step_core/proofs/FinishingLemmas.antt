-- A quiet partition owes nothing, and neither does one that is drained.
use Rattle.step_core.proofs.Prelude.{◌≡◌, ◌∙◌, ℕ, None, Ok, ap, subst, sym, DrainsTo, pending_in, quiet_reply, IsReached, PlainPartition}
use Rattle.stream_model.specs.declared.drain_end.DrainEnd.TheVariants as ending
use Rattle.stream_model.specs.declared.reply.Reply.TheVariants.{IsQuiet}
use Rattle.stream_model.specs.Looks.{quiet}
use Rattle.stream_laws.specs.DrainLaws.{left, sum_open}
use Rattle.stream_laws.proofs.Drained.{drained-quiet, drained-turns}
use Rattle.stream_laws.proofs.KeptStep.{kept-step}
use Rattle.stream_laws.proofs.LawsOfQuiet.{quiet_is_done-from, quiet_owes_no_other-from}
use Rattle.step_core.specs.Finishing.{Finishes, OwesNothing}

quiet-where : (p : PlainPartition) → pending_in p ≡ None → quiet p ≡ IsQuiet
unfolding quiet
quiet-where p none = ap quiet_reply none

pub owes-nothing : (p : PlainPartition) → pending_in p ≡ None → OwesNothing p
owes-nothing p none blocks limits history stands =
    let is_quiet = quiet-where p none in
    ((λ s is_open. quiet_is_done-from kept-step blocks limits history p stands is_quiet s is_open), (λ kind stream unmade. quiet_owes_no_other-from kept-step blocks limits history p stands is_quiet kind stream unmade))

pub finishes : (old new : PlainPartition) (turns : ℕ) → IsReached old → DrainsTo old new (Ok (ending.Drained turns)) → Finishes old new (ending.Drained turns)
finishes old new turns reached drains =
    let is_quiet = subst (λ q. quiet q ≡ IsQuiet) (sym drains.0) (drained-quiet reached.blocks reached.limits reached.history old reached.some_blocks reached.stands turns drains.1) in
    (is_quiet, (λ blocks limits history some stands. drained-turns blocks limits history old some stands turns drains.1 ∙ ap (λ (q : PlainPartition). sum_open (left history) q.subs) (sym drains.0)))
