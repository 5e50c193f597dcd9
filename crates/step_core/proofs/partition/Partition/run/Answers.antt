use Rattle.step_core.proofs.Prelude.{◌≡◌, List, [], ◌∷◌, ◌++◌, ◌<◌, reverse, length, sym, ap, ◌∙◌, subst, arith, inr, true, eqb-false, reverse-append, on-error, may_allocate, Op}
use Rattle.std.proofs.Common.{append_assoc, length-append}
use Rattle.step_core.specs.Run.{Does, StopsBefore}
use Rattle.step_core.proofs.RunLemmas.{Does-more, stops-at-once}
use Rattle.step_core.proofs.partition.Partition.run.Goals as goal

pub loop-op-preserved : goal.loop-op-preserved
loop-op-preserved c =
    let so_far = c.loop-op.invariant.0 in
    let done : List Op = so_far.0 in
    let op = c.in-Some.op in
    let rest : List Op = c.pop.new.self.items in
    let reversed : reverse c.loop-op.ops.items ≡ op ∷ reverse rest =
    ap reverse c.in-Some.ensures.items ∙ reverse-append rest (op ∷ []) in
    let whole : c.args.ops.items ≡ (done ++ op ∷ []) ++ reverse rest =
    so_far.1 ∙ ap (λ left. done ++ left) reversed ∙ sym (append_assoc done (op ∷ []) (reverse rest)) in
    let does : Does (done ++ op ∷ []) c.args.self.now c.step.new.self c.args.replies.now.items (c.loop-op.replies.items ++ c.in_ok-reply.reply ∷ []) =
    Does-more done op c.args.self.now c.loop-op.self c.step.new.self c.args.replies.now.items c.loop-op.replies.items c.in_ok-reply.reply so_far.2 c.in_ok-reply.ensures.performs in (
      (done ++ op ∷ [], whole, subst (λ replies. Does (done ++ op ∷ []) c.args.self.now c.step.new.self c.args.replies.now.items replies) (sym c.push_reserved.ensures.items) does),
      omega (arith, ap length c.push_reserved.ensures.items, length-append c.loop-op.replies.items (c.in_ok-reply.reply ∷ []), c.in-Some.ensures.len, c.push_reserved.ensures.capacity, c.loop-op.invariant.1),
    )

pub returns-in_err-reply-clause-front : goal.returns-in_err-reply-clause-front
returns-in_err-reply-clause-front c =
    let so_far = c.loop-op.invariant.0 in
    let op = c.in-Some.op in
    let reversed : reverse c.loop-op.ops.items ≡ op ∷ reverse c.pop.new.self.items =
    ap reverse c.in-Some.ensures.items ∙ reverse-append c.pop.new.self.items (op ∷ []) in
    on-error c.from_residual-in_err-reply.result (record {
      done = so_far.0;
      next = op;
      rest = reverse c.pop.new.self.items;
      ops_are = so_far.1 ∙ ap (λ left. so_far.0 ++ left) reversed;
      does = subst (λ p. Does so_far.0 c.args.self.now p c.args.replies.now.items c.loop-op.replies.items) (sym c.in_err-reply.ensures.performs) so_far.2;
      wants = inr (subst (λ p. may_allocate p op ≡ true) (sym c.in_err-reply.ensures.performs) c.in_err-reply.ensures.memory);
    })

pub returns-in_err-reserve-clause-front : goal.returns-in_err-reserve-clause-front
returns-in_err-reserve-clause-front c =
    let some : 0 < length c.args.ops.items = omega (arith, eqb-false _ _ (sym c.if-is_empty.ensures)) in
    on-error c.from_residual.result
    (subst (λ replies. StopsBefore c.args.ops.items c.args.self.now c.args.self.now c.args.replies.now.items replies) (sym c.reserve.ensures.items)
    (stops-at-once c.args.ops.items c.args.self.now c.args.replies.now.items some))
