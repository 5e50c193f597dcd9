use Rattle.silo_operators.proofs.Prelude.{after, replied, on-refl, silent-refl, CallsOn, ◌≡◌, ◌≢◌, ◌⊎◌, ◌∙◌, ℕ, Bool, true, false, if◌then◌else◌, Some, None, Ok, inl, inr, refl, ap, subst, sym, none-some, unwrap_or, Reply, PlainPartition}
use Rattle.stream_ident.specs.declared.token.Token.{Token}
use Rattle.stream_model.specs.declared.op.Op.TheVariants as op
use Rattle.stream_model.specs.declared.reply.Reply.TheVariants as reply
use Rattle.stream_ident.specs.Words.{least_with}
use Rattle.stream_model.specs.Positions.{is_spent, open_resumes}
use Rattle.stream_model.specs.Pulling.{move, move_to}
use Rattle.stream_model.specs.Step.{step}
use Rattle.silo_operators.specs.declared.halt.Halt.{Halt}
use Rattle.silo_operators.specs.Changes.{IsMove, IsUnmoved, halt_of, is_move, moved_of}
use Rattle.silo_operators.proofs.Changing.{nowhere-silent, unmoved-refused, unmoved-spent}
use Rattle.silo_operators.proofs.Making.{called-last, called-reply, goes-called, passed-on}
use Rattle.silo_operators.proofs.moving.move_queue.Goals as goal

-- what a queue answers to a Move
abbrev MovesOrSpent : Reply → Type 0
MovesOrSpent r = (r ≡ reply.Spent) ⊎ ((generation : ℕ) × (low : Token) × (r ≡ reply.Moved generation low))

either : (b : Bool) (x y : PlainPartition × Reply) → MovesOrSpent x.1 → MovesOrSpent y.1 → MovesOrSpent (if b then x else y).1
either true x y first second = first
either false x y first second = second

move-replies : (p : PlainPartition) (silo : ℕ) → MovesOrSpent (replied p (op.Move silo))
unfolding step move move_to
move-replies p silo = either (is_spent p) (p, reply.Spent) (move_to p silo (least_with p.high (open_resumes p))) (inl refl) (inr (_, _, refl))

-- the reply from which a new generation is taken, and the one from which none is
moved-reply : (r : Reply) (generation : ℕ) → moved_of r ≡ Some generation → (low : Token) × (r ≡ reply.Moved generation low)
moved-reply (reply.Moved g low) generation is = (low, ap (λ (k : ℕ). reply.Moved k low) (ap (λ o. unwrap_or o g) is))
moved-reply _ generation is = absurd (none-some generation is)

spent-reply : (r : Reply) → MovesOrSpent r → moved_of r ≡ None → r ≡ reply.Spent
spent-reply r (inl spent) is = spent
spent-reply r (inr (g, low, same)) is = absurd (none-some g (sym is ∙ ap (λ (x : Reply). moved_of x) same))

pub returns-then-from-to-clause-moved : goal.returns-then-from-to-clause-moved
returns-then-from-to-clause-moved g c = ((λ other. absurd (other (sym c.if-from-to.true))), λ same. nowhere-silent c.args.line.now c.args.line.now (silent-refl c.args.line.now.pass))

pub returns-in-Some-clause-moved : goal.returns-in-Some-clause-moved
returns-in-Some-clause-moved g c =
    let moved = moved-reply c.in_ok-answer.answer c.in-Some.generation (sym c.moved_of.ensures ∙ c.in-Some.is) in (
      (λ other. called-last replied after is_move (IsMove c.args.to) c.args.line.now.pass (op.Move c.args.to) c.in_ok-answer.answer c.call.new.self.pass c.in_ok-answer.ensures.call (refl, (c.in-Some.generation, moved.0, moved.1))),
      λ same. absurd (c.if-from-to.false (sym same)),
    )

pub returns-in_err-answer-clause-unmoved : goal.returns-in_err-answer-clause-unmoved
returns-in_err-answer-clause-unmoved g c =
    let e = c.in_err-answer.field-0.0 in
    passed-on (λ (why : Halt). c.args.to ≢ c.args.from × IsUnmoved why c.args.to c.args.line.now c.call.new.self) c.from_residual.result (halt_of e) c.from_residual.ensures.1
    ((λ same. c.if-from-to.false (sym same)), unmoved-refused c.args.line.now c.args.to e c.call.new.self c.in_err-answer.ensures)

pub returns-clause-unmoved : goal.returns-clause-unmoved
returns-clause-unmoved g c =
    let calls = c.in_ok-answer.ensures in
    let gets = called-reply replied after c.args.line.now.pass (op.Move c.args.to) c.in_ok-answer.answer c.call.new.self.pass calls.call in
    let spent = spent-reply c.in_ok-answer.answer (subst MovesOrSpent (sym gets.1) (move-replies gets.0 c.args.to)) (sym c.moved_of.ensures ∙ c.in-None.is) in
    ((λ same. c.if-from-to.false (sym same)), unmoved-spent c.args.line.now c.args.to c.call.new.self (subst (λ (r : Reply). CallsOn c.args.line.now (op.Move c.args.to) (Ok r) c.call.new.self) spent calls))

pub returns-then-from-to-clause-kept : goal.returns-then-from-to-clause-kept
returns-then-from-to-clause-kept g c = (on-refl c.args.line.now.pass, (refl, refl))

pub returns-in_err-answer-clause-kept : goal.returns-in_err-answer-clause-kept
returns-in_err-answer-clause-kept g c = (goes-called replied after c.args.line.now.pass _ c.call.result c.call.new.self.pass c.call.ensures.call, (c.call.ensures.mark, c.call.ensures.call.only))

pub returns-in-Some-clause-kept : goal.returns-in-Some-clause-kept
returns-in-Some-clause-kept g c = (goes-called replied after c.args.line.now.pass _ c.call.result c.call.new.self.pass c.call.ensures.call, (c.call.ensures.mark, c.call.ensures.call.only))

pub returns-clause-kept : goal.returns-clause-kept
returns-clause-kept g c = (goes-called replied after c.args.line.now.pass _ c.call.result c.call.new.self.pass c.call.ensures.call, (c.call.ensures.mark, c.call.ensures.call.only))
