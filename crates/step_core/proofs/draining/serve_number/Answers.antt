use Rattle.step_core.proofs.Prelude.{◌≡◌, ◌∙◌, Some, ap, ◌+◌, ◌-◌, refl, sym, subst, arith, SubName}
use Rattle.step_core.specs.DrainPhases.{meant}
use Rattle.step_core.specs.Serving.{name_of, HandlesNext, HasNext, IsHandledLast, IsHandledOnce}
use Rattle.step_core.proofs.ServeOps.{Serves, name, serves-first, serves-last, serves-next, serves-rest}
use Rattle.step_core.proofs.draining.serve_number.Goals as goal

pub serve_rest-requires : goal.serve_rest-requires
serve_rest-requires c = c.requires

pub returns-in_default : goal.returns-in_default
returns-in_default c =
    let p = c.args.partition.now in
    let most : c.saturating_sub-most.result ≡ c.args.partition.now.high - c.cursor.result = omega (arith, c.saturating_sub-most.ensures, c.high.ensures) in
    serves-rest p p p c.serve_rest.new.partition c.args.number c.saturating_sub-most.result (meant c.serve_rest.result) refl
    (serves-first p c.args.number c.saturating_sub-most.result c.cursor.result c.cursor.ensures most) c.serve_rest.ensures

pub loop-done-init : goal.loop-done-init
loop-done-init c =
    let most : c.saturating_sub-most.result - 0 ≡ c.args.partition.now.high - c.cursor.result = omega (arith, c.saturating_sub-most.ensures, c.high.ensures) in
    (serves-first c.args.partition.now c.args.number (c.saturating_sub-most.result - 0) c.cursor.result c.cursor.ensures most, c.in-Some.ensures)

pub handle_next-requires-clause-number : goal.handle_next-requires-clause-number
handle_next-requires-clause-number c = omega (arith, c.requires, c.loop-done.invariant.0.long)

pub returns-in-None : goal.returns-in-None
returns-in-None c =
    serves-rest c.args.partition.now c.loop-done.partition c.handle_next.new.self c.serve_rest-in-None.new.partition c.args.number (c.saturating_sub-most.result - c.loop-done.done) (meant c.serve_rest-in-None.result)
    c.in-None.ensures c.loop-done.invariant.0 c.serve_rest-in-None.ensures

pub loop-done-preserved : goal.loop-done-preserved
loop-done-preserved c =
    let most = c.saturating_sub-most.result in
    let here = c.loop-done.partition in
    let new = c.handle_next.new.self in
    let next = c.in-Some-Next.next in
    let told : IsHandledOnce here new (name_of here c.args.number) × HasNext new (name_of here c.args.number) next =
    subst (HandlesNext here new (name_of here c.args.number)) (c.in-Some-Next.is ∙ ap Some c.in-Some-Next.field-0-is) c.handle_next.ensures in (
      serves-next c.args.partition.now here new c.args.number (most - (c.loop-done.done + 1)) (most - c.loop-done.done) (omega arith) c.loop-done.invariant.0 told.0,
      subst (λ (s : SubName). HasNext new s next) (sym (name here new c.args.number told.0)) told.1,
    )

pub returns-in-Some-Nothing : goal.returns-in-Some-Nothing
returns-in-Some-Nothing c =
    let most = c.saturating_sub-most.result in
    let here = c.loop-done.partition in
    let new = c.handle_next.new.self in
    let told : IsHandledLast here new (name_of here c.args.number) = subst (HandlesNext here new (name_of here c.args.number)) (c.in-Some-Nothing.is ∙ ap Some c.in-Some-Nothing.field-0-is) c.handle_next.ensures in
    serves-last c.args.partition.now here new c.args.number (most - (c.loop-done.done + 1)) (most - c.loop-done.done) (omega arith) c.loop-done.invariant.0 told

pub returns-in-Some-Closed : goal.returns-in-Some-Closed
returns-in-Some-Closed c =
    let most = c.saturating_sub-most.result in
    let here = c.loop-done.partition in
    let new = c.handle_next.new.self in
    let told : IsHandledLast here new (name_of here c.args.number) = subst (HandlesNext here new (name_of here c.args.number)) (c.in-Some-Closed.is ∙ ap Some c.in-Some-Closed.field-0-is) c.handle_next.ensures in
    serves-last c.args.partition.now here new c.args.number (most - (c.loop-done.done + 1)) (most - c.loop-done.done) (omega arith) c.loop-done.invariant.0 told

pub returns : goal.returns
returns c =
    let p = c.args.partition.now in
    let here = c.loop-done.partition in
    let none : c.saturating_sub-most.result - c.loop-done.done ≡ 0 = omega arith in
    serves-rest p here here c.serve_rest-2.new.partition c.args.number 0 (meant c.serve_rest-2.result) refl
    (subst (λ n. Serves p here c.args.number n) none c.loop-done.invariant.0) c.serve_rest-2.ensures
