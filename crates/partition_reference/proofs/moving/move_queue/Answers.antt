use Rattle.partition_reference.proofs.Prelude.{◌≡◌, ◌+◌, min, suc, sym, ap, ◌∙◌, arith, move-spent}
use Rattle.partition_reference.proofs.MovingLemmas.{move-done}
use Rattle.partition_reference.proofs.moving.move_queue.Goals as goal

pub returns-then-is_spent : goal.returns-then-is_spent
returns-then-is_spent c = move-spent c.args.p.now c.args.silo (sym c.is_spent.ensures ∙ c.if-is_spent.true)

pub returns : goal.returns
returns c =
    let p = c.args.p.now in
    let generation : p.generation + 1 ≡ suc p.generation = omega arith in
    let rises : p.rises + 1 ≡ suc p.rises = omega arith in
    move-done p c.args.silo c.min-position.result (p.generation + 1) (p.rises + 1) c.token_at-low.result c.rewind_open.new.subs (sym c.is_spent.ensures ∙ c.if-is_spent.false) (c.min-position.ensures ∙ ap (min p.high) c.slowest.ensures) generation rises c.token_at-low.ensures c.rewind_open.ensures
