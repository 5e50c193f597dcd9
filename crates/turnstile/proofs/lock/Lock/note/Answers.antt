use Rattle.turnstile.proofs.Prelude.{◌-◌, ap, ◌∙◌, length, arith, length-append, ◌∷◌, []}
use Rattle.turnstile.proofs.Keeps.{notes}
use Rattle.turnstile.proofs.lock.Lock.note.Goals as goal

pub overflow_sub-count : goal.overflow_sub-count
overflow_sub-count g c =
    let may = c.requires.held in omega (arith, ap length may.history ∙ length-append c.args.seat.now.me.0.seen (may.entry ∷ []), c.requires.count)

pub compare_exchange_with-requires : goal.compare_exchange_with-requires
compare_exchange_with-requires g c =
    let may = c.requires.held in (
      c.requires.table,
      omega (arith, c.args.self.now.shape),
      notes _ _ _ _ _ _ _ c.args.seat.now.me c.args.held.now may.entry (c.args.count - 1) c.args.count may.come may.past may.history may.own may.right may.room
          (omega (arith, ap length may.history ∙ length-append c.args.seat.now.me.0.seen (may.entry ∷ []), c.requires.count)) c.requires.count,
    )
