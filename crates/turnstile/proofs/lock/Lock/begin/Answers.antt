use Rattle.turnstile.proofs.Prelude.{rules}
use Rattle.turnstile.specs.Turns.{start_of}
use Rattle.turnstile.proofs.Phases.{slot_here, slot_full, begun}
use Rattle.turnstile.proofs.lock.Lock.begin.Goals as goal

pub exchange-requires : goal.exchange-requires
exchange-requires g c =
    let turn = c.enter.ensures.turn in
    (search rules, (_, slot_here g.T.History.StoredHistory.entries g.T.Replays.state_of g.T.Replays.replied g.T.Replays.after (start_of g.T.Replays.state_of c.args.self.now.table.shared.key) _ c.enter.new.seat.me turn.1))

pub unwrap-requires : goal.unwrap-requires
unwrap-requires g c =
    slot_full g.T.History.StoredHistory.entries g.T.Replays.state_of g.T.Replays.replied g.T.Replays.after (start_of g.T.Replays.state_of c.args.self.now.table.shared.key) _ c.enter.new.seat.me _ c.enter.ensures.turn.1 c.exchange.ensures.2

pub returns-clause-begun : goal.returns-clause-begun
returns-clause-begun g c =
    let turn = c.enter.ensures.turn in
    begun _ _ _ _ _ c.args.seat.now.me.0 turn.0 c.enter.new.seat.me _ c.exchange.result c.unwrap.result c.requires.table.1 turn.1 c.exchange.ensures.2 c.exchange.ensures.3 (search rules)
