use Rattle.turnstile.proofs.Prelude.{◌∙◌, rules, arith}
use Rattle.turnstile.specs.Turns.{start_of}
use Rattle.turnstile.proofs.Keeps.{draws}
use Rattle.turnstile.proofs.Phases.{may_look, its_turn, not_yet}
use Rattle.turnstile.proofs.lock.Lock.enter.Goals as goal

pub fetch_add-ticket-requires : goal.fetch_add-ticket-requires
fetch_add-ticket-requires g c =
    let idle = c.requires.idle in
    (c.requires.table, omega (arith, c.args.self.now.shape), draws _ _ _ _ _ _ _ _ idle.1 idle.2 idle.3)

pub load-requires : goal.load-requires
load-requires g c =
    let idle = c.requires.idle in
    let drawn = c.fetch_add-ticket.ensures.2 in
    (search rules, omega (arith, c.args.self.now.shape), may_look _ _ _ _ _ _ _ c.args.seat.now.me c.loop.seat.me drawn.0 (c.loop.invariant.2 ∙ drawn.2) idle.0 idle.2)

pub loop-preserved : goal.loop-preserved
loop-preserved g c =
    let drawn = c.fetch_add-ticket.ensures.2 in (
      search rules,
      search rules,
      not_yet g.T.History.StoredHistory.entries g.T.Replays.state_of g.T.Replays.replied g.T.Replays.after (start_of g.T.Replays.state_of c.args.self.now.table.shared.key) c.args.seat.now.me c.loop.seat.me _ drawn.0 _ _ (c.loop.invariant.2 ∙ drawn.2) drawn.1 c.load.ensures.2 (search rules) ∙ c.loop.invariant.2,
    )

pub returns-then-load-ticket-clause-turn : goal.returns-then-load-ticket-clause-turn
returns-then-load-ticket-clause-turn g c =
    let drawn = c.fetch_add-ticket.ensures.2 in (
      drawn.0,
      its_turn g.T.History.StoredHistory.entries g.T.Replays.state_of g.T.Replays.replied g.T.Replays.after (start_of g.T.Replays.state_of c.args.self.now.table.shared.key) c.args.seat.now.me c.loop.seat.me _ drawn.0 _ _ (c.loop.invariant.2 ∙ drawn.2) drawn.1 c.load.ensures.2 (search rules),
    )
