-- Blocks that leave the cache and an agent that takes over leave parts that agree with each other.
use Rattle.step_core.proofs.Prelude.{IsDone, IsRefused, StaleAgent, high, bare, ◌≡◌, ◌∙◌, ap, sym, subst, ℕ, suc, ◌+◌, ◌-◌, ◌*◌, ◌≤◌, min, Bool, false, length, take, drop, get_or, map, arith, not, drop-map, get_or-map, length-map, if◌then◌else◌, least_with, BLOCK_EVENTS, Token, purge-stale, between, is_spent, open_resumes, slowest, token_at, Reply, PlainPartition, AreRecords, PlainTable, rewound_all, rewound_open}
use Rattle.stream_model.specs.declared.reply.Reply.TheVariants as reply
use Rattle.stream_model.specs.Pulling as plain
use Rattle.pulling_agent.specs.Agent as agent
use Rattle.step_core.specs.Assembly.{Agrees, HasEvents, IsAssembled}
use Rattle.step_core.specs.PlainOf.{plain_of}
use Rattle.step_core.specs.View.{sub_of}
use Rattle.step_core.specs.declared.parts.Parts.{Parts}
use Rattle.step_core.proofs.CachedEvents.{between-drop}
use Rattle.step_core.proofs.KnownOps.{known-rewound}
use Rattle.step_core.proofs.LeafOps.{moved-to, slowest-is}
use Rattle.step_core.proofs.MoveOps.{AreAllRewound, free-le, high-without, move-parts, moved, purge-parts, purged_by}

-- ---- blocks leave the cache

pub purges-le : (a : agent.PlainAgent) (keep least : ℕ) → BLOCK_EVENTS * agent.purges a keep least ≤ length a.cache.events
purges-le a keep least = let free = free-le a least in omega (arith, free)

-- the cache keeps the events of the other blocks
pub has-without : (parts : Parts) (blocks : ℕ) → BLOCK_EVENTS * blocks ≤ length parts.agent.cache.events → HasEvents parts → HasEvents (record parts { agent = record parts.agent { cache = agent.without_blocks blocks parts.agent.cache } })
has-without parts blocks within has =
    let c = parts.agent.cache in
    ap (drop (BLOCK_EVENTS * blocks)) has
    ∙ drop-map bare (BLOCK_EVENTS * blocks) (between parts.queue.events c.low (high c))
    ∙ ap (map bare)
    (between-drop parts.queue.events c.low (high c) (BLOCK_EVENTS * blocks) (omega (arith, within))
    ∙ ap (between parts.queue.events (c.low + BLOCK_EVENTS * blocks)) (sym (high-without blocks c within)))

module _ (parts : Parts) (generation keep : ℕ) where
  pub purged-assembled : (least : ℕ) (new : agent.PlainAgent) (low : ℕ) → IsAssembled parts → IsDone parts.agent generation (agent.purge_free parts.agent keep least) new low → IsAssembled (record parts { agent = new })
  purged-assembled least new low assembled done =
      subst (λ (left : agent.PlainAgent × ℕ). IsAssembled (record parts { agent = left.0 })) (sym done.is)
      (record {
        most_subs = assembled.most_subs;
        most_rules = assembled.most_rules;
        most_events = assembled.most_events;
        cached = has-without parts (agent.purges parts.agent keep least) (purges-le parts.agent keep least) assembled.cached;
        numbered = assembled.numbered;
        known = assembled.known;
      })

  -- blocks were dropped
  pub purged-done : (least : ℕ) (new : agent.PlainAgent) (low : ℕ) → least ≡ slowest (plain_of parts) → IsDone parts.agent generation (agent.purge_free parts.agent keep least) new low
      → (plain_of (record parts { agent = new }), reply.Purged (token_at (plain_of parts) low)) ≡ plain.purge (plain_of parts) generation keep
  purged-done least new low is_least done =
      ap (purged_by parts) done.is
      ∙ ap (λ n. purged_by parts (agent.purge_free parts.agent keep n)) is_least
      ∙ sym (purge-parts parts generation keep done.own)

  -- the agent was replaced
  pub purge-refused : (new : agent.PlainAgent) (stale : StaleAgent) → IsRefused parts.agent generation parts.agent new stale → (plain_of (record parts { agent = new }), reply.StaleAgent stale.now) ≡ plain.purge (plain_of parts) generation keep
  purge-refused new stale refused =
      ap {B = PlainPartition × Reply} (λ (a : agent.PlainAgent). (plain_of (record parts { agent = a }), reply.StaleAgent stale.now)) refused.same
      ∙ ap {B = PlainPartition × Reply} (λ now. (plain_of parts, reply.StaleAgent now)) refused.now
      ∙ purge-stale (plain_of parts) generation keep (ap not refused.other)

  -- the cache then begins at a position that it had
  pub purged-low : (least : ℕ) (new : agent.PlainAgent) (low : ℕ) → IsDone parts.agent generation (agent.purge_free parts.agent keep least) new low → low ≤ high parts.agent.cache
  purged-low least new low done =
      let is : low ≡ parts.agent.cache.low + BLOCK_EVENTS * agent.purges parts.agent keep least = ap (λ (left : agent.PlainAgent × ℕ). left.1) done.is in
      omega (arith, is, purges-le parts.agent keep least)

-- ---- another agent

all-rewound : (parts : Parts) → AreRecords parts.subs → AreAllRewound parts (rewound_all parts.subs).states
all-rewound parts records i d e within =
    ap (λ state. (sub_of (get_or parts.subs.registry.names i d) state).1) (get_or-map rewound_open parts.subs.states i e e (omega (arith, within, records.long)))

module _ (parts : Parts) (silo position : ℕ) where
  -- the agent's next generation is the plain partition's, since no more than the rises there may be were made
  generation-rises : Agrees parts → agent.take_over parts.agent silo position ≡ agent.replaced parts.agent (suc parts.agent.generation) silo position
  generation-rises agrees =
      let few : agent.next_generation parts.agent.generation ≡ suc parts.agent.generation = omega (arith, agrees.within.generation, agrees.within.rises, agrees.within.limits.rises) in
      ap {B = agent.PlainAgent × ℕ} (λ n. agent.replaced parts.agent n silo position) few

  -- the parts with another agent, the cursors back at the resumes
  abbrev pub taken_over : Parts
  taken_over = record parts { agent = (agent.replaced parts.agent (suc parts.agent.generation) silo position).0; subs = rewound_all parts.subs; rises = parts.rises + 1 }

  pub taken_over-assembled : AreRecords parts.subs → IsAssembled parts → IsAssembled taken_over
  taken_over-assembled records assembled =
      record {
        most_subs = assembled.most_subs;
        most_rules = assembled.most_rules;
        most_events = assembled.most_events;
        cached = ap (λ n. map bare (take n (drop position parts.queue.events))) {x = 0} {y = position + 0 - position} (omega arith);
        numbered = assembled.numbered;
        known = known-rewound parts.subs.registry.names parts.subs.states parts.grains records.long assembled.known;
      }

  taken_over-moves : AreRecords parts.subs → is_spent (plain_of parts) ≡ false → position ≡ min (high parts.agent.cache) (slowest (plain_of parts))
      → (plain_of taken_over, reply.Moved (suc parts.agent.generation) (token_at (plain_of parts) position)) ≡ plain.move (plain_of parts) silo
  taken_over-moves records left is_least =
      let least : position ≡ least_with (high parts.agent.cache) (open_resumes (plain_of parts)) =
      is_least ∙ ap (min (high parts.agent.cache)) (slowest-is parts) ∙ sym (moved-to parts)
      in
      let rises : parts.rises + 1 ≡ suc parts.rises = omega arith in
      ap {B = PlainPartition × Reply} (λ n. (plain_of (record taken_over { rises = n }), reply.Moved (suc parts.agent.generation) (token_at (plain_of parts) position))) rises
      ∙ ap (λ (spent : Bool). if spent then (plain_of parts, reply.Spent) else (plain_of (moved parts silo position (rewound_all parts.subs).states), reply.Moved (suc parts.agent.generation) (token_at (plain_of parts) position))) (sym left)
      ∙ sym (move-parts parts silo position (rewound_all parts.subs).states (sym records.long) (length-map parts.subs.states rewound_open) least (all-rewound parts records))

  module _ (new : agent.PlainAgent) (generation : ℕ) (subs : PlainTable) (agrees : Agrees parts) (took : (new, generation) ≡ agent.take_over parts.agent silo position) (rewinds : subs ≡ rewound_all parts.subs) where
    took-next : (new, generation) ≡ agent.replaced parts.agent (suc parts.agent.generation) silo position
    took-next = took ∙ generation-rises agrees

    pub moved-assembled : AreRecords parts.subs → IsAssembled parts → IsAssembled (record parts { agent = new; subs = subs; rises = parts.rises + 1 })
    moved-assembled records assembled =
        subst (λ (left : agent.PlainAgent × ℕ). IsAssembled (record parts { agent = left.0; subs = subs; rises = parts.rises + 1 })) (sym took-next)
        (subst (λ (t : PlainTable). IsAssembled (record taken_over { subs = t })) (sym rewinds) (taken_over-assembled records assembled))

    pub moved-performs : (low : Token) → AreRecords parts.subs → is_spent (plain_of parts) ≡ false → position ≡ min (high parts.agent.cache) (slowest (plain_of parts)) → low ≡ token_at (plain_of parts) position
        → (plain_of (record parts { agent = new; subs = subs; rises = parts.rises + 1 }), reply.Moved generation low) ≡ plain.move (plain_of parts) silo
    moved-performs low records left is_least is_low =
        ap {B = PlainPartition × Reply} (λ token. (plain_of (record parts { agent = new; subs = subs; rises = parts.rises + 1 }), reply.Moved generation token)) is_low
        ∙ ap {B = PlainPartition × Reply} (λ (made : agent.PlainAgent × ℕ). (plain_of (record parts { agent = made.0; subs = subs; rises = parts.rises + 1 }), reply.Moved made.1 (token_at (plain_of parts) position))) took-next
        ∙ ap {B = PlainPartition × Reply} (λ (t : PlainTable). (plain_of (record taken_over { subs = t }), reply.Moved (suc parts.agent.generation) (token_at (plain_of parts) position))) rewinds
        ∙ taken_over-moves records left is_least
