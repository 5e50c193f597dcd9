-- Blocks are dropped and agents replaced, done by the parts.
use Rattle.step_core.proofs.Prelude.{SubState, Registration, PlainCache, high, ◌≡◌, ◌∙◌, ap, sym, ℕ, suc, ◌+◌, ◌*◌, ◌<◌, ◌≤◌, min, true, List, length, get_or, ◌==◌, nat_le, arith, length-drop, if◌then◌else◌, ◌/◌, least_with, SubName, BLOCK_EVENTS, open_resumes, slowest, token_at, Reply, PlainPartition, ◌-◌}
use Rattle.stream_model.specs.declared.reply.Reply.TheVariants as reply
use Rattle.stream_model.specs.Pulling as plain
use Rattle.pulling_agent.specs.Agent as agent
use Rattle.step_core.specs.declared.parts.Parts.{Parts}
use Rattle.step_core.specs.PlainOf.{plain_of}
use Rattle.step_core.specs.View.{sub_of}
use Rattle.step_core.proofs.RecordOps.{record_at}
use Rattle.step_core.proofs.ViewLemmas.{records-changed}

-- without blocks of events that it has, the cache ends where it ended
pub high-without : (blocks : ℕ) (c : PlainCache) → BLOCK_EVENTS * blocks ≤ length c.events → high (agent.without_blocks blocks c) ≡ high c
high-without blocks c le = omega (arith, le, length-drop (BLOCK_EVENTS * blocks) c.events)

pub free-le : (a : agent.PlainAgent) (least : ℕ) → BLOCK_EVENTS * agent.free_blocks a least ≤ length a.cache.events
free-le a least = omega arith

abbrev pub purged_by : Parts → agent.PlainAgent × ℕ → PlainPartition × Reply
purged_by parts (a, low) = (plain_of (record parts { agent = a }), reply.Purged (token_at (plain_of parts) low))

pub purge-parts : (parts : Parts) (generation keep : ℕ) → (generation == parts.agent.generation) ≡ true → plain.purge (plain_of parts) generation keep ≡ purged_by parts (agent.purge_free parts.agent keep (slowest (plain_of parts)))
unfolding plain.purge plain.purge_to
purge-parts parts generation keep current =
    let c = parts.agent.cache in
    let least = slowest (plain_of parts) in
    let blocks = agent.purges parts.agent keep least in
    let same : plain.purges (plain_of parts) keep ≡ blocks = ap (λ n. min ((n + (BLOCK_EVENTS - 1)) / BLOCK_EVENTS - keep) (agent.free_blocks parts.agent least)) {x = high c - c.low} {y = length c.events} (omega arith) in
    let within : BLOCK_EVENTS * blocks ≤ length c.events = let free = free-le parts.agent least in omega (arith, free) in
    let left : PlainPartition × Reply = (record (plain_of parts) { low = c.low + BLOCK_EVENTS * plain.purges (plain_of parts) keep }, reply.Purged (token_at (plain_of parts) (c.low + BLOCK_EVENTS * plain.purges (plain_of parts) keep))) in
    let right : PlainPartition × Reply = (plain_of (record parts { agent = record parts.agent { cache = agent.without_blocks blocks c } }), reply.Purged (token_at (plain_of parts) (c.low + BLOCK_EVENTS * blocks))) in
    let drops : left ≡ right =
    ap {B = PlainPartition × Reply} (λ n. (record (plain_of parts) { low = c.low + BLOCK_EVENTS * n }, reply.Purged (token_at (plain_of parts) (c.low + BLOCK_EVENTS * n)))) same
    ∙ ap {B = PlainPartition × Reply} (λ n. (record (plain_of parts) { low = c.low + BLOCK_EVENTS * blocks; high = n }, reply.Purged (token_at (plain_of parts) (c.low + BLOCK_EVENTS * blocks)))) (sym (high-without blocks c within))
    in
    rw current drops

-- these states are the old ones, with the cursors of the open records back at their resumes
abbrev pub AreAllRewound : Parts → List SubState → Type 0
AreAllRewound parts new =
    (i : ℕ) (d : SubName × Registration) (e : SubState) → i < length parts.subs.registry.names
    → (sub_of (get_or parts.subs.registry.names i d) (get_or new i e)).1 ≡ plain.rewound_where (record_at parts i d e).is_open (record_at parts i d e)

abbrev pub moved : Parts → ℕ → ℕ → List SubState → Parts
moved parts silo at new = record parts { agent = (agent.replaced parts.agent (suc parts.agent.generation) silo at).0; subs = record parts.subs { states = new }; rises = suc parts.rises }

pub move-parts : (parts : Parts) (silo at : ℕ) (new : List SubState) → length parts.subs.registry.names ≡ length parts.subs.states → length new ≡ length parts.subs.states → at ≡ least_with (high parts.agent.cache) (open_resumes (plain_of parts)) → AreAllRewound parts new
    → plain.move (plain_of parts) silo
    ≡ (if nat_le parts.limits.rises parts.rises then (plain_of parts, reply.Spent) else (plain_of (moved parts silo at new), reply.Moved (suc parts.agent.generation) (token_at (plain_of parts) at)))
unfolding plain.move plain.move_to
move-parts parts silo at new lengths as_long is_at rewinds =
    let told : Reply = reply.Moved (suc parts.agent.generation) (token_at (plain_of parts) at) in
    ap {B = PlainPartition × Reply} (λ (left : PlainPartition × Reply). if nat_le parts.limits.rises parts.rises then (plain_of parts, reply.Spent) else left)
    (ap (plain.move_to (plain_of parts) silo) (sym is_at)
    ∙ ap {B = PlainPartition × Reply} (λ subs. (record (plain_of parts) { generation = suc parts.agent.generation; silo = silo; rises = suc parts.rises; low = at; high = at; subs = subs }, told))
    (records-changed (λ r. plain.rewound_where r.is_open r) parts.subs.registry.names parts.subs.states new lengths as_long rewinds)
    ∙ ap {B = PlainPartition × Reply} (λ n. (record (plain_of (moved parts silo at new)) { high = n }, told)) {x = at} {y = at + 0} (omega arith))
