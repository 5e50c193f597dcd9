-- What an agent plans to pull is what the plain pull does.
use Rattle.step_core.proofs.Prelude.{SubState, Registration, Plan, StaleAgent, ◌≡◌, ◌∙◌, ap, sym, refl, ℕ, ◌+◌, ◌-◌, ◌*◌, min, Bool, true, false, ◌&&◌, List, [], ◌∷◌, length, map, filter, Option, Some, None, ◌==◌, arith, not, if◌then◌else◌, unwrap_or, Err, pull_size, sub_lt, keys_where, least, has_number, SubName, BLOCK_EVENTS, pull-stale, slowest, slowest_name, is_open_at, Reply, PlainPartition, Subscription, NamedLeaf, leaf_of, leaves_of, open_resume, ◌/◌, Ok}
use Rattle.stream_ident.specs.declared.ident.SubName.TheVariants as name
use Rattle.stream_model.specs.declared.reply.Reply.TheVariants as reply
use Rattle.stream_model.specs.Pulling as plain
use Rattle.ranked_index.specs.Keys.{lesser_key}
use Rattle.pulling_agent.specs.Agent as agent
use Rattle.pulling_agent.specs.declared.agent.Plan.TheVariants as plan
use Rattle.queue_cache.specs.Cache as cache
use Rattle.subscription_table.specs.Leaves as leaves
use Rattle.step_core.specs.declared.parts.Parts.{Parts}
use Rattle.step_core.specs.PlainOf.{plain_of}
use Rattle.step_core.specs.Taking.{taken}
use Rattle.step_core.specs.View.{sub_of, subs_of}
use Rattle.step_core.proofs.CheckOps.{answered-as}
use Rattle.step_core.proofs.LeafOps.{slowest-is}
use Rattle.step_core.proofs.Shared.{ap-if}

-- ---- the slowest subscription

-- where nothing is open, none has a resume
none-open : (resume : ℕ) (all : List NamedLeaf) → leaves.least_resume all ≡ None → leaves.names_where (λ leaf. has_number resume leaf.resume) all ≡ []
none-open resume [] none = refl
none-open resume (leaf ∷ all) none = by leaf.resume (leaves.least_resume all) none (none-open resume all)
  where
    by : (own least : Option ℕ) → lesser_key own least ≡ None → (least ≡ None → leaves.names_where (λ leaf. has_number resume leaf.resume) all ≡ [])
        → map (λ (leaf : NamedLeaf). leaf.name) (if has_number resume own then leaf ∷ filter (λ (leaf : NamedLeaf). has_number resume leaf.resume) all else filter (λ (leaf : NamedLeaf). has_number resume leaf.resume) all) ≡ []
    by None least none rest = rest none
    by (Some key) None none rest = absurd (cc)
    by (Some key) (Some other) none rest = absurd (cc)

at-resume : (resume : ℕ) (names : List (SubName × Registration)) (states : List SubState) → keys_where (is_open_at resume) (subs_of names states) ≡ leaves.names_where (λ leaf. has_number resume leaf.resume) (leaves_of names states)
at-resume resume [] states = refl
at-resume resume (entry ∷ names) [] = refl
at-resume resume (entry ∷ names) (state ∷ states) = by state.live (at-resume resume names states)
  where
    later : List (SubName × Subscription)
    later = filter (λ (e : SubName × Subscription). is_open_at resume e.1) (subs_of names states)

    behind : List NamedLeaf
    behind = filter (λ (leaf : NamedLeaf). has_number resume leaf.resume) (leaves_of names states)

    Rest : Type 0
    Rest = keys_where (is_open_at resume) (subs_of names states) ≡ leaves.names_where (λ leaf. has_number resume leaf.resume) (leaves_of names states)

    pick : (passes : Bool) → Rest → map (λ (e : SubName × Subscription). e.0) (if passes then sub_of entry state ∷ later else later) ≡ map (λ (leaf : NamedLeaf). leaf.name) (if passes then leaf_of entry state ∷ behind else behind)
    pick true rest = ap (λ ns. entry.0 ∷ ns) rest
    pick false rest = rest

    by : (is_open : Bool) → Rest
        → map (λ (e : SubName × Subscription). e.0) (if is_open && (state.resume == resume) then sub_of entry state ∷ later else later)
        ≡ map (λ (leaf : NamedLeaf). leaf.name) (if has_number resume (open_resume is_open state.resume) then leaf_of entry state ∷ behind else behind)
    by false rest = rest
    by true rest = pick (state.resume == resume) rest

pub slowest-name-is : (parts : Parts) → slowest_name (plain_of parts) ≡ leaves.slowest (leaves_of parts.subs.registry.names parts.subs.states)
slowest-name-is parts =
    ap (λ resume. least sub_lt (keys_where (λ (r : Subscription). r.is_open && (r.resume == resume)) (plain_of parts).subs)) (slowest-is parts)
    ∙ ap (λ names. least sub_lt names) (at-resume (unwrap_or (leaves.least_resume all) (plain_of parts).high) parts.subs.registry.names parts.subs.states)
    ∙ by (leaves.least_resume all) refl
  where
    all : List NamedLeaf
    all = leaves_of parts.subs.registry.names parts.subs.states

    by : (o : Option ℕ) → leaves.least_resume all ≡ o → least sub_lt (leaves.names_where (λ leaf. has_number (unwrap_or o (plain_of parts).high) leaf.resume) all) ≡ leaves.slowest_at o all
    by None none = ap (λ names. least sub_lt names) (none-open (plain_of parts).high all none)
    by (Some resume) is = refl

-- ---- the plan

-- what the plain pull does where this is planned
abbrev pub planned : PlainPartition → Plan → PlainPartition × Reply
planned p plan.Dry = (p, reply.Dry)
planned p plan.Held = (p, reply.Pressed (unwrap_or (slowest_name p) (name.Explicit 0)))
planned p (plan.Take drops count) = taken p drops count

room-is : (parts : Parts) → plain.room (plain_of parts) ≡ cache.room parts.agent.cache
room-is parts = ap (λ n. BLOCK_EVENTS * parts.agent.cache.blocks - n) (omega arith)

drops-are : (parts : Parts) (want : ℕ) → plain.drops (plain_of parts) want ≡ agent.drops parts.agent (slowest (plain_of parts)) want
drops-are parts want = ap (λ room. min ((want - room + (BLOCK_EVENTS - 1)) / BLOCK_EVENTS) (plain.free_blocks (plain_of parts))) (room-is parts)

count-planned : (parts : Parts) (drops count : ℕ) → plain.pull_count (plain_of parts) drops count ≡ planned (plain_of parts) (agent.plan_count drops count)
unfolding plain.pull_count
count-planned parts drops count = sym (ap-if (planned (plain_of parts)) (count == 0) plan.Held (plan.Take drops count))

want-planned : (parts : Parts) (want : ℕ) → plain.pull_want (plain_of parts) want ≡ planned (plain_of parts) (agent.plan_want parts.agent (slowest (plain_of parts)) want)
unfolding plain.pull_want
want-planned parts want =
    let drops = agent.drops parts.agent (slowest (plain_of parts)) want in
    ap {B = PlainPartition × Reply} (λ drops. plain.pull_count (plain_of parts) drops (min want (plain.room (plain_of parts) + BLOCK_EVENTS * drops))) (drops-are parts want)
    ∙ ap {B = PlainPartition × Reply} (λ room. plain.pull_count (plain_of parts) drops (min want (room + BLOCK_EVENTS * drops))) (room-is parts)
    ∙ count-planned parts drops (min want (cache.room parts.agent.cache + BLOCK_EVENTS * drops))

pub pull-planned : (parts : Parts) (generation max_events : ℕ) → (generation == parts.agent.generation) ≡ true → plain.pull (plain_of parts) generation max_events ≡ planned (plain_of parts) (agent.plan_of parts.agent max_events (length parts.queue.events) (slowest (plain_of parts)))
unfolding plain.pull
pull-planned parts generation max_events current =
    let want : ℕ = min (pull_size max_events) (length parts.queue.events - cache.high parts.agent.cache) in
    let dry = cache.high parts.agent.cache == length parts.queue.events in
    rw current
    (ap {B = PlainPartition × Reply} (λ (told : PlainPartition × Reply). if dry then (plain_of parts, reply.Dry) else told) (want-planned parts want)
    ∙ sym (ap-if (planned (plain_of parts)) dry plan.Dry (agent.plan_want parts.agent (slowest (plain_of parts)) want)))

-- a plan for the log's length and the slowest resume
pub planned-is : (parts : Parts) (generation max_events len least : ℕ) (made : Plan) → len ≡ length parts.queue.events → least ≡ slowest (plain_of parts) → Ok made ≡ agent.plan_pull parts.agent generation max_events len least
    → planned (plain_of parts) made ≡ plain.pull (plain_of parts) generation max_events
planned-is parts generation max_events len least made is_len is_least is =
    let answer = answered-as parts.agent generation (agent.plan_of parts.agent max_events len least) (Ok made) is in
    ap {B = PlainPartition × Reply} (λ (made : Plan). planned (plain_of parts) made)
    (answer.is ∙ ap (λ n. agent.plan_of parts.agent max_events n least) is_len ∙ ap (λ n. agent.plan_of parts.agent max_events (length parts.queue.events) n) is_least)
    ∙ sym (pull-planned parts generation max_events answer.own)

-- the agent was replaced
pub pull-replaced : (parts : Parts) (generation max_events len least : ℕ) (stale : StaleAgent) → Err stale ≡ agent.plan_pull parts.agent generation max_events len least
    → (plain_of parts, reply.StaleAgent stale.now) ≡ plain.pull (plain_of parts) generation max_events
pull-replaced parts generation max_events len least stale is =
    let replaced = answered-as parts.agent generation (agent.plan_of parts.agent max_events len least) (Err stale) is in
    ap {B = PlainPartition × Reply} (λ now. (plain_of parts, reply.StaleAgent now)) replaced.now ∙ pull-stale (plain_of parts) generation max_events (ap not replaced.other)
