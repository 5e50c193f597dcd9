-- The figures of a queue and of a subscription are those of the plain partition.
use Rattle.step_core.proofs.Prelude.{Plan, StaleAgent, ◌≡◌, ◌∙◌, ap, sym, refl, ℕ, ◌+◌, ◌-◌, ◌*◌, Bool, true, false, List, length, Option, Some, None, if◌then◌else◌, unwrap_or, Result, Err, SubName, BLOCK_EVENTS, Token, between, slowest, slowest_name, token_at, pull, subs_with, Reply, PlainPartition, Subscription, nat_lt, Ok}
use Rattle.stream_ident.specs.declared.ident.SubName.TheVariants as name
use Rattle.stream_model.specs.declared.reply.Reply.TheVariants as reply
use Rattle.stream_model.specs.Pulling.{pull_events}
use Rattle.stream_model.specs.Step.{step}
use Rattle.pulling_agent.specs.Agent as agent
use Rattle.pulling_agent.specs.declared.agent.Plan.TheVariants as plan
use Rattle.step_core.specs.declared.parts.Parts.{Parts}
use Rattle.step_core.specs.Figures.{presser, pressed_by}
use Rattle.step_core.specs.PlainOf.{plain_of}
use Rattle.step_core.proofs.PlanOps.{planned, planned-is, pull-replaced}

-- a pull that takes events, or finds too many subscriptions, names nobody
names-nobody : (p : PlainPartition) (low high : ℕ) (subs : List (SubName × Subscription)) → presser (pull_events p low high subs).1 ≡ None
unfolding pull_events
names-nobody p low high subs = by (nat_lt p.limits.subs (length subs)) (record p { low = low; high = high; subs = subs }) (high - p.high) (token_at p low) (token_at p high)
  where
    by : (many : Bool) (q : PlainPartition) (count : ℕ) (from to : Token) → presser (if◌then◌else◌ {A = PlainPartition × Reply} many (p, reply.TooMany) (q, reply.Pulled count from to)).1 ≡ None
    by true q count from to = refl
    by false q count from to = refl

-- who presses, by what a pull of one event is planned to do
abbrev pub presses : SubName → Result Plan StaleAgent → Option SubName
presses s (Ok plan.Held) = Some s
presses s _ = None

planned-presses : (p : PlainPartition) (s : SubName) (made : Plan) → s ≡ unwrap_or (slowest_name p) (name.Explicit 0) → presses s (Ok made) ≡ presser (planned p made).1
planned-presses p s plan.Dry is = refl
planned-presses p s plan.Held is = ap {B = Option SubName} Some is
planned-presses p s (plan.Take drops count) is = sym (names-nobody p (p.low + BLOCK_EVENTS * drops) (p.high + count) (subs_with p.rules p.high p.subs (between p.log p.high (p.high + count))))

pub pressed-is : (parts : Parts) (generation len least : ℕ) (s : SubName) (made : Result Plan StaleAgent) → generation ≡ parts.agent.generation → len ≡ length parts.queue.events → least ≡ slowest (plain_of parts)
    → s ≡ unwrap_or (slowest_name (plain_of parts)) (name.Explicit 0) → made ≡ agent.plan_pull parts.agent generation 1 len least → presses s made ≡ pressed_by (plain_of parts)
unfolding step
pressed-is parts generation len least s (Err stale) own is_len is_least is_slowest is =
    ap {B = Option SubName} (λ (done : PlainPartition × Reply). presser done.1) (pull-replaced parts generation 1 len least stale is)
    ∙ ap {B = Option SubName} (λ n. presser (pull (plain_of parts) n 1).1) own
pressed-is parts generation len least s (Ok made) own is_len is_least is_slowest is =
    planned-presses (plain_of parts) s made is_slowest
    ∙ ap {B = Option SubName} (λ (done : PlainPartition × Reply). presser done.1) (planned-is parts generation 1 len least made is_len is_least is)
    ∙ ap {B = Option SubName} (λ n. presser (pull (plain_of parts) n 1).1) own
