-- Pull, at each outcome of its tests.
use Rattle.stream_model.proofs.Prelude.{◌≡◌, ◌∙◌, ap, sym, refl, ℕ, ◌+◌, ◌-◌, ◌*◌, ◌<◌, ◌≤◌, ◌==◌, min, true, false, List, length, unwrap_or, lt-ltb, le-ltb, eq-eqb, ne_eqb, pull_size, Event, SubName, BLOCK_EVENTS, Rule, Token}
use Rattle.stream_ident.specs.declared.ident.SubName.TheVariants as name
use Rattle.stream_model.specs.declared.plain.PlainPartition.{PlainPartition}
use Rattle.stream_model.specs.declared.plain.Subscription.{Subscription}
use Rattle.stream_model.specs.declared.reply.Reply.TheVariants as reply
use Rattle.stream_model.specs.Positions.{between, slowest_name, token_at}
use Rattle.stream_model.specs.Pulling.{drops, is_stale, pull, pull_count, pull_events, pull_want, room, subs_with}
use Rattle.stream_model.specs.Step.{takes_memory}

-- the subscriptions after the events up to a position
abbrev pub subs_up_to : PlainPartition → ℕ → List (SubName × Subscription)
subs_up_to p high = subs_with p.rules p.high p.subs (between p.log p.high high)

-- how many they are, as the program counts them
pub counted-up_to : (p : PlainPartition) (high count : ℕ) (log events : List Event) (rules : List Rule) (subs : List (SubName × Subscription)) → log ≡ p.log → events ≡ between log p.high high → rules ≡ p.rules → subs ≡ p.subs → length (subs_with rules p.high subs events) ≡ length subs + count → length (subs_up_to p high) ≡ length p.subs + count
counted-up_to p high count log events rules subs is_log is_events is_rules is_subs counted =
    let all_events = is_events ∙ ap (λ log. between log p.high high) is_log in
    sym (λ i. length (subs_with (is_rules i) p.high (is_subs i) (all_events i))) ∙ counted ∙ ap (λ subs. length subs + count) is_subs

pub events-full : (p : PlainPartition) (low high : ℕ) (subs : List (SubName × Subscription)) → p.limits.subs < length subs → pull_events p low high subs ≡ (p, reply.TooMany)
unfolding pull_events
events-full p low high subs full = let test = lt-ltb p.limits.subs (length subs) full in rw test refl

pub events-made : (p : PlainPartition) (low high : ℕ) (subs made : List (SubName × Subscription)) (low_token high_token : Token) → length subs ≤ p.limits.subs → made ≡ subs → low_token ≡ token_at p low → high_token ≡ token_at p high → (record p { low = low; high = high; subs = made }, reply.Pulled (high - p.high) low_token high_token) ≡ pull_events p low high subs
unfolding pull_events
events-made p low high subs made low_token high_token fits is_made is_low is_high =
    let test = le-ltb p.limits.subs (length subs) fits in
    rw test (λ i. (record p { low = low; high = high; subs = is_made i }, reply.Pulled (high - p.high) (is_low i) (is_high i)))

pub events-take_memory : (p : PlainPartition) (low high : ℕ) (subs : List (SubName × Subscription)) → length subs ≤ p.limits.subs → takes_memory (pull_events p low high subs).1 ≡ true
unfolding pull_events
events-take_memory p low high subs fits = let test = le-ltb p.limits.subs (length subs) fits in rw test refl

pub want-pressed : (p : PlainPartition) (want count : ℕ) (by : SubName) → count ≡ min want (room p + BLOCK_EVENTS * drops p want) → count ≡ 0 → by ≡ unwrap_or (slowest_name p) (name.Explicit 0) → (p, reply.Pressed by) ≡ pull_want p want
unfolding pull_want pull_count
want-pressed p want count by is_count none is_by =
    let test : (min want (room p + BLOCK_EVENTS * drops p want) == 0) ≡ true = eq-eqb _ 0 (sym is_count ∙ none) in
    rw test (ap (λ by. (p, reply.Pressed by)) is_by)

pub want-events : (p : PlainPartition) (want count blocks : ℕ) → blocks ≡ drops p want → count ≡ min want (room p + BLOCK_EVENTS * drops p want) → (count ≡ 0 → ⊥) → pull_events p (p.low + BLOCK_EVENTS * blocks) (p.high + count) (subs_up_to p (p.high + count)) ≡ pull_want p want
unfolding pull_want pull_count
want-events p want count blocks is_blocks is_count some =
    let test : (min want (room p + BLOCK_EVENTS * drops p want) == 0) ≡ false = ne_eqb _ 0 (λ none. some (is_count ∙ none)) in
    rw test (λ i. pull_events p (p.low + BLOCK_EVENTS * is_blocks i) (p.high + is_count i) (subs_up_to p (p.high + is_count i)))

pub pull-dry : (p : PlainPartition) (generation max_events : ℕ) → is_stale p generation ≡ false → p.high ≡ length p.log → pull p generation max_events ≡ (p, reply.Dry)
unfolding pull
pull-dry p generation max_events current dry =
    let test = eq-eqb p.high (length p.log) dry in rw (current, test) refl

pub pull-some : (p : PlainPartition) (generation max_events want : ℕ) → is_stale p generation ≡ false → (p.high ≡ length p.log → ⊥) → want ≡ min (pull_size max_events) (length p.log - p.high) → pull_want p want ≡ pull p generation max_events
unfolding pull
pull-some p generation max_events want current queued is_want =
    let test = ne_eqb p.high (length p.log) queued in rw (current, test) (ap (pull_want p) is_want)
