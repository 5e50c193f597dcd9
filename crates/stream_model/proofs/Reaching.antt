-- A legal history and what it leads to, one step further.
use Rattle.stream_model.proofs.Prelude.{◌≡◌, ℕ, ◌≤◌, List, [], ◌∷◌, ◌++◌, Result, Ok, Err, refl, sym, ap, subst, ◌∙◌, arith, Performs, Event, GrainId, SubName, MOST_BLOCKS, Rule}
use Rattle.std.specs.declared.alloc.AllocError.{AllocError}
use Rattle.stream_model.specs.declared.limits.Limits.{Limits}
use Rattle.stream_model.specs.declared.op.Op.{Op}
use Rattle.stream_model.specs.declared.plain.Grain.{Grain}
use Rattle.stream_model.specs.declared.plain.PlainPartition.{PlainPartition}
use Rattle.stream_model.specs.declared.plain.Subscription.{Subscription}
use Rattle.stream_model.specs.Replies.{Reply}
use Rattle.stream_model.specs.Bounds.{AreLimits, IsWithinLimits}
use Rattle.stream_model.specs.History.{Entry}
use Rattle.stream_model.specs.Positions.{empty}
use Rattle.stream_model.specs.Step.{step, Leads, IsReached}

-- one run after another
pub leads-append : (p q r : PlainPartition) (first second : List Entry) → Leads p first q → Leads q second r → Leads p (first ++ second) r
leads-append p q r [] second here rest = subst (λ q. Leads q second r) here rest
leads-append p q r (e ∷ first) second here rest = (here.0, leads-append (step p e.op).0 q r first second here.1 rest)

reached-empty : (blocks : ℕ) (limits : Limits) → 1 ≤ blocks → IsReached (empty blocks limits)
reached-empty blocks limits some = record { blocks = blocks; limits = limits; history = []; some_blocks = some; stands = refl }

pub within-empty : (blocks : ℕ) (limits : Limits) → blocks ≤ MOST_BLOCKS → AreLimits limits → IsWithinLimits (empty blocks limits)
within-empty blocks limits bound are = search arith

-- a new partition, whose lists are empty
pub new-partition : (blocks : ℕ) (limits : Limits) (log : List Event) (subs : List (SubName × Subscription)) (rules : List Rule) (grains : List (GrainId × Grain))
    → log ≡ [] → subs ≡ [] → rules ≡ [] → grains ≡ [] → 1 ≤ blocks → blocks ≤ MOST_BLOCKS → AreLimits limits
    → (p : PlainPartition) → p ≡ record (empty blocks limits) { log = log; subs = subs; rules = rules; grains = grains } → IsWithinLimits p × IsReached p
new-partition blocks limits log subs rules grains no_log no_subs no_rules no_grains some bound are p is =
    let same : p ≡ empty blocks limits = is ∙ (λ i. record (empty blocks limits) { log = no_log i; subs = no_subs i; rules = no_rules i; grains = no_grains i }) in
    subst (λ (q : PlainPartition). IsWithinLimits q × IsReached q) (sym same) (within-empty blocks limits bound are, reached-empty blocks limits some)

pub reached-leads : (p : PlainPartition) (entries : List Entry) (q : PlainPartition) → IsReached p → Leads p entries q → IsReached q
reached-leads p entries q reached leads = record {
  blocks = reached.blocks;
  limits = reached.limits;
  history = reached.history ++ entries;
  some_blocks = reached.some_blocks;
  stands = leads-append (empty reached.blocks reached.limits) p q reached.history entries reached.stands leads;
}

-- what an operation leaves is reached
pub reached-after : (old new : PlainPartition) (op : Op) (r : Result Reply AllocError) → Performs old new r (step old op) → IsReached old → IsReached new
reached-after old new op (Ok told) performs reached =
    let left : new ≡ (step old op).0 = ap (λ out. out.0) performs in
    reached-leads old (record { op = op; reply = (step old op).1 } ∷ []) new reached (refl, left)
reached-after old new op (Err e) unchanged reached = subst IsReached (sym unchanged) reached
