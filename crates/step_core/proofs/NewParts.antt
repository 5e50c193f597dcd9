-- The parts before the first operation.
use Rattle.step_core.proofs.Prelude.{PlainActivation, ◌≡◌, sym, subst, refl, ℕ, ◌≤◌, List, [], arith, GrainId, MOST_BLOCKS, new-partition, AreLimits, AreRecords}
use Rattle.stream_model.specs.declared.limits.Limits.{Limits}
use Rattle.partition_queue.specs.Queue as queue
use Rattle.pulling_agent.specs.Agent as agent
use Rattle.subscription_table.specs.Table as table
use Rattle.step_core.specs.declared.parts.Parts.{Parts}
use Rattle.step_core.specs.Assembly.{Agrees}
use Rattle.step_core.specs.Known.{AreKnown}
use Rattle.step_core.specs.PlainOf.{plain_of}

new_parts : ℕ → Limits → Parts
new_parts blocks limits =
    record {
      queue = queue.empty limits.events;
      agent = agent.empty blocks;
      subs = table.empty limits.subs limits.rules;
      grains = [];
      rises = 0;
      turns = 0;
      limits = limits;
    }

-- where there is nothing, each row agrees
agrees-nothing : (most_subs most_rules : ℕ) → AreRecords (table.empty most_subs most_rules)
agrees-nothing most_subs most_rules = record {
  long = refl;
  starts = λ i within. absurd (omega (arith, within));
  openness = λ i within. absurd (omega (arith, within));
  cursors = λ i within. absurd (omega (arith, within));
  resumes = λ i within. absurd (omega (arith, within));
}

-- nothing is known
knows-nothing : AreKnown [] [] []
knows-nothing = record {
  within = λ j n inside is. absurd (omega (arith, inside));
  theirs = λ j n inside is. absurd (omega (arith, inside));
  untouched = λ n within is_open unknown. absurd (omega (arith, within));
}

agrees-empty : (blocks : ℕ) (limits : Limits) → 1 ≤ blocks → blocks ≤ MOST_BLOCKS → AreLimits limits → Agrees (new_parts blocks limits)
unfolding new_parts
agrees-empty blocks limits some few are =
    let kept = new-partition blocks limits [] [] [] [] refl refl refl refl some few are (plain_of (new_parts blocks limits)) refl in
    record {
      assembled = record { most_subs = refl; most_rules = refl; most_events = refl; cached = refl; numbered = tt; known = knows-nothing };
      within = kept.0;
      reached = kept.1;
      unique = λ i j a b is_a is_b same. absurd (cc);
      records = agrees-nothing limits.subs limits.rules;
      distinct = λ i j d within_i within_j same. absurd (omega (arith, within_i));
    }

pub agrees-new : (blocks : ℕ) (limits : Limits) (q : queue.PlainQueue) (a : agent.PlainAgent) (t : table.PlainTable) (grains : List (GrainId × PlainActivation))
    → q ≡ queue.empty limits.events → a ≡ agent.empty blocks → t ≡ table.empty limits.subs limits.rules → grains ≡ [] → 1 ≤ blocks → blocks ≤ MOST_BLOCKS → AreLimits limits
    → Agrees (record { queue = q; agent = a; subs = t; grains = grains; rises = 0; turns = 0; limits = limits })
unfolding new_parts
agrees-new blocks limits q a t grains is_queue is_agent is_table no_grains some few are =
    let same : record { queue = q; agent = a; subs = t; grains = grains; rises = 0; turns = 0; limits = limits } ≡ new_parts blocks limits =
    λ i. record { queue = is_queue i; agent = is_agent i; subs = is_table i; grains = no_grains i; rises = 0; turns = 0; limits = limits } in
    subst Agrees (sym same) (agrees-empty blocks limits some few are)
