-- Parts agree with each other after what leaves the numbers of the names as they are.
use Rattle.step_core.proofs.Prelude.{PlainActivation, AreDistinct, AreUnique, ◌≡◌, ◌∙◌, sym, subst, length, List, [], ◌∷◌, AllByRecursion, AllocError, Performs, GrainId, within-after, reached-after, reached-leads, IsWithinLimits, Entry, Reply, Leads, Op, PlainPartition, AreRecords, PlainTable, Result}
use Rattle.stream_model.specs.Step.{step}
use Rattle.stream_model.proofs.StepBounds.{bounds-step}
use Rattle.step_core.specs.Assembly.{Agrees, IsAssembled}
use Rattle.step_core.specs.Known.{AreKnown}
use Rattle.step_core.specs.Numbers.{IsBelow}
use Rattle.step_core.specs.PlainOf.{plain_of}
use Rattle.step_core.specs.declared.parts.Parts.{Parts}

-- as many names and as much room as before
pub record IsAsLarge (old new : PlainTable) : Type 0 where
  pub names : length new.registry.names ≡ length old.registry.names
  pub most_names : new.registry.most_names ≡ old.registry.most_names
  pub most_rules : new.registry.most_rules ≡ old.registry.most_rules

pub assembled-subs : (parts : Parts) (subs : PlainTable) → IsAsLarge parts.subs subs → AreKnown subs.registry.names subs.states parts.grains → IsAssembled parts → IsAssembled (record parts { subs = subs })
assembled-subs parts subs large known assembled =
    record {
      most_subs = large.most_names ∙ assembled.most_subs;
      most_rules = large.most_rules ∙ assembled.most_rules;
      most_events = assembled.most_events;
      cached = assembled.cached;
      numbered = subst (λ n. AllByRecursion (λ (g : GrainId × PlainActivation). IsBelow n g.1) parts.grains) (sym large.names) assembled.numbered;
      known = known;
    }

-- what operations leave agrees, where it is assembled and the tables are as they promise of themselves
module _ (old new : Parts) (agrees : Agrees old) (assembled : IsAssembled new) (unique : AreUnique new.subs.registry.names) (records : AreRecords new.subs) (distinct : AreDistinct new.grains) where
  pub agrees-after : (op : Op) (reply : Result Reply AllocError) → Performs (plain_of old) (plain_of new) reply (step (plain_of old) op) → Agrees new
  agrees-after op reply performs =
      record {
        assembled = assembled;
        within = within-after (plain_of old) (plain_of new) reply (step (plain_of old) op) performs agrees.within (bounds-step (plain_of old) op agrees.within);
        reached = reached-after (plain_of old) (plain_of new) op reply performs agrees.reached;
        unique = unique;
        records = records;
        distinct = distinct;
      }

  within-leads : (p : PlainPartition) (entries : List Entry) → Leads p entries (plain_of new) → IsWithinLimits p → IsWithinLimits (plain_of new)
  within-leads p [] leads within = subst IsWithinLimits (sym leads) within
  within-leads p (e ∷ entries) leads within = within-leads (step p e.op).0 entries leads.1 (bounds-step p e.op within)

  pub agrees-led : (entries : List Entry) × Leads (plain_of old) entries (plain_of new) → Agrees new
  agrees-led led =
      record {
        assembled = assembled;
        within = within-leads (plain_of old) led.0 led.1 agrees.within;
        reached = reached-leads (plain_of old) led.0 (plain_of new) agrees.reached led.1;
        unique = unique;
        records = records;
        distinct = distinct;
      }
