-- Calls that found nothing leave a partition as it was, and the others are legal without them.
use Rattle.script_runs.proofs.Prelude.{after, replied, ◌≡◌, ◌∙◌, ℕ, Bool, true, false, not, List, [], ◌∷◌, ◌++◌, length, nat_lt, ◌==◌, refl, sym, ap, subst, if◌then◌else◌, cond_both, flat_map, SubName, is_stale, Reply, Op, PlainPartition, Subscription, IsLegal, replay, Entry}
use Rattle.stream_model.specs.declared.op.Op.TheVariants as op
use Rattle.stream_model.specs.declared.reply.Reply.TheVariants as reply
use Rattle.stream_model.specs.Pulling.{pull, pull_count, pull_events, pull_want}
use Rattle.stream_model.specs.Step.{step}
use Rattle.script_runs.specs.declared.traces.trace.Calls.TheVariants as calls
use Rattle.script_runs.specs.Traces.{BusyCallsAreLegal, busy, call_text, entry_text, found_nothing, heading, is_dry}

-- where the cache had all events, nothing has changed
abbrev KeepsDry : PlainPartition → PlainPartition × Reply → Type 0
KeepsDry p done = is_dry done.1 ≡ true → done.0 ≡ p

events-keep : (p : PlainPartition) (low high : ℕ) (subs : List (SubName × Subscription)) → KeepsDry p (pull_events p low high subs)
unfolding pull_events
events-keep p low high subs = cond_both (nat_lt p.limits.subs (length subs)) (p, reply.TooMany) _ (KeepsDry p) (λ _ e. refl) (λ _ e. cc)

count-keeps : (p : PlainPartition) (blocks count : ℕ) → KeepsDry p (pull_count p blocks count)
unfolding pull_count
count-keeps p blocks count = cond_both (count == 0) (p, _) _ (KeepsDry p) (λ _ e. refl) (λ _. events-keep p _ _ _)

pull-keeps : (p : PlainPartition) (generation most : ℕ) → KeepsDry p (pull p generation most)
unfolding pull pull_want
pull-keeps p generation most =
    cond_both (is_stale p generation) (p, _) _ (KeepsDry p) (λ _ e. refl) (λ _. cond_both (p.high == length p.log) (p, reply.Dry) _ (KeepsDry p) (λ _ e. refl) (λ _. count-keeps p _ _))

-- a call that found nothing has changed nothing
keeps : (p : PlainPartition) (o : Op) → found_nothing o (replied p o) ≡ true → after p o ≡ p
unfolding step
keeps p (op.Pull generation most) e = pull-keeps p generation most e
keeps p (op.Ready grain) e = refl
keeps p (op.Due sub) e = refl
keeps p op.Quiet e = refl
keeps p o e = cc

-- these calls are legal, and leave that
abbrev Leaves : PlainPartition → List (Entry Op Reply) → PlainPartition → Type 0
Leaves p es left = IsLegal replied after p es × (replay replied after p es ≡ left)

-- where it wasn't made, the calls behind it are legal, and leave the same
module _ (p : PlainPartition) (e : Entry Op Reply) (es : List (Entry Op Reply)) (told : e.reply ≡ replied p e.op) where
  same : true ≡ found_nothing e.op e.reply → after p e.op ≡ p
  same idle = keeps p e.op (ap (found_nothing e.op) (sym told) ∙ sym idle)

  leaves-with : (idle : Bool) → idle ≡ found_nothing e.op e.reply → (left : PlainPartition) → Leaves (after p e.op) (busy es) left → Leaves p (if not idle then e ∷ busy es else busy es) left
  leaves-with true is left leaves = subst (λ (s : PlainPartition). Leaves s (busy es) left) (same is) leaves
  leaves-with false is left leaves = ((told, leaves.0), leaves.1)

leaves-busy : (p : PlainPartition) (history : List (Entry Op Reply)) → IsLegal replied after p history → Leaves p (busy history) (replay replied after p history)
leaves-busy p [] legal = (tt, refl)
leaves-busy p (e ∷ es) legal = leaves-with p e es legal.0 (found_nothing e.op e.reply) refl (replay replied after (after p e.op) es) (leaves-busy (after p e.op) es legal.1)

-- the texts of the others stand one behind another
texts-with : (queue : ℕ) (e : Entry Op Reply) (es : List (Entry Op Reply)) (idle : Bool) → (text : List ℕ) → text ≡ flat_map (entry_text calls.All queue) (busy es)
    → (if not idle then call_text queue e.op e.reply else []) ++ text ≡ flat_map (entry_text calls.All queue) (if not idle then e ∷ busy es else busy es)
texts-with queue e es true text is = is
texts-with queue e es false text is = ap (λ (t : List ℕ). call_text queue e.op e.reply ++ t) is

texts-busy : (queue : ℕ) (history : List (Entry Op Reply)) → flat_map (entry_text calls.Busy queue) history ≡ flat_map (entry_text calls.All queue) (busy history)
texts-busy queue [] = refl
texts-busy queue (e ∷ es) = texts-with queue e es (found_nothing e.op e.reply) (flat_map (entry_text calls.Busy queue) es) (texts-busy queue es)

pub busy_calls_are_legal : BusyCallsAreLegal
busy_calls_are_legal p history legal =
    let leaves = leaves-busy p history legal in
    record {
      legal = leaves.0;
      leaves = leaves.1;
      text = λ queue. ap (λ (t : List ℕ). heading queue ++ t) (texts-busy queue history);
    }
