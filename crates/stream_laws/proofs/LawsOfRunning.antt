-- The law that one turn of a grain runs at a time, from the steps of a history.
use Rattle.stream_laws.proofs.Prelude.{◌≡◌, ℕ, false, List, [], ◌∷◌, ◌++◌, Some, None, sym, ap, subst, ◌∙◌, or_parts, true_from_ne_false, list_any, GrainId, empty, grain_at, Leads, PlainPartition}
use Rattle.stream_model.specs.History.{Entry}
use Rattle.stream_model.specs.Step.{step}
use Rattle.stream_laws.specs.Laws.{OneTurnAtATime, begins, ends}
use Rattle.stream_laws.proofs.Legal.{leads-split}
use Rattle.stream_laws.proofs.RunningSteps.{Runs, begun-step, goes-step, turn_of}

-- while no entry ends it, a turn runs
runs-along : (grain : GrainId) (turn : ℕ) (p : PlainPartition) (entries : List Entry) (q : PlainPartition) → Leads p entries q → Runs grain turn p → list_any (λ e. ends grain turn e.op e.reply) entries ≡ false → Runs grain turn q
runs-along grain turn p [] q leads runs none = subst (Runs grain turn) (sym leads) runs
runs-along grain turn p (e ∷ entries) q leads runs none =
    let parts = or_parts (ends grain turn e.op e.reply) (list_any (λ e. ends grain turn e.op e.reply) entries) none in
    runs-along grain turn (step p e.op).0 entries q leads.1 (goes-step grain turn p e.op runs (ap (λ reply. ends grain turn e.op reply) leads.0 ∙ parts.0)) parts.1

pub one-turn : OneTurnAtATime
one-turn blocks limits before first between second later p stands grain turn next is_first is_second =
    let till_first = leads-split (empty blocks limits) before (first ∷ (between ++ second ∷ later)) p stands in
    let from_first = till_first.2 in
    let begun = begun-step grain turn till_first.0 first.op (ap (λ reply. begins grain turn first.op reply) from_first.0 ∙ is_first) in
    let till_second = leads-split (step till_first.0 first.op).0 between (second ∷ later) p from_first.1 in
    let again = begun-step grain next till_second.0 second.op (ap (λ reply. begins grain next second.op reply) till_second.2.0 ∙ is_second) in
    true_from_ne_false _ (λ none.
    let runs : turn_of (grain_at till_second.0 grain).running ≡ Some turn = runs-along grain turn (step till_first.0 first.op).0 between till_second.0 till_second.1 begun.1 none in
    let idle : turn_of (grain_at till_second.0 grain).running ≡ None = ap turn_of again.0 in cc)
