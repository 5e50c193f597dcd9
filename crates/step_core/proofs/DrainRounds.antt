-- The phases of a round of a drain, and what a drain is where no turn runs.
use Rattle.step_core.proofs.Prelude.{◌≡◌, ◌∙◌, ap, sym, refl, subst, ℕ, ◌-◌, List, [], ◌∷◌, Option, Some, None, Ok, length, append_assoc, AllocError, grain_lt, keys_where, least, IsPrefixOf, GrainId, SubName, Astray, DrainsTo, commits, done, drain_end, drain_where, Entry, is_running, sub_at, IsReached, Leads, PlainPartition, Subscription, Err}
use Rattle.stream_model.specs.declared.drain_end.DrainEnd.{DrainEnd}
use Rattle.stream_model.specs.declared.drain_end.DrainEnd.TheVariants as ending
use Rattle.stream_model.specs.Draining as draining
use Rattle.stream_model.specs.Draining.{deliver_all, drain, drain_all, serve}
use Rattle.stream_laws.proofs.Drained.{drain-ends}
use Rattle.step_core.specs.DrainPhases.{BreaksOff, Ends}
use Rattle.step_core.specs.Serving.{serve_up_to}
use Rattle.step_core.proofs.DrainReplies.{rounds_up_to}

-- a subscription that has a record is delivered to from its cursor on
pub serve-known : (p : PlainPartition) (s : SubName) (r : Subscription) (most : ℕ) → sub_at p s ≡ Some r → most ≡ p.high - r.cursor → serve_up_to most s r.grain p ≡ serve s p (sub_at p s)
unfolding serve deliver_all
serve-known p s r most found is_most = ap (λ n. serve_up_to n s r.grain p) is_most ∙ ap (serve s p) (sym found)

pub drain_all-rounds : (p : PlainPartition) (n : ℕ) → n ≡ length p.log - p.high → rounds_up_to n p ≡ drain_all p
unfolding drain_all
drain_all-rounds p n is = ap (λ n. rounds_up_to n p) is

-- the least grain of which a turn runs
abbrev pub least_running : PlainPartition → Option GrainId
least_running p = least grain_lt (keys_where is_running p.grains)

pub drains-stuck : (p : PlainPartition) (g : GrainId) → Some g ≡ least_running p → DrainsTo p p (Ok (ending.Stuck g))
unfolding drain
drains-stuck p g runs =
    let Says : Option GrainId → Type 0 = λ running. (p ≡ (drain_where p running).0.now) × ((drain_where p running).1 ≡ Some (ending.Stuck g)) in
    subst Says runs (refl, refl)

pub drains-ended : (p new : PlainPartition) (stop : Option draining.Stop) (end : DrainEnd) → None ≡ least_running p → Ends p new (Some stop) (drain_all p) → drain_end stop (commits (drain_all p).entries) ≡ Some end → DrainsTo p new (Ok end)
unfolding drain
drains-ended p new stop end free ends is_end =
    let Says : Option GrainId → Type 0 = λ running. (new ≡ (drain_where p running).0.now) × ((drain_where p running).1 ≡ Some end) in
    subst Says free (ends.0, ap (λ stop. drain_end stop (commits (drain_all p).entries)) (sym ends.1) ∙ is_end)

pub drains-wanting : (p new : PlainPartition) (wanting : AllocError) → None ≡ least_running p → Ends p new None (drain_all p) → DrainsTo p new (Err wanting)
unfolding drain
drains-wanting p new wanting free ends =
    let Says : Option GrainId → Type 0 = λ running. (entries : List Entry) × IsPrefixOf entries (drain_where p running).0.entries × Leads p entries new in
    subst Says free (ends.done, (ends.failed ∷ ends.front.0, sym (append_assoc ends.done (ends.failed ∷ []) ends.front.0) ∙ ends.front.1), ends.leads)

pub drains-in-part : (p new : PlainPartition) → None ≡ least_running p → Ends p new None (drain_all p) → BreaksOff p new (drain p).0.entries
unfolding drain
drains-in-part p new free ends =
    let Says : Option GrainId → Type 0 = λ running. BreaksOff p new (drain_where p running).0.entries in subst Says free ends

astray-none : (p new : PlainPartition) → None ≡ least_running p → Ends p new (Some (Some Astray)) (drain_all p) → (drain p).1 ≡ None
unfolding drain
astray-none p new free ends =
    let Says : Option GrainId → Type 0 = λ running. (drain_where p running).1 ≡ None in
    subst Says free (ap (λ stop. drain_end stop (commits (drain_all p).entries)) (sym ends.1))

-- no drain of a partition that a legal history leads to goes astray
pub never-astray : (p new : PlainPartition) → IsReached p → None ≡ least_running p → Ends p new (Some (Some Astray)) (drain_all p) → ⊥
never-astray p new reached free ends = drain-ends reached.blocks reached.limits reached.history p reached.some_blocks reached.stands (astray-none p new free ends)
