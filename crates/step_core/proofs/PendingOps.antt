-- What is left to do, by the numbers of grains and of records.
use Rattle.step_core.proofs.Prelude.{PlainActivation, PlainGrains, Registration, activation_at, ◌≡◌, ◌∙◌, ap, sym, refl, ℕ, zero, suc, ◌+◌, ◌<◌, ◌≤◌, Bool, true, false, ◌&&◌, List, [], ◌∷◌, length, map, take, Some, None, arith, length-append, length-map, take_all, flat_map, if◌then◌else◌, is_some, GrainId, SubName, all_waiting, next_position, Grain, PlainPartition, Subscription}
use Rattle.step_core.specs.Deliverables.{is_deliverable, next_of}
use Rattle.step_core.specs.declared.parts.Parts.{Parts}
use Rattle.step_core.specs.PlainOf.{plain_of}
use Rattle.step_core.specs.View.{delivery_of, grains_of}

-- ---- what can be delivered

pub next-open : (p : PlainPartition) (r : Subscription) (position : ℕ) → next_of p r ≡ Some position → (r.is_open ≡ true) × (next_position p r ≡ Some position)
next-open p r position = by r.is_open
  where
    by : (b : Bool) → (if b then next_position p r else None) ≡ Some position → (b ≡ true) × (next_position p r ≡ Some position)
    by true is = (refl, is)
    by false is = absurd (cc)

pub deliverable-is : (p : PlainPartition) (r : Subscription) → is_deliverable p r ≡ is_some (next_of p r)
deliverable-is p r = by r.is_open
  where
    by : (b : Bool) → (b && is_some (next_position p r)) ≡ is_some (if b then next_position p r else None)
    by true = refl
    by false = refl

-- ---- how much waits

-- for the first grains together
abbrev pub waits_before : PlainGrains → ℕ → ℕ
waits_before grains n = length (flat_map (λ (entry : GrainId × PlainActivation). entry.1.mailbox) (take n grains))

pub waits-more : (grains : PlainGrains) (n : ℕ) → n < length grains → waits_before grains (suc n) ≡ waits_before grains n + length (activation_at grains n).mailbox
waits-more [] n within = absurd (omega (arith, within))
waits-more (entry ∷ grains) zero within = length-append entry.1.mailbox [] ∙ omega arith
waits-more (entry ∷ grains) (suc n) within =
    length-append entry.1.mailbox (flat_map (λ (entry : GrainId × PlainActivation). entry.1.mailbox) (take (suc n) grains))
    ∙ ap (λ m. length entry.1.mailbox + m) (waits-more grains n (omega (arith, within)))
    ∙ omega (arith, length-append entry.1.mailbox (flat_map (λ (entry : GrainId × PlainActivation). entry.1.mailbox) (take n grains)))

waits-view : (names : List (SubName × Registration)) (grains : PlainGrains) → length (flat_map (λ (entry : GrainId × Grain). entry.1.mailbox) (grains_of names grains)) ≡ length (flat_map (λ (entry : GrainId × PlainActivation). entry.1.mailbox) grains)
waits-view names [] = refl
waits-view names (entry ∷ grains) =
    length-append (map (delivery_of names) entry.1.mailbox) (flat_map (λ (entry : GrainId × Grain). entry.1.mailbox) (grains_of names grains))
    ∙ ap (λ m. m + length (flat_map (λ (entry : GrainId × Grain). entry.1.mailbox) (grains_of names grains))) (length-map entry.1.mailbox (delivery_of names))
    ∙ ap (λ m. length entry.1.mailbox + m) (waits-view names grains)
    ∙ sym (length-append entry.1.mailbox (flat_map (λ (entry : GrainId × PlainActivation). entry.1.mailbox) grains))

-- for all of them
pub waits-all : (parts : Parts) (n : ℕ) → length parts.grains ≤ n → waits_before parts.grains n ≡ all_waiting (plain_of parts)
waits-all parts n all =
    ap (λ grains. length (flat_map (λ (entry : GrainId × PlainActivation). entry.1.mailbox) grains)) (take_all n parts.grains all)
    ∙ sym (waits-view parts.subs.registry.names parts.grains)
