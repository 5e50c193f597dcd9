-- What an operation keeps of the records: who was subscribed to what, and the rules.
use Rattle.script_runs.proofs.Prelude.{◌≡◌, ◌∙◌, ap, sym, refl, ℕ, ◌+◌, ◌==◌, ◌&&◌, ◌||◌, not, nat_lt, false, List, length, map, Option, Some, None, cond_both, same_grain, same_sub, GrainId, StreamId, SubName, BATCH_EVENTS, Token, grain_at, is_spent, sub_at, is_stale, rewound, rewound_where, Reply, PlainPartition, Subscription}
use Rattle.std.proofs.lemmas.Simd.{map-map}
use Rattle.stream_ident.specs.declared.ident.SubName.TheVariants as name
use Rattle.stream_model.specs.Publishing.{publish, unsubscribe_from}
use Rattle.stream_model.specs.Pulling.{move, move_to, purge, purge_to, retry, retry_of}
use Rattle.stream_model.specs.Turns.{deactivate, deactivate_in}
use Rattle.step_core.proofs.KeptNames.{Face, StayIn, face}
use Rattle.step_core.proofs.OnceOps.{with_value-map}

-- who is subscribed to what, from when on
pub record Registration : Type 0 where
  pub name : SubName
  pub stream : StreamId
  pub grain : GrainId
  pub start : Token

abbrev registration_of : Face → Registration
registration_of f = record { name = f.name; stream = f.stream; grain = f.grain; start = f.start }

abbrev pub registered : SubName × Subscription → Registration
registered entry = record { name = entry.0; stream = entry.1.stream; grain = entry.1.grain; start = entry.1.start }

abbrev pub registrations : List (SubName × Subscription) → List Registration
registrations subs = map registered subs

-- an operation leaves the registrations, the rules and the last number as they were
abbrev pub Keeps : PlainPartition → PlainPartition × Reply → Type 0
Keeps p out = (registrations out.0.subs ≡ registrations p.subs) × (out.0.rules ≡ p.rules) × (out.0.explicit ≡ p.explicit)

-- where the faces stay, so do the registrations
pub keeps-faces : (p : PlainPartition) (out : PlainPartition × Reply) → StayIn p out → Keeps p out
keeps-faces p out stay =
    (sym (map-map registration_of face out.0.subs) ∙ ap (map registration_of) stay.0 ∙ map-map registration_of face p.subs, stay.1, stay.2)

pub keeps-publish : (p : PlainPartition) (stream : StreamId) (payloads : List (List ℕ)) → Keeps p (publish p stream payloads)
unfolding publish
keeps-publish p stream payloads =
    cond_both ((length payloads == 0) || nat_lt BATCH_EVENTS (length payloads)) _ _ (Keeps p) (λ _. (refl, refl, refl))
    (λ _. cond_both (nat_lt p.limits.events (length p.log + length payloads)) _ _ (Keeps p) (λ _. (refl, refl, refl)) (λ _. (refl, refl, refl)))

pub keeps-unsubscribe_from : (p : PlainPartition) (s : SubName) (found : Option Subscription) → sub_at p s ≡ found → Keeps p (unsubscribe_from p s found)
unfolding unsubscribe_from
keeps-unsubscribe_from p (name.Explicit number) None is = (refl, refl, refl)
keeps-unsubscribe_from p (name.Implicit kind stream) None is = (refl, refl, refl)
keeps-unsubscribe_from p (name.Implicit kind stream) (Some r) is = (refl, refl, refl)
keeps-unsubscribe_from p (name.Explicit number) (Some r) is =
    cond_both (not r.is_open) _ _ (Keeps p) (λ _. (refl, refl, refl))
    (λ _. (with_value-map registered same_sub (name.Explicit number) r (record r { is_open = false }) p.subs is (λ k. refl), refl, refl))

keeps-retry_of : (p : PlainPartition) (s : SubName) (found : Option Subscription) → sub_at p s ≡ found → Keeps p (retry_of p s found)
unfolding retry_of
keeps-retry_of p s None is = (refl, refl, refl)
keeps-retry_of p s (Some r) is =
    cond_both (not r.is_open) _ _ (Keeps p) (λ _. (refl, refl, refl)) (λ _. (with_value-map registered same_sub s r (rewound r) p.subs is (λ k. refl), refl, refl))

pub keeps-retry : (p : PlainPartition) (generation : ℕ) (s : SubName) → Keeps p (retry p generation s)
unfolding retry
keeps-retry p generation s = cond_both (is_stale p generation) _ _ (Keeps p) (λ _. (refl, refl, refl)) (λ _. keeps-retry_of p s (sub_at p s) refl)

pub keeps-purge : (p : PlainPartition) (generation keep : ℕ) → Keeps p (purge p generation keep)
unfolding purge purge_to
keeps-purge p generation keep = cond_both (is_stale p generation) _ _ (Keeps p) (λ _. (refl, refl, refl)) (λ _. (refl, refl, refl))

pub keeps-move : (p : PlainPartition) (silo : ℕ) → Keeps p (move p silo)
unfolding move move_to
keeps-move p silo =
    cond_both (is_spent p) _ _ (Keeps p) (λ _. (refl, refl, refl))
    (λ _. (map-map registered (λ (entry : SubName × Subscription). (entry.0, rewound_where entry.1.is_open entry.1)) p.subs, refl, refl))

pub keeps-deactivate : (p : PlainPartition) (g : GrainId) → Keeps p (deactivate p g)
unfolding deactivate deactivate_in
keeps-deactivate p g =
    let st = grain_at p g in
    cond_both (not st.active) _ _ (Keeps p) (λ _. (refl, refl, refl))
    (λ _. (map-map registered (λ (entry : SubName × Subscription). (entry.0, rewound_where (same_grain g entry.1.grain && entry.1.is_open) entry.1)) p.subs, refl, refl))
