-- Tags beside events.
use Rattle.std.proofs.Common.{◌≡◌, ◌∙◌, ap, sym, ℕ, ◌+◌, ◌<◌, List, [], ◌∷◌, ◌++◌, length, take, set, arith, length-append}
use Rattle.std.proofs.lemmas.List.{map-append, take_more_set}
use Rattle.stream_ident.specs.declared.event.Event.{Event}
use Rattle.queue_mapper.specs.Place.{tag_of, tags_of}

-- a row with one more tag behind those that it had
pub tags_with : (events : List Event) (event : Event) (row : List ℕ) (len tag : ℕ) → len ≡ length events → len < length row → tag ≡ tag_of event.stream → take (length events) row ≡ tags_of events
    → take (length (events ++ event ∷ [])) (set row len tag) ≡ tags_of (events ++ event ∷ [])
tags_with events event row len tag counted within is was =
    ap (λ n. take n (set row len tag)) {y = len + 1} (omega (arith, counted, length-append events (event ∷ [])))
    ∙ (take_more_set row len tag within
    ∙ (ap (λ n. take n row ++ tag ∷ []) counted
    ∙ ((λ i. was i ++ is i ∷ [])
    ∙ sym (map-append (λ (event : Event). tag_of event.stream) events (event ∷ [])))))
