-- Registries that are sound after a change of the subscriptions.
use Rattle.pubsub_registry.proofs.Prelude.{◌≡◌, ◌∙◌, ℕ, suc, ◌+◌, ◌^◌, ◌≤◌, ◌<◌, Bool, true, false, ◌||◌, nat_le, if◌then◌else◌, [], ◌∷◌, ◌++◌, length, take, drop, Some, None, refl, sym, ap, subst, arith, Contains, length-append, length-take, leb-false, map-append, take-append-drop, Contains-append_left, Contains-push_cases, take-map, false_from_ne_true, same_sub-equal, ⊎_elim, same_sub, changed_value, value_at, StreamId, SubName}
use Rattle.std.proofs.lemmas.List.Elements.{recursion_from_All}
use Rattle.std.proofs.lemmas.Map.{lookup-none}
use Rattle.stream_ident.specs.declared.ident.SubName.TheVariants as name
use Rattle.pubsub_registry.specs.Index.{streams_of}
use Rattle.pubsub_registry.specs.Registry.{PlainRegistry, is_full, next_number, closed_registration}
use Rattle.pubsub_registry.specs.Sound.{IsSound}
use Rattle.pubsub_registry.specs.declared.registration.Registration.{Registration}
use Rattle.pubsub_registry.proofs.Elements.{All-known, Contains-map}
use Rattle.pubsub_registry.proofs.Entries.{Names, map-closed, length-closed}

-- a name with its stream
abbrev stream_of : SubName × Registration → SubName × StreamId
stream_of entry = (entry.0, entry.1.stream)

-- each explicit number is at most this one
abbrev pub IsNumbered : Names → ℕ → Type 0
IsNumbered names most = (number : ℕ) (stream : StreamId) → Contains (streams_of names) (name.Explicit number, stream) → number ≤ most

-- a greater number was not given
pub new-number : (r : PlainRegistry) → IsSound r → (number : ℕ) → r.explicit < number → value_at same_sub (name.Explicit number) r.names ≡ None
new-number r sound number greater =
    lookup-none (same_sub s) r.names (recursion_from_All (λ (entry : SubName × Registration). same_sub s entry.0 ≡ false) r.names (All-known (λ (entry : SubName × Registration). same_sub s entry.0 ≡ false) r.names apart))
  where
    s : SubName
    s = name.Explicit number

    apart : (entry : SubName × Registration) → Contains r.names entry → same_sub s entry.0 ≡ false
    apart entry there = false_from_ne_true (same_sub s entry.0) (λ same.
        let own = subst (λ s. Contains (streams_of r.names) (s, entry.1.stream)) (sym (same_sub-equal s entry.0 same)) (Contains-map stream_of r.names entry there) in
        let fits : number ≤ r.explicit = sound.numbered number entry.1.stream own in
        omega arith)

-- a number is given where there is room, and is one more than the last
pub given-number : (r : PlainRegistry) (number : ℕ) → next_number r ≡ Some number → (is_full r ≡ false) × (number ≡ suc r.explicit)
given-number r number = by (is_full r) (nat_le (2 ^ 32) (suc r.explicit)) refl
  where
    by : (full late : Bool) → is_full r ≡ full → (if full || late then None else Some (suc r.explicit)) ≡ Some number → (is_full r ≡ false) × (number ≡ suc r.explicit)
    by true late is given = absurd (cc)
    by false true is given = absurd (cc)
    by false false is given = (is, cc)

pub numbered-push : (names : Names) (s : SubName) (registration : Registration) (most more : ℕ) → IsNumbered names most → most ≤ more
    → ((number : ℕ) → s ≡ name.Explicit number → number ≤ more) → IsNumbered (names ++ (s, registration) ∷ []) more
numbered-push names s registration most more numbered rises own number stream there =
    ⊎_elim (λ (before : Contains (streams_of names) (name.Explicit number, stream)). let within = numbered number stream before in omega (arith, within))
    (λ (same : ◌≡◌ {A = SubName × StreamId} (s, registration.stream) (name.Explicit number, stream)). own number (ap (λ (p : SubName × StreamId). p.0) same))
    (Contains-push_cases (streams_of names) (s, registration.stream) (name.Explicit number, stream) (subst (λ streams. Contains streams (name.Explicit number, stream)) (map-append stream_of names ((s, registration) ∷ [])) there))

module _ (r : PlainRegistry) (sound : IsSound r) where
  -- with other names
  pub sound-with : (names : Names) (explicit : ℕ) → length names ≤ r.most_names → IsNumbered names explicit → IsSound (record r { names = names; explicit = explicit })
  sound-with names explicit fits numbered = record { names_fit = fits; few_names = sound.few_names; rules_fit = sound.rules_fit; few_rules = sound.few_rules; numbered = numbered }

  -- one more subscription
  pub sound-push : is_full r ≡ false → (names : Names) (explicit : ℕ) (s : SubName) (registration : Registration) → names ≡ r.names ++ (s, registration) ∷ [] → r.explicit ≤ explicit
      → ((number : ℕ) → s ≡ name.Explicit number → number ≤ explicit) → IsSound (record r { names = names; explicit = explicit })
  sound-push room names explicit s registration is rises own =
      let below : length r.names < r.most_names = leb-false _ _ room in
      let more : length names ≡ length r.names + 1 = ap length is ∙ length-append r.names ((s, registration) ∷ []) in
      sound-with names explicit (omega (arith, more)) (subst (λ names. IsNumbered names explicit) (sym is) (numbered-push r.names s registration r.explicit explicit sound.numbered rises own))

  -- one is closed
  pub sound-closed : (names : Names) (s : SubName) → names ≡ changed_value same_sub s closed_registration r.names → IsSound (record r { names = names })
  sound-closed names s is =
      let same = ap length is ∙ length-closed r.names s in
      let fits = sound.names_fit in
      sound-with names r.explicit (omega (arith, same)) (λ number stream there.
      sound.numbered number stream (subst (λ streams. Contains streams (name.Explicit number, stream)) (ap streams_of is ∙ map-closed stream_of (λ _. refl) r.names s) there))

  -- the last ones are taken back
  pub sound-take : (names : Names) (len : ℕ) → names ≡ take len r.names → IsSound (record r { names = names })
  sound-take names len is =
      let same = ap length is in
      let fits = sound.names_fit in
      let streams = ap streams_of is ∙ sym (take-map stream_of len r.names) in
      sound-with names r.explicit (omega (arith, same, length-take len r.names)) (λ number stream there.
      sound.numbered number stream (subst (λ streams. Contains streams (name.Explicit number, stream)) (take-append-drop len (streams_of r.names))
      (Contains-append_left (take len (streams_of r.names)) (drop len (streams_of r.names)) (name.Explicit number, stream) (subst (λ streams. Contains streams (name.Explicit number, stream)) streams there))))
