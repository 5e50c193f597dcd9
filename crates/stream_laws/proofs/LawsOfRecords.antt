-- The laws on the names, the records and the cache of a partition, from what holds of a legal history.
use Rattle.stream_laws.proofs.Prelude.{◌≡◌, ◌≢◌, ℕ, suc, ◌≤◌, Bool, true, false, ◌||◌, not, ◌==◌, nat_le, List, [], ◌∷◌, length, reverse, All, AllPairs, Option, Some, None, is_some, if◌then◌else◌, refl, sym, ap, subst, ◌∙◌, arith, both_ways, cond_both, or_right, All-cons, All-nil, AllPairs-cons, list_any, IsEquality, grain_equality, sub_equality, none_from_is_some, batch_token, same_grain, same_sub, token_lt, value_at, GrainId, StreamId, Explicit, Token, Binding, Entry, binding_after, binding_of, owed_of, low_token, lower_bound, sub_at, Reply, Op, AddRule, Subscribe, Start, At, Latest, PlainPartition, Subscription, RuleAdded, Subscribed}
use Rattle.std.proofs.Math.Bool.{not-not}
use Rattle.std.proofs.lemmas.List.Sorted.{IsPermutation-reverse, list_any-IsPermutation}
use Rattle.stream_model.specs.Publishing.{subscribe, subscribe_at}
use Rattle.stream_model.specs.Step.{step}
use Rattle.stream_laws.specs.Laws.{CacheInBounds, NamesDiffer, NumbersAreNew, RecordsAreOpen, UnknownHasNoRecord, gives, is_given}
use Rattle.stream_laws.proofs.Invariant.{Fits}
use Rattle.stream_laws.proofs.Legal.{StepsKeep, fits-stands, reaches-stands}
use Rattle.stream_laws.proofs.Summary.{Summary, summary}
use Rattle.stream_laws.proofs.Unique.{AreUnique}
use Rattle.stream_laws.proofs.UniqueSteps.{steady-legal}

pub cache_in_bounds-from : StepsKeep → CacheInBounds
cache_in_bounds-from keep blocks limits history p stands =
    let log = (fits-stands keep blocks limits history p stands).log in
    let steady = steady-legal blocks limits history p stands in
    (log.low_high, subst (λ events. p.high ≤ length events) log.log log.high_end, omega (arith, steady.size, steady.blocks))

pub records_are_open-from : StepsKeep → RecordsAreOpen
records_are_open-from keep blocks limits history p stands s r found =
    let fit = (fits-stands keep blocks limits history p stands).subs s r found in
    (sym (ap not fit.closed ∙ not-not r.is_open), sym fit.note)

-- a key that isn't there is none of the keys
absent-differs : {K V : Type 0} (same : K → K → Bool) → IsEquality same → (k : K) (entries : List (K × V)) → value_at same k entries ≡ None → All (λ (other : K × V). k ≢ other.0) entries
absent-differs {K} {V} same is k [] none = All-nil (λ (other : K × V). k ≢ other.0)
absent-differs {K} {V} same is k (entry ∷ entries) none =
    (elim (same k entry.0) as (λ b. (if b then Some entry.1 else value_at same k entries) ≡ None → same k entry.0 ≡ b → All (λ (other : K × V). k ≢ other.0) (entry ∷ entries)) [
      | true ↦ λ none here. absurd (cc)
      | false ↦ λ none there.
          All-cons (λ (other : K × V). k ≢ other.0) entry entries
          (λ equal. both_ways (same k entry.0) there (subst (λ x. same k x ≡ true) equal (is.reflexive k)))
          (absent-differs same is k entries none)
    ]) none refl

unique-differ : {K V : Type 0} (same : K → K → Bool) → IsEquality same → (entries : List (K × V)) → AreUnique same entries → AllPairs (λ (one other : K × V). one.0 ≢ other.0) entries
unique-differ same is [] unique = λ i j d less within. absurd (omega arith)
unique-differ {K} {V} same is (entry ∷ entries) unique =
    AllPairs-cons (λ (one other : K × V). one.0 ≢ other.0) entry entries
    (absent-differs same is entry.0 entries unique.0) (unique-differ same is entries unique.1)

pub names-differ : NamesDiffer
names-differ blocks limits history p stands =
    let steady = steady-legal blocks limits history p stands in
    (unique-differ same_sub sub_equality p.subs steady.subs, unique-differ same_grain grain_equality p.grains steady.grains)

-- ---- numbers that were given

-- an entry binds an explicit name where it gives its number
given-after : (number : ℕ) (old : Option Binding) (n : ℕ) (op : Op) (reply : Reply) → is_some (binding_after (Explicit number) old n op reply) ≡ (gives number op reply || is_some old)
given-after number None n (Subscribe stream grain start) (Subscribed given) =
    cond_both (number == given) _ None (λ (o : Option Binding). is_some o ≡ ((number == given) || false))
    (λ same. sym (ap (λ b. b || false) same)) (λ other. sym (ap (λ b. b || false) other))
given-after number (Some b) n (Subscribe stream grain start) (Subscribed given) = sym (or_right (number == given) true refl)
given-after number None n (AddRule kind namespace) (RuleAdded from) = refl
given-after number (Some b) n (AddRule kind namespace) (RuleAdded from) = refl
given-after number old n op reply = refl

-- a history binds an explicit name where it gave its number
given-bound : (number : ℕ) (entries : List Entry) → is_some (binding_of entries (Explicit number)) ≡ list_any (λ e. gives number e.op e.reply) entries
given-bound number [] = refl
given-bound number (e ∷ before) =
    given-after number (binding_of before (Explicit number)) _ e.op e.reply
    ∙ ap (λ b. gives number e.op e.reply || b) (given-bound number before)

-- told from its oldest entry on
given-told : (history : List Entry) (number : ℕ) → is_some (binding_of (reverse history) (Explicit number)) ≡ is_given history number
given-told history number =
    given-bound number (reverse history)
    ∙ sym (list_any-IsPermutation (λ e. gives number e.op e.reply) history (reverse history) (IsPermutation-reverse history))

-- an explicit name has a record where it is bound
record-bound : (t : Summary) (p : PlainPartition) (number : ℕ) → Fits t p → is_some (sub_at p (Explicit number)) ≡ is_some (t.binding (Explicit number))
record-bound t p number fits =
    (elim (sub_at p (Explicit number)) as (λ (o : Option Subscription). sub_at p (Explicit number) ≡ o → is_some o ≡ is_some (t.binding (Explicit number))) [
      | None ↦ λ none. ap is_some (sym (fits.names.unbound number none))
      | Some r ↦ λ found. ap is_some (sym (fits.subs (Explicit number) r found).binding)
    ]) refl

record-given : (history : List Entry) (p : PlainPartition) (number : ℕ) → Fits (summary (reverse history)) p → is_some (sub_at p (Explicit number)) ≡ is_given history number
record-given history p number fits = record-bound (summary (reverse history)) p number fits ∙ given-told history number

pub unknown_has_no_record-from : StepsKeep → UnknownHasNoRecord
unknown_has_no_record-from keep blocks limits history p stands number =
    let fits = fits-stands keep blocks limits history p stands in
    let t = summary (reverse history) in (
      record-given history p number fits,
      λ unknown.
          let none : sub_at p (Explicit number) ≡ None = none_from_is_some _ (record-given history p number fits ∙ unknown) in
          (ap (λ o. owed_of t.events o) (fits.names.unbound number none), (fits.unmade (Explicit number) none).handled),
    )

-- the number that a subscribe is answered with is the next
subscribed-next_at : (p : PlainPartition) (stream : StreamId) (grain : GrainId) (token : Token) (position number : ℕ) → (subscribe_at p stream grain token position).1 ≡ Subscribed number → number ≡ suc p.explicit
unfolding subscribe_at
subscribed-next_at p stream grain token position number =
    cond_both (nat_le p.limits.subs (length p.subs)) _ _ (λ (out : PlainPartition × Reply). out.1 ≡ Subscribed number → number ≡ suc p.explicit)
    (λ full told. absurd (cc)) (λ room told. cc)

subscribed-next : (p : PlainPartition) (stream : StreamId) (grain : GrainId) (start : Start) (number : ℕ) → (step p (Subscribe stream grain start)).1 ≡ Subscribed number → number ≡ suc p.explicit
unfolding step subscribe
subscribed-next p stream grain Latest number = subscribed-next_at p stream grain (batch_token p.batches) p.high number
subscribed-next p stream grain (At token) number =
    cond_both (token_lt token (low_token p)) _ _ (λ (out : PlainPartition × Reply). out.1 ≡ Subscribed number → number ≡ suc p.explicit)
    (λ below told. absurd (cc)) (λ kept. subscribed-next_at p stream grain token (lower_bound p token) number)

pub numbers_are_new-from : StepsKeep → NumbersAreNew
numbers_are_new-from keep blocks limits before e later q stands stream grain start number asked told =
    let reaches = reaches-stands keep blocks limits before (e ∷ later) q stands in
    let p = reaches.state in
    let next : number ≡ suc p.explicit
    = subscribed-next p stream grain start number (ap (λ op. (step p op).1) (sym asked) ∙ (reaches.leads.0 ∙ told)) in
    sym (record-given before p number reaches.fits) ∙ ap is_some (reaches.fits.names.unused number (omega (arith, next)))
