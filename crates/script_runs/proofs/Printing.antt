-- The calls of a history, done once more and printed.
use Rattle.script_runs.proofs.Prelude.{after, replied, ◌≡◌, ℕ, zero, suc, ◌+◌, ◌<◌, List, [], ◌∷◌, ◌++◌, length, get_or, take, drop, add-one, sym, ap, ◌∙◌, subst, arith, append_assoc, append-nil, flat_map, Reply, Op, PlainPartition, IsLegal, entry, answered, Entry}
use Rattle.std.proofs.Math.Seq.{take-length}
use Rattle.std.proofs.lemmas.Grind.{flat_map-append}
use Rattle.turnstile.specs.declared.asked.Asked.{Asked}
use Rattle.turnstile.proofs.Answering.{length-answered}
use Rattle.script_runs.specs.declared.traces.trace.Calls.{Calls}
use Rattle.script_runs.specs.Traces.{entry_text, shown_text, traces_from}

-- the first k calls of a history were printed, and the others are legal for the partition as it is then
pub record Printed (which : Calls) (queue : ℕ) (front : List ℕ) (es : List (Entry Op Reply)) (k : ℕ) (text : List ℕ) (p : PlainPartition) : Type 0 where
  pub text_is : text ≡ front ++ flat_map (entry_text which queue) (take k es)
  pub legal : IsLegal replied after p (drop k es)

-- the entry at a place, with its reply
at-place : (qs : List (Asked Op)) (rs : List Reply) (k : ℕ) (a : Asked Op) → length qs ≡ length rs → k < length qs → a ≡ get_or qs k a
    → (r : Reply) × (drop k (answered qs rs) ≡ entry a.number a.op r ∷ drop (suc k) (answered qs rs)) × (take (suc k) (answered qs rs) ≡ take k (answered qs rs) ++ entry a.number a.op r ∷ [])
at-place [] rs k a same inside is = absurd (omega (arith, inside))
at-place (x ∷ qs) [] k a same inside is = absurd (omega (arith, same))
at-place (x ∷ qs) (r ∷ rs) zero a same inside is =
    let first = ap (λ (z : Asked Op). entry z.number z.op r) (sym is) in
    (r, ap (λ (e : Entry Op Reply). e ∷ answered qs rs) first, ap (λ (e : Entry Op Reply). e ∷ []) first)
at-place (x ∷ qs) (r ∷ rs) (suc k) a same inside is =
    let later = at-place qs rs k a (omega (arith, same)) (omega (arith, inside)) is in
    (later.0, later.1, ap (λ (es : List (Entry Op Reply)). entry x.number x.op r ∷ es) later.2)

-- one call more
pub printed-next : (which : Calls) (queue : ℕ) (front : List ℕ) (qs : List (Asked Op)) (rs : List Reply) (k : ℕ) (a : Asked Op) (text new : List ℕ) (p q : PlainPartition) (told : Reply) → length qs ≡ length rs → k < length qs → a ≡ get_or qs k a
    → Printed which queue front (answered qs rs) k text p → q ≡ after p a.op → told ≡ replied p a.op → new ≡ text ++ shown_text which queue a.op told
    → Printed which queue front (answered qs rs) (k + 1) new q
printed-next which queue front qs rs k a text new p q told same inside is so_far left answers pushed =
    let es = answered qs rs in
    let here = at-place qs rs k a same inside is in
    let e : Entry Op Reply = entry a.number a.op here.0 in
    let legal : IsLegal replied after p (e ∷ drop (suc k) es) = subst (λ (l : List (Entry Op Reply)). IsLegal replied after p l) here.1 so_far.legal in
    let right : told ≡ here.0 = answers ∙ sym legal.0 in
    let shown : new ≡ text ++ entry_text which queue e = pushed ∙ ap (λ (r : Reply). text ++ shown_text which queue a.op r) right in
    let more : flat_map (entry_text which queue) (take (suc k) es) ≡ flat_map (entry_text which queue) (take k es) ++ entry_text which queue e =
    ap (flat_map (entry_text which queue)) here.2 ∙ flat_map-append (entry_text which queue) (take k es) (e ∷ []) ∙ ap (λ (l : List ℕ). flat_map (entry_text which queue) (take k es) ++ l) (append-nil (entry_text which queue e)) in
    let whole : new ≡ front ++ flat_map (entry_text which queue) (take (suc k) es) =
    shown ∙ ap (λ (l : List ℕ). l ++ entry_text which queue e) so_far.text_is ∙ append_assoc front (flat_map (entry_text which queue) (take k es)) (entry_text which queue e) ∙ ap (λ (l : List ℕ). front ++ l) (sym more) in
    subst (λ (n : ℕ). Printed which queue front es n new q) (sym (add-one k)) record {
      text_is = whole;
      legal = subst (λ (s : PlainPartition). IsLegal replied after s (drop (suc k) es)) (sym left) legal.1;
    }

-- all are printed
pub printed-all : (which : Calls) (queue : ℕ) (front : List ℕ) (qs : List (Asked Op)) (rs : List Reply) (k : ℕ) (text : List ℕ) (p : PlainPartition) → length qs ≡ length rs → k ≡ length qs → Printed which queue front (answered qs rs) k text p
    → text ≡ front ++ flat_map (entry_text which queue) (answered qs rs)
printed-all which queue front qs rs k text p same all so_far =
    so_far.text_is ∙ ap (λ (es : List (Entry Op Reply)). front ++ flat_map (entry_text which queue) es)
    (ap (λ (n : ℕ). take n (answered qs rs)) (all ∙ sym (length-answered qs rs same)) ∙ take-length (answered qs rs))

-- the history of one queue more
pub traces-next : (text : ℕ → List (Entry Op Reply) → List ℕ) (queue : ℕ) (histories : List (List (Entry Op Reply))) (k : ℕ) (d : List (Entry Op Reply)) → k < length histories
    → traces_from text queue (take (suc k) histories) ≡ traces_from text queue (take k histories) ++ text (queue + k) (get_or histories k d)
traces-next text queue [] k d less = absurd (omega (arith, less))
traces-next text queue (h ∷ hs) zero d less = append-nil (text queue h) ∙ ap (λ (q : ℕ). text q h) (omega arith)
traces-next text queue (h ∷ hs) (suc k) d less =
    ap (λ (t : List ℕ). text queue h ++ t) (traces-next text (suc queue) hs k d (omega (arith, less)))
    ∙ sym (append_assoc (text queue h) (traces_from text (suc queue) (take k hs)) (text (suc queue + k) (get_or hs k d)))
    ∙ ap (λ (q : ℕ). (text queue h ++ traces_from text (suc queue) (take k hs)) ++ text q (get_or hs k d)) (omega arith)
