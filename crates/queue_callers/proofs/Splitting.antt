-- Passes that are split off one after another, and joined again.
use Rattle.queue_callers.proofs.Prelude.{AllZipFront, LineView, QueuePass, map, places, ◌≡◌, ℕ, ◌+◌, ◌<◌, ◌≤◌, inl, inr, true, false, if◌then◌else◌, List, [], ◌∷◌, ◌++◌, length, get_or, set, max, Some, refl, sym, ap, subst, ◌∙◌, arith, map-set_same, length_push, set-get_or, get_or_from_slice_get, AllByRecursion, AllZip, nat_lt, slice_get, slice_set, HasOnlyMade, HasOnlySeen, IsSplitOff, joined_pass, numbers_of, longer, PassView, Entry}
use Rattle.silo_loops.proofs.Fronts.{front-all, front-fits, front-last, front-push, front-set, front-weaker}
use Rattle.silo_operators.proofs.Rows.{zip-refl}
use Rattle.queue_callers.specs.Calls.{AreAlike, HasOnlyJoined, HasTakenBack, HaveTakenBack, IsUnused, Joins, JoinsAll, SplitsOff, TakesBack, joined_passes, turnstiles}

longer-same : {O R : Type 0} (xs : List (Entry O R)) → longer xs xs ≡ xs
longer-same xs = elim (nat_lt (length xs) (length xs)) as (λ b. (if b then xs else xs) ≡ xs) [ true ↦ refl | false ↦ refl ]

module _ {O R S : Type 0} where
  split-alike : (p q : PassView O R S) → IsSplitOff p q → AreAlike p q
  split-alike p q split = ap (λ (w : PassView O R S). w.turnstile) split.0

  pub split-unused : (p q : PassView O R S) → IsSplitOff p q → IsUnused q
  split-unused p q split = subst (λ (w : PassView O R S). IsUnused w) (sym split.0) (record { alone = refl; silent = split.2 })

  all-unused : (ps qs : List (PassView O R S)) → AllZip IsSplitOff ps qs → AllByRecursion IsUnused qs
  all-unused [] [] all = tt
  all-unused (p ∷ ps) (q ∷ qs) all = (split-unused p q all.0, all-unused ps qs all.1)
  all-unused _ _ all = absurd all

  -- passes at their turnstiles
  all-beside : (T : PassView O R S → PassView O R S → Type 0) → ((p q : PassView O R S) → T p q → AreAlike p q) → (ps qs : List (PassView O R S)) → AllZip T ps qs → turnstiles qs ≡ turnstiles ps
  all-beside T alike [] [] all = refl
  all-beside T alike (p ∷ ps) (q ∷ qs) all =
      ap (λ t. t ∷ turnstiles qs) (alike p q all.0) ∙ ap (λ ts. p.turnstile ∷ ts) (all-beside T alike ps qs all.1)
  all-beside T alike _ _ all = absurd all

  pub front-alike : (ps qs : List (PassView O R S)) → turnstiles qs ≡ turnstiles ps → AllZipFront AreAlike ps qs
  front-alike ps [] same = tt
  front-alike [] (q ∷ qs) same = absurd (cc)
  front-alike (p ∷ ps) (q ∷ qs) same =
      let rest : turnstiles qs ≡ turnstiles ps = cc in
      let first : q.turnstile ≡ p.turnstile = cc in
      (first, front-alike ps qs rest)

  -- the last one is joined first
  join-last : (ps rest : List (PassView O R S)) (d q w : PassView O R S) (rs : List (PassView O R S)) → length rest < length ps → Joins (get_or ps (length rest) d) q w → JoinsAll (set ps (length rest) w) rest rs → JoinsAll ps (rest ++ q ∷ []) rs
  join-last [] rest d q w rs less j all = absurd (omega arith)
  join-last (p ∷ ps) [] d q w rs less j same = subst (λ (es : List (PassView O R S)). JoinsAll (p ∷ ps) (q ∷ []) es) (sym same) (j, refl)
  join-last (p ∷ ps) (x ∷ rest) d q w [] less j all = absurd all
  join-last (p ∷ ps) (x ∷ rest) d q w (r ∷ rs) less j all = (all.0, join-last ps rest d q w rs (omega arith) j all.1)

  pub all-whole : (ps qs rs : List (PassView O R S)) → JoinsAll ps qs rs → rs ≡ joined_passes ps qs
  all-whole ps [] rs same = same
  all-whole (p ∷ ps) (q ∷ qs) (r ∷ rs) j =
      ap (λ (e : PassView O R S). e ∷ rs) j.0.whole ∙ ap (λ (es : List (PassView O R S)). joined_pass p q ∷ es) (all-whole ps qs rs j.1)
  all-whole _ (q ∷ qs) _ j = absurd j

  pub turnstiles-joined : (ps qs : List (PassView O R S)) → turnstiles (joined_passes ps qs) ≡ turnstiles ps
  turnstiles-joined ps [] = refl
  turnstiles-joined [] (q ∷ qs) = refl
  turnstiles-joined (p ∷ ps) (q ∷ qs) = ap (λ ts. p.turnstile ∷ ts) (turnstiles-joined ps qs)

  -- a pass of which only these two parts are others
  only-joined : (p q w : PassView O R S) → q ≡ w → w ≡ record p { joined = w.joined; made = w.made } → q ≡ record p { joined = q.joined; made = q.made }
  only-joined p q w is only = subst (λ (z : PassView O R S). z ≡ record p { joined = z.joined; made = z.made }) (sym is) only

  back-joined : (p q : PassView O R S) → HasTakenBack p q → HasOnlyJoined p q
  back-joined p q back =
      let r = back.other in
      let seen : longer p.seen r.seen ≡ p.seen = ap (λ (w : PassView O R S). longer p.seen w.seen) back.split.0 ∙ longer-same p.seen in
      let is : q ≡ record p { joined = p.joined ++ numbers_of r; made = max p.made r.made } =
      back.joined ∙ ap (λ (es : List (Entry O R)). record p { joined = p.joined ++ numbers_of r; made = max p.made r.made; seen = es }) seen in
      let made : q.made ≡ max p.made r.made = ap (λ (w : PassView O R S). w.made) is in
      (only-joined p q (record p { joined = p.joined ++ numbers_of r; made = max p.made r.made }) is refl, omega arith)

  back-each : (ps qs : List (PassView O R S)) → HaveTakenBack ps qs → AllZip HasOnlyJoined ps qs
  back-each [] qs back = subst (λ (ks : List (PassView O R S)). AllZip HasOnlyJoined [] ks) (sym back) tt
  back-each (p ∷ ps) [] back = absurd back
  back-each (p ∷ ps) (q ∷ qs) (inl made) = ((only-joined p q (record p { made = q.made }) made.0.0 refl, made.0.1), subst (λ (ks : List (PassView O R S)). AllZip HasOnlyJoined ps ks) (sym made.1) (zip-refl HasOnlyJoined (λ r. (refl, omega arith)) ps))
  back-each (p ∷ ps) (q ∷ qs) (inr some) = (back-joined p q some.0, back-each ps qs some.1)

  pub none-back : (ps : List (PassView O R S)) → HaveTakenBack ps ps
  none-back [] = refl
  none-back (p ∷ ps) = inl ((refl, omega arith), refl)

  -- one was refused a split, and what was split off before it is joined again
  pub some-back : (ps qs : List (PassView O R S)) (d k : PassView O R S) → length qs < length ps → AllZipFront IsSplitOff ps qs → HasOnlyMade (get_or ps (length qs) d) k → HaveTakenBack ps (joined_passes (set ps (length qs) k) qs)
  some-back [] qs d k less all made = absurd (omega arith)
  some-back (p ∷ ps) [] d k less all made = inl (made, refl)
  some-back (p ∷ ps) (q ∷ qs) d k less all made = inr (record { other = q; split = all.0; joined = refl }, some-back ps qs d k (omega arith) all.1 made)

module _ {O R S : Type 0} where
  -- a loop that joins each of the others to the one at its place, from the last one on
  pub join-next : (ps qs rest : List (PassView O R S)) (at : ℕ) (p q : PassView O R S) → qs ≡ rest ++ q ∷ [] → at ≡ length rest → AllZipFront AreAlike ps qs → (at < length ps) × (p ≡ get_or ps at p → AreAlike p q)
  join-next ps qs rest at p q is here all =
      let last = front-last AreAlike ps rest p q (subst (λ (es : List (PassView O R S)). AllZipFront AreAlike ps es) is all) in
      let less : length rest < length ps = last.0 in
      (omega arith, λ read. last.1 ∙ ap (λ (w : PassView O R S). w.turnstile) (ap (λ n. get_or ps n p) (sym here) ∙ sym read))

  -- what is then made of the rest is made of all
  pub join-more : (ps qs rest new : List (PassView O R S)) (at : ℕ) (p q w : PassView O R S) → qs ≡ rest ++ q ∷ [] → at ≡ length rest → AllZipFront AreAlike ps qs → p ≡ get_or ps at p → Joins p q w → new ≡ set ps at w
      → AllZipFront AreAlike new rest × ((rs : List (PassView O R S)) → JoinsAll new rest rs → JoinsAll ps qs rs)
  join-more ps qs rest new at p q w is here alike read joins put =
      let last = front-last AreAlike ps rest p q (subst (λ (es : List (PassView O R S)). AllZipFront AreAlike ps es) is alike) in
      let less : length rest < length ps = last.0 in
      let whole : new ≡ set ps (length rest) w = put ∙ ap (λ n. set ps n w) here in
      let one : p ≡ get_or ps (length rest) p = read ∙ ap (λ n. get_or ps n p) here in (
        subst (λ (es : List (PassView O R S)). AllZipFront AreAlike es rest) (sym whole) (front-set AreAlike ps rest w last.2),
        λ rs all.
            subst (λ (es : List (PassView O R S)). JoinsAll ps es rs) (sym is)
            (join-last ps rest p q w rs less (subst (λ (e : PassView O R S). Joins e q w) one joins) (subst (λ (es : List (PassView O R S)). JoinsAll es rest rs) whole all)),
      )

  -- a loop that splits each, from the first one on
  pub split-more : (old now fresh made more : List (PassView O R S)) (at : ℕ) (p q new : PassView O R S) → at < length old → now ≡ old → length made ≡ at → AllZipFront IsSplitOff old made → p ≡ get_or now at p → q ≡ p → fresh ≡ set now at q
      → IsSplitOff p new → more ≡ made ++ new ∷ [] → (fresh ≡ old) × (length more ≡ at + 1) × AllZipFront IsSplitOff old more
  split-more old now fresh made more at p q new within same here all read kept put split is = (
    put ∙ ap (λ (e : PassView O R S). set now at e) (kept ∙ read) ∙ set-get_or now at p ∙ same,
    ap (λ (es : List (PassView O R S)). length es) is ∙ length_push made new ∙ ap (λ n. n + 1) here,
    subst (λ (es : List (PassView O R S)). AllZipFront IsSplitOff old es) (sym is)
        (front-push IsSplitOff old made p new (omega arith) all
        (subst (λ (e : PassView O R S). IsSplitOff e new) (read ∙ ap (λ (es : List (PassView O R S)). get_or es at p) same ∙ ap (λ n. get_or old n p) (sym here)) split)),
  )

  -- where one is refused, what was split off is at the turnstiles of those before it
  pub refused-alike : (old now fresh made : List (PassView O R S)) (at : ℕ) (q : PassView O R S) → now ≡ old → length made ≡ at → AllZipFront IsSplitOff old made → fresh ≡ set now at q → AllZipFront AreAlike fresh made
  refused-alike old now fresh made at q same here all put =
      subst (λ (es : List (PassView O R S)). AllZipFront AreAlike es made) (sym (put ∙ ap (λ (es : List (PassView O R S)). set es at q) same ∙ ap (λ n. set old n q) (sym here)))
      (front-set AreAlike old made q (front-weaker IsSplitOff AreAlike split-alike old made all))

  pub refused-back : (old now fresh final made : List (PassView O R S)) (at : ℕ) (p q : PassView O R S) → at < length old → now ≡ old → length made ≡ at → AllZipFront IsSplitOff old made → p ≡ get_or now at p → HasOnlyMade p q → fresh ≡ set now at q
      → final ≡ joined_passes fresh made → HaveTakenBack old final
  refused-back old now fresh final made at p q within same here all read only put is =
      subst (λ (es : List (PassView O R S)). HaveTakenBack old es)
      (sym (is ∙ ap (λ (es : List (PassView O R S)). joined_passes es made) (put ∙ ap (λ (es : List (PassView O R S)). set es at q) same ∙ ap (λ n. set old n q) (sym here))))
      (some-back old made p q (omega arith) all
      (subst (λ (e : PassView O R S). HasOnlyMade e q) (read ∙ ap (λ (es : List (PassView O R S)). get_or es at p) same ∙ ap (λ n. get_or old n p) (sym here)) only))

pub takes-back : (old kept : List QueuePass) → HaveTakenBack old kept → TakesBack old kept
takes-back old kept back =
    let each = back-each old kept back in
    record { each = each; back = back; beside = all-beside HasOnlyJoined (λ (p q : QueuePass) (only : HasOnlyJoined p q). ap (λ (w : QueuePass). w.turnstile) only.0) old kept each }

pub splits-off : (old new kept : List QueuePass) (at : ℕ) → length old ≤ at → kept ≡ old → length new ≡ at → AllZipFront IsSplitOff old new → SplitsOff old new kept
splits-off old new kept at past same long front =
    let off = front-all IsSplitOff old new (omega (arith, front-fits IsSplitOff old new front)) front in
    record { same = same; off = off; unused = all-unused old new off; beside = all-beside IsSplitOff split-alike old new off }

-- where one pass has only seen more, each is still at its turnstile
pub turnstiles-set : (ps old new : List QueuePass) (queue : ℕ) (was is : QueuePass) → ps ≡ old → slice_get ps queue ≡ Some was → new ≡ slice_set ps queue is → HasOnlySeen was is → turnstiles new ≡ turnstiles old
turnstiles-set ps old new queue was is same had whole only =
    ap (λ (qs : List QueuePass). turnstiles qs) whole
    ∙ map-set_same (λ (p : QueuePass). p.turnstile) ps queue is was
    (ap (λ (p : QueuePass). p.turnstile) only ∙ ap (λ (p : QueuePass). p.turnstile) (sym (get_or_from_slice_get ps queue was was had)))
    ∙ ap (λ (qs : List QueuePass). turnstiles qs) same

-- the turnstiles of the passes of lines are where these have their places
pub line-turnstiles : (ls : List LineView) → turnstiles (map (λ (l : LineView). l.pass) ls) ≡ places ls
line-turnstiles [] = refl
line-turnstiles (l ∷ ls) = ap (λ ts. l.pass.turnstile ∷ ts) (line-turnstiles ls)
