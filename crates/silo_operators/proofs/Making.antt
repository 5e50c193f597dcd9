-- Calls that a pass has made past a mark.
use Rattle.silo_operators.proofs.Prelude.{calls-number, CallsBy, OwnsNone, GoesOn, IsSilent, ◌≡◌, ℕ, zero, suc, ◌≤◌, Bool, ◌⊎◌, inl, inr, List, [], ◌∷◌, ◌++◌, length, drop, Contains, Result, Ok, Err, refl, sym, ap, subst, ◌∙◌, append_assoc, arith, drop-append_seam, drop-length, append-nil, drop-append-le, length-append, legal_last, numbers_of, HasSome, Foreign, IsLegal, entry, replay, PassView, Entry, Refusal}
use Rattle.std.specs.Result.{IfErr, IsErrAnd}
use Rattle.silo_loops.proofs.Taking.{called-alone}
use Rattle.silo_operators.specs.Changes.{HasFound, HasMade, HasMadeLast, halt_of}

-- what holds of the error that `?` passes on
pub passed-on : {A E : Type 0} (P : E → Type 0) (result : Result A E) (e : E) → IsErrAnd result (λ y. y ≡ e) → P e → IfErr result P
passed-on P (Ok x) e is p = absurd is
passed-on P (Err y) e is p = subst P (sym is) p

module _ {A : Type 0} (P : A → Type 0) where
  some-left : (xs ys : List A) → HasSome P xs → HasSome P (xs ++ ys)
  some-left [] ys some = absurd some
  some-left (x ∷ xs) ys some = elim some as (λ s. P x ⊎ HasSome P (xs ++ ys)) [ inl here ↦ inl here | inr there ↦ inr (some-left xs ys there) ]

  some-right : (xs ys : List A) → HasSome P ys → HasSome P (xs ++ ys)
  some-right [] ys some = some
  some-right (x ∷ xs) ys some = inr (some-right xs ys some)

  some-cases : (xs ys : List A) → HasSome P (xs ++ ys) → HasSome P xs ⊎ HasSome P ys
  some-cases [] ys some = inr some
  some-cases (x ∷ xs) ys (inl here) = inl (inl here)
  some-cases (x ∷ xs) ys (inr there) = elim (some-cases xs ys there) as (λ s. (P x ⊎ HasSome P xs) ⊎ HasSome P ys) [ inl left ↦ inl (inr left) | inr right ↦ inr right ]

  some-drop : (m n : ℕ) (xs : List A) → m ≤ n → HasSome P (drop n xs) → HasSome P (drop m xs)
  some-drop zero zero xs less some = some
  some-drop zero (suc n) [] less some = absurd some
  some-drop zero (suc n) (x ∷ xs) less some = inr (some-drop zero n xs (omega arith) some)
  some-drop (suc m) zero xs less some = absurd (omega arith)
  some-drop (suc m) (suc n) [] less some = absurd some
  some-drop (suc m) (suc n) (x ∷ xs) less some = some-drop m n xs (omega arith) some

some-map : {A : Type 0} (P Q : A → Type 0) → ((x : A) → P x → Q x) → (xs : List A) → HasSome P xs → HasSome Q xs
some-map P Q f [] some = absurd some
some-map P Q f (x ∷ xs) some = elim some as (λ s. Q x ⊎ HasSome Q xs) [ inl here ↦ inl (f x here) | inr there ↦ inr (some-map P Q f xs there) ]

module _ {O R : Type 0} where
  -- none of these is a call of the number
  none-foreign : (number : ℕ) (joined : List ℕ) (IsSuch : O → R → Type 0) (es : List (Entry O R)) → Foreign (number ∷ joined) es → HasSome (λ (e : Entry O R). (e.number ≡ number) × IsSuch e.op e.reply) es → ⊥
  none-foreign number joined IsSuch [] foreign some = some
  none-foreign number joined IsSuch (e ∷ es) foreign (inl here) = foreign.0 (0, omega arith, sym here.0)
  none-foreign number joined IsSuch (e ∷ es) foreign (inr there) = none-foreign number joined IsSuch es foreign.1 there

  -- who did none of it under more numbers did none under fewer
  pub owns-fewer : (test : O → Bool) (fewer numbers : List ℕ) (es : List (Entry O R)) → ((k : ℕ) → Contains fewer k → Contains numbers k) → OwnsNone test numbers es → OwnsNone test fewer es
  owns-fewer test fewer numbers [] within none = tt
  owns-fewer test fewer numbers (e ∷ es) within none = ((λ here. none.0 (within e.number here)), owns-fewer test fewer numbers es within none.1)

module _ {O R S : Type 0} (IsSuch : O → R → Type 0) where
  -- the pass has made this call, and it is such
  abbrev IsOwn : PassView O R S → Entry O R → Type 0
  IsOwn p e = (e.number ≡ p.number) × IsSuch e.op e.reply

  pub made-none : (p : PassView O R S) → HasMade (length p.seen) p IsSuch → ⊥
  made-none p made = subst (λ (es : List (Entry O R)). HasSome (IsOwn p) es) (drop-length p.seen) made

  pub made-earlier : (m n : ℕ) (p : PassView O R S) → m ≤ n → HasMade n p IsSuch → HasMade m p IsSuch
  made-earlier m n p less made = some-drop (IsOwn p) m n p.seen less made

  pub made-later : (mark : ℕ) (p q : PassView O R S) → GoesOn p q → mark ≤ length p.seen → HasMade mark p IsSuch → HasMade mark q IsSuch
  made-later mark p q on less made =
      subst (λ (es : List (Entry O R)). HasSome (IsOwn q) es) (sym (ap (λ (es : List (Entry O R)). drop mark es) on.seen ∙ drop-append-le mark p.seen on.more less))
      (some-left (IsOwn q) (drop mark p.seen) on.more (some-map (IsOwn p) (IsOwn q) (λ e own. (own.0 ∙ sym on.number, own.1)) (drop mark p.seen) made))

  -- what was made past the mark was made before, or is among what was seen since
  made-since : (mark : ℕ) (p q : PassView O R S) (more : List (Entry O R)) → q.number ≡ p.number → q.seen ≡ p.seen ++ more → mark ≤ length p.seen → HasMade mark q IsSuch → HasMade mark p IsSuch ⊎ HasSome (IsOwn p) more
  made-since mark p q more number seen less made =
      some-cases (IsOwn p) (drop mark p.seen) more
      (subst (λ (es : List (Entry O R)). HasSome (IsOwn p) es) (ap (λ (es : List (Entry O R)). drop mark es) seen ∙ drop-append-le mark p.seen more less)
      (some-map (IsOwn q) (IsOwn p) (λ e own. (own.0 ∙ number, own.1)) (drop mark q.seen) made))

  -- and what is among that was made since
  made-more : (p q : PassView O R S) (more : List (Entry O R)) → q.number ≡ p.number → q.seen ≡ p.seen ++ more → HasSome (IsOwn p) more → HasMade (length p.seen) q IsSuch
  made-more p q more number seen some =
      subst (λ (es : List (Entry O R)). HasSome (IsOwn q) es) (sym (ap (λ (es : List (Entry O R)). drop (length p.seen) es) seen ∙ drop-append_seam p.seen more))
      (some-map (IsOwn p) (IsOwn q) (λ e own. (own.0 ∙ sym number, own.1)) more some)

-- the last call past a mark is so past an earlier one
pub last-earlier : {O R S : Type 0} (test : O → Bool) (IsSuch : O → R → Type 0) (m n : ℕ) (p : PassView O R S) → m ≤ n → HasMadeLast test n p IsSuch → HasMadeLast test m p IsSuch
last-earlier test IsSuch m n p less made =
    let past = made.past in
    record { before = made.before; asked = made.asked; answered = made.answered; later = made.later; whole = made.whole; past = omega (arith, less, past); such = made.such; none = made.none }

pub goes-longer : {O R S : Type 0} (p q : PassView O R S) → GoesOn p q → length p.seen ≤ length q.seen
goes-longer {O} {R} p q on = let long = ap (λ (es : List (Entry O R)). length es) on.seen ∙ length-append p.seen on.more in omega (arith, long)

module _ {S O R : Type 0} (reply : S → O → R) (after : S → O → S) where
  pub goes-called : (p : PassView O R S) (op : O) (result : Result R Refusal) (q : PassView O R S) → CallsBy reply after p op result q → GoesOn p q
  goes-called p op result q calls =
      let more = called-alone reply after p op result q calls in
      record {
        turnstile = ap (λ (w : PassView O R S). w.turnstile) calls.only;
        number = calls-number reply after p op result q calls;
        numbers = λ k here. subst (λ (ks : List ℕ). Contains ks k) (sym (ap (λ (w : PassView O R S). numbers_of w) calls.only)) here;
        more = more.0;
        seen = more.1;
        alone = more.2;
      }

  pub made-called : (IsSuch : O → R → Type 0) (p : PassView O R S) (op : O) (r : R) (q : PassView O R S) → CallsBy reply after p op (Ok r) q → IsSuch op r → HasMade (length p.seen) q IsSuch
  made-called IsSuch p op r q calls such =
      let between = calls.call.0 in
      let last = entry p.number op r ∷ [] in
      made-more IsSuch p q (between ++ last) (calls-number reply after p op (Ok r) q calls) (calls.call.1 ∙ append_assoc p.seen between last) (some-right (IsOwn IsSuch p) between last (inl (refl, such)))

  -- a call that was just made is the last one
  pub called-last : (test : O → Bool) (IsSuch : O → R → Type 0) (p : PassView O R S) (op : O) (r : R) (q : PassView O R S) → CallsBy reply after p op (Ok r) q → IsSuch op r → HasMadeLast test (length p.seen) q IsSuch
  called-last test IsSuch p op r q calls such =
      let front = p.seen ++ calls.call.0 in
      let number = calls-number reply after p op (Ok r) q calls in
      let long = length-append p.seen calls.call.0 in
      record {
        before = front;
        asked = op;
        answered = r;
        later = [];
        whole = calls.call.1 ∙ ap (λ n. front ++ entry n op r ∷ []) (sym number) ∙ sym (append-nil (front ++ entry q.number op r ∷ []));
        past = omega (arith, long);
        such = such;
        none = tt;
      }

  -- a call past the mark is one from before, or the last one
  pub made-cases : (IsSuch : O → R → Type 0) (mark : ℕ) (p : PassView O R S) (op : O) (r : R) (q : PassView O R S) → CallsBy reply after p op (Ok r) q → mark ≤ length p.seen → HasMade mark q IsSuch → HasMade mark p IsSuch ⊎ IsSuch op r
  made-cases IsSuch mark p op r q calls less made =
      let between = calls.call.0 in
      let last = entry p.number op r ∷ [] in
      elim (made-since IsSuch mark p q (between ++ last) (calls-number reply after p op (Ok r) q calls) (calls.call.1 ∙ append_assoc p.seen between last) less made) as (λ s. HasMade mark p IsSuch ⊎ IsSuch op r) [
        | inl before ↦ inl before
        | inr since ↦
            elim (some-cases (IsOwn IsSuch p) between last since) as (λ s. HasMade mark p IsSuch ⊎ IsSuch op r) [
              | inl foreign ↦ absurd (none-foreign p.number p.joined IsSuch between calls.call.2 foreign)
              | inr here ↦ elim here as (λ s. HasMade mark p IsSuch ⊎ IsSuch op r) [ inl is ↦ inr is.1 | inr none ↦ absurd none ]
            ]
      ]

  -- the reply is one that the operation gets
  pub called-reply : (p : PassView O R S) (op : O) (r : R) (q : PassView O R S) → CallsBy reply after p op (Ok r) q → (s : S) × (r ≡ reply s op)
  called-reply p op r q calls =
      let front = p.seen ++ calls.call.0 in (
        replay reply after calls.origin.start.state front,
        legal_last reply after calls.origin.start.state front (entry p.number op r) (subst (λ (es : List (Entry O R)). IsLegal reply after calls.origin.start.state es) calls.call.1 calls.call.3),
      )

  -- a refused call has found its history full, or has found room
  pub found-refused : (p : PassView O R S) (op : O) (e : Refusal) (q : PassView O R S) → CallsBy reply after p op (Err e) q → HasFound (halt_of e) q
  found-refused p op e q calls = (e, refl, (calls.origin, ap (λ (w : PassView O R S). w.turnstile) calls.only ∙ calls.of, calls.call.4))

  -- a refused call adds none to those that the pass has made
  pub made-refused : (IsSuch : O → R → Type 0) (mark : ℕ) (p : PassView O R S) (op : O) (e : Refusal) (q : PassView O R S) → CallsBy reply after p op (Err e) q → mark ≤ length p.seen → HasMade mark q IsSuch → HasMade mark p IsSuch
  made-refused IsSuch mark p op e q calls less made =
      elim (made-since IsSuch mark p q calls.call.0 (calls-number reply after p op (Err e) q calls) calls.call.1 less made) as (λ s. HasMade mark p IsSuch) [
        | inl before ↦ before
        | inr foreign ↦ absurd (none-foreign p.number p.joined IsSuch calls.call.0 calls.call.2 foreign)
      ]

-- what was made since a pass that has made no call on its way to a later one is made since that one
pub made-since-silent : {O R S : Type 0} (IsSuch : O → R → Type 0) (p q r : PassView O R S) → IsSilent p q → GoesOn q r → HasMade (length p.seen) r IsSuch → HasMade (length q.seen) r IsSuch
made-since-silent IsSuch p q r silent on made =
    elim (made-since IsSuch (length p.seen) q r on.more on.number on.seen (goes-longer p q silent.on) made) as (λ s. HasMade (length q.seen) r IsSuch) [
      | inl before ↦ elim (made-since IsSuch (length p.seen) p q silent.on.more silent.on.number silent.on.seen (omega arith) before) as (λ s. HasMade (length q.seen) r IsSuch) [
        | inl none ↦ absurd (made-none IsSuch p none)
        | inr own ↦ absurd (none-foreign p.number [] IsSuch silent.on.more silent.foreign own)
      ]
      | inr since ↦ made-more IsSuch q r on.more on.number on.seen since
    ]
