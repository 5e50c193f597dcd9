-- Which names are in a list of names with their values, and which come to be in it.
use Rattle.stream_ident.proofs.Prelude.{◌≡◌, ◌∙◌, ◌+◌, ◌<◌, ◌≤◌, ◌||◌, ◌∷◌, ◌++◌, ℕ, Bool, true, List, [], length, take, get_or, inl, inr, is_some, fold, refl, sym, ap, arith, cases_Bool, cond_both, append-nil, length-take, take_more, flat_map}
use Rattle.std.proofs.Math.Bool.{or-false, or_assoc}
use Rattle.std.proofs.Math.Seq.{take-length, take-append_seam}
use Rattle.std.proofs.lemmas.List.Concat.{flat_map-append}
use Rattle.std.proofs.lemmas.List.Sums.{fold-append}
use Rattle.stream_ident.specs.declared.ident.SubName.{SubName}
use Rattle.stream_ident.specs.Implying.{added}
use Rattle.stream_ident.specs.SubName.{same_sub}
use Rattle.stream_ident.specs.Words.{value_at}
use Rattle.stream_ident.proofs.SameValues.{same_sub-equal}
use Rattle.stream_ident.proofs.WordLemmas.{front-of-front}

-- whether a name is in a list
abbrev pub has : {V : Type 0} → SubName → List (SubName × V) → Bool
has s entries = is_some (value_at same_sub s entries)

pub has-cons : {V : Type 0} (s : SubName) (entry : SubName × V) (entries : List (SubName × V)) → has s (entry ∷ entries) ≡ same_sub s entry.0 || has s entries
has-cons s entry entries = grind arith

pub has-append : {V : Type 0} (s : SubName) (xs ys : List (SubName × V)) → has s (xs ++ ys) ≡ has s xs || has s ys
has-append s [] ys = refl
has-append s (x ∷ xs) ys =
    has-cons s x (xs ++ ys) ∙ ap (λ rest. same_sub s x.0 || rest) (has-append s xs ys)
    ∙ sym (or_assoc (same_sub s x.0) (has s xs) (has s ys)) ∙ ap (λ first. first || has s ys) (sym (has-cons s x xs))

-- a name is there after one is added where it was, or is that one
has-added : {V : Type 0} (s : SubName) (entries : List (SubName × V)) (entry : SubName × V) → has s (added entries entry) ≡ has s entries || same_sub s entry.0
has-added s entries entry =
    cond_both (has entry.0 entries) _ _ (λ now. has s now ≡ has s entries || same_sub s entry.0) there
    (λ _. has-append s entries (entry ∷ []) ∙ ap (λ last. has s entries || last) (has-cons s entry [] ∙ or-false (same_sub s entry.0)))
  where
    there : has entry.0 entries ≡ true → has s entries ≡ has s entries || same_sub s entry.0
    there found =
        elim (cases_Bool (same_sub s entry.0)) [
          | inl same ↦ let is : has s entries ≡ true = ap (λ name. has name entries) (same_sub-equal s entry.0 same) ∙ found in rw is refl
          | inr apart ↦ rw (apart, or-false) refl
        ]

-- a name is there after these are added where it was, or is one of them
pub has-fold : {V : Type 0} (s : SubName) (entries more : List (SubName × V)) → has s (fold added entries more) ≡ has s entries || has s more
has-fold s entries [] = sym (or-false (has s entries))
has-fold s entries (entry ∷ more) =
    has-fold s (added entries entry) more ∙ ap (λ first. first || has s more) (has-added s entries entry)
    ∙ or_assoc (has s entries) (same_sub s entry.0) (has s more) ∙ ap (λ rest. has s entries || rest) (sym (has-cons s entry more))

-- ---- lists that are made of each item of another

-- one item more at the end
pub added-last : {X V : Type 0} (made : X → List (SubName × V)) (entries : List (SubName × V)) (xs : List X) (x : X) → fold added entries (flat_map made (xs ++ x ∷ [])) ≡ fold added (fold added entries (flat_map made xs)) (made x)
added-last made entries xs x =
    ap (fold added entries) (flat_map-append made xs (x ∷ []) ∙ ap (λ last. flat_map made xs ++ last) (append-nil (made x)))
    ∙ fold-append added entries (flat_map made xs) (made x)

-- one item more of a list that is walked through
pub added-more : {X V : Type 0} (made : X → List (SubName × V)) (entries : List (SubName × V)) (xs : List X) (i : ℕ) (x : X) → i < length xs → x ≡ get_or xs i x
    → fold added entries (flat_map made (take (i + 1) xs)) ≡ fold added (fold added entries (flat_map made (take i xs))) (made x)
added-more made entries xs i x within is =
    rw (take_more xs i x within, ← is) (added-last made entries (take i xs) x)

-- ---- the front

added-front : {V : Type 0} (entries : List (SubName × V)) (entry : SubName × V) → take (length entries) (added entries entry) ≡ entries
added-front entries entry =
    cond_both (has entry.0 entries) _ _ (λ now. take (length entries) now ≡ entries) (λ _. take-length entries) (λ _. take-append_seam entries (entry ∷ []))

-- the names stay where they are, and the new ones follow
pub fold-front : {V : Type 0} (entries more : List (SubName × V)) → take (length entries) (fold added entries more) ≡ entries
fold-front entries [] = take-length entries
fold-front entries (entry ∷ more) =
    front-of-front entries (added entries entry) (fold added (added entries entry) more) (added-front entries entry) (fold-front (added entries entry) more)

pub length-fold : {V : Type 0} (entries more : List (SubName × V)) → length entries ≤ length (fold added entries more)
length-fold entries more =
    let size = ap length (fold-front entries more) in
    omega (arith, length-take (length entries) (fold added entries more), size)
