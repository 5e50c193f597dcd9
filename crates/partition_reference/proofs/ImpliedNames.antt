-- Which of the names that rules make come to be in a list of subscriptions.
use Rattle.partition_reference.proofs.Prelude.{◌≡◌, ◌∙◌, ap, sym, refl, ℕ, ◌+◌, ◌<◌, ◌&&◌, ◌||◌, not, Bool, true, false, List, ◌∷◌, length, drop, get_or, fold, arith, not-true, not-false, at_drop_more, length_push, flat_map, has, has-append, has-fold, batch_token, added, same_name, token_lt, Event, SubName, implied, Subscription}
use Rattle.stream_ident.specs.declared.ident.SubName.TheVariants.{Implicit}
use Rattle.stream_ident.specs.declared.rule.Rule.{Rule}

-- ---- loops over what is made of each item

-- a name of the first that is left
pub has-here : {X : Type 0} (made : X → List (SubName × Subscription)) (s : SubName) (xs : List X) (i : ℕ) (x : X) → i < length xs → x ≡ get_or xs i x → has s (made x) ≡ true → has s (flat_map made (drop i xs)) ≡ true
has-here made s xs i x within is here =
    at_drop_more (λ rest. has s (flat_map made rest)) xs i x within ∙ ap (λ first. has s (flat_map made (first ∷ drop (i + 1) xs))) (sym is)
    ∙ has-append s (made x) (flat_map made (drop (i + 1) xs)) ∙ ap (λ first. first || has s (flat_map made (drop (i + 1) xs))) here

-- or of those after it
pub has-later : {X : Type 0} (made : X → List (SubName × Subscription)) (s : SubName) (xs : List X) (i : ℕ) (x : X) → i < length xs → x ≡ get_or xs i x → has s (made x) ≡ false → has s (flat_map made (drop (i + 1) xs)) ≡ has s (flat_map made (drop i xs))
has-later made s xs i x within is not_here =
    sym (at_drop_more (λ rest. has s (flat_map made rest)) xs i x within ∙ ap (λ first. has s (flat_map made (first ∷ drop (i + 1) xs))) (sym is)
    ∙ has-append s (made x) (flat_map made (drop (i + 1) xs)) ∙ ap (λ first. first || has s (flat_map made (drop (i + 1) xs))) not_here)

-- ---- how many are added

-- neither there, nor made of earlier events, nor of this one
pub new-by-parts : (s : SubName) (subs earlier here : List (SubName × Subscription)) → (not (has s subs) && not (has s earlier)) && not (has s here) ≡ not (has s (fold added (fold added subs earlier) here))
new-by-parts s subs earlier here =
    by (has s subs) (has s earlier) (has s here)
    ∙ ap not (ap (λ first. first || has s here) (sym (has-fold s subs earlier)) ∙ sym (has-fold s (fold added subs earlier) here))
  where
    by : (a b c : Bool) → (not a && not b) && not c ≡ not ((a || b) || c)
    by true b c = refl
    by false true c = refl
    by false false c = refl

-- the name of what a rule makes of an event, and whether it makes something
abbrev pub implied_name : Event → Rule → SubName
implied_name event rule = Implicit rule.kind event.stream

abbrev pub is_implied : Event → Rule → Bool
is_implied event rule = same_name event.stream.namespace rule.namespace && not (token_lt event.token (batch_token rule.from))

-- one more where the rule makes a new name
pub one-more : (subs : List (SubName × Subscription)) (position : ℕ) (event : Event) (rule : Rule) → is_implied event rule ≡ true → not (has (implied_name event rule) subs) ≡ true → length (fold added subs (implied position event rule)) ≡ length subs + 1
one-more subs position event rule makes new =
    let absent = not-true (has (implied_name event rule) subs) new in
    rw makes (rw absent (length_push subs _))

-- none more where it makes a name that is known
pub none-known : (subs : List (SubName × Subscription)) (position : ℕ) (event : Event) (rule : Rule) → is_implied event rule ≡ true → not (has (implied_name event rule) subs) ≡ false → length (fold added subs (implied position event rule)) ≡ length subs
none-known subs position event rule makes known =
    let there = not-false (has (implied_name event rule) subs) known in
    rw makes (rw there refl)

-- or where it makes none
pub none-made : (subs : List (SubName × Subscription)) (position : ℕ) (event : Event) (rule : Rule) → is_implied event rule ≡ false → length (fold added subs (implied position event rule)) ≡ length subs
none-made subs position event rule makes_none = rw makes_none refl

-- the outcomes of asking one after another
pub new-at-last : (s : SubName) (subs earlier here : List (SubName × Subscription)) → has s subs ≡ false → has s earlier ≡ false → not (has s here) ≡ not (has s (fold added (fold added subs earlier) here))
new-at-last s subs earlier here absent not_made =
    ap (λ b. (true && not b) && not (has s here)) (sym not_made) ∙ ap (λ b. (not b && not (has s earlier)) && not (has s here)) (sym absent) ∙ new-by-parts s subs earlier here

pub known-there : (s : SubName) (subs earlier here : List (SubName × Subscription)) → has s subs ≡ true → false ≡ not (has s (fold added (fold added subs earlier) here))
known-there s subs earlier here there = ap (λ b. (not b && not (has s earlier)) && not (has s here)) (sym there) ∙ new-by-parts s subs earlier here

pub known-made : (s : SubName) (subs earlier here : List (SubName × Subscription)) → has s subs ≡ false → has s earlier ≡ true → false ≡ not (has s (fold added (fold added subs earlier) here))
known-made s subs earlier here absent made =
    ap (λ b. (true && not b) && not (has s here)) (sym made) ∙ ap (λ b. (not b && not (has s earlier)) && not (has s here)) (sym absent) ∙ new-by-parts s subs earlier here

-- a count that went up by one
pub one-further : (held count next : ℕ) → next ≡ count + 1 → held + count + 1 ≡ held + next
one-further held count next is = omega arith
