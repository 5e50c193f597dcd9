-- A name of a subscription that is read is written so, and what is written so is read.
use Rattle.stream_script.proofs.Prelude.{◌≡◌, ◌<◌, ◌++◌, ap, ◌∙◌, subst, arith, and_parts, and_from, ltb-true, lt-ltb, not-true, or_from, eqb-true, eq-eqb, nat_tests, decimal, list_all, list_any, ℕ, ◌^◌, Bool, true, false, not, List, [], ◌∷◌, Option, Some, None, Ok, nat_lt, ◌==◌, cond, refl, split_once-front, split_once-joined, is_name_byte, IsName, name_of, ◌>>=◌, split_once, GrainId, StreamId, is_ascii_digit, SubName, numerals, list_all-append}
use Rattle.std.specs.Str.{all_ascii_digits}
use Rattle.std.proofs.lemmas.Fmt.{digits_decimal}
use Rattle.stream_ident.specs.declared.ident.SubName.TheVariants as name
use Rattle.stream_script.specs.declared.parser.command.FaultKind.TheVariants as kind
use Rattle.stream_script.specs.Fields.{or_fault, as_fault, guard, number_field, queue_field, stream_field, explicit_field, implicit_field, name_from, name_field, sub_parts, sub_field, own_sub_field}
use Rattle.stream_script.specs.Grammar.{IsStream, IsGrain, IsSub, IsQueue}
use Rattle.stream_script.specs.Spelling.{stream_text, grain_text, name_text, sub_text}
use Rattle.stream_script.proofs.FieldLemmas.{bind_ok, ok_is, guard_ok, or_fault_ok, as_fault_ok, number_found, number_again, queue_found, queue_again, list_all-weaker, name_of-found, name_of-again, stream_found, stream_again}

-- ---- subscriptions

digits_all : (q : ℕ → Bool) → ((byte : ℕ) → is_ascii_digit byte ≡ true → q byte ≡ true) → (bytes : List ℕ) → all_ascii_digits bytes ≡ true → list_all q bytes ≡ true
digits_all q weaker [] h = refl
digits_all q weaker (byte ∷ bytes) h =
    let parts = and_parts (is_ascii_digit byte) (all_ascii_digits bytes) h in
    and_from (q byte) (list_all q bytes) (weaker byte parts.0) (digits_all q weaker bytes parts.1)

pub decimal_all : (q : ℕ → Bool) → ((byte : ℕ) → is_ascii_digit byte ≡ true → q byte ≡ true) → (n : ℕ) → n < 2 ^ 64 → list_all q (decimal n) ≡ true
decimal_all q weaker n small = digits_all q weaker (decimal n) (digits_decimal numerals n small)

pub list_all-both : (p : ℕ → Bool) (xs ys : List ℕ) → list_all p xs ≡ true → list_all p ys ≡ true → list_all p (xs ++ ys) ≡ true
list_all-both p xs ys first second = list_all-append p xs ys ∙ and_from _ _ first second

pub name_all : (q : ℕ → Bool) → ((byte : ℕ) → is_name_byte byte ≡ true → q byte ≡ true) → (bytes : List ℕ) → IsName bytes → list_all q bytes ≡ true
name_all q weaker bytes is = list_all-weaker is_name_byte q weaker bytes is.good

split_once-nowhere : (separator : ℕ) (bytes : List ℕ) → list_all (λ byte. not (byte == separator)) bytes ≡ true → split_once separator bytes ≡ None
split_once-nowhere separator [] none = refl
split_once-nowhere separator (byte ∷ bytes) none =
    let parts = and_parts (not (byte == separator)) (list_all (λ byte. not (byte == separator)) bytes) none in
    rw (not-true (byte == separator) parts.0, split_once-nowhere separator bytes parts.1) refl

list_any-nowhere : (p : ℕ → Bool) (bytes : List ℕ) → list_all (λ byte. not (p byte)) bytes ≡ true → list_any p bytes ≡ false
list_any-nowhere p [] none = refl
list_any-nowhere p (byte ∷ bytes) none =
    let parts = and_parts (not (p byte)) (list_all (λ byte. not (p byte)) bytes) none in
    or_from (p byte) (list_any p bytes) (not-true (p byte) parts.0) (list_any-nowhere p bytes parts.1)

abbrev IsNamed : List ℕ → SubName → Type 0
IsNamed bytes sub = (bytes ≡ name_text sub) × IsSub sub

explicit_found : (bytes : List ℕ) (sub : SubName) → explicit_field bytes ≡ Ok sub → IsNamed bytes sub
unfolding explicit_field
explicit_found bytes sub e =
    let a = bind_ok (number_field (2 ^ 32) bytes) (λ n. guard kind.BadNumber (nat_lt 0 n) (name.Explicit n)) sub e in
    let g = guard_ok kind.BadNumber (nat_lt 0 a.0) (name.Explicit a.0) sub a.2 in
    let d = number_found (2 ^ 32) bytes a.0 a.1 in
    subst (IsNamed bytes) g.1 (d.0, (ltb-true 0 a.0 g.0, d.1))

implicit_found : (bytes : List ℕ) (parts : List ℕ × List ℕ) (sub : SubName) → split_once 64 bytes ≡ Some parts → implicit_field parts ≡ Ok sub → IsNamed bytes sub
unfolding implicit_field
implicit_found bytes parts sub split e =
    let a = bind_ok (as_fault kind.BadName (name_of parts.0)) (λ own_kind. stream_field parts.1 >>= λ stream. Ok (name.Implicit own_kind stream)) sub e in
    let b = bind_ok (stream_field parts.1) (λ stream. Ok (name.Implicit a.0 stream)) sub a.2 in
    let first = name_of-found parts.0 a.0 (as_fault_ok kind.BadName (name_of parts.0) a.0 a.1) in
    let second = stream_found parts.1 b.0 b.1 in
    let joined = split_once-joined 64 bytes parts split ∙ (ap (λ (front : List ℕ). front ++ 64 ∷ parts.1) first.0 ∙ ap (λ (back : List ℕ). a.0 ++ 64 ∷ back) second.0) in
    subst (IsNamed bytes) (ok_is (name.Implicit a.0 b.0) sub b.2) (joined, (first.1, second.1))

name_from-found : (bytes : List ℕ) (split : Option (List ℕ × List ℕ)) (sub : SubName) → split_once 64 bytes ≡ split → name_from bytes split ≡ Ok sub → IsNamed bytes sub
name_from-found bytes None sub split e = explicit_found bytes sub e
name_from-found bytes (Some parts) sub split e = implicit_found bytes parts sub split e

pub name_found : (bytes : List ℕ) (sub : SubName) → name_field bytes ≡ Ok sub → (bytes ≡ name_text sub) × IsSub sub
unfolding name_field
name_found bytes sub e = name_from-found bytes (split_once 64 bytes) sub refl e

pub name_again : (sub : SubName) → IsSub sub → name_field (name_text sub) ≡ Ok sub
unfolding name_field explicit_field implicit_field
name_again (name.Explicit n) is =
    let nowhere = split_once-nowhere 64 (decimal n) (decimal_all (λ byte. not (byte == 64)) (λ byte h. grind (arith, nat_tests)) n (omega (arith, is.1))) in
    rw (nowhere, number_again (2 ^ 32) n is.1 (omega (arith, is.1)), lt-ltb 0 n is.0) refl
name_again (name.Implicit own_kind stream) is =
    let cut = split_once-front 64 own_kind (stream_text stream) (name_all (λ byte. not (byte == 64)) (λ byte h. grind (arith, nat_tests)) own_kind is.0) in
    rw (cut, name_of-again own_kind is.0, stream_again stream is.1) refl

-- what each byte of a name, and its separators, pass
pub stream_text_all : (q : ℕ → Bool) → ((byte : ℕ) → is_name_byte byte ≡ true → q byte ≡ true) → q 47 ≡ true → (stream : StreamId) → IsStream stream → list_all q (stream_text stream) ≡ true
stream_text_all q weaker slash stream is =
    list_all-both q stream.namespace (47 ∷ stream.key) (name_all q weaker stream.namespace is.0) (and_from (q 47) (list_all q stream.key) slash (name_all q weaker stream.key is.1))

pub grain_text_all : (q : ℕ → Bool) → ((byte : ℕ) → is_name_byte byte ≡ true → q byte ≡ true) → q 47 ≡ true → (grain : GrainId) → IsGrain grain → list_all q (grain_text grain) ≡ true
grain_text_all q weaker slash grain is =
    list_all-both q grain.kind (47 ∷ grain.key) (name_all q weaker grain.kind is.0) (and_from (q 47) (list_all q grain.key) slash (name_all q weaker grain.key is.1))

pub name_text_all : (q : ℕ → Bool) → ((byte : ℕ) → is_name_byte byte ≡ true → q byte ≡ true) → ((byte : ℕ) → is_ascii_digit byte ≡ true → q byte ≡ true) → q 47 ≡ true → q 64 ≡ true → (sub : SubName) → IsSub sub → list_all q (name_text sub) ≡ true
name_text_all q named digit slash at_sign (name.Explicit n) is = decimal_all q digit n (omega (arith, is.1))
name_text_all q named digit slash at_sign (name.Implicit own_kind stream) is =
    list_all-both q own_kind (64 ∷ stream_text stream) (name_all q named own_kind is.0) (and_from (q 64) (list_all q (stream_text stream)) at_sign (stream_text_all q named slash stream is.1))

-- ---- a subscription with its queue

pub sub_parts-found : (queues : ℕ) (bytes : List ℕ) (found : ℕ × List ℕ) → sub_parts queues bytes ≡ Ok found → (bytes ≡ decimal found.0 ++ 58 ∷ found.1) × IsQueue queues found.0
unfolding sub_parts
sub_parts-found queues bytes found e =
    let a = bind_ok (or_fault kind.BadName (split_once 58 bytes)) (λ parts. guard kind.BadName (cond (list_any (λ byte. byte == 58) parts.1) false true) parts.1 >>= λ after. queue_field queues parts.0 >>= λ queue. Ok (queue, after)) found e in
    let parts = a.0 in
    let b = bind_ok (guard kind.BadName (cond (list_any (λ byte. byte == 58) parts.1) false true) parts.1) (λ after. queue_field queues parts.0 >>= λ queue. Ok (queue, after)) found a.2 in
    let g = guard_ok kind.BadName (cond (list_any (λ byte. byte == 58) parts.1) false true) parts.1 b.0 b.1 in
    let c = bind_ok (queue_field queues parts.0) (λ queue. Ok (queue, b.0)) found b.2 in
    let joined = split_once-joined 58 bytes parts (or_fault_ok kind.BadName (split_once 58 bytes) parts a.1) in
    let queue = queue_found queues parts.0 c.0 c.1 in
    let text : bytes ≡ decimal c.0 ++ 58 ∷ b.0 = joined ∙ (ap (λ (front : List ℕ). front ++ 58 ∷ parts.1) queue.0 ∙ ap (λ (back : List ℕ). decimal c.0 ++ 58 ∷ back) g.1) in
    let made : ℕ × List ℕ = (c.0, b.0) in
    rw (← ok_is made found c.2) (text, queue.1)

sub_parts-again : (queues queue : ℕ) (sub : SubName) → IsQueue queues queue → IsSub sub → sub_parts queues (sub_text queue sub) ≡ Ok (queue, name_text sub)
unfolding sub_parts
sub_parts-again queues queue sub is_queue is_sub =
    let no_colons = decimal_all (λ byte. not (byte == 58)) (λ byte h. grind (arith, nat_tests)) queue (omega (arith, is_queue.1)) in
    let cut = split_once-front 58 (decimal queue) (name_text sub) no_colons in
    let one = list_any-nowhere (λ byte. byte == 58) (name_text sub) (name_text_all (λ byte. not (byte == 58)) (λ byte h. grind (arith, nat_tests)) (λ byte h. grind (arith, nat_tests)) refl refl sub is_sub) in
    rw (cut, one, queue_again queues queue is_queue) refl

pub sub_found : (queues : ℕ) (bytes : List ℕ) (found : ℕ × SubName) → sub_field queues bytes ≡ Ok found → (bytes ≡ sub_text found.0 found.1) × IsQueue queues found.0 × IsSub found.1
unfolding sub_field
sub_found queues bytes found e =
    let a = bind_ok (sub_parts queues bytes) (λ parts. name_field parts.1 >>= λ sub. Ok (parts.0, sub)) found e in
    let b = bind_ok (name_field a.0.1) (λ sub. Ok (a.0.0, sub)) found a.2 in
    let parts = sub_parts-found queues bytes a.0 a.1 in
    let named = name_found a.0.1 b.0 b.1 in
    let text : bytes ≡ sub_text a.0.0 b.0 = parts.0 ∙ ap (λ (back : List ℕ). decimal a.0.0 ++ 58 ∷ back) named.0 in
    let made : ℕ × SubName = (a.0.0, b.0) in
    rw (← ok_is made found b.2) (text, parts.1, named.1)

pub sub_again : (queues queue : ℕ) (sub : SubName) → IsQueue queues queue → IsSub sub → sub_field queues (sub_text queue sub) ≡ Ok (queue, sub)
unfolding sub_field
sub_again queues queue sub is_queue is_sub = rw (sub_parts-again queues queue sub is_queue is_sub, name_again sub is_sub) refl

-- a subscription of this queue
pub own_sub_found : (queues queue : ℕ) (bytes : List ℕ) (sub : SubName) → own_sub_field queues queue bytes ≡ Ok sub → (bytes ≡ sub_text queue sub) × IsSub sub
unfolding own_sub_field
own_sub_found queues queue bytes sub e =
    let a = bind_ok (sub_parts queues bytes) (λ parts. guard kind.NoQueue (parts.0 == queue) parts.1 >>= λ after. name_field after) sub e in
    let b = bind_ok (guard kind.NoQueue (a.0.0 == queue) a.0.1) (λ after. name_field after) sub a.2 in
    let g = guard_ok kind.NoQueue (a.0.0 == queue) a.0.1 b.0 b.1 in
    let parts = sub_parts-found queues bytes a.0 a.1 in
    let named = name_found b.0 sub b.2 in
    let text : bytes ≡ sub_text queue sub = parts.0 ∙ (ap (λ (q : ℕ). decimal q ++ 58 ∷ a.0.1) (eqb-true a.0.0 queue g.0) ∙ ap (λ (back : List ℕ). decimal queue ++ 58 ∷ back) (g.1 ∙ named.0)) in
    (text, named.1)

pub own_sub_again : (queues queue : ℕ) (sub : SubName) → IsQueue queues queue → IsSub sub → own_sub_field queues queue (sub_text queue sub) ≡ Ok sub
unfolding own_sub_field
own_sub_again queues queue sub is_queue is_sub = rw (sub_parts-again queues queue sub is_queue is_sub, eq-eqb queue queue refl, name_again sub is_sub) refl
