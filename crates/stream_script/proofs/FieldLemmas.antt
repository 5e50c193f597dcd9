-- A field that is read is written so, and what is written so is read.
use Rattle.stream_script.proofs.Prelude.{◌≡◌, ◌<◌, Result, Err, ap, ◌∙◌, subst, arith, and_parts, and_from, ltb-true, lt-ltb, nat_tests, decimal, list_all, ℕ, ◌^◌, Bool, true, false, not, List, [], ◌∷◌, Option, Some, None, Ok, nat_lt, ◌==◌, refl, split_once-front, split_once-joined, is_name_byte, IsName, IsPayload, wrong_in_name, wrong_in_payload, name_or, name_of, payload_or, payload_of, field_or, field_of, stream_of, grain_of, ◌>>=◌, split_once, token_of, token_text, IsToken, GrainId, StreamId, Token, number_of-decimal, decimal-number_of}
use Rattle.stream_ident.proofs.NameLemmas.{IsName-from_right, IsPayload-from_right, wrong_in_name-none, wrong_in_payload-none}
use Rattle.stream_ident.proofs.TokenLemmas.{token_of-token_text, token_text-token_of}
use Rattle.stream_ident.specs.Number.{number_of}
use Rattle.stream_script.specs.declared.parser.command.FaultKind.{FaultKind}
use Rattle.stream_script.specs.declared.parser.command.FaultKind.TheVariants as kind
use Rattle.stream_script.specs.Fields.{or_fault, as_fault, guard, number_field, queue_field, stream_field, grain_field, token_field, payload_field, bare_name_field}
use Rattle.stream_script.specs.Grammar.{IsStream, IsGrain, IsQueue}
use Rattle.stream_script.specs.Spelling.{stream_text, grain_text}

-- ---- steps that didn't fail

pub bind_ok : {A B E : Type 0} (r : Result A E) (f : A → Result B E) (y : B) → (r >>= f) ≡ Ok y → (x : A) × (r ≡ Ok x) × (f x ≡ Ok y)
bind_ok (Ok x) f y e = (x, refl, e)
bind_ok (Err fault) f y e = absurd cc

abbrev pub done : {A : Type 0} → A → Result A FaultKind
done x = Ok x

pub ok_is : {A : Type 0} (x y : A) → done x ≡ done y → x ≡ y
ok_is x y e = cc

pub guard_ok : {A : Type 0} (fault : FaultKind) (b : Bool) (x y : A) → guard fault b x ≡ Ok y → (b ≡ true) × (x ≡ y)
guard_ok fault true x y e = (refl, ok_is x y e)
guard_ok fault false x y e = absurd cc

pub or_fault_ok : {A : Type 0} (fault : FaultKind) (o : Option A) (x : A) → or_fault fault o ≡ Ok x → o ≡ Some x
or_fault_ok fault None x e = absurd cc
or_fault_ok fault (Some y) x e = ap Some (ok_is y x e)

pub as_fault_ok : {A E : Type 0} (fault : FaultKind) (r : Result A E) (x : A) → as_fault fault r ≡ Ok x → r ≡ Ok x
as_fault_ok fault (Ok y) x e = ap Ok (ok_is y x e)
as_fault_ok fault (Err other) x e = absurd cc

-- ---- numbers

pub number_found : (bound : ℕ) (bytes : List ℕ) (n : ℕ) → number_field bound bytes ≡ Ok n → (bytes ≡ decimal n) × (n < bound)
unfolding number_field
number_found bound bytes n e =
    let a = bind_ok (or_fault kind.BadNumber (number_of bytes)) (λ m. guard kind.BadNumber (nat_lt m bound) m) n e in
    let g = guard_ok kind.BadNumber (nat_lt a.0 bound) a.0 n a.2 in
    let d = decimal-number_of bytes a.0 (or_fault_ok kind.BadNumber (number_of bytes) a.0 a.1) in
    (d.0 ∙ ap decimal g.1, omega (arith, ltb-true a.0 bound g.0, g.1))

pub number_again : (bound n : ℕ) → n < bound → n < 2 ^ 64 → number_field bound (decimal n) ≡ Ok n
unfolding number_field
number_again bound n below small = rw (number_of-decimal n small, lt-ltb n bound below) refl

pub queue_found : (queues : ℕ) (bytes : List ℕ) (n : ℕ) → queue_field queues bytes ≡ Ok n → (bytes ≡ decimal n) × IsQueue queues n
unfolding queue_field
queue_found queues bytes n e =
    let a = bind_ok (number_field (2 ^ 32) bytes) (λ m. guard kind.NoQueue (nat_lt m queues) m) n e in
    let g = guard_ok kind.NoQueue (nat_lt a.0 queues) a.0 n a.2 in
    let d = number_found (2 ^ 32) bytes a.0 a.1 in
    (d.0 ∙ ap decimal g.1, (omega (arith, ltb-true a.0 queues g.0, g.1), omega (arith, d.1, g.1)))

pub queue_again : (queues n : ℕ) → IsQueue queues n → queue_field queues (decimal n) ≡ Ok n
unfolding queue_field
queue_again queues n is = rw (number_again (2 ^ 32) n is.1 (omega (arith, is.1)), lt-ltb n queues is.0) refl

-- ---- names

pub list_all-weaker : (p q : ℕ → Bool) → ((x : ℕ) → p x ≡ true → q x ≡ true) → (xs : List ℕ) → list_all p xs ≡ true → list_all q xs ≡ true
list_all-weaker p q weaker [] all = refl
list_all-weaker p q weaker (x ∷ xs) all =
    let parts = and_parts (p x) (list_all p xs) all in
    and_from (q x) (list_all q xs) (weaker x parts.0) (list_all-weaker p q weaker xs parts.1)

-- what is right is given as it is
right_ok : {E : Type 0} (check : Option ℕ → Result (List ℕ) E) (bytes found : List ℕ) (wrong : Option ℕ) → check None ≡ Ok bytes → ((at_ : ℕ) → (e : E) × (check (Some at_) ≡ Err e)) → check wrong ≡ Ok found → (wrong ≡ None) × (bytes ≡ found)
right_ok check bytes found None right fails e = (refl, cc)
right_ok check bytes found (Some at_) right fails e = let failed = (fails at_).1 in absurd cc

pub name_of-found : (bytes found : List ℕ) → name_of bytes ≡ Ok found → (bytes ≡ found) × IsName found
name_of-found bytes found e =
    let parts = right_ok (name_or bytes) bytes found (wrong_in_name bytes) refl (λ at_. (_, refl)) e in
    (parts.1, subst IsName parts.1 (IsName-from_right bytes parts.0))

pub name_of-again : (bytes : List ℕ) → IsName bytes → name_of bytes ≡ Ok bytes
name_of-again bytes is = ap (name_or bytes) (wrong_in_name-none bytes is)

field_of-found : (field : ℕ) (bytes found : List ℕ) → field_of field bytes ≡ Ok found → (bytes ≡ found) × IsName bytes
field_of-found field bytes found e =
    let parts = right_ok (field_or field bytes) bytes found (wrong_in_name bytes) refl (λ at_. (_, refl)) e in
    (parts.1, IsName-from_right bytes parts.0)

field_of-again : (field : ℕ) (bytes : List ℕ) → IsName bytes → field_of field bytes ≡ Ok bytes
field_of-again field bytes is = ap (field_or field bytes) (wrong_in_name-none bytes is)

pub bare_name_found : (bytes name : List ℕ) → bare_name_field bytes ≡ Ok name → (bytes ≡ name) × IsName name
unfolding bare_name_field
bare_name_found bytes name e = name_of-found bytes name (as_fault_ok kind.BadName (name_of bytes) name e)

pub bare_name_again : (name : List ℕ) → IsName name → bare_name_field name ≡ Ok name
unfolding bare_name_field
bare_name_again name is = ap (as_fault kind.BadName) (name_of-again name is)

-- ---- streams and grains

-- an id of two names
names_found : {A : Type 0} (make : List ℕ → List ℕ → A) (front back : List ℕ) (x : A) → (field_of 0 front >>= λ a. field_of 1 back >>= λ b. Ok (make a b)) ≡ Ok x → (make front back ≡ x) × IsName front × IsName back
names_found make front back x e =
    let a = bind_ok (field_of 0 front) (λ a. field_of 1 back >>= λ b. Ok (make a b)) x e in
    let b = bind_ok (field_of 1 back) (λ b. Ok (make a.0 b)) x a.2 in
    let first = field_of-found 0 front a.0 a.1 in
    let second = field_of-found 1 back b.0 b.1 in
    (cc (first.0, second.0, b.2), first.1, second.1)

pub stream_found : (bytes : List ℕ) (stream : StreamId) → stream_field bytes ≡ Ok stream → (bytes ≡ stream_text stream) × IsStream stream
unfolding stream_field
stream_found bytes stream e =
    let a = bind_ok (or_fault kind.BadName (split_once 47 bytes)) (λ parts. as_fault kind.BadName (stream_of parts.0 parts.1)) stream e in
    let joined = split_once-joined 47 bytes a.0 (or_fault_ok kind.BadName (split_once 47 bytes) a.0 a.1) in
    let found = names_found {A = StreamId} (λ namespace key. record { namespace = namespace; key = key }) a.0.0 a.0.1 stream (as_fault_ok kind.BadName (stream_of a.0.0 a.0.1) stream a.2) in
    subst (λ (s : StreamId). (bytes ≡ stream_text s) × IsStream s) found.0 (joined, (found.1, found.2))

pub stream_again : (stream : StreamId) → IsStream stream → stream_field (stream_text stream) ≡ Ok stream
unfolding stream_field
stream_again stream is =
    let cut = split_once-front 47 stream.namespace stream.key (list_all-weaker is_name_byte (λ byte. not (byte == 47)) (λ byte h. grind (arith, nat_tests)) stream.namespace is.0.good) in
    rw (cut, field_of-again 0 stream.namespace is.0, field_of-again 1 stream.key is.1) refl

pub grain_found : (bytes : List ℕ) (grain : GrainId) → grain_field bytes ≡ Ok grain → (bytes ≡ grain_text grain) × IsGrain grain
unfolding grain_field
grain_found bytes grain e =
    let a = bind_ok (or_fault kind.BadName (split_once 47 bytes)) (λ parts. as_fault kind.BadName (grain_of parts.0 parts.1)) grain e in
    let joined = split_once-joined 47 bytes a.0 (or_fault_ok kind.BadName (split_once 47 bytes) a.0 a.1) in
    let found = names_found {A = GrainId} (λ kind key. record { kind = kind; key = key }) a.0.0 a.0.1 grain (as_fault_ok kind.BadName (grain_of a.0.0 a.0.1) grain a.2) in
    subst (λ (g : GrainId). (bytes ≡ grain_text g) × IsGrain g) found.0 (joined, (found.1, found.2))

pub grain_again : (grain : GrainId) → IsGrain grain → grain_field (grain_text grain) ≡ Ok grain
unfolding grain_field
grain_again grain is =
    let cut = split_once-front 47 grain.kind grain.key (list_all-weaker is_name_byte (λ byte. not (byte == 47)) (λ byte h. grind (arith, nat_tests)) grain.kind is.0.good) in
    rw (cut, field_of-again 0 grain.kind is.0, field_of-again 1 grain.key is.1) refl

-- ---- tokens and payloads

pub token_found : (bytes : List ℕ) (token : Token) → token_field bytes ≡ Ok token → (bytes ≡ token_text token) × IsToken token
unfolding token_field
token_found bytes token e = token_text-token_of bytes token (as_fault_ok kind.BadToken (token_of bytes) token e)

pub token_again : (token : Token) → IsToken token → token_field (token_text token) ≡ Ok token
unfolding token_field
token_again token is = ap (as_fault kind.BadToken) (token_of-token_text token is)

pub payload_found : (bytes payload : List ℕ) → payload_field bytes ≡ Ok payload → (bytes ≡ payload) × IsPayload payload
unfolding payload_field
payload_found bytes payload e =
    let parts = right_ok (payload_or bytes) bytes payload (wrong_in_payload bytes) refl (λ at_. (_, refl)) (as_fault_ok kind.BadText (payload_of bytes) payload e) in
    (parts.1, subst IsPayload parts.1 (IsPayload-from_right bytes parts.0))

pub payload_again : (payload : List ℕ) → IsPayload payload → payload_field payload ≡ Ok payload
unfolding payload_field
payload_again payload is = ap (λ wrong. as_fault kind.BadText (payload_or payload wrong)) (wrong_in_payload-none payload is)
