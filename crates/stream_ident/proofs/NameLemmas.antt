-- Texts that have no wrong place, and rows that hold a text.
use Rattle.stream_ident.proofs.Prelude.{ap, ◌∙◌, arith, not-false, le-ltb, ltb-false, ne_eqb, eqb-false, and_parts, take_all, take_at, length-append, length-replicate, list_all, position_or_len, ◌≢◌, ◌-◌, not, Some, None, position, replicate, nat_lt, cond}
use Rattle.std.specs.Prelude.{◌≡◌, ℕ, ◌<◌, ◌≤◌, Bool, true, List, [], ◌∷◌, ◌++◌, length, take, refl}
use Rattle.std.proofs.lemmas.List.Sums.{list_all-from_AllPass, fails_before_first}
use Rattle.stream_ident.specs.Text.{wrong_place, IsPadded}
use Rattle.stream_ident.specs.Alphabet.{is_name_byte, IsName, wrong_in_name, IsPayload, wrong_in_payload, is_printable}
use Rattle.stream_ident.specs.declared.limits.TheConstants.{NAME_BYTES, PAYLOAD_BYTES}
use Rattle.stream_ident.proofs.WordLemmas.{cond_none, one-add, or_else-none, or_else-parts}

-- where no place is wrong each byte is good
pub good_from_position : (good : ℕ → Bool) (bytes : List ℕ) → position (λ byte. not (good byte)) bytes ≡ None → list_all good bytes ≡ true
good_from_position good bytes none =
    let whole : length bytes ≤ position_or_len (λ byte. not (good byte)) bytes = ltb-false _ _ (cond_none _ _ _ none).0 in
    list_all-from_AllPass good bytes (λ k d h. not-false _ (fails_before_first (λ byte. not (good byte)) bytes k d (omega arith)))

-- of a text that is short enough the front is the whole
pub wrong_place-short : (good : ℕ → Bool) (most : ℕ) (bytes : List ℕ) → length bytes ≤ most → wrong_place good most bytes ≡ position (λ byte. not (good byte)) bytes
wrong_place-short good most bytes short =
    rw (take_all most bytes short, le-ltb most (length bytes) short, or_else-none) refl

pub wrong_in_name-short : (bytes : List ℕ) → 0 < length bytes → length bytes ≤ NAME_BYTES → wrong_in_name bytes ≡ position (λ byte. not (is_name_byte byte)) bytes
wrong_in_name-short bytes some short =
    rw (ne_eqb (length bytes) 0 (λ e. omega arith)) (wrong_place-short is_name_byte NAME_BYTES bytes short)

-- a text with no wrong place is short enough, and each of its bytes is good
pub right_everywhere : (good : ℕ → Bool) (most : ℕ) (bytes : List ℕ) → wrong_place good most bytes ≡ None → (length bytes ≤ most) × (list_all good bytes ≡ true)
right_everywhere good most bytes none =
    let parts = or_else-parts (position (λ byte. not (good byte)) (take most bytes)) (cond (nat_lt most (length bytes)) (Some most) None) none in
    let short : length bytes ≤ most = ltb-false _ _ (cond_none _ _ _ parts.1).0 in
    let nowhere = rw (take_all most bytes short) at parts.0 in
    (short, good_from_position good bytes nowhere)

pub IsName-from_right : (bytes : List ℕ) → wrong_in_name bytes ≡ None → IsName bytes
IsName-from_right bytes none =
    let tests = cond_none _ _ _ none in
    let some : length bytes ≢ 0 = eqb-false _ _ tests.0 in
    let parts = right_everywhere is_name_byte NAME_BYTES bytes tests.1 in
    record { some = omega arith; short = parts.0; good = parts.1 }

pub IsPayload-from_right : (bytes : List ℕ) → wrong_in_payload bytes ≡ None → IsPayload bytes
IsPayload-from_right bytes none =
    let parts = right_everywhere is_printable PAYLOAD_BYTES bytes none in
    record { short = parts.0; good = parts.1 }

-- where each byte is good no place is wrong
good_past_the_end : (good : ℕ → Bool) (bytes : List ℕ) → list_all good bytes ≡ true → length bytes ≤ position_or_len (λ byte. not (good byte)) bytes
good_past_the_end good [] all = omega arith
good_past_the_end good (byte ∷ bytes) all =
    let parts = and_parts (good byte) (list_all good bytes) all in
    rw (parts.0, one-add) (omega (arith, good_past_the_end good bytes parts.1))

position-good : (good : ℕ → Bool) (bytes : List ℕ) → list_all good bytes ≡ true → position (λ byte. not (good byte)) bytes ≡ None
position-good good bytes all = rw (le-ltb (position_or_len (λ byte. not (good byte)) bytes) (length bytes) (good_past_the_end good bytes all)) refl

pub wrong_in_name-none : (bytes : List ℕ) → IsName bytes → wrong_in_name bytes ≡ None
wrong_in_name-none bytes is = wrong_in_name-short bytes is.some is.short ∙ position-good is_name_byte bytes is.good

pub wrong_in_payload-none : (bytes : List ℕ) → IsPayload bytes → wrong_in_payload bytes ≡ None
wrong_in_payload-none bytes is = wrong_place-short is_printable PAYLOAD_BYTES bytes is.short ∙ position-good is_printable bytes is.good

-- a row that is a text with zeros behind it holds the text
pub IsPadded-from_row : (room : ℕ) (text row : List ℕ) → length text ≤ room → row ≡ text ++ replicate (room - length text) 0 → IsPadded room (length text) row × (take (length text) row ≡ text)
IsPadded-from_row room text row fits e =
    let front : take (length text) row ≡ text = rw e (take_at text _ (length text) refl) in (
      record {
        fits = fits;
        whole = omega (arith, ap length e, length-append text (replicate (room - length text) 0), length-replicate {A = ℕ});
        filled = rw front e;
      },
      front,
    )
