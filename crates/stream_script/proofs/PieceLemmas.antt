-- How the cutting of a line goes on over a word and over a text.
use Rattle.stream_script.proofs.Prelude.{◌≡◌, ◌+◌, ◌<◌, ◌≤◌, ◌++◌, length, take, drop, sym, ap, ◌∙◌, arith, inl, inr, cases_Bool, or_parts, or_cases, eqb-true, ltb-false, and_parts, not-true, append-nil, position_or_len, option_map, ℕ, Bool, true, false, ◌&&◌, List, [], ◌∷◌, Option, Some, None, position, unwrap_or, nat_lt, refl, cond_some, none-some, one-add, option_map_id, append_assoc, prefix_len-le-length, not}
use Rattle.stream_script.specs.Pieces.{Piece, Word, Text, is_space, is_quote, is_backslash, ends_piece, ends_word, is_special}
use Rattle.stream_script.specs.Lexer.{Place, Between, InWord, InText, Closed, cut, pieces_of, begins_word, begins_with, escape_at, CutsOne}

-- nothing is left, or a byte that passes stands in front
abbrev pub stops_at : (ℕ → Bool) → List ℕ → Bool
stops_at passes [] = true
stops_at passes (byte ∷ bytes) = passes byte

abbrev pub ahead : Piece → Option (List Piece) → Option (List Piece)
ahead piece pieces = option_map (λ more. piece ∷ more) pieces

-- up to the first byte that passes, or up to the end
pub stops_at-drop : (passes : ℕ → Bool) (bytes : List ℕ) → stops_at passes (drop (position_or_len passes bytes) bytes) ≡ true
stops_at-drop passes [] = refl
stops_at-drop passes (byte ∷ bytes) =
    elim (cases_Bool (passes byte)) [
      | inl h ↦ rw (h, h) refl
      | inr h ↦ rw (h, one-add) (stops_at-drop passes bytes)
    ]

-- a byte that ends nothing is one byte more of the piece that has begun
abbrev pub GoesOn : (List ℕ → Place) → (ℕ → Bool) → Type 0
GoesOn place ends = (begun : List ℕ) (byte : ℕ) (bytes : List ℕ) → ends byte ≡ false → cut (place begun) (byte ∷ bytes) ≡ cut (place (begun ++ byte ∷ [])) bytes

-- a piece that has begun, up to its end
cut-up_to : (place : List ℕ → Place) (ends : ℕ → Bool) → GoesOn place ends → (begun bytes : List ℕ) → cut (place begun) bytes ≡ cut (place (begun ++ take (position_or_len ends bytes) bytes)) (drop (position_or_len ends bytes) bytes)
cut-up_to place ends goes_on begun [] = rw (append-nil begun) refl
cut-up_to place ends goes_on begun (byte ∷ bytes) =
    elim (cases_Bool (ends byte)) [
      | inl h ↦ rw (h, append-nil begun) refl
      | inr h ↦ rw (h, one-add) (goes_on begun byte bytes h ∙ (cut-up_to place ends goes_on (begun ++ byte ∷ []) bytes ∙ ap (λ (b : List ℕ). cut (place b) (drop (position_or_len ends bytes) bytes)) (append_assoc begun (byte ∷ []) (take (position_or_len ends bytes) bytes))))
    ]

pub up_to : (place : List ℕ → Place) (ends : ℕ → Bool) → GoesOn place ends → (begun bytes front rest : List ℕ) (n : ℕ) → n ≡ position_or_len ends bytes → front ≡ take n bytes → rest ≡ drop n bytes → (cut (place begun) bytes ≡ cut (place (begun ++ front)) rest) × (stops_at ends rest ≡ true)
up_to place ends goes_on begun bytes front rest n at_end is_front is_rest = rw (is_front, is_rest, at_end) (cut-up_to place ends goes_on begun bytes, stops_at-drop ends bytes)

-- a byte inside a word
pub cut-in_word : GoesOn InWord ends_word
cut-in_word word byte bytes inside =
    let parts = or_parts (is_space byte) (is_quote byte) inside in
    rw (parts.0, parts.1) (option_map_id (cut (InWord (word ++ byte ∷ [])) bytes))

-- a word that a space or the end ends
pub cut-word_ended : (word rest : List ℕ) → stops_at ends_word rest ≡ true → begins_with 34 rest ≡ false → cut (InWord word) rest ≡ ahead (Word word) (cut Between rest)
cut-word_ended word [] stops unquoted = refl
cut-word_ended word (byte ∷ rest) stops unquoted =
    elim (or_cases (is_space byte) (is_quote byte) stops) [
      | inl h ↦ rw (eqb-true byte 32 h) (ap (ahead (Word word)) (sym (option_map_id (cut Between rest))))
      | inr h ↦ cc
    ]

-- a word that a quote ends
pub cut-word_quoted : (word rest : List ℕ) → begins_with 34 rest ≡ true → cut (InWord word) rest ≡ None
cut-word_quoted word [] quoted = cc
cut-word_quoted word (byte ∷ rest) quoted = rw (eqb-true byte 34 quoted) refl

-- the first place that passes, or the length, as two calls give it
pub unwrap_or-position : (passes : ℕ → Bool) (bytes : List ℕ) → unwrap_or (position passes bytes) (length bytes) ≡ position_or_len passes bytes
unwrap_or-position passes bytes =
    let within : position_or_len passes bytes ≤ length bytes = prefix_len-le-length (λ byte. not (passes byte)) bytes in
    elim (cases_Bool (nat_lt (position_or_len passes bytes) (length bytes))) [
      | inl h ↦ rw h refl
      | inr h ↦ rw h (omega (arith, ltb-false _ _ h, within))
    ]

pub word_quoted : (bytes rest : List ℕ) (n : ℕ) → n ≡ position_or_len ends_word bytes → rest ≡ drop n bytes → begins_with 34 rest ≡ true → cut (InWord []) bytes ≡ None
word_quoted bytes rest n at_end behind quoted =
    (up_to InWord ends_word cut-in_word [] bytes (take n bytes) rest n at_end refl behind).0 ∙ cut-word_quoted (take n bytes) rest quoted

pub word_found : (bytes word rest : List ℕ) (n : ℕ) → n ≡ position_or_len ends_word bytes → word ≡ take n bytes → rest ≡ drop n bytes → begins_with 34 rest ≡ false → cut (InWord []) bytes ≡ ahead (Word word) (cut Between rest)
word_found bytes word rest n at_end front behind unquoted =
    let begun = up_to InWord ends_word cut-in_word [] bytes word rest n at_end front behind in
    begun.0 ∙ cut-word_ended word rest begun.1 unquoted

-- a word has one byte or more
pub word_some : (bytes : List ℕ) → begins_word bytes ≡ true → 0 < position_or_len ends_word bytes
word_some [] begins = cc
word_some (byte ∷ bytes) begins = rw (not-true (ends_word byte) begins) (omega arith)

-- a byte that stands for itself in a text
pub cut-in_text : GoesOn InText is_special
cut-in_text text byte bytes plain =
    let parts = or_parts (is_quote byte) (is_backslash byte) plain in
    rw (parts.0, parts.1) (option_map_id (cut (InText (text ++ byte ∷ [])) bytes))

-- a text's closing quote
pub cut-quote : (text bytes : List ℕ) → begins_with 34 bytes ≡ true → cut (InText text) bytes ≡ cut (Closed text) (drop 1 bytes)
cut-quote text [] quoted = cc
cut-quote text (byte ∷ bytes) quoted = rw (eqb-true byte 34 quoted) (option_map_id (cut (Closed text) bytes))

-- an escape and the byte that it stands for
pub cut-escaped : (text : List ℕ) (byte : ℕ) (bytes : List ℕ) → is_special byte ≡ true → cut (InText text) (92 ∷ byte ∷ bytes) ≡ cut (InText (text ++ byte ∷ [])) bytes
cut-escaped text byte bytes special =
    rw special (option_map_id (option_map (λ more. more) (cut (InText (text ++ byte ∷ [])) bytes)) ∙ option_map_id (cut (InText (text ++ byte ∷ [])) bytes))

pub cut-escape : (text bytes : List ℕ) (byte : ℕ) (rest : List ℕ) → escape_at bytes ≡ Some (byte, rest) → (cut (InText text) bytes ≡ cut (InText (text ++ byte ∷ [])) rest) × (length bytes ≡ length rest + 2)
cut-escape text [] byte rest found = cc
cut-escape text (first ∷ []) byte rest found = cc
cut-escape text (first ∷ second ∷ bytes) byte rest found =
    let tests = cond_some (is_backslash first && is_special second) (second, bytes) (byte, rest) found in
    let both = and_parts (is_backslash first) (is_special second) tests.0 in
    let same : second ≡ byte = ap (λ (e : ℕ × List ℕ). e.0) tests.1 in
    let behind : bytes ≡ rest = ap (λ (e : ℕ × List ℕ). e.1) tests.1 in
    (rw (eqb-true first 92 both.0, cut-escaped text second bytes both.1, same, behind) refl, omega (arith, ap (λ (l : List ℕ). length l) behind))

stuck_escape : (text : List ℕ) (byte : ℕ) (bytes : List ℕ) → is_backslash byte ≡ true → escape_at (byte ∷ bytes) ≡ None → cut (InText text) (byte ∷ bytes) ≡ None
stuck_escape text byte [] back none = rw (eqb-true byte 92 back) refl
stuck_escape text byte (second ∷ bytes) back none =
    elim (cases_Bool (is_special second)) [
      | inl h ↦ absurd (none-some (second, bytes) (sym none ∙ rw (back, h) refl))
      | inr h ↦ rw (eqb-true byte 92 back, h) refl
    ]

-- neither a closing quote nor an escape
pub cut-text_stuck : (text bytes : List ℕ) → stops_at is_special bytes ≡ true → begins_with 34 bytes ≡ false → escape_at bytes ≡ None → cut (InText text) bytes ≡ None
cut-text_stuck text [] stops unquoted none = refl
cut-text_stuck text (byte ∷ bytes) stops unquoted none =
    elim (or_cases (is_quote byte) (is_backslash byte) stops) [
      | inl h ↦ cc
      | inr h ↦ stuck_escape text byte bytes h none
    ]

-- a text that a space or the end follows
pub cut-closed : (text rest : List ℕ) → ends_piece rest ≡ true → cut (Closed text) rest ≡ ahead (Text text) (cut Between rest)
cut-closed text [] ends = refl
cut-closed text (byte ∷ rest) ends = rw (eqb-true byte 32 ends) (ap (ahead (Text text)) (sym (option_map_id (cut Between rest))))

-- a text without an escape
pub plain_text_found : (bytes text special rest : List ℕ) (n : ℕ) → n ≡ position_or_len is_special bytes → text ≡ take n bytes → special ≡ drop n bytes → begins_with 34 special ≡ true → rest ≡ drop 1 special → ends_piece rest ≡ true → cut (InText []) bytes ≡ ahead (Text text) (cut Between rest)
plain_text_found bytes text special rest n at_end front behind quoted after ends =
    let begun = up_to InText is_special cut-in_text [] bytes text special n at_end front behind in
    let closed = cut-closed text rest ends in
    begun.0 ∙ (cut-quote text special quoted ∙ (ap (cut (Closed text)) (sym after) ∙ closed))

pub CutsOne-along : (place next : Place) (bytes rest : List ℕ) (found : Option (Piece × List ℕ)) → cut place bytes ≡ cut next rest → CutsOne next rest found → CutsOne place bytes found
CutsOne-along place next bytes rest None along cuts = along ∙ cuts
CutsOne-along place next bytes rest (Some found) along cuts = along ∙ cuts

-- these pieces in front of those of the rest
abbrev pub with_front : List Piece → Option (List Piece) → Option (List Piece)
with_front front pieces = option_map (λ more. front ++ more) pieces

-- a space between pieces
pub cut-space : (byte : ℕ) (bytes : List ℕ) → byte ≡ 32 → cut Between (byte ∷ bytes) ≡ cut Between bytes
cut-space byte bytes same = rw same (option_map_id (cut Between bytes))

-- one more piece in front
pub with_front-ahead : (front : List Piece) (piece : Piece) (pieces : Option (List Piece)) → with_front front (ahead piece pieces) ≡ with_front (front ++ piece ∷ []) pieces
with_front-ahead front piece None = refl
with_front-ahead front piece (Some pieces) = ap Some (sym (append_assoc front (piece ∷ []) pieces))

-- the loop over a line: no piece stands in front of the rest
pub line_stuck : (front : List Piece) (line rest : List ℕ) → with_front front (cut Between rest) ≡ cut Between line → cut Between rest ≡ None → None ≡ pieces_of line
unfolding pieces_of
line_stuck front line rest so_far stuck = sym (ap (with_front front) stuck) ∙ so_far

-- one more piece
pub line_more : (front : List Piece) (piece : Piece) (line rest after : List ℕ) → with_front front (cut Between rest) ≡ cut Between line → cut Between rest ≡ ahead piece (cut Between after) → with_front (front ++ piece ∷ []) (cut Between after) ≡ cut Between line
line_more front piece line rest after so_far cuts =
    sym (with_front-ahead front piece (cut Between after)) ∙ (sym (ap (with_front front) cuts) ∙ so_far)

-- nothing is left
pub line_done : (front : List Piece) (line rest : List ℕ) → with_front front (cut Between rest) ≡ cut Between line → length rest < 1 → Some front ≡ pieces_of line
unfolding pieces_of
line_done front line [] so_far done = sym (ap Some (append-nil front)) ∙ so_far
line_done front line (byte ∷ rest) so_far done = absurd (omega arith)
