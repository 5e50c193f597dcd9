-- The cutting gives just the pieces of which a line is made.
use Rattle.stream_script.proofs.Prelude.{◌≡◌, ◌++◌, length-append, sym, ap, ◌∙◌, arith, inl, inr, cases_Bool, or_parts, or_left, or_from, eqb-true, and_parts, and_from, not-true, append-nil, list_all, option_map, ℕ, true, false, not, List, [], ◌∷◌, Option, Some, None, refl, none-some, option_map_id, append_assoc}
use Rattle.stream_script.specs.Cutting.{HasNoPieces}
use Rattle.stream_script.specs.Pieces.{Piece, Word, Text, is_space, is_quote, is_backslash, ends_word, is_special, escaped, spelling, IsPiece, AreSpaces, ends_piece, IsLineOf}
use Rattle.stream_script.specs.Lexer.{Place, Between, InWord, InText, InEscape, Closed, cut, pieces_of, begins_with}
use Rattle.stream_script.proofs.PieceLemmas.{ahead, stops_at, cut-space, cut-in_word, cut-word_ended, cut-word_quoted, cut-in_text, cut-quote, cut-escaped, cut-closed}
use Rattle.stream_script.proofs.SubLemmas.{list_all-both}
use Rattle.stream_script.proofs.Texts.{escaped-append}

-- ---- what a line is made of is what the cutting gives

cut-spaces : (spaces rest : List ℕ) → AreSpaces spaces → cut Between (spaces ++ rest) ≡ cut Between rest
cut-spaces [] rest h = refl
cut-spaces (byte ∷ spaces) rest h =
    let parts = and_parts (is_space byte) (list_all is_space spaces) h in
    cut-space byte (spaces ++ rest) (eqb-true byte 32 parts.0) ∙ cut-spaces spaces rest parts.1

cut-word_whole : (word tail rest : List ℕ) → list_all (λ byte. not (ends_word byte)) tail ≡ true → cut (InWord word) (tail ++ rest) ≡ cut (InWord (word ++ tail)) rest
cut-word_whole word [] rest h = ap (λ (w : List ℕ). cut (InWord w) rest) (sym (append-nil word))
cut-word_whole word (byte ∷ tail) rest h =
    let parts = and_parts (not (ends_word byte)) (list_all (λ byte. not (ends_word byte)) tail) h in
    cut-in_word word byte (tail ++ rest) (not-true (ends_word byte) parts.0) ∙ (cut-word_whole (word ++ byte ∷ []) tail rest parts.1 ∙ ap (λ (w : List ℕ). cut (InWord w) rest) (append_assoc word (byte ∷ []) tail))

cut-text_whole : (text tail rest : List ℕ) → cut (InText text) (escaped tail ++ rest) ≡ cut (InText (text ++ tail)) rest
cut-text_whole text [] rest = ap (λ (t : List ℕ). cut (InText t) rest) (sym (append-nil text))
cut-text_whole text (byte ∷ tail) rest =
    let later = cut-text_whole (text ++ byte ∷ []) tail rest ∙ ap (λ (t : List ℕ). cut (InText t) rest) (append_assoc text (byte ∷ []) tail) in
    elim (cases_Bool (is_special byte)) [
      | inl h ↦ rw h (cut-escaped text byte (escaped tail ++ rest) h ∙ later)
      | inr h ↦ rw h (cut-in_text text byte (escaped tail ++ rest) h ∙ later)
    ]

ended_word : (rest : List ℕ) → ends_piece rest ≡ true → (stops_at ends_word rest ≡ true) × (begins_with 34 rest ≡ false)
ended_word [] h = (refl, refl)
ended_word (byte ∷ rest) h = (or_left (is_space byte) (is_quote byte) h, rw (eqb-true byte 32 h) refl)

pub cut-piece : (piece : Piece) (rest : List ℕ) → IsPiece piece → ends_piece rest ≡ true → cut Between (spelling piece ++ rest) ≡ ahead piece (cut Between rest)
cut-piece (Word []) rest is ends = absurd (omega (arith, is.0))
cut-piece (Word (byte ∷ word)) rest is ends =
    let parts = and_parts (not (ends_word byte)) (list_all (λ byte. not (ends_word byte)) word) is.1 in
    let tests = or_parts (is_space byte) (is_quote byte) (not-true (ends_word byte) parts.0) in
    let stops = ended_word rest ends in
    rw (tests.0, tests.1) (option_map_id (cut (InWord (byte ∷ [])) (word ++ rest)) ∙ (cut-word_whole (byte ∷ []) word rest parts.1 ∙ cut-word_ended (byte ∷ word) rest stops.0 stops.1))
cut-piece (Text text) rest is ends =
    option_map_id (cut (InText []) (escaped text ++ 34 ∷ [] ++ rest))
    ∙ (ap (cut (InText [])) (append_assoc (escaped text) (34 ∷ []) rest)
    ∙ (cut-text_whole [] text (34 ∷ rest) ∙ (option_map_id (cut (Closed text) rest) ∙ cut-closed text rest ends)))

-- a line that is made of these pieces is cut into them
pub pieces_of-line : (line : List ℕ) (pieces : List Piece) → IsLineOf line pieces → pieces_of line ≡ Some pieces
unfolding pieces_of
pieces_of-line line [] made = ap (cut Between) (sym (append-nil line)) ∙ cut-spaces line [] made
pieces_of-line line (piece ∷ pieces) made =
    let spaces = made.0 in
    let rest = made.1 in
    ap (cut Between) (made.2 ∙ append_assoc spaces (spelling piece) rest)
    ∙ (cut-spaces spaces (spelling piece ++ rest) made.3 ∙ (cut-piece piece rest made.4 made.5 ∙ ap (ahead piece) (pieces_of-line rest pieces made.6)))

-- ---- a line is made of the pieces that the cutting gives

option_map_some : {A B : Type 0} (f : A → B) (o : Option A) (y : B) → option_map f o ≡ Some y → (x : A) × (o ≡ Some x) × (f x ≡ y)
option_map_some f None y e = cc
option_map_some f (Some x) y e = (x, refl, cc)

-- what stands in the line of the piece that has begun
abbrev held : Place → List ℕ
held Between = []
held (InWord word) = word
held (InText text) = 34 ∷ escaped text
held (InEscape text) = 34 ∷ escaped text ++ 92 ∷ []
held (Closed text) = spelling (Text text)

-- a word that has begun is a piece
abbrev IsPlace : Place → Type 0
IsPlace (InWord word) = IsPiece (Word word)
IsPlace _ = Unit {0}

abbrev Found : List ℕ → Type 0
Found bytes = (place : Place) (pieces : List Piece) → IsPlace place → cut place bytes ≡ Some pieces → IsLineOf (held place ++ bytes) pieces

-- one more byte of a text, in front of what follows
escaped-more : (text : List ℕ) (byte : ℕ) (one bytes : List ℕ) → escaped (byte ∷ []) ≡ one → escaped (text ++ byte ∷ []) ++ bytes ≡ escaped text ++ (one ++ bytes)
escaped-more text byte one bytes is =
    ap (λ (l : List ℕ). l ++ bytes) (escaped-append text (byte ∷ []) ∙ ap (λ (l : List ℕ). escaped text ++ l) is) ∙ append_assoc (escaped text) one bytes

-- the cutting went on without a piece
passed : (o : Option (List Piece)) (pieces : List Piece) → option_map (λ more. more) o ≡ Some pieces → o ≡ Some pieces
passed o pieces e = sym (option_map_id o) ∙ e

-- one more space in front
spaced : (byte : ℕ) (line : List ℕ) (pieces : List Piece) → is_space byte ≡ true → IsLineOf line pieces → IsLineOf (byte ∷ line) pieces
spaced byte line [] space made = and_from (is_space byte) (list_all is_space line) space made
spaced byte line (piece ∷ pieces) space made =
    (byte ∷ made.0, made.1, ap (λ (l : List ℕ). byte ∷ l) made.2, and_from (is_space byte) (list_all is_space made.0) space made.3, made.4, made.5, made.6)

-- one more piece in front
pieced : (piece : Piece) (rest : List ℕ) (pieces : List Piece) → IsPiece piece → ends_piece rest ≡ true → ((more : List Piece) → cut Between rest ≡ Some more → IsLineOf rest more) → ahead piece (cut Between rest) ≡ Some pieces → IsLineOf (spelling piece ++ rest) pieces
pieced piece rest pieces is ends found e =
    let more = option_map_some (λ more. piece ∷ more) (cut Between rest) pieces e in
    rw (← more.2) ([], rest, refl, refl, is, ends, found more.0 more.1)

found-end : (pieces : List Piece) → cut Between [] ≡ Some pieces → IsLineOf [] pieces
found-end [] e = refl
found-end (piece ∷ pieces) e = absurd cc

found-between : (byte : ℕ) (bytes : List ℕ) → Found bytes → (pieces : List Piece) → cut Between (byte ∷ bytes) ≡ Some pieces → IsLineOf (byte ∷ bytes) pieces
found-between byte bytes found pieces e =
    elim (cases_Bool (is_space byte)) [
      | inl space ↦ spaced byte bytes pieces space (found Between pieces tt (sym (cut-space byte bytes (eqb-true byte 32 space)) ∙ e))
      | inr no_space ↦ elim (cases_Bool (is_quote byte)) [
        | inl quote ↦ rw (eqb-true byte 34 quote) (found (InText []) pieces tt (passed (cut (InText []) bytes) pieces (rw (no_space, quote) at e)))
        | inr no_quote ↦ found (InWord (byte ∷ [])) pieces (omega arith, rw (no_space, no_quote) refl) (passed (cut (InWord (byte ∷ [])) bytes) pieces (rw (no_space, no_quote) at e))
      ]
    ]

found-word : (word : List ℕ) (byte : ℕ) (bytes : List ℕ) → Found bytes → (pieces : List Piece) → IsPiece (Word word) → cut (InWord word) (byte ∷ bytes) ≡ Some pieces → IsLineOf (word ++ byte ∷ bytes) pieces
found-word word byte bytes found pieces is e =
    elim (cases_Bool (is_space byte)) [
      | inl space ↦
          let stops = ended_word (byte ∷ bytes) space in
          pieced (Word word) (byte ∷ bytes) pieces is space (found-between byte bytes found) (sym (cut-word_ended word (byte ∷ bytes) stops.0 stops.1) ∙ e)
      | inr no_space ↦ elim (cases_Bool (is_quote byte)) [
        | inl quote ↦ absurd (none-some pieces (sym (cut-word_quoted word (byte ∷ bytes) quote) ∙ e))
        | inr no_quote ↦
            let inside : ends_word byte ≡ false = or_from (is_space byte) (is_quote byte) no_space no_quote in
            let all = list_all-both (λ b. not (ends_word b)) word (byte ∷ []) is.1 (rw inside refl) in
            rw (append_assoc word (byte ∷ []) bytes) at (found (InWord (word ++ byte ∷ [])) pieces (omega (arith, length-append word (byte ∷ []), is.0), all) (sym (cut-in_word word byte bytes inside) ∙ e))
      ]
    ]

found-text : (text : List ℕ) (byte : ℕ) (bytes : List ℕ) → Found bytes → (pieces : List Piece) → cut (InText text) (byte ∷ bytes) ≡ Some pieces → IsLineOf (34 ∷ escaped text ++ byte ∷ bytes) pieces
found-text text byte bytes found pieces e =
    elim (cases_Bool (is_quote byte)) [
      | inl quote ↦ rw (eqb-true byte 34 quote) (rw (append_assoc (escaped text) (34 ∷ []) bytes) at (found (Closed text) pieces tt (sym (cut-quote text (byte ∷ bytes) quote) ∙ e)))
      | inr no_quote ↦ elim (cases_Bool (is_backslash byte)) [
        | inl back ↦ rw (eqb-true byte 92 back) (rw (append_assoc (escaped text) (92 ∷ []) bytes) at (found (InEscape text) pieces tt (passed (cut (InEscape text) bytes) pieces (rw (no_quote, back) at e))))
        | inr no_back ↦
            let plain : is_special byte ≡ false = or_from (is_quote byte) (is_backslash byte) no_quote no_back in
            rw (escaped-more text byte (byte ∷ []) bytes (rw plain refl)) at (found (InText (text ++ byte ∷ [])) pieces tt (sym (cut-in_text text byte bytes plain) ∙ e))
      ]
    ]

found-escape : (text : List ℕ) (byte : ℕ) (bytes : List ℕ) → Found bytes → (pieces : List Piece) → cut (InEscape text) (byte ∷ bytes) ≡ Some pieces → IsLineOf (34 ∷ (escaped text ++ 92 ∷ []) ++ byte ∷ bytes) pieces
found-escape text byte bytes found pieces e =
    elim (cases_Bool (is_special byte)) [
      | inl special ↦
          let next = found (InText (text ++ byte ∷ [])) pieces tt (passed (cut (InText (text ++ byte ∷ [])) bytes) pieces (rw special at e)) in
          rw (append_assoc (escaped text) (92 ∷ []) (byte ∷ bytes)) (rw (escaped-more text byte (92 ∷ byte ∷ []) bytes (rw special refl)) at next)
      | inr plain ↦ absurd (none-some pieces (rw plain at e))
    ]

found-closed : (text : List ℕ) (byte : ℕ) (bytes : List ℕ) → Found bytes → (pieces : List Piece) → cut (Closed text) (byte ∷ bytes) ≡ Some pieces → IsLineOf (spelling (Text text) ++ byte ∷ bytes) pieces
found-closed text byte bytes found pieces e =
    elim (cases_Bool (is_space byte)) [
      | inl space ↦ pieced (Text text) (byte ∷ bytes) pieces tt space (found-between byte bytes found) (sym (cut-closed text (byte ∷ bytes) space) ∙ e)
      | inr no_space ↦ absurd (none-some pieces (rw no_space at e))
    ]

cut_found : (bytes : List ℕ) (place : Place) (pieces : List Piece) → IsPlace place → cut place bytes ≡ Some pieces → IsLineOf (held place ++ bytes) pieces
cut_found [] Between pieces is e = found-end pieces e
cut_found [] (InWord word) pieces is e = pieced (Word word) [] pieces is refl found-end e
cut_found [] (Closed text) pieces is e = pieced (Text text) [] pieces tt refl found-end e
cut_found [] _ pieces is e = absurd cc
cut_found (byte ∷ bytes) Between pieces is e = found-between byte bytes (cut_found bytes) pieces e
cut_found (byte ∷ bytes) (InWord word) pieces is e = found-word word byte bytes (cut_found bytes) pieces is e
cut_found (byte ∷ bytes) (InText text) pieces is e = found-text text byte bytes (cut_found bytes) pieces e
cut_found (byte ∷ bytes) (InEscape text) pieces is e = found-escape text byte bytes (cut_found bytes) pieces e
cut_found (byte ∷ bytes) (Closed text) pieces is e = found-closed text byte bytes (cut_found bytes) pieces e

-- a line is made of the pieces that it is cut into
pub line-pieces_of : (line : List ℕ) (pieces : List Piece) → pieces_of line ≡ Some pieces → IsLineOf line pieces
unfolding pieces_of
line-pieces_of line pieces e = cut_found line Between pieces tt e

-- a line of which there are no pieces is cut into none
pub none_found : (line : List ℕ) (found : Option (List Piece)) → pieces_of line ≡ found → HasNoPieces line → found ≡ None
none_found line None is none = refl
none_found line (Some pieces) is none = absurd (none pieces (line-pieces_of line pieces is))
