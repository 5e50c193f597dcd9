-- The line of an operation is read as its command, and has printable bytes alone. Its pieces are words and texts, and
-- where the grammar has the operation's command, they are the command's.
use Rattle.script_runs.proofs.Prelude.{arith, length-append, inr, ltb-true, AllByRecursion, list_all, ◌^◌, codes, token_text, IsToken, GrainId, StreamId, SubName, Token, Op, IsStream, IsGrain, IsSub, IsQueue, IsSpelled, sym, ap, append_assoc, append-nil, flat_map, MayStand, Reads, cond, is_skipped, lexed, parsed_of, Command}
use Rattle.std.specs.Char.{is_ascii_digit}
use Rattle.std.specs.Fmt.{decimal}
use Rattle.std.specs.Prelude.{◌≡◌, ℕ, ◌<◌, Bool, true, not, nat_lt, List, [], ◌∷◌, length, map, None, Some, refl, ◌++◌, false, Result, Err}
use Rattle.std.proofs.lemmas.Bool.Decides.{nat_tests}
use Rattle.std.proofs.lemmas.Fmt.{decimal_nonempty}
use Rattle.stream_ident.specs.Alphabet.{is_name_byte, IsName, is_printable}
use Rattle.stream_model.specs.declared.op.Op.TheVariants as op
use Rattle.stream_model.specs.declared.op.Start.TheVariants as start
use Rattle.stream_script.specs.declared.parser.command.FaultKind.TheVariants as kind
use Rattle.stream_script.specs.declared.parser.command.FaultKind.{FaultKind}
use Rattle.stream_script.specs.declared.parser.command.Mode.TheVariants as mode
use Rattle.stream_script.specs.declared.parser.command.Parsed.TheVariants as parsed
use Rattle.stream_script.specs.Lexer.{pieces_of}
use Rattle.stream_script.specs.Pieces.{Piece, Word, Text, ends_word, IsPiece, spelling, AreSpaces, IsLineOf}
use Rattle.stream_script.specs.Reading.{reading}
use Rattle.stream_script.specs.Spelling.{stream_text, grain_text, name_text, sub_text}
use Rattle.stream_script.proofs.AgainLemmas.{reading-again}
use Rattle.stream_script.proofs.SubLemmas.{list_all-both, decimal_all, name_all, stream_text_all, grain_text_all, name_text_all}
use Rattle.script_runs.specs.OpLine.{op_pieces, op_command, joined, text_behind, op_line, HasCommand, ReadsAgain, LinesArePrintable}

-- ---- words

-- a byte that stands in a word
abbrev stays_in_word : ℕ → Bool
stays_in_word byte = not (ends_word byte)

name_stays : (byte : ℕ) → is_name_byte byte ≡ true → stays_in_word byte ≡ true
name_stays byte h = grind (arith, nat_tests)

digit_stays : (byte : ℕ) → is_ascii_digit byte ≡ true → stays_in_word byte ≡ true
digit_stays byte h = grind (arith, nat_tests)

-- a word that is written out
fixed_word : (word : List ℕ) → nat_lt 0 (length word) ≡ true → list_all stays_in_word word ≡ true → IsPiece (Word word)
fixed_word word some good = (ltb-true 0 (length word) some, good)

number_word : (n : ℕ) → n < 2 ^ 64 → IsPiece (Word (decimal n))
number_word n small = (decimal_nonempty n small, decimal_all stays_in_word digit_stays n small)

queue_word : (queues queue : ℕ) → IsQueue queues queue → IsPiece (Word (decimal queue))
queue_word queues queue is = number_word queue (omega (arith, is.1))

name_word : (name : List ℕ) → IsName name → IsPiece (Word name)
name_word name is = (is.some, name_all stays_in_word name_stays name is)

stream_word : (stream : StreamId) → IsStream stream → IsPiece (Word (stream_text stream))
stream_word stream is =
    (omega (arith, length-append stream.namespace (47 ∷ stream.key)), stream_text_all stays_in_word name_stays refl stream is)

grain_word : (grain : GrainId) → IsGrain grain → IsPiece (Word (grain_text grain))
grain_word grain is =
    (omega (arith, length-append grain.kind (47 ∷ grain.key)), grain_text_all stays_in_word name_stays refl grain is)

token_word : (token : Token) → IsToken token → IsPiece (Word (token_text token))
token_word token is =
    let seq = decimal_all stays_in_word digit_stays token.seq is.seq in
    let idx = decimal_all stays_in_word digit_stays token.idx (omega (arith, is.idx)) in
    (omega (arith, length-append (decimal token.seq) (46 ∷ decimal token.idx)), list_all-both stays_in_word (decimal token.seq) (46 ∷ decimal token.idx) seq idx)

sub_word : (queues queue : ℕ) (sub : SubName) → IsQueue queues queue → IsSub sub → IsPiece (Word (sub_text queue sub))
sub_word queues queue sub is_queue is_sub =
    let number = decimal_all stays_in_word digit_stays queue (omega (arith, is_queue.1)) in
    let name = name_text_all stays_in_word name_stays digit_stays refl refl sub is_sub in
    (omega (arith, length-append (decimal queue) (58 ∷ name_text sub)), list_all-both stays_in_word (decimal queue) (58 ∷ name_text sub) number name)

texts_are : (payloads : List (List ℕ)) → AllByRecursion IsPiece (map Text payloads)
texts_are [] = tt
texts_are (payload ∷ payloads) = (tt, texts_are payloads)

-- ---- the pieces of an operation

-- the operation's own pieces are words and texts, and its command has them
own_pieces : (queues queue : ℕ) (pieces : List Piece) (o : Op) → IsSpelled queues pieces (op_command queue o)
    → AllByRecursion IsPiece (op_pieces queue o) × IsSpelled queues (op_pieces queue o) (op_command queue o)
unfolding op_pieces
own_pieces queues queue pieces (op.Publish stream payloads) w =
    ((fixed_word (codes "pub") refl refl, (stream_word stream w.0, texts_are payloads)), (w.0, w.1, w.2, refl))
own_pieces queues queue pieces (op.Subscribe stream grain start.Latest) w =
    ((fixed_word (codes "sub") refl refl, (stream_word stream w.0, (grain_word grain w.1, (fixed_word (codes "latest") refl refl, tt)))), (w.0, w.1, w.2, _, refl, refl))
own_pieces queues queue pieces (op.Subscribe stream grain (start.At token)) w =
    ((fixed_word (codes "sub") refl refl, (stream_word stream w.0, (grain_word grain w.1, (fixed_word (codes "from") refl refl, (token_word token w.4.0, tt))))), (w.0, w.1, w.2, _, (w.4.0, refl), refl))
own_pieces queues queue pieces (op.Unsubscribe sub) w =
    ((fixed_word (codes "unsub") refl refl, (sub_word queues queue sub w.0 w.1, tt)), (w.0, w.1, refl))
own_pieces queues queue pieces (op.AddRule own_kind namespace) w =
    ((fixed_word (codes "rule") refl refl, (name_word own_kind w.0, (name_word namespace w.1, tt))), (w.0, w.1, refl))
own_pieces queues queue pieces (op.Pull generation most) w =
    ((fixed_word (codes "pull") refl refl, (queue_word queues queue w.0, (number_word generation w.1, (number_word most (omega (arith, w.2)), tt)))), (w.0, w.1, w.2, refl))
own_pieces queues queue pieces (op.Deliver generation sub) w =
    ((fixed_word (codes "deliver") refl refl, (number_word generation w.1, (sub_word queues queue sub w.0 w.2, tt))), (w.0, w.1, w.2, refl))
own_pieces queues queue pieces (op.Retry generation sub) w =
    ((fixed_word (codes "retry") refl refl, (number_word generation w.1, (sub_word queues queue sub w.0 w.2, tt))), (w.0, w.1, w.2, refl))
own_pieces queues queue pieces (op.Ack generation sub token) w =
    ((fixed_word (codes "ack") refl refl, (number_word generation w.1, (sub_word queues queue sub w.0 w.2, (token_word token w.3, tt)))), (w.0, w.1, w.2, w.3, refl))
own_pieces queues queue pieces (op.Purge generation keep) w =
    ((fixed_word (codes "purge") refl refl, (queue_word queues queue w.0, (number_word generation w.1, (number_word keep (omega (arith, w.2)), tt)))), (w.0, w.1, w.2, refl))
own_pieces queues queue pieces (op.Begin grain most) w =
    ((fixed_word (codes "begin") refl refl, (queue_word queues queue w.0, (grain_word grain w.1, (number_word most (omega (arith, w.2)), tt)))), (w.0, w.1, w.2, inr refl))
own_pieces queues queue pieces (op.Commit grain activation turn note) w =
    ((fixed_word (codes "commit") refl refl, (queue_word queues queue w.0, (grain_word grain w.1, (number_word activation w.2, (number_word turn w.3, (number_word note w.4, tt)))))), (w.0, w.1, w.2, w.3, w.4, refl))
own_pieces queues queue pieces (op.Deactivate grain) w =
    ((fixed_word (codes "deactivate") refl refl, (queue_word queues queue w.0, (grain_word grain w.1, tt))), (w.0, w.1, refl))
own_pieces queues queue pieces (op.Move silo) w =
    ((fixed_word (codes "move") refl refl, (queue_word queues queue w.0, (number_word silo (omega (arith, w.1)), tt))), (w.0, w.1, refl))
own_pieces queues queue pieces (op.Ready None) w =
    ((fixed_word (codes "ready") refl refl, (queue_word queues queue w.0, tt)), (w.0, refl))
own_pieces queues queue pieces (op.Ready (Some grain)) w =
    ((fixed_word (codes "ready") refl refl, (queue_word queues queue w.0, (grain_word grain w.1, tt))), (w.0, w.1, refl))
own_pieces queues queue pieces (op.Due None) w =
    ((fixed_word (codes "due") refl refl, (queue_word queues queue w.0, tt)), (w.0, refl))
own_pieces queues queue pieces (op.Due (Some sub)) w =
    ((fixed_word (codes "due") refl refl, (queue_word queues queue w.0, (sub_word queues queue sub w.0 w.1, tt))), (w.0, w.1, refl))
own_pieces queues queue pieces op.Quiet w = ((fixed_word (codes "quiet") refl refl, tt), refl)

-- ---- a line that is joined of pieces is made of them

behind_spaces : (spaces : List ℕ) → AreSpaces spaces → (piece : Piece) (pieces : List Piece) → AllByRecursion IsPiece (piece ∷ pieces) → IsLineOf (spaces ++ joined (piece ∷ pieces)) (piece ∷ pieces)
behind_spaces spaces are piece [] good = (spaces, [], sym (append-nil (spaces ++ spelling piece)), are, good.0, refl, refl)
behind_spaces spaces are piece (next ∷ more) good =
    (spaces, 32 ∷ joined (next ∷ more), sym (append_assoc spaces (spelling piece) (32 ∷ joined (next ∷ more))), are, good.0, refl, behind_spaces (32 ∷ []) refl next more good.1)

line_of-joined : (pieces : List Piece) → AllByRecursion IsPiece pieces → IsLineOf (joined pieces) pieces
line_of-joined [] good = refl
line_of-joined (piece ∷ pieces) good = behind_spaces [] refl piece pieces good

-- texts behind a piece
joined-texts : (piece : Piece) (texts : List (List ℕ)) → joined (piece ∷ map Text texts) ≡ spelling piece ++ flat_map text_behind texts
joined-texts piece [] = sym (append-nil (spelling piece))
joined-texts piece (text ∷ texts) = ap (λ (rest : List ℕ). spelling piece ++ 32 ∷ rest) (joined-texts (Text text) texts)

-- the line of a publish
pub publish-joined : (stream : List ℕ) (texts : List (List ℕ)) → (codes "pub " ++ stream) ++ flat_map text_behind texts ≡ joined (Word (codes "pub") ∷ Word stream ∷ map Text texts)
publish-joined stream texts = ap (λ (rest : List ℕ). codes "pub " ++ rest) (sym (joined-texts (Word stream) texts))

-- ---- the line is read as the command

-- each operation's command may stand in a script that is simulated
may_stand : (queue : ℕ) (o : Op) → MayStand mode.Sim (op_command queue o)
may_stand queue (op.AddRule own_kind namespace) = tt
may_stand queue o = tt

own_line : (queues queue : ℕ) (o : Op) → HasCommand queues queue o → Reads mode.Sim queues (op_line queue o) (op_command queue o)
own_line queues queue o has =
    let own = own_pieces queues queue has.0 o has.1 in
    (may_stand queue o, op_pieces queue o, line_of-joined (op_pieces queue o) own.0, own.1)

pub reads_again : ReadsAgain
reads_again queues queue number o has = reading-again queues mode.Sim number (op_line queue o) (op_command queue o) (own_line queues queue o has)

-- ---- a line that is read as a command has printable bytes alone

printed_from : (skipped printed : Bool) (number : ℕ) (read : Result Command FaultKind) (command : Command) → cond skipped parsed.Skip (parsed_of number (cond printed read (Err kind.BadByte))) ≡ parsed.Command command → printed ≡ true
printed_from skipped true number read command e = refl
printed_from true false number read command e = absurd cc
printed_from false false number read command e = absurd cc

pub lines_are_printable : LinesArePrintable
unfolding reading
lines_are_printable queues queue o has =
    let line = op_line queue o in
    printed_from (is_skipped line) (list_all is_printable line) 1 (lexed mode.Sim queues (pieces_of line)) (op_command queue o) (reads_again queues queue 1 o has)
