-- What is written as a command is read as it, and each of its bytes is printable.
use Rattle.stream_script.proofs.Prelude.{◌≡◌, ◌<◌, map, Result, Err, ap, ◌∙◌, subst, arith, inl, inr, cases_Bool, and_from, and_parts, and_left, and_right, eqb-true, nat_tests, decimal, list_all, AllByRecursion, ℕ, ◌^◌, true, false, List, [], ◌∷◌, ◌++◌, ◌==◌, append_assoc, None, Some, Ok, IfOk, refl, AllocError, is_name_byte, IsPayload, is_printable, ◌>>=◌, token_text, IsToken, GrainId, StreamId, is_ascii_digit, SubName, MOST_SILOS, Token, list_all-append}
use Rattle.stream_model.specs.declared.op.Op.TheVariants as op
use Rattle.stream_model.specs.declared.op.Start.TheVariants as start
use Rattle.stream_script.specs.declared.parser.command.Command.{Command}
use Rattle.stream_script.specs.declared.parser.command.Command.TheVariants.{Step, Each, Drain, Report, Up, Down}
use Rattle.stream_script.specs.declared.parser.command.EachOp.TheVariants as each
use Rattle.stream_script.specs.declared.parser.command.FaultKind.TheVariants as kind
use Rattle.stream_script.specs.declared.parser.command.Mode.{Mode}
use Rattle.stream_script.specs.declared.parser.command.Parsed.{Parsed}
use Rattle.stream_script.specs.declared.parser.command.Parsed.TheVariants as parsed
use Rattle.stream_script.specs.declared.parser.command.Verb.{Verb}
use Rattle.stream_script.specs.declared.parser.command.Verb.TheVariants.{Pub}
use Rattle.stream_script.specs.Fields.{or_fault, guard}
use Rattle.stream_script.specs.Forms.{texts_of, payloads_of, pub_fields, sub_latest, sub_from, unsub_words, rule_words, pull_fields, deliver_words, retry_words, ack_fields, purge_fields, move_words, begin_one, begin_most, commit_fields, deactivate_words, ready_first, ready_after, due_first, due_after, up_words, down_words, verb_command}
use Rattle.stream_script.specs.Grammar.{IsStream, IsGrain, IsSub, IsQueue, IsSpelled, Reads}
use Rattle.stream_script.specs.Pieces.{Piece, Word, Text, is_space, is_special, escaped, spelling, AreSpaces, IsLineOf}
use Rattle.stream_script.specs.Reading.{command_of, is_skipped, reading}
use Rattle.stream_script.specs.Spelling.{stream_text, grain_text, sub_text}
use Rattle.stream_script.specs.Verbs.{may_stand, not_here}
use Rattle.stream_script.proofs.FieldLemmas.{list_all-weaker, number_again, queue_again, stream_again, grain_again, token_again, payload_again, bare_name_again}
use Rattle.stream_script.proofs.LineLemmas.{pieces_of-line}
use Rattle.stream_script.proofs.SubLemmas.{sub_again, own_sub_again, list_all-both, decimal_all, name_all, stream_text_all, grain_text_all, name_text_all}
use Rattle.stream_script.proofs.VerbLemmas.{verb_word, verb_of-word, verb_for, may_stand-verb}

-- ---- each byte is printable

name_printable : (byte : ℕ) → is_name_byte byte ≡ true → is_printable byte ≡ true
name_printable byte h = grind (arith, nat_tests)

digit_printable : (byte : ℕ) → is_ascii_digit byte ≡ true → is_printable byte ≡ true
digit_printable byte h = grind (arith, nat_tests)

space_printable : (byte : ℕ) → is_space byte ≡ true → is_printable byte ≡ true
space_printable byte h = rw (eqb-true byte 32 h) refl

abbrev IsPrintable : Piece → Type 0
IsPrintable (Word bytes) = list_all is_printable bytes ≡ true
IsPrintable (Text bytes) = list_all is_printable bytes ≡ true

escaped_printable : (bytes : List ℕ) → list_all is_printable bytes ≡ true → list_all is_printable (escaped bytes) ≡ true
escaped_printable [] h = refl
escaped_printable (byte ∷ bytes) h =
    let parts = and_parts (is_printable byte) (list_all is_printable bytes) h in
    let others = escaped_printable bytes parts.1 in
    elim (cases_Bool (is_special byte)) [
      | inl s ↦ rw s (and_from (is_printable byte) (list_all is_printable (escaped bytes)) parts.0 others)
      | inr s ↦ rw s (and_from (is_printable byte) (list_all is_printable (escaped bytes)) parts.0 others)
    ]

spelling_printable : (piece : Piece) → IsPrintable piece → list_all is_printable (spelling piece) ≡ true
spelling_printable (Word bytes) h = h
spelling_printable (Text bytes) h = list_all-both is_printable (escaped bytes) (34 ∷ []) (escaped_printable bytes h) refl

line_printable : (line : List ℕ) (pieces : List Piece) → IsLineOf line pieces → AllByRecursion IsPrintable pieces → list_all is_printable line ≡ true
line_printable line [] made are = list_all-weaker is_space is_printable space_printable line made
line_printable line (piece ∷ pieces) made are =
    let spaces = list_all-weaker is_space is_printable space_printable made.0 made.3 in
    let front = list_all-both is_printable made.0 (spelling piece) spaces (spelling_printable piece are.0) in
    rw made.2 (list_all-both is_printable (made.0 ++ spelling piece) made.1 front (line_printable made.1 pieces made.6 are.1))

number_printable : (n : ℕ) → n < 2 ^ 64 → IsPrintable (Word (decimal n))
number_printable n small = decimal_all is_printable digit_printable n small

stream_printable : (stream : StreamId) → IsStream stream → IsPrintable (Word (stream_text stream))
stream_printable stream is = stream_text_all is_printable name_printable refl stream is

grain_printable : (grain : GrainId) → IsGrain grain → IsPrintable (Word (grain_text grain))
grain_printable grain is = grain_text_all is_printable name_printable refl grain is

token_printable : (token : Token) → IsToken token → IsPrintable (Word (token_text token))
token_printable token is =
    list_all-both is_printable (decimal token.seq) (46 ∷ decimal token.idx) (number_printable token.seq is.seq) (number_printable token.idx (omega (arith, is.idx)))

queue_printable : (queues queue : ℕ) → IsQueue queues queue → IsPrintable (Word (decimal queue))
queue_printable queues queue is = number_printable queue (omega (arith, is.1))

sub_printable : (queues queue : ℕ) (sub : SubName) → IsQueue queues queue → IsSub sub → IsPrintable (Word (sub_text queue sub))
sub_printable queues queue sub is_queue is_sub =
    list_all-both is_printable (decimal queue) (58 ∷ _) (queue_printable queues queue is_queue) (name_text_all is_printable name_printable digit_printable refl refl sub is_sub)

payloads_printable : (payloads : List (List ℕ)) → AllByRecursion IsPayload payloads → AllByRecursion IsPrintable (map Text payloads)
payloads_printable [] are = tt
payloads_printable (payload ∷ payloads) are = (are.0.good, payloads_printable payloads are.1)

word_printable : (verb : Verb) → IsPrintable (Word (verb_word verb))
word_printable Pub = refl
word_printable _ = refl

-- ---- the pieces of a command

texts_again : (payloads : List (List ℕ)) → texts_of (map Text payloads) ≡ Ok payloads
texts_again [] = refl
texts_again (payload ∷ payloads) = rw (texts_again payloads) refl

payloads_again : (payloads : List (List ℕ)) → AllByRecursion IsPayload payloads → payloads_of payloads ≡ Ok payloads
payloads_again [] are = refl
payloads_again (payload ∷ payloads) are = rw (payload_again payload are.0, payloads_again payloads are.1) refl

-- the command's word stands in front of these pieces, which are printable and read as the command
abbrev IsAgain : ℕ → List Piece → Command → Type 0
IsAgain queues pieces command =
    (more : List Piece) × (pieces ≡ Word (verb_word (verb_for command)) ∷ more) × AllByRecursion IsPrintable more × (verb_command (verb_for command) queues more ≡ Ok command)

-- whatever is written so
spelled_again : (queues : ℕ) (pieces : List Piece) (command : Command) → IsSpelled queues pieces command → IsAgain queues pieces command
unfolding pub_fields sub_latest sub_from unsub_words rule_words pull_fields deliver_words retry_words ack_fields purge_fields move_words begin_one begin_most commit_fields deactivate_words ready_first ready_after due_first due_after up_words down_words
spelled_again queues pieces (Step queue (op.Publish stream payloads)) w =
    rw w.2 (_, w.3, (stream_printable stream w.0, payloads_printable payloads w.1), rw (texts_again payloads, stream_again stream w.0, payloads_again payloads w.1) refl)
spelled_again queues pieces (Step queue (op.Subscribe stream grain start.Latest)) w =
    rw w.2 (_, rw w.4 at w.5, (stream_printable stream w.0, (grain_printable grain w.1, (refl, tt))), rw (stream_again stream w.0, grain_again grain w.1) refl)
spelled_again queues pieces (Step queue (op.Subscribe stream grain (start.At token))) w =
    rw w.2 (_, rw w.4.1 at w.5, (stream_printable stream w.0, (grain_printable grain w.1, (refl, (token_printable token w.4.0, tt)))), rw (stream_again stream w.0, grain_again grain w.1, token_again token w.4.0) refl)
spelled_again queues pieces (Step queue (op.Unsubscribe sub)) w =
    (_, w.2, (sub_printable queues queue sub w.0 w.1, tt), rw (sub_again queues queue sub w.0 w.1) refl)
spelled_again queues pieces (Step queue (op.Pull generation most)) w = (
  _,
  w.3,
  (queue_printable queues queue w.0, (number_printable generation w.1, (number_printable most (omega (arith, w.2)), tt))),
  rw (queue_again queues queue w.0, number_again (2 ^ 64) generation w.1 w.1, number_again (2 ^ 32) most w.2 (omega (arith, w.2))) refl,
)
spelled_again queues pieces (Step queue (op.Deliver generation sub)) w = (
  _,
  w.3,
  (number_printable generation w.1, (sub_printable queues queue sub w.0 w.2, tt)),
  rw (number_again (2 ^ 64) generation w.1 w.1, sub_again queues queue sub w.0 w.2) refl,
)
spelled_again queues pieces (Step queue (op.Retry generation sub)) w = (
  _,
  w.3,
  (number_printable generation w.1, (sub_printable queues queue sub w.0 w.2, tt)),
  rw (number_again (2 ^ 64) generation w.1 w.1, sub_again queues queue sub w.0 w.2) refl,
)
spelled_again queues pieces (Step queue (op.Ack generation sub token)) w = (
  _,
  w.4,
  (number_printable generation w.1, (sub_printable queues queue sub w.0 w.2, (token_printable token w.3, tt))),
  rw (number_again (2 ^ 64) generation w.1 w.1, sub_again queues queue sub w.0 w.2, token_again token w.3) refl,
)
spelled_again queues pieces (Step queue (op.Purge generation keep)) w = (
  _,
  w.3,
  (queue_printable queues queue w.0, (number_printable generation w.1, (number_printable keep (omega (arith, w.2)), tt))),
  rw (queue_again queues queue w.0, number_again (2 ^ 64) generation w.1 w.1, number_again (2 ^ 32) keep w.2 (omega (arith, w.2))) refl,
)
spelled_again queues pieces (Step queue (op.Move silo)) w = (
  _,
  w.2,
  (queue_printable queues queue w.0, (number_printable silo (omega (arith, w.1)), tt)),
  rw (queue_again queues queue w.0, number_again MOST_SILOS silo w.1 (omega (arith, w.1))) refl,
)
spelled_again queues pieces (Step queue (op.Begin grain most)) w =
    elim w.3 [
      | inl one ↦ rw one.1 (_, one.0, (queue_printable queues queue w.0, (grain_printable grain w.1, tt)), rw (queue_again queues queue w.0, grain_again grain w.1) refl)
      | inr are ↦ (
        _,
        are,
        (queue_printable queues queue w.0, (grain_printable grain w.1, (number_printable most (omega (arith, w.2)), tt))),
        rw (queue_again queues queue w.0, grain_again grain w.1, number_again (2 ^ 32) most w.2 (omega (arith, w.2))) refl,
      )
    ]
spelled_again queues pieces (Step queue (op.Commit grain activation turn note)) w = (
  _,
  w.5,
  (queue_printable queues queue w.0, (grain_printable grain w.1, (number_printable activation w.2, (number_printable turn w.3, (number_printable note w.4, tt))))),
  rw (queue_again queues queue w.0, grain_again grain w.1, number_again (2 ^ 64) activation w.2 w.2, number_again (2 ^ 64) turn w.3 w.3, number_again (2 ^ 64) note w.4 w.4) refl,
)
spelled_again queues pieces (Step queue (op.Deactivate grain)) w =
    (_, w.2, (queue_printable queues queue w.0, (grain_printable grain w.1, tt)), rw (queue_again queues queue w.0, grain_again grain w.1) refl)
spelled_again queues pieces (Step queue (op.Ready None)) w =
    (_, w.1, (queue_printable queues queue w.0, tt), rw (queue_again queues queue w.0) refl)
spelled_again queues pieces (Step queue (op.Ready (Some grain))) w =
    (_, w.2, (queue_printable queues queue w.0, (grain_printable grain w.1, tt)), rw (queue_again queues queue w.0, grain_again grain w.1) refl)
spelled_again queues pieces (Step queue (op.Due None)) w =
    (_, w.1, (queue_printable queues queue w.0, tt), rw (queue_again queues queue w.0) refl)
spelled_again queues pieces (Step queue (op.Due (Some sub))) w =
    (_, w.2, (queue_printable queues queue w.0, (sub_printable queues queue sub w.0 w.1, tt)), rw (queue_again queues queue w.0, own_sub_again queues queue sub w.0 w.1) refl)
spelled_again queues pieces (Step queue _) w = absurd w
spelled_again queues pieces (Each (each.Rule own_kind namespace)) w =
    (_, w.2, (name_all is_printable name_printable own_kind w.0, (name_all is_printable name_printable namespace w.1, tt)), rw (bare_name_again own_kind w.0, bare_name_again namespace w.1) refl)
spelled_again queues pieces (Each each.Quiet) w = ([], w, tt, refl)
spelled_again queues pieces Drain w = ([], w, tt, refl)
spelled_again queues pieces Report w = ([], w, tt, refl)
spelled_again queues pieces (Up silo) w = (_, w.1, (number_printable silo (omega (arith, w.0)), tt), rw (number_again MOST_SILOS silo w.0 (omega (arith, w.0))) refl)
spelled_again queues pieces (Down silo) w = (_, w.1, (number_printable silo (omega (arith, w.0)), tt), rw (number_again MOST_SILOS silo w.0 (omega (arith, w.0))) refl)

-- ---- a line that begins with a verb is not skipped

not_spaces : (spaces : List ℕ) (byte : ℕ) (bytes : List ℕ) → is_space byte ≡ false → list_all is_space (spaces ++ byte ∷ bytes) ≡ false
not_spaces spaces byte bytes no_space = list_all-append is_space spaces (byte ∷ bytes) ∙ and_right _ _ (and_left (is_space byte) (list_all is_space bytes) no_space)

not_skipped : (spaces : List ℕ) (byte : ℕ) (bytes : List ℕ) → AreSpaces spaces → is_space byte ≡ false → (byte == 35) ≡ false → is_skipped (spaces ++ byte ∷ bytes) ≡ false
not_skipped [] byte bytes are no_space no_mark = rw (no_space, no_mark) refl
not_skipped (space ∷ spaces) byte bytes are no_space no_mark =
    rw (eqb-true space 32 (and_parts (is_space space) (list_all is_space spaces) are).0, not_spaces spaces byte bytes no_space) refl

line_begun : (line : List ℕ) (byte : ℕ) (bytes : List ℕ) (pieces : List Piece) → is_space byte ≡ false → (byte == 35) ≡ false → IsLineOf line (Word (byte ∷ bytes) ∷ pieces) → is_skipped line ≡ false
line_begun line byte bytes pieces no_space no_mark made =
    rw (made.2, append_assoc made.0 (byte ∷ bytes) made.1) (not_skipped made.0 byte (bytes ++ made.1) made.3 no_space no_mark)

verb_line_begun : (verb : Verb) (line : List ℕ) (pieces : List Piece) → IsLineOf line (Word (verb_word verb) ∷ pieces) → is_skipped line ≡ false
verb_line_begun Pub line pieces made = line_begun line _ _ pieces refl refl made
verb_line_begun _ line pieces made = line_begun line _ _ pieces refl refl made

-- ---- whole lines

command_of-again : (m : Mode) (queues : ℕ) (pieces : List Piece) (command : Command) → may_stand m (verb_for command) ≡ true → IsAgain queues pieces command → command_of m queues pieces ≡ Ok command
command_of-again m queues pieces command may a =
    ap (command_of m queues) a.1
    ∙ (ap (λ found. or_fault kind.BadCommand found >>= λ verb. guard (not_here m) (may_stand m verb) verb >>= λ standing. verb_command standing queues a.0) (verb_of-word (verb_for command))
    ∙ (ap (λ b. guard (not_here m) b (verb_for command) >>= λ standing. verb_command standing queues a.0) may ∙ a.3))

-- a line that is made of a command's pieces is read as the command
pub reading-again : (queues : ℕ) (m : Mode) (line : ℕ) (bytes : List ℕ) (command : Command) → Reads m queues bytes command → reading queues m line bytes ≡ parsed.Command command
unfolding reading
reading-again queues m line bytes command reads =
    let pieces = reads.1 in
    let again = spelled_again queues pieces command reads.3 in
    let Line : List Piece → Type 0 = λ ps. IsLineOf bytes ps in
    let begun = subst Line again.1 reads.2 in
    let stays : is_skipped bytes ≡ false = verb_line_begun (verb_for command) bytes again.0 begun in
    let printed : list_all is_printable bytes ≡ true = line_printable bytes (Word (verb_word (verb_for command)) ∷ again.0) begun (word_printable (verb_for command), again.2) in
    let read = command_of-again m queues pieces command (may_stand-verb m command reads.0) again in
    rw (stays, printed, pieces_of-line bytes pieces reads.2, read) refl

-- what a result of `parse_line` says
pub only_from : (queues : ℕ) (m : Mode) (line : ℕ) (bytes : List ℕ) (result : Result Parsed AllocError) → IfOk result (λ p. p ≡ reading queues m line bytes) → (command : Command) → Reads m queues bytes command → IfOk result (λ p. p ≡ parsed.Command command)
only_from queues m line bytes (Ok p) exact command reads = exact ∙ reading-again queues m line bytes command reads
only_from queues m line bytes (Err failed) exact command reads = tt
