-- What stands behind each verb: the command of its pieces, or their first fault from left to right.
use Rattle.std.specs.Prelude.{ℕ, ◌^◌, List, [], ◌∷◌, Some, None, Result, Ok, Err, codes, if◌then◌else◌}
use Rattle.stream_ident.specs.declared.ident.StreamId.{StreamId}
use Rattle.stream_model.specs.declared.op.Op.{Op}
use Rattle.stream_model.specs.declared.op.Op.TheVariants as op
use Rattle.stream_model.specs.declared.op.Start.TheVariants as start
use Rattle.queue_mapper.specs.Place.{place_of}
use Rattle.stream_ident.specs.Name.{◌>>=◌, same_name}
use Rattle.stream_ident.specs.declared.limits.TheConstants.{MOST_SILOS}
use Rattle.stream_script.specs.declared.parser.command.Command.{Command}
use Rattle.stream_script.specs.declared.parser.command.Command.TheVariants as command
use Rattle.stream_script.specs.declared.parser.command.EachOp.{EachOp}
use Rattle.stream_script.specs.declared.parser.command.EachOp.TheVariants as each
use Rattle.stream_script.specs.declared.parser.command.FaultKind.{FaultKind}
use Rattle.stream_script.specs.declared.parser.command.FaultKind.TheVariants as kind
use Rattle.stream_script.specs.declared.parser.command.Verb.{Verb}
use Rattle.stream_script.specs.declared.parser.command.Verb.TheVariants.{Sub, Unsub, Rule, Pull, Deliver, Retry, Ack, Purge, Move, Begin, Commit, Deactivate, Ready, Due, Quiet, Drain, Report, Up, Down}
use Rattle.stream_script.specs.Fields.{guard, number_field, queue_field, stream_field, grain_field, token_field, payload_field, bare_name_field, sub_field, own_sub_field}
use Rattle.stream_script.specs.Pieces.{Piece, Word, Text}
use Rattle.stream_script.specs.Verbs.{takes_texts}

-- each element as it reads, or the first fault
abbrev pub read_all : {A B : Type 0} → (A → Result B FaultKind) → List A → Result (List B) FaultKind
read_all read [] = Ok []
read_all read (x ∷ xs) = do
  y ← read x
  ys ← read_all read xs
  Ok (y ∷ ys)

-- the bytes of a word, and what a text stands for
abbrev pub word_of : Piece → Result (List ℕ) FaultKind
word_of (Word bytes) = Ok bytes
word_of (Text bytes) = Err kind.WordCount

abbrev pub text_of : Piece → Result (List ℕ) FaultKind
text_of (Word bytes) = Err kind.WordCount
text_of (Text bytes) = Ok bytes

-- the pieces as words, where none is a text; and as texts, where each is one
abbrev pub words_of : List Piece → Result (List (List ℕ)) FaultKind
words_of pieces = read_all word_of pieces

abbrev pub texts_of : List Piece → Result (List (List ℕ)) FaultKind
texts_of pieces = read_all text_of pieces

-- each text as a payload
abbrev pub payloads_of : List (List ℕ) → Result (List (List ℕ)) FaultKind
payloads_of texts = read_all payload_field texts

-- the stream's own queue
abbrev pub queue_of : StreamId → ℕ → ℕ
queue_of stream queues = (place_of stream queues).queue

-- pub STREAM TEXT ..
unfoldable pub pub_fields : ℕ → List ℕ → List (List ℕ) → Result Command FaultKind
pub_fields queues stream texts = do
  stream ← stream_field stream
  payloads ← payloads_of texts
  Ok (command.Step (queue_of stream queues) (op.Publish stream payloads))

abbrev pub pub_command : ℕ → List Piece → Result Command FaultKind
pub_command queues [] = Err kind.WordCount
pub_command queues (piece ∷ pieces) = do
  stream ← word_of piece
  texts ← texts_of pieces
  pub_fields queues stream texts

-- sub STREAM GRAIN latest
unfoldable pub sub_latest : ℕ → List ℕ → List ℕ → List ℕ → Result Command FaultKind
sub_latest queues stream grain word = do
  stream ← stream_field stream
  grain ← grain_field grain
  start ← guard kind.BadCommand (same_name word (codes "latest")) start.Latest
  Ok (command.Step (queue_of stream queues) (op.Subscribe stream grain start))

-- sub STREAM GRAIN from TOKEN
unfoldable pub sub_from : ℕ → List ℕ → List ℕ → List ℕ → List ℕ → Result Command FaultKind
sub_from queues stream grain word token = do
  stream ← stream_field stream
  grain ← grain_field grain
  token_bytes ← guard kind.BadCommand (same_name word (codes "from")) token
  token ← token_field token_bytes
  Ok (command.Step (queue_of stream queues) (op.Subscribe stream grain (start.At token)))

-- unsub SUB
unfoldable pub unsub_words : ℕ → List (List ℕ) → Result Command FaultKind
unsub_words queues (sub ∷ []) = do
  sub ← sub_field queues sub
  Ok (command.Step sub.0 (op.Unsubscribe sub.1))
unsub_words queues _ = Err kind.WordCount

-- the operation that is done on each queue
abbrev pub op_of : EachOp → Op
op_of (each.Rule own_kind namespace) = op.AddRule own_kind namespace
op_of each.Quiet = op.Quiet

-- rule KIND NS
unfoldable pub rule_words : List (List ℕ) → Result Command FaultKind
rule_words (own_kind ∷ namespace ∷ []) = do
  own_kind ← bare_name_field own_kind
  namespace ← bare_name_field namespace
  Ok (command.Each (each.Rule own_kind namespace))
rule_words _ = Err kind.WordCount

-- pull Q GEN MAX
unfoldable pub pull_fields : ℕ → List ℕ → List ℕ → List ℕ → Result Command FaultKind
pull_fields queues queue generation most = do
  queue ← queue_field queues queue
  generation ← number_field (2 ^ 64) generation
  most ← number_field (2 ^ 32) most
  Ok (command.Step queue (op.Pull generation most))

-- deliver GEN SUB
unfoldable pub deliver_words : ℕ → List (List ℕ) → Result Command FaultKind
deliver_words queues (generation ∷ sub ∷ []) = do
  generation ← number_field (2 ^ 64) generation
  sub ← sub_field queues sub
  Ok (command.Step sub.0 (op.Deliver generation sub.1))
deliver_words queues _ = Err kind.WordCount

-- retry GEN SUB
unfoldable pub retry_words : ℕ → List (List ℕ) → Result Command FaultKind
retry_words queues (generation ∷ sub ∷ []) = do
  generation ← number_field (2 ^ 64) generation
  sub ← sub_field queues sub
  Ok (command.Step sub.0 (op.Retry generation sub.1))
retry_words queues _ = Err kind.WordCount

-- ack GEN SUB TOKEN
unfoldable pub ack_fields : ℕ → List ℕ → List ℕ → List ℕ → Result Command FaultKind
ack_fields queues generation sub token = do
  generation ← number_field (2 ^ 64) generation
  sub ← sub_field queues sub
  token ← token_field token
  Ok (command.Step sub.0 (op.Ack generation sub.1 token))

-- purge Q GEN KEEP
unfoldable pub purge_fields : ℕ → List ℕ → List ℕ → List ℕ → Result Command FaultKind
purge_fields queues queue generation keep = do
  queue ← queue_field queues queue
  generation ← number_field (2 ^ 64) generation
  keep ← number_field (2 ^ 32) keep
  Ok (command.Step queue (op.Purge generation keep))

-- move Q SILO
unfoldable pub move_words : ℕ → List (List ℕ) → Result Command FaultKind
move_words queues (queue ∷ silo ∷ []) = do
  queue ← queue_field queues queue
  silo ← number_field MOST_SILOS silo
  Ok (command.Step queue (op.Move silo))
move_words queues _ = Err kind.WordCount

-- begin Q GRAIN
unfoldable pub begin_one : ℕ → List ℕ → List ℕ → Result Command FaultKind
begin_one queues queue grain = do
  queue ← queue_field queues queue
  grain ← grain_field grain
  Ok (command.Step queue (op.Begin grain 1))

-- begin Q GRAIN MAX
unfoldable pub begin_most : ℕ → List ℕ → List ℕ → List ℕ → Result Command FaultKind
begin_most queues queue grain most = do
  queue ← queue_field queues queue
  grain ← grain_field grain
  most ← number_field (2 ^ 32) most
  Ok (command.Step queue (op.Begin grain most))

-- commit Q GRAIN ACTIVATION TURN NOTE
unfoldable pub commit_fields : ℕ → List ℕ → List ℕ → List ℕ → List ℕ → List ℕ → Result Command FaultKind
commit_fields queues queue grain activation turn note = do
  queue ← queue_field queues queue
  grain ← grain_field grain
  activation ← number_field (2 ^ 64) activation
  turn ← number_field (2 ^ 64) turn
  note ← number_field (2 ^ 64) note
  Ok (command.Step queue (op.Commit grain activation turn note))

-- deactivate Q GRAIN
unfoldable pub deactivate_words : ℕ → List (List ℕ) → Result Command FaultKind
deactivate_words queues (queue ∷ grain ∷ []) = do
  queue ← queue_field queues queue
  grain ← grain_field grain
  Ok (command.Step queue (op.Deactivate grain))
deactivate_words queues _ = Err kind.WordCount

-- ready Q
unfoldable pub ready_first : ℕ → List ℕ → Result Command FaultKind
ready_first queues queue = do
  queue ← queue_field queues queue
  Ok (command.Step queue (op.Ready None))

-- ready Q GRAIN
unfoldable pub ready_after : ℕ → List ℕ → List ℕ → Result Command FaultKind
ready_after queues queue grain = do
  queue ← queue_field queues queue
  grain ← grain_field grain
  Ok (command.Step queue (op.Ready (Some grain)))

-- due Q
unfoldable pub due_first : ℕ → List ℕ → Result Command FaultKind
due_first queues queue = do
  queue ← queue_field queues queue
  Ok (command.Step queue (op.Due None))

-- due Q SUB
unfoldable pub due_after : ℕ → List ℕ → List ℕ → Result Command FaultKind
due_after queues queue sub = do
  queue ← queue_field queues queue
  sub ← own_sub_field queues queue sub
  Ok (command.Step queue (op.Due (Some sub)))

-- up SILO
unfoldable pub up_words : List (List ℕ) → Result Command FaultKind
up_words (silo ∷ []) = do
  silo ← number_field MOST_SILOS silo
  Ok (command.Up silo)
up_words _ = Err kind.WordCount

-- down SILO
unfoldable pub down_words : List (List ℕ) → Result Command FaultKind
down_words (silo ∷ []) = do
  silo ← number_field MOST_SILOS silo
  Ok (command.Down silo)
down_words _ = Err kind.WordCount

-- a command whose word stands alone
abbrev pub alone : Command → List (List ℕ) → Result Command FaultKind
alone command [] = Ok command
alone command _ = Err kind.WordCount

-- the command of a verb behind which words alone stand
abbrev pub words_command : Verb → ℕ → List (List ℕ) → Result Command FaultKind
words_command Sub queues (stream ∷ grain ∷ word ∷ []) = sub_latest queues stream grain word
words_command Sub queues (stream ∷ grain ∷ word ∷ token ∷ []) = sub_from queues stream grain word token
words_command Unsub queues words = unsub_words queues words
words_command Rule queues words = rule_words words
words_command Pull queues (queue ∷ generation ∷ most ∷ []) = pull_fields queues queue generation most
words_command Deliver queues words = deliver_words queues words
words_command Retry queues words = retry_words queues words
words_command Ack queues (generation ∷ sub ∷ token ∷ []) = ack_fields queues generation sub token
words_command Purge queues (queue ∷ generation ∷ keep ∷ []) = purge_fields queues queue generation keep
words_command Move queues words = move_words queues words
words_command Begin queues (queue ∷ grain ∷ []) = begin_one queues queue grain
words_command Begin queues (queue ∷ grain ∷ most ∷ []) = begin_most queues queue grain most
words_command Commit queues (queue ∷ grain ∷ activation ∷ turn ∷ note ∷ []) = commit_fields queues queue grain activation turn note
words_command Deactivate queues words = deactivate_words queues words
words_command Ready queues (queue ∷ []) = ready_first queues queue
words_command Ready queues (queue ∷ grain ∷ []) = ready_after queues queue grain
words_command Due queues (queue ∷ []) = due_first queues queue
words_command Due queues (queue ∷ sub ∷ []) = due_after queues queue sub
words_command Quiet queues words = alone (command.Each each.Quiet) words
words_command Drain queues words = alone command.Drain words
words_command Report queues words = alone command.Report words
words_command Up queues words = up_words words
words_command Down queues words = down_words words
words_command _ queues words = Err kind.WordCount

-- the command of a verb and the pieces behind it
abbrev pub verb_command : Verb → ℕ → List Piece → Result Command FaultKind
verb_command verb queues pieces =
    if takes_texts verb then pub_command queues pieces else (words_of pieces >>= λ words. words_command verb queues words)
