-- What is read as a command is written so, and is of a queue that there is.
use Rattle.stream_script.proofs.Prelude.{◌≡◌, map, Result, Err, codes, ◌%◌, ◌<◌, ◌≤◌, sym, ap, ◌∙◌, subst, arith, inl, inr, list_all, AllByRecursion, ℕ, ◌^◌, Bool, true, false, List, [], ◌∷◌, Option, Some, None, Ok, IfOk, cond, refl, AllocError, IsPayload, is_printable, ◌>>=◌, same_name, token_text, StreamId, MOST_SILOS, same_text}
use Rattle.stream_model.specs.declared.op.Op.{Op}
use Rattle.stream_model.specs.declared.op.Op.TheVariants as op
use Rattle.stream_model.specs.declared.op.Start.TheVariants as start
use Rattle.stream_script.specs.declared.parser.command.Command.{Command}
use Rattle.stream_script.specs.declared.parser.command.Command.TheVariants.{Step}
use Rattle.stream_script.specs.declared.parser.command.FaultKind.{FaultKind}
use Rattle.stream_script.specs.declared.parser.command.FaultKind.TheVariants as kind
use Rattle.stream_script.specs.declared.parser.command.Mode.{Mode}
use Rattle.stream_script.specs.declared.parser.command.Parsed.{Parsed}
use Rattle.stream_script.specs.declared.parser.command.Parsed.TheVariants as parsed
use Rattle.stream_script.specs.declared.parser.command.Verb.{Verb}
use Rattle.stream_script.specs.declared.parser.command.Verb.TheVariants.{Pub, Sub, Unsub, Rule, Pull, Deliver, Retry, Ack, Purge, Move, Begin, Commit, Deactivate, Ready, Due, Quiet, Drain, Report, Up, Down}
use Rattle.stream_script.specs.Fields.{guard, payload_field}
use Rattle.stream_script.specs.Forms.{read_all, word_of, text_of, words_of, texts_of, payloads_of, queue_of, pub_fields, pub_command, sub_latest, sub_from, unsub_words, rule_words, pull_fields, deliver_words, retry_words, ack_fields, purge_fields, move_words, begin_one, begin_most, commit_fields, deactivate_words, ready_first, ready_after, due_first, due_after, up_words, down_words, words_command, verb_command}
use Rattle.stream_script.specs.Grammar.{IsSpelled, IsWritten, MayStand, Reads}
use Rattle.stream_script.specs.Lexer.{pieces_of}
use Rattle.stream_script.specs.Pieces.{Piece, Word, Text}
use Rattle.stream_script.specs.Reading.{command_of, lexed, is_skipped, parsed_of, reading, IsWithin}
use Rattle.stream_script.specs.Spelling.{stream_text}
use Rattle.stream_script.specs.Verbs.{may_stand, not_here, verb_in_front}
use Rattle.stream_script.proofs.FieldLemmas.{bind_ok, done, ok_is, guard_ok, number_found, queue_found, stream_found, grain_found, token_found, bare_name_found, payload_found}
use Rattle.stream_script.proofs.LineLemmas.{line-pieces_of}
use Rattle.stream_script.proofs.SubLemmas.{sub_found, own_sub_found}
use Rattle.stream_script.proofs.VerbLemmas.{verb_word, verb_for, verb_in_front-found, verb-may_stand}

-- a command of this verb, whose word stands in front of these pieces
abbrev Stands : ℕ → Verb → List Piece → Command → Type 0
Stands queues verb pieces command = (verb_for command ≡ verb) × IsSpelled queues (Word (verb_word verb) ∷ pieces) command

-- ---- words and texts

word_found : (piece : Piece) (word : List ℕ) → word_of piece ≡ Ok word → piece ≡ Word word
word_found (Word bytes) word e = ap Word (ok_is bytes word e)
word_found (Text bytes) word e = absurd cc

text_found : (piece : Piece) (text : List ℕ) → text_of piece ≡ Ok text → piece ≡ Text text
text_found (Word bytes) text e = absurd cc
text_found (Text bytes) text e = ap Text (ok_is bytes text e)

-- each element that is read is what it is read as, made again
read_all-found : {A B : Type 0} (read : A → Result B FaultKind) (make : B → A) → ((x : A) (y : B) → read x ≡ Ok y → x ≡ make y) → (xs : List A) (ys : List B) → read_all read xs ≡ Ok ys → xs ≡ map make ys
read_all-found read make found [] ys e = ap (map make) (ok_is [] ys e)
read_all-found read make found (x ∷ xs) ys e =
    let a = bind_ok (read x) (λ y. read_all read xs >>= λ more. Ok (y ∷ more)) ys e in
    let b = bind_ok (read_all read xs) (λ more. Ok (a.0 ∷ more)) ys a.2 in
    let first = found x a.0 a.1 in
    let others = read_all-found read make found xs b.0 b.1 in
    ap (λ y. y ∷ xs) first ∙ (ap (λ more. make a.0 ∷ more) others ∙ ap (map make) (ok_is (a.0 ∷ b.0) ys b.2))

payloads_found : (texts payloads : List (List ℕ)) → payloads_of texts ≡ Ok payloads → (texts ≡ payloads) × AllByRecursion IsPayload payloads
payloads_found [] payloads e = rw (← ok_is [] payloads e) (refl, tt)
payloads_found (text ∷ texts) payloads e =
    let a = bind_ok (payload_field text) (λ payload. payloads_of texts >>= λ more. Ok (payload ∷ more)) payloads e in
    let b = bind_ok (payloads_of texts) (λ more. Ok (a.0 ∷ more)) payloads a.2 in
    let first = payload_found text a.0 a.1 in
    let others = payloads_found texts b.0 b.1 in
    rw (← ok_is (a.0 ∷ b.0) payloads b.2) (ap (λ (x : List ℕ). x ∷ texts) first.0 ∙ ap (λ (more : List (List ℕ)). a.0 ∷ more) others.0, (first.1, others.1))

-- a field that was read, what is known of it, and what is read behind it
read_ok : {X A : Type 0} {read : X → Result A FaultKind} {Is : X → A → Type 0} → ((field : X) (x : A) → read field ≡ Ok x → Is field x)
    → (field : X) (rest : A → Result Command FaultKind) (command : Command) → (read field >>= rest) ≡ Ok command → (x : A) × Is field x × (rest x ≡ Ok command)
read_ok {read = read} found field rest command e =
    let a = bind_ok (read field) rest command e in
    (a.0, found field a.0 a.1, a.2)

-- ---- commands

pub_found : (queues : ℕ) (pieces : List Piece) (command : Command) → pub_command queues pieces ≡ Ok command → Stands queues Pub pieces command
unfolding pub_fields
pub_found queues [] command e = absurd cc
pub_found queues (piece ∷ pieces) command e =
    let a = bind_ok (word_of piece) _ command e in
    let b = bind_ok (texts_of pieces) _ command a.2 in
    let s = read_ok stream_found a.0 _ command b.2 in
    let p = read_ok payloads_found b.0 _ command s.2 in
    let first : piece ≡ Word (stream_text s.0) = word_found piece a.0 a.1 ∙ ap Word s.1.0 in
    let others : pieces ≡ map Text p.0 = read_all-found text_of Text text_found pieces b.0 b.1 ∙ ap (map Text) p.1.0 in
    subst (Stands queues Pub (piece ∷ pieces)) (ok_is _ command p.2) (refl, (s.1.1, p.1.1, refl, cc (first, others)))

words_found : (queues : ℕ) (verb : Verb) (words : List (List ℕ)) (command : Command) → words_command verb queues words ≡ Ok command → Stands queues verb (map Word words) command
unfolding sub_latest sub_from unsub_words rule_words pull_fields deliver_words retry_words ack_fields purge_fields move_words begin_one begin_most commit_fields deactivate_words ready_first ready_after due_first due_after up_words down_words
words_found queues Sub (stream ∷ grain ∷ word ∷ []) command e =
    let s = read_ok stream_found stream _ command e in
    let g = read_ok grain_found grain _ command s.2 in
    let a = bind_ok (guard kind.BadCommand (same_name word (codes "latest")) start.Latest) _ command g.2 in
    let h = guard_ok kind.BadCommand (same_name word (codes "latest")) start.Latest a.0 a.1 in
    let is_word : word ≡ codes "latest" = same_text word (codes "latest") (sym h.0) in
    let is : done (Step (queue_of s.0 queues) (op.Subscribe s.0 g.0 start.Latest)) ≡ done command = rw (← h.1) at a.2 in
    subst (Stands queues Sub (Word stream ∷ Word grain ∷ Word word ∷ [])) (ok_is _ command is) (refl, (s.1.1, g.1.1, refl, Word (codes "latest") ∷ [], refl, cc (s.1.0, g.1.0, is_word)))
words_found queues Sub (stream ∷ grain ∷ word ∷ token ∷ []) command e =
    let s = read_ok stream_found stream _ command e in
    let g = read_ok grain_found grain _ command s.2 in
    let a = bind_ok (guard kind.BadCommand (same_name word (codes "from")) token) _ command g.2 in
    let h = guard_ok kind.BadCommand (same_name word (codes "from")) token a.0 a.1 in
    let is_word : word ≡ codes "from" = same_text word (codes "from") (sym h.0) in
    let t = read_ok token_found a.0 _ command a.2 in
    subst (Stands queues Sub (Word stream ∷ Word grain ∷ Word word ∷ Word token ∷ [])) (ok_is _ command t.2) (refl, (s.1.1, g.1.1, refl, Word (codes "from") ∷ Word (token_text t.0) ∷ [], (t.1.1, refl), cc (s.1.0, g.1.0, is_word, h.1, t.1.0)))
words_found queues Unsub (sub ∷ []) command e =
    let s = read_ok (sub_found queues) sub _ command e in
    subst (Stands queues Unsub (Word sub ∷ [])) (ok_is _ command s.2) (refl, (s.1.1, s.1.2, cc (s.1.0)))
words_found queues Rule (own_kind ∷ namespace ∷ []) command e =
    let k = read_ok bare_name_found own_kind _ command e in
    let n = read_ok bare_name_found namespace _ command k.2 in
    subst (Stands queues Rule (Word own_kind ∷ Word namespace ∷ [])) (ok_is _ command n.2) (refl, (k.1.1, n.1.1, cc (k.1.0, n.1.0)))
words_found queues Pull (queue ∷ generation ∷ most ∷ []) command e =
    let q = read_ok (queue_found queues) queue _ command e in
    let g = read_ok (number_found (2 ^ 64)) generation _ command q.2 in
    let m = read_ok (number_found (2 ^ 32)) most _ command g.2 in
    subst (Stands queues Pull (Word queue ∷ Word generation ∷ Word most ∷ [])) (ok_is _ command m.2) (refl, (q.1.1, g.1.1, m.1.1, cc (q.1.0, g.1.0, m.1.0)))
words_found queues Deliver (generation ∷ sub ∷ []) command e =
    let g = read_ok (number_found (2 ^ 64)) generation _ command e in
    let s = read_ok (sub_found queues) sub _ command g.2 in
    subst (Stands queues Deliver (Word generation ∷ Word sub ∷ [])) (ok_is _ command s.2) (refl, (s.1.1, g.1.1, s.1.2, cc (g.1.0, s.1.0)))
words_found queues Retry (generation ∷ sub ∷ []) command e =
    let g = read_ok (number_found (2 ^ 64)) generation _ command e in
    let s = read_ok (sub_found queues) sub _ command g.2 in
    subst (Stands queues Retry (Word generation ∷ Word sub ∷ [])) (ok_is _ command s.2) (refl, (s.1.1, g.1.1, s.1.2, cc (g.1.0, s.1.0)))
words_found queues Ack (generation ∷ sub ∷ token ∷ []) command e =
    let g = read_ok (number_found (2 ^ 64)) generation _ command e in
    let s = read_ok (sub_found queues) sub _ command g.2 in
    let t = read_ok token_found token _ command s.2 in
    subst (Stands queues Ack (Word generation ∷ Word sub ∷ Word token ∷ [])) (ok_is _ command t.2) (refl, (s.1.1, g.1.1, s.1.2, t.1.1, cc (g.1.0, s.1.0, t.1.0)))
words_found queues Purge (queue ∷ generation ∷ keep ∷ []) command e =
    let q = read_ok (queue_found queues) queue _ command e in
    let g = read_ok (number_found (2 ^ 64)) generation _ command q.2 in
    let k = read_ok (number_found (2 ^ 32)) keep _ command g.2 in
    subst (Stands queues Purge (Word queue ∷ Word generation ∷ Word keep ∷ [])) (ok_is _ command k.2) (refl, (q.1.1, g.1.1, k.1.1, cc (q.1.0, g.1.0, k.1.0)))
words_found queues Move (queue ∷ silo ∷ []) command e =
    let q = read_ok (queue_found queues) queue _ command e in
    let s = read_ok (number_found MOST_SILOS) silo _ command q.2 in
    subst (Stands queues Move (Word queue ∷ Word silo ∷ [])) (ok_is _ command s.2) (refl, (q.1.1, s.1.1, cc (q.1.0, s.1.0)))
words_found queues Begin (queue ∷ grain ∷ []) command e =
    let q = read_ok (queue_found queues) queue _ command e in
    let g = read_ok grain_found grain _ command q.2 in
    subst (Stands queues Begin (Word queue ∷ Word grain ∷ [])) (ok_is _ command g.2) (refl, (q.1.1, g.1.1, omega arith, inl (cc (q.1.0, g.1.0), refl)))
words_found queues Begin (queue ∷ grain ∷ most ∷ []) command e =
    let q = read_ok (queue_found queues) queue _ command e in
    let g = read_ok grain_found grain _ command q.2 in
    let m = read_ok (number_found (2 ^ 32)) most _ command g.2 in
    subst (Stands queues Begin (Word queue ∷ Word grain ∷ Word most ∷ [])) (ok_is _ command m.2) (refl, (q.1.1, g.1.1, m.1.1, inr (cc (q.1.0, g.1.0, m.1.0))))
words_found queues Commit (queue ∷ grain ∷ activation ∷ turn ∷ note ∷ []) command e =
    let q = read_ok (queue_found queues) queue _ command e in
    let g = read_ok grain_found grain _ command q.2 in
    let a = read_ok (number_found (2 ^ 64)) activation _ command g.2 in
    let t = read_ok (number_found (2 ^ 64)) turn _ command a.2 in
    let n = read_ok (number_found (2 ^ 64)) note _ command t.2 in
    subst (Stands queues Commit (Word queue ∷ Word grain ∷ Word activation ∷ Word turn ∷ Word note ∷ [])) (ok_is _ command n.2) (refl, (q.1.1, g.1.1, a.1.1, t.1.1, n.1.1, cc (q.1.0, g.1.0, a.1.0, t.1.0, n.1.0)))
words_found queues Deactivate (queue ∷ grain ∷ []) command e =
    let q = read_ok (queue_found queues) queue _ command e in
    let g = read_ok grain_found grain _ command q.2 in
    subst (Stands queues Deactivate (Word queue ∷ Word grain ∷ [])) (ok_is _ command g.2) (refl, (q.1.1, g.1.1, cc (q.1.0, g.1.0)))
words_found queues Ready (queue ∷ []) command e =
    let q = read_ok (queue_found queues) queue _ command e in
    subst (Stands queues Ready (Word queue ∷ [])) (ok_is _ command q.2) (refl, (q.1.1, cc (q.1.0)))
words_found queues Ready (queue ∷ grain ∷ []) command e =
    let q = read_ok (queue_found queues) queue _ command e in
    let g = read_ok grain_found grain _ command q.2 in
    subst (Stands queues Ready (Word queue ∷ Word grain ∷ [])) (ok_is _ command g.2) (refl, (q.1.1, g.1.1, cc (q.1.0, g.1.0)))
words_found queues Due (queue ∷ []) command e =
    let q = read_ok (queue_found queues) queue _ command e in
    subst (Stands queues Due (Word queue ∷ [])) (ok_is _ command q.2) (refl, (q.1.1, cc (q.1.0)))
words_found queues Due (queue ∷ sub ∷ []) command e =
    let q = read_ok (queue_found queues) queue _ command e in
    let s = read_ok (own_sub_found queues q.0) sub _ command q.2 in
    subst (Stands queues Due (Word queue ∷ Word sub ∷ [])) (ok_is _ command s.2) (refl, (q.1.1, s.1.1, cc (q.1.0, s.1.0)))
words_found queues Quiet [] command e = subst (Stands queues Quiet []) (ok_is _ command e) (refl, refl)
words_found queues Drain [] command e = subst (Stands queues Drain []) (ok_is _ command e) (refl, refl)
words_found queues Report [] command e = subst (Stands queues Report []) (ok_is _ command e) (refl, refl)
words_found queues Up (silo ∷ []) command e =
    let s = read_ok (number_found MOST_SILOS) silo _ command e in
    subst (Stands queues Up (Word silo ∷ [])) (ok_is _ command s.2) (refl, (s.1.1, cc (s.1.0)))
words_found queues Down (silo ∷ []) command e =
    let s = read_ok (number_found MOST_SILOS) silo _ command e in
    subst (Stands queues Down (Word silo ∷ [])) (ok_is _ command s.2) (refl, (s.1.1, cc (s.1.0)))
words_found queues _ _ command e = absurd cc

worded : (queues : ℕ) (verb : Verb) (pieces : List Piece) (command : Command) → (words_of pieces >>= λ words. words_command verb queues words) ≡ Ok command → Stands queues verb pieces command
worded queues verb pieces command e =
    let a = bind_ok (words_of pieces) (λ words. words_command verb queues words) command e in
    rw (read_all-found word_of Word word_found pieces a.0 a.1) (words_found queues verb a.0 command a.2)

verb_command-found : (queues : ℕ) (verb : Verb) (pieces : List Piece) (command : Command) → verb_command verb queues pieces ≡ Ok command → Stands queues verb pieces command
verb_command-found queues Pub pieces command e = pub_found queues pieces command e
verb_command-found queues Sub pieces command e = worded queues Sub pieces command e
verb_command-found queues verb pieces command e = worded queues verb pieces command e

command_of-found : (m : Mode) (queues : ℕ) (pieces : List Piece) (command : Command) → command_of m queues pieces ≡ Ok command → MayStand m command × IsSpelled queues pieces command
command_of-found m queues [] command e = absurd cc
command_of-found m queues (piece ∷ pieces) command e =
    let a = bind_ok (verb_in_front piece) _ command e in
    let b = bind_ok (guard (not_here m) (may_stand m a.0) a.0) _ command a.2 in
    let g = guard_ok (not_here m) (may_stand m a.0) a.0 b.0 b.1 in
    let found = verb_command-found queues b.0 pieces command b.2 in
    let front : piece ≡ Word (verb_word b.0) = verb_in_front-found piece a.0 a.1 ∙ ap (λ (v : Verb). Word (verb_word v)) g.1 in
    (verb-may_stand m command (ap (may_stand m) (found.0 ∙ sym g.1) ∙ g.0), rw front found.1)

lexed-found : (m : Mode) (queues : ℕ) (found : Option (List Piece)) (command : Command) → lexed m queues found ≡ Ok command → (pieces : List Piece) × (found ≡ Some pieces) × (command_of m queues pieces ≡ Ok command)
lexed-found m queues None command e = absurd cc
lexed-found m queues (Some pieces) command e = (pieces, refl, e)

reading_ok : (skipped printable : Bool) (line : ℕ) (r : Result Command FaultKind) (command : Command) → cond skipped parsed.Skip (parsed_of line (cond printable r (Err kind.BadByte))) ≡ parsed.Command command → r ≡ Ok command
reading_ok true printable line r command e = absurd cc
reading_ok false false line r command e = absurd cc
reading_ok false true line (Ok c) command e = cc
reading_ok false true line (Err fault) command e = absurd cc

-- a line that is read as a command is made of its pieces
pub reading-found : (queues : ℕ) (m : Mode) (line : ℕ) (bytes : List ℕ) (command : Command) → reading queues m line bytes ≡ parsed.Command command → Reads m queues bytes command
unfolding reading
reading-found queues m line bytes command e =
    let read = reading_ok (is_skipped bytes) (list_all is_printable bytes) line (lexed m queues (pieces_of bytes)) command e in
    let found = lexed-found m queues (pieces_of bytes) command read in
    let is = command_of-found m queues found.0 command found.2 in
    (is.0, found.0, line-pieces_of bytes found.0 found.1, is.1)

-- what a result of `parse_line` says
pub found_from : (queues : ℕ) (m : Mode) (line : ℕ) (bytes : List ℕ) (result : Result Parsed AllocError) → IfOk result (λ p. p ≡ reading queues m line bytes) → (command : Command) → result ≡ Ok (parsed.Command command) → Reads m queues bytes command
found_from queues m line bytes (Ok p) exact command e =
    let is : p ≡ parsed.Command command = cc in
    reading-found queues m line bytes command (sym exact ∙ is)
found_from queues m line bytes (Err failed) exact command e = absurd cc

-- ---- a command is of a queue that there is

rest-below : (n queues : ℕ) → 1 ≤ queues → n % queues < queues
rest-below n queues some = omega arith

-- the queue of a stream is one of the queues
queue_of-below : (stream : StreamId) (queues queue : ℕ) → 1 ≤ queues → queue ≡ queue_of stream queues → queue < queues
queue_of-below stream queues queue some is =
    let below : queue_of stream queues < queues = rest-below _ queues some in
    rw is below

written-within : (queues : ℕ) (pieces : List Piece) (queue : ℕ) (o : Op) → 1 ≤ queues → IsWritten queues pieces queue o → queue < queues
written-within queues pieces queue (op.Publish stream payloads) some written = queue_of-below stream queues queue some written.2
written-within queues pieces queue (op.Subscribe stream grain start) some written = queue_of-below stream queues queue some written.2
written-within queues pieces queue (op.AddRule own_kind namespace) some written = absurd written
written-within queues pieces queue (op.Ready None) some written = written.0.0
written-within queues pieces queue (op.Due None) some written = written.0.0
written-within queues pieces queue op.Quiet some written = absurd written
written-within queues pieces queue _ some written = written.0.0

-- what a result of `parse_line` says
pub within-found : (queues : ℕ) (m : Mode) (line : ℕ) (bytes : List ℕ) (result : Result Parsed AllocError) → 1 ≤ queues → IfOk result (λ p. p ≡ reading queues m line bytes) → IfOk result (IsWithin queues)
within-found queues m line bytes (Ok (parsed.Command (Step queue o))) some exact =
    let reads = reading-found queues m line bytes (Step queue o) (sym exact) in written-within queues reads.1 queue o some reads.3
within-found queues m line bytes _ some exact = tt
