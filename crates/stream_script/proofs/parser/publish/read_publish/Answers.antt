use Rattle.stream_script.proofs.Prelude.{◌≡◌, ◌∙◌, ap, sym, map, codes, rules, AllByRecursion, ℕ, List, ◌∷◌, true, Some, Ok, refl, IsPayload, StreamId}
use Rattle.stream_model.specs.declared.op.Op.TheVariants as op
use Rattle.stream_script.specs.declared.parser.command.Command.TheVariants.{Step}
use Rattle.stream_script.specs.declared.parser.command.Mode.{Mode}
use Rattle.stream_script.specs.declared.parser.command.Mode.TheVariants as mode
use Rattle.stream_script.specs.declared.parser.command.Parsed.TheVariants as parsed
use Rattle.stream_script.specs.Fields.{stream_field}
use Rattle.stream_script.specs.Forms.{queue_of}
use Rattle.stream_script.specs.Grammar.{MayStand}
use Rattle.stream_script.specs.Lexer.{Between, cut, pieces_of}
use Rattle.stream_script.specs.Pieces.{Word, Text}
use Rattle.stream_script.specs.Publishing.{with_pub}
use Rattle.stream_script.specs.Reading.{reading}
use Rattle.stream_script.proofs.AgainLemmas.{reading-again}
use Rattle.stream_script.proofs.FieldLemmas.{stream_found}
use Rattle.stream_script.proofs.LineLemmas.{line-pieces_of}
use Rattle.stream_script.proofs.parser.publish.read_publish.Goals as goal

may_publish : (m : Mode) (queue : ℕ) (stream : StreamId) (texts : List (List ℕ)) → MayStand m (Step queue (op.Publish stream texts))
may_publish mode.Sim queue stream texts = tt
may_publish mode.Run queue stream texts = tt

publish_read : (queues : ℕ) (bytes word rest : List ℕ) (stream : StreamId) (texts : List (List ℕ)) → cut Between bytes ≡ with_pub word (cut Between rest) → stream_field word ≡ Ok stream
    → cut Between rest ≡ Some (map Text texts) → AllByRecursion IsPayload texts
    → (m : Mode) (line : ℕ) → reading queues m line bytes ≡ parsed.Command (Step (queue_of stream queues) (op.Publish stream texts))
unfolding pieces_of
publish_read queues bytes word rest stream texts begun named cuts are m line =
    let queue = queue_of stream queues in
    let pieces = Word (codes "pub") ∷ Word word ∷ map Text texts in
    let made = line-pieces_of bytes pieces (begun ∙ ap (with_pub word) cuts) in
    let found = stream_found word stream named in
    let written = ap (λ (w : List ℕ). Word (codes "pub") ∷ Word w ∷ map Text texts) found.0 in
    reading-again queues m line bytes (Step queue (op.Publish stream texts)) (may_publish m queue stream texts, pieces, made, (found.1, are, refl, written))

pub returns-clause-exact : goal.returns-clause-exact
returns-clause-exact c m line =
    let texts = map (λ text. text.now) c.plain_texts.new.texts.items in
    let all : c.in_ok-plain_texts.field-0 ≡ true = search rules in
    publish_read c.args.queues c.args.bytes.now c.in-Some.word.now c.in-Some.rest.now c.in-Ok.stream texts c.in-Some.ensures (sym c.in-Ok.ensures) (c.in_ok-plain_texts.ensures.cut all) (c.in_ok-plain_texts.ensures.payloads all) m line
    ∙ ap (λ queue. parsed.Command (Step queue (op.Publish c.in-Ok.stream texts))) (sym c.queue_of.ensures)
