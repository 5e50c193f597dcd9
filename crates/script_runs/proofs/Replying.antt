-- What a script says of the reply to a line, and of the lines after it.
use Rattle.script_runs.proofs.Prelude.{BeganEmpty, after, replied, told_of, QueuePass, QueueCalls, ◌≡◌, ◌≢◌, ◌||◌, ℕ, true, false, List, [], ◌∷◌, ◌++◌, Option, Some, None, Ok, refl, sym, ap, subst, ◌∙◌, eq-eqb, map-append, is_producer, Reply, Stands, Op, PlainPartition, Command, entry, replay, Entry}
use Rattle.stream_model.specs.declared.reply.Reply.TheVariants as reply
use Rattle.stream_model.specs.History as told
use Rattle.turnstile.specs.Passes.{Origin}
use Rattle.script_runs.specs.declared.reader.line.Line.{Line}
use Rattle.script_runs.specs.ScriptLaws.{HasNoLine, is_limit, is_miss}
use Rattle.script_runs.specs.ScriptReport.{op_printed, reply_lines}
use Rattle.script_runs.specs.Told as script
use Rattle.script_runs.proofs.Growing.{scripts-grow}
use Rattle.script_runs.proofs.Misses.{misses-change-no-other}
use Rattle.script_runs.proofs.ToldReplies.{replies-told}
use Rattle.script_runs.specs.declared.producer.answer.Answer.{Answer}
use Rattle.script_runs.specs.declared.producer.answer.Answer.TheVariants as answer
use Rattle.script_runs.specs.Telling.{BeginsEmpty, IsNewNumber, ProducesAlone, answer_of, printed_lines, told_at, with_missed}
use Rattle.script_runs.proofs.Seen.{called-told}

-- ---- replies and answers

limit-free : (r : Reply) → answer_of r ≢ answer.Limit → is_limit r ≡ false
limit-free reply.QueueFull free = absurd (free refl)
limit-free reply.TooMany free = absurd (free refl)
limit-free r free = refl

-- a start token is refused exactly where the line is noted
noted : (number : ℕ) (missed : List ℕ) (r : Reply) → script.is_among number missed ≡ false → script.is_among number (with_missed (answer_of r) number missed) ≡ is_miss r
noted number missed (reply.Miss requested low high) new = ap (λ b. b || script.is_among number missed) (eq-eqb number number refl)
noted number missed reply.QueueFull new = new
noted number missed r new = new

printed-so : (number : ℕ) (r : Reply) → reply_lines number (script.told_of r) ≡ printed_lines (answer_of r) number
printed-so number (reply.Miss requested low high) = refl
printed-so number reply.Implicit = refl
printed-so number r = refl

-- ---- one line more

-- whatever was answered, the lines before are told as they were
pub before-same : (a : Answer) (number : ℕ) (missed : List ℕ) (queue : ℕ) (lines : List Line) → HasNoLine number lines
    → script.told (with_missed a number missed) queue lines ≡ script.told missed queue lines
before-same answer.Missed number missed queue lines none = misses-change-no-other.told missed number queue lines none
before-same a number missed queue lines none = refl

-- the line, as it is told
abbrev line_of : ℕ → Command → Line
line_of number command = record { number = number; command = command }

line-more : (a : Answer) (number : ℕ) (missed : List ℕ) (queue : ℕ) (lines : List Line) (command : Command) (before : List told.Entry) (asked : Option Op)
    → HasNoLine number lines → before ≡ script.told missed queue lines → script.op_at queue command ≡ asked
    → script.told (with_missed a number missed) queue (lines ++ line_of number command ∷ []) ≡ script.with_told (with_missed a number missed) before number asked
line-more a number missed queue lines command before asked none so_far asks =
    let now = with_missed a number missed in
    scripts-grow.told now queue lines (line_of number command)
    ∙ (λ i. script.with_told now ((before-same a number missed queue lines none ∙ sym so_far) i) number (asks i))

-- a line that asks for nothing at the queue
pub line-none : (p q : QueuePass) (a : Answer) (number : ℕ) (missed : List ℕ) (queue : ℕ) (lines : List Line) (command : Command)
    → IsNewNumber number missed lines → script.op_at queue command ≡ None → told_at q ≡ told_at p → told_at p ≡ script.told missed queue lines
    → told_at q ≡ script.told (with_missed a number missed) queue (lines ++ line_of number command ∷ [])
line-none p q a number missed queue lines command new asks same so_far =
    same ∙ sym (line-more a number missed queue lines command (told_at p) None new.0 so_far asks)

-- ---- one call

-- the turnstile at which a call was made began with an empty partition
began : (p : QueuePass) (o : Origin PlainPartition) → BeginsEmpty p → p.turnstile ≡ Some o → BeganEmpty o.start
began p o begins of =
    let both : Some begins.0 ≡ Some o = sym begins.1 ∙ of in
    let same : begins.0 ≡ o = cc in
    subst (λ (t : Origin PlainPartition). BeganEmpty t.start) same begins.2

-- an answered call gets the reply that the script says
pub reply-told : (p q : QueuePass) (op : Op) (r : Reply) (number : ℕ) (missed : List ℕ) → BeginsEmpty p → ProducesAlone q → is_producer op ≡ true → answer_of r ≢ answer.Limit
    → script.is_among number missed ≡ false → QueueCalls p op (Ok r) q → script.told_of r ≡ script.told_reply (with_missed (answer_of r) number missed) (told_at p) number op
reply-told p q op r number missed begins alone produces free new calls =
    let called = calls.calls.call in
    let o = calls.calls.origin in
    let front = p.seen ++ called.0 in
    let e : told.Entry = record { op = op; reply = r } in
    let empty = began p o begins calls.calls.of in
    let whole : told_of q.seen ≡ told_of front ++ e ∷ [] =
    ap (λ (es : List (Entry Op Reply)). told_of es) called.1 ∙ map-append (λ (x : Entry Op Reply). record { op = x.op; reply = x.reply }) front (entry p.number op r ∷ []) in
    let last = replay replied after o.start.state q.seen in
    let stands = subst (λ (es : List told.Entry). Stands empty.0 empty.1 es last) whole (calls.stands empty.0 empty.1 empty.3) in
    replies-told empty.0 empty.1 (told_of front) e [] last stands produces (limit-free r free) (with_missed (answer_of r) number missed) number (noted number missed r new)
    ∙ ap (λ (before : List told.Entry). script.told_reply (with_missed (answer_of r) number missed) before number op) (called-told p q op r produces calls alone).0

-- what the script says of it doesn't depend on how the first queue answered
abbrev pub IsToldAlike : Answer → Answer → ℕ → List ℕ → Op → Type 0
IsToldAlike a b number missed op = (before : List told.Entry) → script.told_reply (with_missed a number missed) before number op ≡ script.told_reply (with_missed b number missed) before number op

-- a line that asks for something at the queue and is answered
pub line-told : (p q : QueuePass) (op : Op) (r : Reply) (a : Answer) (number : ℕ) (missed : List ℕ) (queue : ℕ) (lines : List Line) (command : Command)
    → BeginsEmpty p → ProducesAlone q → is_producer op ≡ true → answer_of r ≢ answer.Limit → IsNewNumber number missed lines → script.op_at queue command ≡ Some op
    → IsToldAlike (answer_of r) a number missed op → QueueCalls p op (Ok r) q → told_at p ≡ script.told missed queue lines
    → told_at q ≡ script.told (with_missed a number missed) queue (lines ++ line_of number command ∷ [])
line-told p q op r a number missed queue lines command begins alone produces free new asks alike calls so_far =
    (called-told p q op r produces calls alone).1
    ∙ ap (λ (w : Reply). told_at p ++ record { op = op; reply = w } ∷ []) (reply-told p q op r number missed begins alone produces free new.1 calls ∙ alike (told_at p))
    ∙ sym (line-more a number missed queue lines command (told_at p) (Some op) new.0 so_far asks)

-- what it prints
pub line-printed : (p q : QueuePass) (op : Op) (r : Reply) (number : ℕ) (missed : List ℕ) (queue : ℕ) (lines : List Line)
    → BeginsEmpty p → ProducesAlone q → is_producer op ≡ true → answer_of r ≢ answer.Limit → IsNewNumber number missed lines → QueueCalls p op (Ok r) q → told_at p ≡ script.told missed queue lines
    → op_printed (with_missed (answer_of r) number missed) lines number queue op ≡ printed_lines (answer_of r) number
line-printed p q op r number missed queue lines begins alone produces free new calls so_far =
    let now = with_missed (answer_of r) number missed in
    ap (λ (before : List told.Entry). reply_lines number (script.told_reply now before number op)) (before-same (answer_of r) number missed queue lines new.0 ∙ sym so_far)
    ∙ ap (λ (w : Reply). reply_lines number w) (sym (reply-told p q op r number missed begins alone produces free new.1 calls))
    ∙ printed-so number r
