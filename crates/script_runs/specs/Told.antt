-- What a script tells the producers of a queue: what they ask, and what they are told. A history stands as it
-- is told, its oldest entry first, and a script with its first line first.
use Rattle.std.specs.Prelude.{ℕ, suc, Bool, true, false, ◌&&◌, List, [], ◌∷◌, ◌++◌, length, map, filter, fold, reverse, Option, Some, None, ◌==◌, nat_le, if◌then◌else◌}
use Rattle.std.specs.List.{filter_map, list_any}
use Rattle.stream_ident.specs.declared.ident.SubName.{SubName}
use Rattle.stream_ident.specs.declared.ident.SubName.TheVariants as name
use Rattle.stream_ident.specs.declared.rule.Rule.{Rule}
use Rattle.stream_ident.specs.Event.{batch_token}
use Rattle.stream_ident.specs.Name.{same_name}
use Rattle.stream_ident.specs.declared.limits.TheConstants.{BATCH_EVENTS}
use Rattle.stream_model.specs.declared.op.Op.{Op}
use Rattle.stream_model.specs.declared.op.Op.TheVariants.{Publish, Subscribe, Unsubscribe, AddRule}
use Rattle.stream_model.specs.declared.op.Start.TheVariants.{Latest, At}
use Rattle.stream_model.specs.Replies.{Reply}
use Rattle.stream_model.specs.Producers.{is_producer}
use Rattle.stream_model.specs.declared.reply.Reply.TheVariants as reply
use Rattle.stream_model.specs.History.{Entry, is_closed}
use Rattle.stream_model.specs.NewestFirst as newest
use Rattle.stream_laws.specs.Laws.{is_given}
use Rattle.stream_script.specs.declared.parser.command.Command.{Command}
use Rattle.stream_script.specs.declared.parser.command.Command.TheVariants as command
use Rattle.stream_script.specs.Forms.{op_of}
use Rattle.script_runs.specs.declared.reader.line.Line.{Line}

-- how many batches were accepted
abbrev pub batch_count : List Entry → ℕ
batch_count history = newest.batch_count (reverse history)

abbrev pub is_subscribed : Op → Reply → Bool
is_subscribed (Subscribe stream grain start) (reply.Subscribed number) = true
is_subscribed _ _ = false

-- how many explicit subscriptions were made
abbrev pub subscribed_count : List Entry → ℕ
subscribed_count history = length (filter (λ (e : Entry). is_subscribed e.op e.reply) history)

-- the rule that an entry added, where it did
abbrev pub rule_of : Op → Reply → Option Rule
rule_of (AddRule kind namespace) (reply.RuleAdded from) = Some (record { kind = kind; namespace = namespace; from = from })
rule_of _ _ = None

-- the rules that were added, in order
abbrev pub rules_of : List Entry → List Rule
rules_of history = filter_map (λ (e : Entry). rule_of e.op e.reply) history

-- a rule of the same kind and namespace was added
abbrev pub has_rule : List Entry → List ℕ → List ℕ → Bool
has_rule history kind namespace = list_any (λ (rule : Rule). same_name kind rule.kind && same_name namespace rule.namespace) (rules_of history)

-- A batch has some payloads, and not too many.
abbrev pub is_batch : List (List ℕ) → Bool
is_batch payloads = nat_le 1 (length payloads) && nat_le (length payloads) BATCH_EVENTS

-- the reply that a start token is refused, with the tokens that a script doesn't say set aside
abbrev pub a_miss : Reply
a_miss = reply.Miss (batch_token 0) (batch_token 0) (batch_token 0)

-- A subscribe is answered with the next number, unless its start token is refused.
abbrev pub subscribe_reply : List Entry → Bool → Reply
subscribe_reply before true = a_miss
subscribe_reply before false = reply.Subscribed (suc (subscribed_count before))

-- An explicit name that was given is closed already, or is unsubscribed now; every other name is refused. How
-- many events were handled is set aside.
abbrev pub unsubscribe_reply : List Entry → SubName → Reply
unsubscribe_reply before (name.Explicit number) =
    if is_closed before (name.Explicit number) then reply.Closed
    else if is_given before number then reply.Unsubscribed 0
    else reply.NoSuch
unsubscribe_reply before (name.Implicit kind stream) = reply.NoSuch

-- the line is one of these
abbrev pub is_among : ℕ → List ℕ → Bool
is_among line lines = list_any (λ other. other == line) lines

-- What a producer is told after these entries. `missed` are the numbers of the lines whose start token is
-- refused.
abbrev pub told_reply : List ℕ → List Entry → ℕ → Op → Reply
told_reply missed before line (Publish stream payloads) = if is_batch payloads then reply.Published (batch_count before) else reply.BadBatch
told_reply missed before line (Subscribe stream grain Latest) = subscribe_reply before false
told_reply missed before line (Subscribe stream grain (At token)) = subscribe_reply before (is_among line missed)
told_reply missed before line (Unsubscribe sub) = unsubscribe_reply before sub
told_reply missed before line (AddRule kind namespace) =
    if has_rule before kind namespace then reply.RuleThere else reply.RuleAdded (batch_count before)
-- never so: a producer asks for nothing else
told_reply missed before line _ = reply.IsQuiet

abbrev pub producer_op : Op → Option Op
producer_op op = if is_producer op then Some op else None

-- what a command has a producer ask for at a queue, where it has one there
abbrev pub op_at : ℕ → Command → Option Op
op_at queue (command.Step own_queue op) = if own_queue == queue then producer_op op else None
op_at queue (command.Each each) = producer_op (op_of each)
op_at queue _ = None

-- the entries, and that of a line where it asks for something
abbrev pub with_told : List ℕ → List Entry → ℕ → Option Op → List Entry
with_told missed before line None = before
with_told missed before line (Some op) = before ++ record { op = op; reply = told_reply missed before line op } ∷ []

-- what producers of a script ask at a queue and are answered, given the lines that are misses
abbrev pub told : List ℕ → ℕ → List Line → List Entry
told missed queue script =
    fold (λ before (line : Line). with_told missed before line.number (op_at queue line.command)) [] script

-- A reply without what a script leaves open: what Unsubscribed and Miss carry, and whether an implicit name is
-- answered Implicit or NoSuch.
abbrev pub told_of : Reply → Reply
told_of (reply.Unsubscribed handled) = reply.Unsubscribed 0
told_of (reply.Miss requested low high) = a_miss
told_of reply.Implicit = reply.NoSuch
told_of other = other

-- the producers' entries of a history, as far as a script says what they are
abbrev pub producers_entries : List Entry → List Entry
producers_entries history =
    map (λ (e : Entry). record { op = e.op; reply = told_of e.reply }) (filter (λ (e : Entry). is_producer e.op) history)
