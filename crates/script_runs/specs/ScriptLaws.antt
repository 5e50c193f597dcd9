-- What holds of every legal history: its producers' entries alone say what a report of it is, once the
-- partition is quiet. A history stands as it is told, its oldest entry first.
use Rattle.std.specs.Prelude.{◌≡◌, ◌≢◌, ℕ, Bool, true, false, List, [], ◌∷◌, ◌++◌, filter, length, nat_lt, Some, ◌==◌}
use Rattle.std.specs.List.{AllByRecursion, list_any}
use Rattle.stream_ident.specs.declared.ident.StreamId.{StreamId}
use Rattle.stream_ident.specs.declared.ident.SubName.{SubName}
use Rattle.stream_ident.specs.declared.ident.SubName.TheVariants as name
use Rattle.stream_ident.specs.SubName.{same_sub}
use Rattle.stream_model.specs.declared.plain.Subscription.{Subscription}
use Rattle.stream_model.specs.Replies.{Reply}
use Rattle.stream_model.specs.declared.reply.Reply.TheVariants as reply
use Rattle.stream_model.specs.declared.reply.Reply.TheVariants.{IsQuiet}
use Rattle.stream_model.specs.History.{Entry, binding_of, is_closed, owed_events, published_events}
use Rattle.stream_model.specs.Looks.{quiet}
use Rattle.stream_model.specs.Positions.{sub_at}
use Rattle.stream_laws.specs.Laws.{Always, AtEach}
use Rattle.step_core.specs.declared.reading.SubSummary.{SubSummary}
use Rattle.step_core.specs.Reads.{handled_of, summaries_in_order, summaries_of}
use Rattle.stream_script.specs.Report.{queue_report}
use Rattle.script_runs.specs.ScriptReport.{command_printed, explicit_subs, implicit_subs, live_after, live_silos, script_lines, told_report, told_subs}
use Rattle.stream_model.specs.Producers.{is_producer}
use Rattle.script_runs.specs.declared.reader.line.Line.{Line}
use Rattle.script_runs.specs.Told.{is_among, op_at, producers_entries, rules_of, told, told_of, told_reply, with_told}

-- what one line more at the end of a script adds to what is told, printed and alive
pub record ScriptsGrow : Type 0 where
  pub told : (missed : List ℕ) (queue : ℕ) (script : List Line) (line : Line)
      → told missed queue (script ++ line ∷ []) ≡ with_told missed (told missed queue script) line.number (op_at queue line.command)
  pub printed : (missed : List ℕ) (silos : ℕ) (script : List Line) (line : Line)
      → script_lines missed silos (script ++ line ∷ []) ≡ script_lines missed silos script ++ command_printed missed silos script line.number line.command
  pub live : (silos : ℕ) (script : List Line) (line : Line) → live_silos silos (script ++ line ∷ []) ≡ live_after (live_silos silos script) line.command

-- no line of the script has this number
abbrev pub HasNoLine : ℕ → List Line → Type 0
HasNoLine number script = AllByRecursion (λ (line : Line). (number == line.number) ≡ false) script

-- That a line is a miss changes nothing of what is told and printed by a script without it.
pub record MissesChangeNoOther : Type 0 where
  pub told : (missed : List ℕ) (number queue : ℕ) (script : List Line) → HasNoLine number script
      → told (number ∷ missed) queue script ≡ told missed queue script
  pub printed : (missed : List ℕ) (number silos : ℕ) (script : List Line) → HasNoLine number script
      → script_lines (number ∷ missed) silos script ≡ script_lines missed silos script

-- Producers alone decide what is published, bound, owed and closed, and the rules and the subscriptions that
-- a report names: by their entries alone these are the same. This holds of every list of entries, legal or
-- not.
pub record ProducersTell : Type 0 where
  pub published : (history : List Entry) → published_events (producers_entries history) ≡ published_events history
  pub bound : (history : List Entry) (s : SubName) → binding_of (producers_entries history) s ≡ binding_of history s
  pub owed : (history : List Entry) (s : SubName) → owed_events (producers_entries history) s ≡ owed_events history s
  pub closed : (history : List Entry) (s : SubName) → is_closed (producers_entries history) s ≡ is_closed history s
  pub rules : (history : List Entry) → rules_of (producers_entries history) ≡ rules_of history
  pub subs : (history : List Entry) → told_subs (producers_entries history) ≡ told_subs history

-- The rules of a partition are those that were added, in order.
abbrev pub RulesAreTold : Type 0
RulesAreTold = Always (λ history p. p.rules ≡ rules_of history)

abbrev pub is_explicit : SubName → Bool
is_explicit (name.Explicit number) = true
is_explicit (name.Implicit kind stream) = false

-- The explicit subscriptions that have a record are those that were made, in the order in which they were.
abbrev pub ExplicitAreTold : Type 0
ExplicitAreTold = Always (λ history p. filter (λ (sub : SubSummary). is_explicit sub.name) (summaries_of p) ≡ explicit_subs history)

-- An implicit name that has a record is owed an event. Its record is of the grain of its kind that has the
-- key of its stream, and is open.
pub record IsOwedSome (history : List Entry) (kind : List ℕ) (stream : StreamId) (r : Subscription) : Type 0 where
  pub owed : owed_events history (name.Implicit kind stream) ≢ []
  pub grain : r.grain ≡ record { kind = kind; key = stream.key }
  pub is_open : r.is_open ≡ true

-- An implicit subscription with a record is owed an event. Its record is of the grain of its kind that has
-- the key of its stream, and is open.
abbrev pub ImplicitAreOwed : Type 0
ImplicitAreOwed =
    Always (λ history p. (kind : List ℕ) (stream : StreamId) (r : Subscription) → sub_at p (name.Implicit kind stream) ≡ Some r
    → IsOwedSome history kind stream r)

-- an implicit name that is owed an event
abbrev pub is_owed_some : List Entry → SubName → Bool
is_owed_some history (name.Explicit number) = false
is_owed_some history (name.Implicit kind stream) = nat_lt 0 (length (owed_events history (name.Implicit kind stream)))

-- The implicit subscriptions that a history tells are exactly those that are owed an event.
abbrev pub ImplicitSubsAreOwed : Type 0
ImplicitSubsAreOwed =
    Always (λ history p. (s : SubName) → list_any (λ (sub : SubSummary). same_sub s sub.name) (implicit_subs history) ≡ is_owed_some history s)

-- the replies by which a limit refuses what a producer asks
abbrev pub is_limit : Reply → Bool
is_limit reply.QueueFull = true
is_limit reply.TooMany = true
is_limit _ = false

abbrev pub is_miss : Reply → Bool
is_miss (reply.Miss requested low high) = true
is_miss _ = false

-- Producers are answered as the script tells after the producers' entries before, as far as it says how. The
-- line is among the misses exactly where its reply is a miss. Not said: anything of `QueueFull` and
-- `TooMany`.
abbrev pub RepliesAreTold : Type 0
RepliesAreTold =
    AtEach (λ before e. is_producer e.op ≡ true → is_limit e.reply ≡ false → (missed : List ℕ) (line : ℕ) → is_among line missed ≡ is_miss e.reply
    → told_of e.reply ≡ told_reply missed (producers_entries before) line e.op)

-- In a quiet partition an open subscription has handled all that it is owed.
abbrev pub OpenHaveAll : Type 0
OpenHaveAll =
    Always (λ history p. quiet p ≡ IsQuiet → (s : SubName) → is_closed history s ≡ false → handled_of p s ≡ owed_events history s)

-- In a quiet partition the subscriptions with a record are those that the history tells, by name.
abbrev pub QuietTells : Type 0
QuietTells = Always (λ history p. quiet p ≡ IsQuiet → summaries_in_order p ≡ told_subs history)

-- In a quiet partition the report of a queue is the script's, where the producers' entries there are what the
-- script tells, as far as it says what they are.
abbrev pub QuietTellsScript : Type 0
QuietTellsScript =
    Always (λ history p. quiet p ≡ IsQuiet → (queue : ℕ) (missed : List ℕ) (script : List Line)
    → producers_entries history ≡ told missed queue script
    → queue_report queue p ≡ told_report queue (told missed queue script))
