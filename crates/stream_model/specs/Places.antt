-- Changes of a record at its place.
use Rattle.std.specs.Prelude.{ℕ, List, ◌++◌, Some, drop, length}
use Rattle.stream_model.specs.declared.plain.Grain.{Grain}
use Rattle.stream_model.specs.declared.plain.RunningTurn.{RunningTurn}
use Rattle.stream_model.specs.declared.plain.Subscription.{Subscription}
pub use Rattle.stream_ident.specs.Words.{place_of, change_at}

-- the grain with a turn that runs, whose deliveries have left the mailbox
abbrev pub started : RunningTurn → Grain → Grain
started run st = record st { mailbox = drop (length run.positions) st.mailbox; running = Some run }

-- the subscription with these positions handled too, and the note
abbrev pub handled_also : List ℕ → ℕ → Subscription → Subscription
handled_also positions note r = record r { handled = r.handled ++ positions; note = note }
