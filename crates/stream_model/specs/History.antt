-- What a history says, from its operations and replies alone. A history is the list of the operations that
-- were done, each with its reply, as it is told: the oldest first. None of this knows of caches, cursors,
-- mailboxes, agents or silos.
use Rattle.std.specs.Prelude.{ℕ, Bool, List, Option, reverse}
use Rattle.stream_ident.specs.declared.event.Event.{Event}
use Rattle.stream_ident.specs.declared.ident.SubName.{SubName}
use Rattle.stream_ident.specs.declared.token.Token.{Token}
pub use Rattle.stream_model.specs.NewestFirst.{Entry, Binding}
use Rattle.stream_model.specs.NewestFirst as newest

-- the events of accepted batches, in the order of the queue; batches are numbered from 0
abbrev pub published_events : List Entry → List Event
published_events history = newest.published_events (reverse history)

-- A subscription's stream and start token, where it is known. The start is the one that was asked for, or the
-- number of batches when it or its rule came.
abbrev pub binding_of : List Entry → SubName → Option Binding
binding_of history s = newest.binding_of (reverse history) s

-- the published events of its stream whose token isn't below its start, in the order of the queue
abbrev pub owed_events : List Entry → SubName → List Event
owed_events history s = newest.owed_events (reverse history) s

-- the events that a subscription has handled: those of its committed turns
abbrev pub handled_events : List Entry → SubName → List Event
handled_events history s = newest.handled_events (reverse history) s

-- whether a subscription was unsubscribed
abbrev pub is_closed : List Entry → SubName → Bool
is_closed history s = newest.is_closed (reverse history) s

-- the note of a subscription's last commit, 0 before the first
abbrev pub last_note : List Entry → SubName → ℕ
last_note history s = newest.last_note (reverse history) s

-- the low token that was told last, 0.0 before the first
abbrev pub low_told : List Entry → Token
low_told history = newest.low_told (reverse history)

-- how often a turn of this number was given
abbrev pub times_begun : List Entry → ℕ → ℕ
times_begun history turn = newest.times_begun (reverse history) turn

-- how often a turn of this number was committed
abbrev pub times_committed : List Entry → ℕ → ℕ
times_committed history turn = newest.times_committed (reverse history) turn
