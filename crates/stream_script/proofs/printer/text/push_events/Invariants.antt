use Rattle.stream_script.proofs.Prelude.{◌≡◌, ◌++◌, take, flat_map}
use Rattle.stream_script.specs.Replies.{event_text}
use Rattle.stream_script.proofs.printer.text.push_events.Given as goal

-- the events so far
abbrev pub invariant-loop-event : goal.invariant-loop-event
invariant-loop-event l = l.out.items ≡ l.fn.out.items ++ flat_map event_text (take l.event-index l.events)
