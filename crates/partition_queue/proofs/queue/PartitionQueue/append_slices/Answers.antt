use Rattle.partition_queue.proofs.Prelude.{◌∙◌, sym, ap, subst, length, map, ℕ, List, rules, length-map}
use Rattle.partition_queue.specs.Queue.{append, Fits}
use Rattle.partition_queue.proofs.AppendLemmas.{Kept, log_of, still_log, written-appends, IsWritten}
use Rattle.partition_queue.proofs.queue.PartitionQueue.append_slices.Goals as goal

abbrev payloads : goal.After-self-1 → List (List ℕ)
payloads c = map (λ payload. payload.now) c.args.payloads.now

abbrev old : goal.After-self-1 → Kept
old c = record { streams = c.self.inside.streams; bytes = c.self.inside.bytes.items; entries = c.self.inside.entries.items }

abbrev new : goal.After-self-1 → Kept
new c = record { streams = c.make_room.new.streams; bytes = c.push_slices.new.bytes.items; entries = c.push_slices.new.entries.items }

written : (c : goal.After-self-1) → IsWritten (old c) (new c) c.args.stream.now c.in_ok-stream.stream c.self.inside.batches (payloads c)
written c = record {
  grows = c.in_ok-stream.ensures.grows;
  long = search rules;
  more = search rules;
  within = c.in_ok-stream.ensures.within;
  stored = c.in_ok-stream.ensures.stored;
  payloads = c.requires;
}

fits : (c : goal.After-self-1) → Fits (log_of (old c) c.self.inside.batches c.self.inside.limit) (length (payloads c))
fits c =
    subst (λ q. Fits q (length (payloads c))) (sym c.self.view_is)
    (subst (Fits c.args.self.now) (sym (length-map c.args.payloads.now (λ payload. payload.now))) c.in_default.ensures)

pub invariant_of-self-2 : goal.invariant_of-self-2
invariant_of-self-2 c =
    still_log (old c) (new c) c.args.stream.now c.in_ok-stream.stream c.self.inside.batches c.self.inside.limit (payloads c) (written c) c.self.invariant.0 c.self.invariant.1 (fits c)

pub returns-clause-performs : goal.returns-clause-performs
returns-clause-performs c =
    written-appends (old c) (new c) c.args.stream.now c.in_ok-stream.stream c.self.inside.batches c.self.inside.limit (payloads c) (written c) c.self.invariant.1 (fits c)
    ∙ ap (λ q. append q c.args.stream.now (payloads c)) c.self.view_is
