use Rattle.partition_queue.proofs.Prelude.{◌∙◌, sym, ap, subst, length, rules, AllByRecursion, IsPayload}
use Rattle.partition_queue.specs.Queue.{append, Fits}
use Rattle.partition_queue.proofs.AppendLemmas.{Kept, log_of, still_log, written-appends, IsWritten}
use Rattle.partition_queue.proofs.queue.PartitionQueue.append.Goals as goal

abbrev old : goal.After-self-1 → Kept
old c = record { streams = c.self.inside.streams; bytes = c.self.inside.bytes.items; entries = c.self.inside.entries.items }

abbrev new : goal.After-self-1 → Kept
new c = record { streams = c.make_room.new.streams; bytes = c.push_events.new.bytes.items; entries = c.push_events.new.entries.items }

written : (c : goal.After-self-1) → IsWritten (old c) (new c) c.args.stream.now c.in_ok-stream.stream c.self.inside.batches c.args.payloads.now
written c = record {
  grows = c.in_ok-stream.ensures.grows;
  long = search rules;
  more = search rules;
  within = c.in_ok-stream.ensures.within;
  stored = c.in_ok-stream.ensures.stored;
  payloads = subst (AllByRecursion IsPayload) c.as_slice-payloads.ensures c.push_events.ensures.payloads;
}

fits : (c : goal.After-self-1) → Fits (log_of (old c) c.self.inside.batches c.self.inside.limit) (length c.args.payloads.now)
fits c =
    subst (λ q. Fits q (length c.args.payloads.now)) (sym c.self.view_is)
    (subst (λ batch. Fits c.args.self.now (length batch)) c.as_slice-payloads.ensures c.in_default.ensures)

pub invariant_of-self-2 : goal.invariant_of-self-2
invariant_of-self-2 c =
    still_log (old c) (new c) c.args.stream.now c.in_ok-stream.stream c.self.inside.batches c.self.inside.limit c.args.payloads.now (written c) c.self.invariant.0 c.self.invariant.1 (fits c)

pub returns-clause-performs : goal.returns-clause-performs
returns-clause-performs c =
    written-appends (old c) (new c) c.args.stream.now c.in_ok-stream.stream c.self.inside.batches c.self.inside.limit c.args.payloads.now (written c) c.self.invariant.1 (fits c)
    ∙ ap (λ q. append q c.args.stream.now c.args.payloads.now) c.self.view_is
