use Rattle.partition_queue.proofs.Prelude.{◌≡◌, ◌+◌, ◌-◌, ◌*◌, ◌≤◌, ◌++◌, length, drop, take, vec_len, vec_capacity, AllByRecursion, concat, IsPayload, MOST_EVENTS, PAYLOAD_BYTES}
use Rattle.partition_queue.specs.Log.{entries_of}
use Rattle.partition_queue.proofs.queue.push_events.Given as goal

-- with the entries and the bytes of the payloads that are left the log is whole, and there is room for them
abbrev pub invariant-loop-idx : goal.invariant-loop-idx
invariant-loop-idx l =
    record {
      entries : l.entries.items ++ entries_of l.stream l.seq l.idx (length l.bytes.items) (drop l.idx l.payloads) ≡ l.fn.entries.items ++ entries_of l.stream l.seq 0 (length l.fn.bytes.items) l.payloads;
      bytes : l.bytes.items ++ concat (drop l.idx l.payloads) ≡ l.fn.bytes.items ++ concat l.payloads;
      payloads : AllByRecursion IsPayload (take l.idx l.payloads);
      room : vec_len l.entries + (length l.payloads - l.idx) ≤ vec_capacity l.entries;
      bytes_room : vec_len l.bytes + PAYLOAD_BYTES * (length l.payloads - l.idx) ≤ vec_capacity l.bytes;
      starts : length l.bytes.items ≤ PAYLOAD_BYTES * MOST_EVENTS + PAYLOAD_BYTES * l.idx;
    }
