use Rattle.partition_queue.proofs.Prelude.{◌≡◌, ◌+◌, ◌-◌, ◌*◌, ◌≤◌, ◌++◌, length, drop, map, vec_len, vec_capacity, AllByRecursion, concat, IsPayload}
use Rattle.partition_queue.specs.Log.{entries_of}
use Rattle.partition_queue.proofs.queue.push_slices.Given as goal

-- with the entries and the bytes of the payloads that are left the log is whole, and there is room for them
abbrev pub invariant-loop-idx : goal.invariant-loop-idx
invariant-loop-idx l =
    record {
      entries : l.entries.items ++ entries_of l.stream l.seq l.idx (length l.bytes.items) (map (λ payload. payload.now) (drop l.idx l.payloads)) ≡ l.fn.entries.items ++ entries_of l.stream l.seq 0 (length l.fn.bytes.items) (map (λ payload. payload.now) l.payloads);
      bytes : l.bytes.items ++ concat (map (λ payload. payload.now) (drop l.idx l.payloads)) ≡ l.fn.bytes.items ++ concat (map (λ payload. payload.now) l.payloads);
      payloads : AllByRecursion IsPayload (map (λ payload. payload.now) (drop l.idx l.payloads));
      room : vec_len l.entries + (length l.payloads - l.idx) ≤ vec_capacity l.entries;
      bytes_room : vec_len l.bytes + 256 * (length l.payloads - l.idx) ≤ vec_capacity l.bytes;
      starts : length l.bytes.items ≤ 256000000 + 256 * l.idx;
    }
