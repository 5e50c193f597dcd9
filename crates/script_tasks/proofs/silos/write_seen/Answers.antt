use Rattle.script_tasks.proofs.silos.write_seen.Goals as goal

pub queue_trace-requires : goal.queue_trace-requires
queue_trace-requires g c = rw c.in_ok-partition.ensures c.requires.legal
