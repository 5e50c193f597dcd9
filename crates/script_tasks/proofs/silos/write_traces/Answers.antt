use Rattle.script_tasks.proofs.Prelude.{◌<◌, ◌∙◌, ap, arith, length, map, subst, sym, Appends-nil, get_or-map, length-map, asked_entries}
use Rattle.std.proofs.lemmas.List.Elements.{All-from_recursion}
use Rattle.script_tasks.specs.Printing.{IsLegalAt, seen}
use Rattle.script_tasks.proofs.Running.{each-legal}
use Rattle.script_tasks.proofs.Tracing.{written-all, written-more}
use Rattle.script_tasks.proofs.silos.write_traces.Goals as goal

pub loop-queue-init : goal.loop-queue-init
loop-queue-init g c = Appends-nil (g.W.Write.contents c.args.sink.now)

pub write_seen-requires-clause-legal : goal.write_seen-requires-clause-legal
write_seen-requires-clause-legal g c =
    let config = c.args.config.now in
    let items = c.args.traces.now.histories.items in
    let queue = c.loop-queue.queue in
    let history = c.index.result.now in
    let below : queue < length items = omega (arith, c.loop-queue-test.true, c.len-queue-end.ensures) in
    let all = All-from_recursion (IsLegalAt config) (map asked_entries items) (each-legal config (map asked_entries items) c.args.traces.now.partitions.items c.requires.legal.each) in
    subst (IsLegalAt config) (get_or-map asked_entries items queue history (asked_entries history) below ∙ ap asked_entries (sym c.index.ensures))
    (all queue (asked_entries history) (omega (arith, below, length-map items asked_entries)))

pub loop-queue-preserved : goal.loop-queue-preserved
loop-queue-preserved g c =
    let items = c.args.traces.now.histories.items in
    written-more (seen c.args.shown) asked_entries (g.W.Write.contents c.args.sink.now) (g.W.Write.contents c.loop-queue.sink) items c.loop-queue.queue c.loop-queue.invariant (g.W.Write.contents c.write_seen.new.sink) c.index.result.now
    (omega (arith, c.loop-queue-test.true, c.len-queue-end.ensures)) c.index.ensures c.in_ok-write_seen.ensures

pub returns : goal.returns
returns g c =
    written-all (seen c.args.shown) asked_entries (g.W.Write.contents c.args.sink.now) (g.W.Write.contents c.loop-queue.sink) c.args.traces.now.histories.items c.loop-queue.queue c.loop-queue.invariant
    (omega (arith, c.loop-queue-test.false, c.len-queue-end.ensures)) (omega (arith, c.loop-queue.auto.queue-end, c.len-queue-end.ensures))
