use Rattle.script_runs.proofs.Prelude.{writes_then}
use Rattle.stream_script.specs.Spelling.{stream_text}
use Rattle.script_runs.proofs.Again.{publish-joined}
use Rattle.script_runs.proofs.traces.write.push_publish.Goals as goal

pub returns : goal.returns
returns c =
    writes_then c.args.out.now.items _ _ _ _ _ _ c.in_ok-push_stream.ensures c.push_texts.ensures (publish-joined (stream_text c.args.stream.now) c.args.payloads.now)
