use Rattle.script_runs.proofs.Prelude.{◌≡◌, ◌++◌, take, flat_map}
use Rattle.script_runs.specs.OpLine.{text_behind}
use Rattle.script_runs.proofs.traces.write.push_texts.Given as goal

-- the payloads so far
abbrev pub invariant-loop-payload : goal.invariant-loop-payload
invariant-loop-payload l = l.out.items ≡ l.fn.out.items ++ flat_map text_behind (take l.payload-index l.payloads)
