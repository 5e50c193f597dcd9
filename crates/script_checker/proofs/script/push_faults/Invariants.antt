use Rattle.script_checker.proofs.Prelude.{◌≡◌, ◌++◌, take, string_bytes}
use Rattle.script_checker.specs.Scripts.{fault_lines}
use Rattle.script_checker.proofs.script.push_faults.Given as goal

-- the faults so far
abbrev pub invariant-loop-fault : goal.invariant-loop-fault
invariant-loop-fault l = string_bytes l.text ≡ string_bytes l.fn.text ++ fault_lines (take l.fault-index l.faults)
