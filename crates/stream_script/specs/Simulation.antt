-- What a script's simulation writes, and the fault that ends it. This speaks of whole lines and replies,
-- and of no buffer.
use Rattle.std.specs.Prelude.{◌≡◌, ℕ, suc, ◌<◌, ◌≤◌, Bool, true, false, List, [], ◌∷◌, ◌++◌, length, replicate, slice_set, slice_index_or, Option, Some, None, IfSome, Result, Ok, Err, nat_lt, ⊤, if◌then◌else◌}
use Rattle.std.specs.Global.{Vec}
use Rattle.std.specs.Io.KnownBytes.{Appends, Consumes, IsAtEnd}
use Rattle.std.specs.declared.alloc.AllocError.{AllocError}
use Rattle.stream_ident.specs.declared.limits.TheConstants.{MOST_BLOCKS, MOST_QUEUES}
use Rattle.stream_model.specs.Bounds.{AreLimits}
use Rattle.stream_model.specs.declared.drain_end.DrainEnd.{DrainEnd}
use Rattle.stream_model.specs.declared.op.Op.{Op}
use Rattle.stream_model.specs.declared.plain.PlainPartition.{PlainPartition}
use Rattle.stream_model.specs.Draining.{drain}
use Rattle.stream_model.specs.Positions.{empty}
use Rattle.stream_model.specs.Step.{step}
use Rattle.stream_script.specs.declared.parser.command.Command.TheVariants as command
use Rattle.stream_script.specs.declared.parser.command.Fault.{Fault}
use Rattle.stream_script.specs.declared.parser.command.FaultKind.TheVariants as kind
use Rattle.stream_script.specs.declared.parser.command.Mode.TheVariants as mode
use Rattle.stream_script.specs.declared.parser.command.Parsed.{Parsed}
use Rattle.stream_script.specs.declared.parser.command.Parsed.TheVariants as parsed
use Rattle.stream_script.specs.declared.simulate.SimConfig.{SimConfig}
use Rattle.stream_script.specs.declared.simulate.SimError.{SimError}
use Rattle.stream_script.specs.declared.simulate.SimError.TheVariants as error
use Rattle.stream_script.specs.Transfers.{AppendsFront}
use Rattle.stream_script.specs.Forms.{op_of}
use Rattle.stream_script.specs.Lines.{lines_of}
use Rattle.stream_script.specs.Reading.{reading}
use Rattle.stream_script.specs.Replies.{reply_line, drain_line}
use Rattle.stream_script.specs.Report.{report_of}

-- what a simulation may be asked for
pub record IsSimConfig (config : SimConfig) : Type 0 where
  pub some_queues : 1 ≤ config.queues
  pub queues : config.queues ≤ MOST_QUEUES
  pub some_blocks : 1 ≤ config.blocks
  pub blocks : config.blocks ≤ MOST_BLOCKS
  pub limits : AreLimits config.limits

-- the text, and the fault of the first faulty line
pub record Outcome : Type 0 where
  pub text : List ℕ
  pub fault : Option Fault

abbrev pub with_text : List ℕ → Outcome → Outcome
with_text text rest = record { text = text ++ rest.text; fault = rest.fault }

-- a text in front of what was done
abbrev pub behind : List ℕ → List PlainPartition × List ℕ → List PlainPartition × List ℕ
behind text done = (done.0, text ++ done.1)

-- an operation on the partition of a queue: what it leaves, and its line
abbrev pub step_on : Op → ℕ → PlainPartition → PlainPartition × List ℕ
step_on o queue p = ((step p o).0, reply_line queue (step p o).1)

-- the line of a drain, and none where it went astray: then it has no end, and that is never so
abbrev pub end_line : ℕ → Option DrainEnd → List ℕ
end_line queue None = []
end_line queue (Some end) = drain_line queue end

-- a drain of the partition of a queue
abbrev pub drain_on : ℕ → PlainPartition → PlainPartition × List ℕ
drain_on queue p = ((drain p).0.now, end_line queue (drain p).1)

-- one of the partitions done: what that leaves, and its line
abbrev pub one_done : (ℕ → PlainPartition → PlainPartition × List ℕ) → SimConfig → ℕ → List PlainPartition → List PlainPartition × List ℕ
one_done one config queue partitions =
    let done = one queue (slice_index_or partitions queue (empty config.blocks config.limits)) in (slice_set partitions queue done.0, done.1)

-- one partition and its line in front of what was done
abbrev pub with_done : PlainPartition × List ℕ → List PlainPartition × List ℕ → List PlainPartition × List ℕ
with_done first done = (first.0 ∷ done.0, first.1 ++ done.1)

-- Each of the partitions done, the first of which has this queue: what that leaves, and their lines in
-- order.
abbrev pub each_done : (ℕ → PlainPartition → PlainPartition × List ℕ) → ℕ → List PlainPartition → List PlainPartition × List ℕ
each_done one queue [] = ([], [])
each_done one queue (p ∷ partitions) = with_done (one queue p) (each_done one (suc queue) partitions)

-- What a line does: the partitions after it and its text, or its fault. A line that changes silos is
-- never read as such here, and would do nothing.
abbrev pub run_parsed : SimConfig → List PlainPartition → Parsed → Result (List PlainPartition × List ℕ) Fault
run_parsed config partitions parsed.Skip = Ok (partitions, [])
run_parsed config partitions (parsed.Fault fault) = Err fault
run_parsed config partitions (parsed.Command (command.Step queue o)) = Ok (one_done (step_on o) config queue partitions)
run_parsed config partitions (parsed.Command (command.Each each)) = Ok (each_done (step_on (op_of each)) 0 partitions)
run_parsed config partitions (parsed.Command command.Drain) = Ok (each_done drain_on 0 partitions)
run_parsed config partitions (parsed.Command command.Report) = Ok (partitions, report_of partitions)
run_parsed config partitions (parsed.Command (command.Up silo)) = Ok (partitions, [])
run_parsed config partitions (parsed.Command (command.Down silo)) = Ok (partitions, [])

abbrev pub run_line : SimConfig → ℕ → List PlainPartition → List ℕ → Result (List PlainPartition × List ℕ) Fault
run_line config number partitions line = run_parsed config partitions (reading config.queues mode.Sim number line)

-- a line, and then those that follow it; a faulty line ends the text
abbrev pub and_then : (List PlainPartition → Outcome) → Result (List PlainPartition × List ℕ) Fault → Outcome
and_then go (Ok done) = with_text done.1 (go done.0)
and_then go (Err fault) = record { text = []; fault = Some fault }

-- the lines from the one with this number on
abbrev pub run_lines : SimConfig → ℕ → List PlainPartition → List (List ℕ) → Outcome
run_lines config number partitions [] = record { text = []; fault = None }
run_lines config number partitions (line ∷ lines) =
    and_then (λ after. run_lines config (suc number) after lines) (run_line config number partitions line)

-- all lines of a script, on new partitions
abbrev pub run_script : SimConfig → List ℕ → Outcome
run_script config script = run_lines config 1 (replicate config.queues (empty config.blocks config.limits)) (lines_of script)

abbrev pub too_long : Fault
too_long = record { line = 0; kind = kind.TooLong }

-- the text of a simulation, and the fault that ends it; a script that is too long writes nothing
unfoldable pub simulation : SimConfig → List ℕ → Outcome
simulation config script =
    if nat_lt 4194304 (length script) then record { text = []; fault = Some too_long } else run_script config script

-- What the sink got, by how the simulation ended: the whole text where it was done or a line was faulty,
-- a front of it where a write failed or memory ran out, and nothing where a read failed.
abbrev pub Simulates : Option (List ℕ) → Option (List ℕ) → Outcome → Result Unit SimError → Type 0
Simulates old new outcome (Ok done) = Appends old new outcome.text × (outcome.fault ≡ None)
Simulates old new outcome (Err (error.ScriptFault fault)) = Appends old new outcome.text × (outcome.fault ≡ Some fault)
Simulates old new outcome (Err error.WriteFault) = AppendsFront old new outcome.text
Simulates old new outcome (Err error.Memory) = AppendsFront old new outcome.text
Simulates old new outcome (Err error.ReadFault) = Appends old new []

-- The sink got what `Simulates` says, for some input. Which one it is can be told where the bytes of the
-- source are known.
abbrev pub SimulatesSome : Option (List ℕ) → Option (List ℕ) → SimConfig → Result Unit SimError → Type 0
SimulatesSome old new config result = (input : List ℕ) × Simulates old new (simulation config input) result

-- the same of the lines alone, which end by themselves or at a fault
abbrev pub RunsLines : Option (List ℕ) → Option (List ℕ) → Outcome → Result (Option Fault) SimError → Type 0
RunsLines old new outcome (Ok fault) = Appends old new outcome.text × (outcome.fault ≡ fault)
RunsLines old new outcome (Err error.WriteFault) = AppendsFront old new outcome.text
RunsLines old new outcome (Err error.Memory) = AppendsFront old new outcome.text
RunsLines old new outcome (Err _) = ⊥

-- a line was done, or was faulty, or memory ran out
abbrev pub RunsLine : Result (List PlainPartition × List ℕ) Fault → List PlainPartition × List ℕ → Result (Option Fault) AllocError → Type 0
RunsLine line done (Ok None) = line ≡ Ok done
RunsLine line done (Ok (Some fault)) = line ≡ Err fault
RunsLine line done (Err e) = ⊤

-- the end of a simulation whose first fault this is
abbrev pub Finishes : Option Fault → Result Unit SimError → Type 0
Finishes fault (Ok done) = fault ≡ None
Finishes fault (Err (error.ScriptFault found)) = fault ≡ Some found
Finishes fault (Err error.WriteFault) = ⊤
Finishes fault (Err _) = ⊥

-- all of a script was read, or it is too long
abbrev pub ReadsScript : Option (List ℕ) → Option (List ℕ) → Result (Vec ℕ) SimError → Type 0
ReadsScript old new (Ok script) = Consumes old new script.items × IsAtEnd new × (length script.items ≤ 4194304)
ReadsScript old new (Err (error.ScriptFault fault)) = (fault ≡ too_long) × IfSome old (λ input. 4194304 < length input)
ReadsScript old new (Err error.WriteFault) = ⊥
ReadsScript old new (Err _) = ⊤

-- a read put what it gave behind what was read before
abbrev pub ReadsSome : Option (List ℕ) → Option (List ℕ) → List ℕ → List ℕ → ℕ → Result ℕ SimError → Type 0
ReadsSome old new before after most (Ok count) =
    (bytes : List ℕ) × Consumes old new bytes × (after ≡ before ++ bytes) × (length bytes ≡ count) × (count ≤ most) × (count ≡ 0 → IsAtEnd new)
ReadsSome old new before after most (Err error.ReadFault) = ⊤
ReadsSome old new before after most (Err error.Memory) = ⊤
ReadsSome old new before after most (Err _) = ⊥

-- the simulation ended because its source can't be read
abbrev pub is_read_fault : {T : Type 0} → Result T SimError → Bool
is_read_fault (Err error.ReadFault) = true
is_read_fault _ = false

-- the simulation ended because its sink can't be written
abbrev pub is_write_fault : {T : Type 0} → Result T SimError → Bool
is_write_fault (Err error.WriteFault) = true
is_write_fault _ = false
