-- What a command line may ask for, and what is written where that is done.
use Rattle.std.specs.Prelude.{◌≡◌, ◌≢◌, ℕ, ◌-◌, ◌^◌, ◌<◌, ◌≤◌, min, max, Bool, List, codes, Option, Some, Result, Ok, Err, IfSome, if◌then◌else◌}
use Rattle.stream_ident.specs.declared.limits.TheConstants.{MOST_BLOCKS, MOST_ENTRIES, MOST_QUEUES, MOST_SILOS}
use Rattle.stream_script.specs.declared.parser.command.Mode.{Mode}
use Rattle.stream_script.specs.declared.parser.command.Mode.TheVariants as mode
use Rattle.silo_threads.specs.declared.config.Config.{Config}
use Rattle.silo_threads.specs.Clusters.{IsConfig, greatest_limits}
use Rattle.script_runs.specs.declared.traces.trace.Calls.{Calls}
use Rattle.script_runs.specs.declared.traces.trace.Calls.TheVariants as calls
use Rattle.script_tasks.specs.declared.options.CheckConfig.{CheckConfig}
use Rattle.script_tasks.specs.declared.options.Options.{Options}
use Rattle.script_tasks.specs.declared.options.Task.{Task}
use Rattle.script_tasks.specs.declared.options.Task.TheVariants as task
use Rattle.script_tasks.specs.declared.shown.Shown.{Shown}
use Rattle.script_tasks.specs.declared.summary.Detail.{Detail}
use Rattle.script_tasks.specs.declared.summary.Detail.TheVariants as detail
use Rattle.script_tasks.specs.declared.fault.ProgramFault.{ProgramFault}
use Rattle.script_tasks.specs.declared.fault.ProgramFault.TheVariants as fault
use Rattle.script_tasks.specs.Checking.{PrintsCheck}
use Rattle.script_tasks.specs.Printing.{PrintsRun, PrintsTrace}
use Rattle.stream_script.specs.declared.simulate.SimConfig.{SimConfig}
use Rattle.stream_script.specs.Simulation.{IsSimConfig, Outcome, Simulates, simulation}

-- a number that is asked for, taken as one from 1 to the most that there may be
abbrev pub within : ℕ → ℕ → ℕ
within most number = max 1 (min number most)

-- a simulation with so many queues and blocks
abbrev pub simulation_with : ℕ → ℕ → SimConfig
simulation_with queues blocks = record { queues = within MOST_QUEUES queues; blocks = within MOST_BLOCKS blocks; limits = greatest_limits }

-- a check on so many queues, of a script for this
abbrev pub check_with : ℕ → Mode → CheckConfig
check_with queues mode = record { queues = within MOST_QUEUES queues; mode = mode }

-- a cluster with so many queues, blocks and silos, whose histories have room for so many calls
abbrev pub cluster_with : ℕ → ℕ → ℕ → ℕ → Config
cluster_with queues blocks silos history =
    record {
      queues = within MOST_QUEUES queues;
      blocks = within MOST_BLOCKS blocks;
      silos = within MOST_SILOS silos;
      limits = greatest_limits;
      history = history;
      rounds = 1000000;
      looks = 100000;
    }

-- a queue that is shown alone is one that there is
abbrev pub IsShown : ℕ → Shown → Type 0
IsShown queues shown = IfSome shown.queue (λ queue. queue < queues)

-- a configuration within its conditions
abbrev pub IsTask : Task → Type 0
IsTask (task.Simulate config) = IsSimConfig config
IsTask (task.Run config much) = IsConfig config
IsTask (task.Trace config shown) = IsConfig config × IsShown config.queues shown
IsTask (task.Check config) = 1 ≤ config.queues

-- the choices of flags
abbrev pub detail_with : Bool → Detail
detail_with summary = if summary then detail.Counts else detail.Events

abbrev pub calls_with : Bool → Calls
calls_with busy = if busy then calls.Busy else calls.All

abbrev pub mode_with : Bool → Mode
mode_with run = if run then mode.Run else mode.Sim

-- what a trace with these options shows
abbrev pub shown_with : Options → Shown
shown_with options = record { calls = calls_with options.busy; queue = options.queue }

-- the cluster of a run and that of a trace with these options
abbrev pub run_with : Options → Config
run_with options = cluster_with options.queues options.blocks options.silos (2 ^ 64 - 1)

abbrev pub trace_with : Options → Config
trace_with options = cluster_with options.queues options.blocks options.silos MOST_ENTRIES

-- the task of a subcommand's name and options
pub record IsAsked (name : List ℕ) (options : Options) (asked : Task) : Type 0 where
  pub run : name ≡ codes "run" → asked ≡ task.Run (run_with options) (detail_with options.summary)
  pub trace : name ≡ codes "trace" → asked ≡ task.Trace (trace_with options) (shown_with options)
  pub check : name ≡ codes "check" → asked ≡ task.Check (check_with options.queues (mode_with options.run))
  pub other : name ≢ codes "run" → name ≢ codes "trace" → name ≢ codes "check" → asked ≡ task.Simulate (simulation_with options.queues options.blocks)

-- a queue is asked for that isn't among so many
abbrev pub IsPast : ℕ → Option ℕ → Type 0
IsPast queues queue = (number : ℕ) × (queue ≡ Some number) × (queues ≤ number)

-- a trace is asked for of a queue that there isn't
abbrev pub IsQueueMissing : List ℕ → Options → Type 0
IsQueueMissing name options = (name ≡ codes "trace") × IsPast (trace_with options).queues options.queue

-- what the sink of a simulation got, by how the simulation ended
abbrev pub PrintsSimulation : Outcome → Option (List ℕ) → Option (List ℕ) → Result Unit ProgramFault → Type 0
PrintsSimulation outcome old new (Ok done) = Simulates old new outcome (Ok done)
PrintsSimulation outcome old new (Err (fault.Script wrong)) = Simulates old new outcome (Err wrong)
PrintsSimulation outcome old new (Err _) = ⊥

-- what the sink of a task got, from the bytes of the script alone
abbrev pub PrintsTask : Task → List ℕ → Option (List ℕ) → Option (List ℕ) → Result Unit ProgramFault → Type 0
PrintsTask (task.Simulate config) script old new result = PrintsSimulation (simulation config script) old new result
PrintsTask (task.Run config much) script old new result = PrintsRun config much script old new result
PrintsTask (task.Trace config shown) script old new result = PrintsTrace config shown script old new result
PrintsTask (task.Check config) script old new result = PrintsCheck config script old new result
