-- How the program ends.
use Rattle.std.specs.Prelude.{◌≡◌, ◌≢◌, ◌⊎◌, ℕ, Result, Ok, Err}
use Rattle.std.specs.declared.process.ExitCode.{ExitCode}
use Rattle.std.specs.Process.{exit_status}
use Rattle.clap.specs.declared.error.Error.{Error}
use Rattle.clap.specs.declared.error.kind.ErrorKind.TheVariants as kind
use Rattle.clap.specs.Values.{kind_of}
use Rattle.script_tasks.specs.declared.fault.ProgramFault.{ProgramFault}
use Rattle.script_tasks.specs.declared.fault.ProgramFault.TheVariants as fault
use Rattle.stream_script.specs.declared.simulate.SimError.TheVariants as error

-- the exit status of a fault, where it isn't help or the version that was asked for
abbrev pub status_of : ProgramFault → ℕ
status_of (fault.Script (error.ScriptFault found)) = 1
status_of (fault.CommandLine wrong) = 2
status_of (fault.Script error.ReadFault) = 3
status_of (fault.Script error.WriteFault) = 3
status_of (fault.Script error.Memory) = 3
status_of (fault.Unfinished why) = 4

-- what a mistake in the words ends with, and a request for help or the version: that ends with 3 where it can't be printed
pub record EndsWords (wrong : Error) (status : ℕ) : Type 0 where
  pub mistake : kind_of wrong ≢ kind.DisplayHelp → kind_of wrong ≢ kind.DisplayVersion → status ≡ 2
  pub request : (kind_of wrong ≡ kind.DisplayHelp) ⊎ (kind_of wrong ≡ kind.DisplayVersion) → (status ≡ 0) ⊎ (status ≡ 3)

-- what the program ends with at a fault
abbrev pub EndsWith : ProgramFault → ExitCode → Type 0
EndsWith (fault.CommandLine wrong) code = EndsWords wrong (exit_status code)
EndsWith (fault.Script wrong) code = exit_status code ≡ status_of (fault.Script wrong)
EndsWith (fault.Unfinished why) code = exit_status code ≡ status_of (fault.Unfinished why)

-- what the program ends with, at any end; 0 or 3 where help or the version was asked for
abbrev pub Exits : Result Unit ProgramFault → ExitCode → Type 0
Exits (Ok done) code = exit_status code ≡ 0
Exits (Err wrong) code = EndsWith wrong code
