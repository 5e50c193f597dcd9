-- The texts of faults.
use Rattle.std.specs.Prelude.{ℕ, List, ◌++◌, codes}
use Rattle.std.specs.Fmt.{decimal}
use Rattle.stream_script.specs.declared.parser.command.Fault.{Fault}
use Rattle.stream_script.specs.declared.parser.command.FaultKind.{FaultKind}
use Rattle.stream_script.specs.declared.parser.command.FaultKind.TheVariants.{BadByte, BadText, BadCommand, NotInSim, NotInRun, WordCount, BadName, BadNumber, BadToken, NoQueue, TooLong}

abbrev pub kind_text : FaultKind → List ℕ
kind_text BadByte = codes "bad byte"
kind_text BadText = codes "bad text"
kind_text BadCommand = codes "bad command"
kind_text NotInSim = codes "not in sim"
kind_text NotInRun = codes "not in run"
kind_text WordCount = codes "word count"
kind_text BadName = codes "bad name"
kind_text BadNumber = codes "bad number"
kind_text BadToken = codes "bad token"
kind_text NoQueue = codes "no queue"
kind_text TooLong = codes "too long"

-- the line, and what is wrong with it
abbrev pub fault_text : Fault → List ℕ
fault_text fault = codes "line " ++ decimal fault.line ++ codes ": " ++ kind_text fault.kind
