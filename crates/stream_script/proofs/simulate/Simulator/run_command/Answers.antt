use Rattle.stream_script.proofs.Prelude.{Bool, Ok, ◌≡◌, Result, subst}
use Rattle.stream_script.specs.declared.parser.command.Command.{Command}
use Rattle.stream_script.specs.declared.parser.command.Command.TheVariants.{Step}
use Rattle.stream_script.specs.declared.parser.command.Fault.{Fault}
use Rattle.stream_script.specs.declared.parser.command.Mode.TheVariants as mode
use Rattle.stream_script.specs.declared.parser.command.Parsed.{Parsed}
use Rattle.stream_script.specs.declared.parser.command.Parsed.TheVariants as parsed
use Rattle.stream_script.specs.Reading.{parsed_as, reading}
use Rattle.stream_script.proofs.FoundLemmas.{within-found}
use Rattle.stream_script.proofs.simulate.Simulator.run_command.Goals as goal

pub step-requires : goal.step-requires
step-requires c =
    let queues = c.args.self.now.config.queues in
    let line = c.args.line.now in
    let read : Parsed = reading queues mode.Sim c.args.number line in
    let OfRead : Result Bool Fault → Type 0 = λ told. parsed_as told c.read_line.new.command ≡ read in
    let OfCommand : Command → Type 0 = λ command. parsed.Command command ≡ read in
    let OfBool : Bool → Type 0 = λ is_command. OfRead (Ok is_command) in
    let exact = subst OfCommand c.in-Step.is (subst OfBool c.in-Ok-true.field-0-test (subst OfRead c.in-Ok-true.is c.in_ok-read_line.ensures)) in
    let step = Ok (parsed.Command (Step c.in-Step.queue c.in-Step.op)) in
    within-found queues mode.Sim c.args.number line step c.args.self.now.some exact
