use Rattle.stream_script.proofs.Prelude.{ℕ, List, [], Option, None, Some, Ok, refl, ◌≡◌, suc, ◌<◌, ◌≤◌, ◌++◌, length, replicate, arith, Result, Err, ap, ◌∙◌, Appends-nil, Appends-kept, le-ltb, lt-ltb, append-nil, length-replicate, Consumes, IsAtEnd, Keeps, IfSome}
use Rattle.stream_script.specs.declared.parser.command.Fault.{Fault}
use Rattle.stream_script.specs.declared.simulate.SimConfig.{SimConfig}
use Rattle.stream_script.specs.declared.simulate.SimError.{SimError}
use Rattle.stream_script.specs.declared.simulate.SimError.TheVariants as error
use Rattle.stream_script.specs.Simulation.{Simulates, SimulatesSome, Finishes, ReadsScript, simulation, run_script, too_long}
use Rattle.stream_script.proofs.simulate.sim.Goals as goal

long_simulation : (config : SimConfig) (script : List ℕ) → 4194304 < length script → simulation config script ≡ record { text = []; fault = Some too_long }
unfolding simulation
long_simulation config script long = rw (lt-ltb 4194304 (length script) long) refl

-- what was read was done
whole_done : (old new : Option (List ℕ)) (config : SimConfig) (script done : List ℕ) (result : Result Unit SimError)
    → length script ≤ 4194304 → done ≡ script → Simulates old new (run_script config done) result → Simulates old new (simulation config script) result
unfolding simulation
whole_done old new config script done result short same ran = rw (le-ltb 4194304 (length script) short) (rw same at ran)

-- all was read, and done
script_done : (remaining left old new : Option (List ℕ)) (config : SimConfig) (script done : List ℕ) (result : Result Unit SimError)
    → Consumes remaining left script × IsAtEnd left × (length script ≤ 4194304) → done ≡ script → Simulates old new (run_script config done) result
    → IfSome remaining (λ input. Simulates old new (simulation config input) result)
script_done None left old new config script done result read same ran = tt
script_done (Some input) None old new config script done result read same ran = absurd read.0
script_done (Some input) (Some rest) old new config script done result read same ran =
    let all : input ≡ script = read.0 ∙ ap (λ bytes. script ++ bytes) read.1 ∙ append-nil script in
    rw all (whole_done old new config script done result read.2 same ran)

refused : (old new : Option (List ℕ)) (result : Result Unit SimError) → Keeps old new → Finishes (Some too_long) result → Simulates old new (record { text = []; fault = Some too_long }) result
refused old new (Ok done) kept ends = absurd cc
refused old new (Err (error.ScriptFault found)) kept ends = (Appends-kept old old new [] (Appends-nil old) kept, ends)
refused old new (Err error.WriteFault) kept ends = ([], [], refl, Appends-kept old old new [] (Appends-nil old) kept)
refused old new (Err error.ReadFault) kept ends = absurd ends
refused old new (Err error.Memory) kept ends = absurd ends

-- the script is too long, and nothing was written
script_refused : (remaining left old new : Option (List ℕ)) (config : SimConfig) (e : SimError) (passed fault : Fault) (result : Result Unit SimError)
    → passed ≡ fault → e ≡ error.ScriptFault fault → ReadsScript remaining left (Err e) → Keeps old new → Finishes (Some passed) result
    → IfSome remaining (λ input. Simulates old new (simulation config input) result)
script_refused None left old new config e passed fault result given same read kept ends = tt
script_refused (Some input) left old new config e passed fault result given same read kept ends =
    let long = rw same at read in
    rw (long_simulation config input long.1) (refused old new result kept (rw (given ∙ long.0) at ends))

longer : (n : ℕ) → (input : List ℕ) × (n < length input)
longer n = (replicate (suc n) 0, omega (arith, length-replicate {A = ℕ} (suc n) 0))

-- a script is too long, and nothing was written
some_refused : (old new : Option (List ℕ)) (remaining left : Option (List ℕ)) (config : SimConfig) (e : SimError) (passed fault : Fault) (result : Result Unit SimError)
    → passed ≡ fault → e ≡ error.ScriptFault fault → ReadsScript remaining left (Err e) → Keeps old new → Finishes (Some passed) result
    → SimulatesSome old new config result
some_refused old new remaining left config e passed fault result given same read kept ends =
    let long = rw same at read in
    let input = longer 4194304 in
    (input.0, rw (long_simulation config input.0 input.1) (refused old new result kept (rw (given ∙ long.0) at ends)))

pub returns-in-Ok-clause-written : goal.returns-in-Ok-clause-written
returns-in-Ok-clause-written g c = script_done _ _ _ _ c.args.config c.in-Ok.script.items c.deref.result.now c.run_script.result c.in-Ok.ensures.script c.deref.ensures.value c.run_script.ensures.written

pub returns-in-Ok-clause-of_some_input : goal.returns-in-Ok-clause-of_some_input
returns-in-Ok-clause-of_some_input g c = (c.in-Ok.script.items, whole_done _ _ c.args.config c.in-Ok.script.items c.deref.result.now c.run_script.result c.in-Ok.ensures.script.2 c.deref.ensures.value c.run_script.ensures.written)

pub returns-in-Err-ScriptFault-clause-written : goal.returns-in-Err-ScriptFault-clause-written
returns-in-Err-ScriptFault-clause-written g c = script_refused _ (g.R.Source.remaining c.read_script.new.source) _ _ c.args.config c.in-Err-ScriptFault.field-0 _ c.in-Err-ScriptFault.fault c.finish.result c.in-Err-ScriptFault.fault-is c.in-Err-ScriptFault.field-0-is c.in-Err-ScriptFault.ensures.script c.finish.ensures.kept c.finish.ensures.outcome

pub returns-in-Err-ScriptFault-clause-of_some_input : goal.returns-in-Err-ScriptFault-clause-of_some_input
returns-in-Err-ScriptFault-clause-of_some_input g c = some_refused _ _ _ (g.R.Source.remaining c.read_script.new.source) c.args.config c.in-Err-ScriptFault.field-0 _ c.in-Err-ScriptFault.fault c.finish.result c.in-Err-ScriptFault.fault-is c.in-Err-ScriptFault.field-0-is c.in-Err-ScriptFault.ensures.script c.finish.ensures.kept c.finish.ensures.outcome
