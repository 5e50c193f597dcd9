use Rattle.stream_script.proofs.AgainLemmas.{only_from}
use Rattle.stream_script.proofs.FoundLemmas.{found_from, within-found}
use Rattle.stream_script.proofs.parser.parse.parse_line.Goals as goal

pub returns-clause-within : goal.returns-clause-within
returns-clause-within c = within-found c.args.queues c.args.mode c.args.line c.args.bytes.now c.parsed.result c.requires c.parsed.ensures

pub returns-clause-found : goal.returns-clause-found
returns-clause-found c = found_from c.args.queues c.args.mode c.args.line c.args.bytes.now c.parsed.result c.parsed.ensures

pub returns-clause-only : goal.returns-clause-only
returns-clause-only c = only_from c.args.queues c.args.mode c.args.line c.args.bytes.now c.parsed.result c.parsed.ensures
