use Rattle.stream_ident.proofs.Prelude.{arith, rules}
use Rattle.std.proofs.lemmas.Grind.{common_steps}
use Rattle.stream_ident.proofs.TokenLemmas.{token_found, token_refused}
use Rattle.stream_ident.proofs.token.Token.parse.Goals as goal

pub returns-in_err-seq-clause-refused : goal.returns-in_err-seq-clause-refused
returns-in_err-seq-clause-refused c = token_refused c.args.bytes.now c.from_residual.result (first_of (search rules, grind (arith, common_steps)))

pub returns-clause-found : goal.returns-clause-found
returns-clause-found c = token_found c.args.bytes.now c.from_texts.result (first_of (search rules, grind (arith, common_steps)))

pub returns-clause-refused : goal.returns-clause-refused
returns-clause-refused c = token_refused c.args.bytes.now c.from_texts.result (first_of (search rules, grind (arith, common_steps)))
