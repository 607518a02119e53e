use Rattle.idl_grammar.specs.Faults.{OfFunctions}
use Rattle.udb_entry.specs.Bodies.{functions_answer}
use Rattle.udb_entry.proofs.ReadLemmas.{matched, functions_one}
use Rattle.udb_entry.proofs.bodies.functions_answer.Goals as goal

pub returns-else-source-gt-LONGEST : goal.returns-else-source-gt-LONGEST
returns-else-source-gt-LONGEST c =
    matched OfFunctions (λ fs. fs) c.args.source.now (functions_answer c.args.source.now) (functions_one c.args.source.now)
    c.parse_functions.result c.parse_functions.ensures.found c.parse_functions.ensures.bad c.parse_functions.ensures.unexpected c.parse_functions.ensures.deep
