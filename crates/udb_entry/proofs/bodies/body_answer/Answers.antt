use Rattle.idl_grammar.specs.Faults.{OfBody}
use Rattle.udb_entry.specs.Bodies.{body_answer}
use Rattle.udb_entry.proofs.ReadLemmas.{matched, body_one}
use Rattle.udb_entry.proofs.bodies.body_answer.Goals as goal

pub returns-else-source-gt-LONGEST-clause-matches : goal.returns-else-source-gt-LONGEST-clause-matches
returns-else-source-gt-LONGEST-clause-matches c =
    matched OfBody (λ b. b.statements) c.args.source.now (body_answer c.args.source.now) (body_one c.args.source.now)
    c.parse_body.result c.parse_body.ensures.found c.parse_body.ensures.bad c.parse_body.ensures.unexpected c.parse_body.ensures.deep
