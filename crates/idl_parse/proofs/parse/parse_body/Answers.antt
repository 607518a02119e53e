use Rattle.idl_tree.specs.declared.programs.Body.{Body}
use Rattle.idl_grammar.specs.Faults.{OfBody}
use Rattle.idl_grammar.specs.StmtReader.{whole_body}
use Rattle.idl_grammar.proofs.Whole.{body_exact}
use Rattle.idl_parse.proofs.Causes as causes
use Rattle.idl_parse.proofs.parse.parse_body.Goals as goal

pub returns-clause-found : goal.returns-clause-found
returns-clause-found c = causes.found OfBody whole_body body_exact (λ (b : Body). b.statements) 64 c.args.source.now c.read_body.result c.read_body.ensures.tells

pub returns-clause-only : goal.returns-clause-only
returns-clause-only c = causes.only OfBody whole_body body_exact (λ (b : Body). b.statements) 64 c.args.source.now c.read_body.result c.read_body.ensures.tells

pub returns-clause-bad : goal.returns-clause-bad
returns-clause-bad c = causes.bad OfBody whole_body body_exact (λ (b : Body). b.statements) 64 c.args.source.now c.read_body.result c.read_body.ensures.tells

pub returns-clause-bad_only : goal.returns-clause-bad_only
returns-clause-bad_only c = causes.bad_only OfBody whole_body body_exact (λ (b : Body). b.statements) 64 c.args.source.now c.read_body.result c.read_body.ensures.tells

pub returns-clause-unexpected : goal.returns-clause-unexpected
returns-clause-unexpected c = causes.unexpected OfBody whole_body body_exact (λ (b : Body). b.statements) 64 c.args.source.now c.read_body.result c.read_body.ensures.tells

pub returns-clause-unexpected_only : goal.returns-clause-unexpected_only
returns-clause-unexpected_only c = causes.unexpected_only OfBody whole_body body_exact (λ (b : Body). b.statements) 64 c.args.source.now c.read_body.result c.read_body.ensures.tells

pub returns-clause-deep : goal.returns-clause-deep
returns-clause-deep c = causes.deep OfBody whole_body body_exact (λ (b : Body). b.statements) 64 c.args.source.now c.read_body.result c.read_body.ensures.tells

pub returns-clause-deep_only : goal.returns-clause-deep_only
returns-clause-deep_only c = causes.deep_only OfBody whole_body body_exact (λ (b : Body). b.statements) 64 c.args.source.now c.read_body.result c.read_body.ensures.tells
