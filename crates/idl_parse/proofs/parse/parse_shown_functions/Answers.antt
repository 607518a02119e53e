use Rattle.std.proofs.Common.{List}
use Rattle.idl_tree.specs.declared.programs.Function.{Function}
use Rattle.idl_grammar.specs.Faults.{OfFunctions}
use Rattle.idl_grammar.specs.StmtReader.{whole_functions}
use Rattle.idl_grammar.proofs.Whole.{functions_exact}
use Rattle.idl_parse.proofs.Causes as causes
use Rattle.idl_parse.proofs.parse.parse_shown_functions.Goals as goal

pub returns-clause-found : goal.returns-clause-found
returns-clause-found c = causes.found OfFunctions whole_functions functions_exact (λ (xs : List Function). xs) 512 c.args.source.now c.read_functions.result c.read_functions.ensures

pub returns-clause-only : goal.returns-clause-only
returns-clause-only c = causes.only OfFunctions whole_functions functions_exact (λ (xs : List Function). xs) 512 c.args.source.now c.read_functions.result c.read_functions.ensures

pub returns-clause-bad : goal.returns-clause-bad
returns-clause-bad c = causes.bad OfFunctions whole_functions functions_exact (λ (xs : List Function). xs) 512 c.args.source.now c.read_functions.result c.read_functions.ensures

pub returns-clause-bad_only : goal.returns-clause-bad_only
returns-clause-bad_only c = causes.bad_only OfFunctions whole_functions functions_exact (λ (xs : List Function). xs) 512 c.args.source.now c.read_functions.result c.read_functions.ensures

pub returns-clause-unexpected : goal.returns-clause-unexpected
returns-clause-unexpected c = causes.unexpected OfFunctions whole_functions functions_exact (λ (xs : List Function). xs) 512 c.args.source.now c.read_functions.result c.read_functions.ensures

pub returns-clause-unexpected_only : goal.returns-clause-unexpected_only
returns-clause-unexpected_only c = causes.unexpected_only OfFunctions whole_functions functions_exact (λ (xs : List Function). xs) 512 c.args.source.now c.read_functions.result c.read_functions.ensures

pub returns-clause-deep : goal.returns-clause-deep
returns-clause-deep c = causes.deep OfFunctions whole_functions functions_exact (λ (xs : List Function). xs) 512 c.args.source.now c.read_functions.result c.read_functions.ensures

pub returns-clause-deep_only : goal.returns-clause-deep_only
returns-clause-deep_only c = causes.deep_only OfFunctions whole_functions functions_exact (λ (xs : List Function). xs) 512 c.args.source.now c.read_functions.result c.read_functions.ensures
