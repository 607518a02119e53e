-- The bodies of entries, as their texts spell them.
use Rattle.std.specs.Prelude.{ℕ, List, [], Result, Ok, Err}
use Rattle.idl_tree.specs.declared.statements.Stmt.{Stmt}
use Rattle.idl_tree.specs.declared.programs.Function.{Function}
use Rattle.idl_tree.specs.declared.programs.Body.{Body}
use Rattle.idl_grammar.specs.Faults.{OfBody, OfFunctions}
use Rattle.idl_grammar.specs.StmtReader.{whole_body, whole_functions}
use Rattle.idl_grammar.proofs.Whole.{body_exact, functions_exact}
use Rattle.idl_parse.specs.declared.faults.ParseFault.{ParseFault}
use Rattle.idl_parse.specs.Parse.{IsAnswer}
use Rattle.idl_parse.proofs.Causes.{answer_some}

-- A source has one answer: the statements that it spells, nested at most 64 levels, or the one fault at its place. The
-- laws `body_some` and `body_one` of `idl_parse` say that there is one, and only one.
abbrev pub body_known : (source : List ℕ) → (r : Result (List Stmt) ParseFault) × IsAnswer OfBody 64 source r
body_known source = answer_some OfBody whole_body body_exact 64 source

unfoldable pub body_answer : List ℕ → Result (List Stmt) ParseFault
body_answer source = (body_known source).0

-- the same of functions
abbrev pub functions_known : (source : List ℕ) → (r : Result (List Function) ParseFault) × IsAnswer OfFunctions 64 source r
functions_known source = answer_some OfFunctions whole_functions functions_exact 64 source

unfoldable pub functions_answer : List ℕ → Result (List Function) ParseFault
functions_answer source = (functions_known source).0

-- what is read, and nothing where there is a fault
abbrev pub read_parts : {A : Type 0} → Result (List A) ParseFault → List A
read_parts (Ok xs) = xs
read_parts (Err e) = []

-- a body without variables
abbrev pub body_of : List ℕ → Body
body_of source = record { variables = []; statements = read_parts (body_answer source) }

abbrev pub functions_of : List ℕ → List Function
functions_of source = read_parts (functions_answer source)
