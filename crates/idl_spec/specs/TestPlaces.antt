-- The test places of a body, each with the context that the tests above it make.
-- A test place is the whole test of an `if` or of a `? :`, or an operand of `&&`, `||` or `!`.
use Rattle.std.specs.Prelude.{◌++◌, ◌&&◌, Bool, true, false, not, List, [], ◌∷◌, map, flat_map, Option, None, Some}
use Rattle.udb_base.specs.declared.conditions.Cond.{Cond}
use Rattle.udb_base.specs.declared.spaces.Space.{Space}
use Rattle.idl_tree.specs.declared.expressions.Unary.TheVariants as u
use Rattle.idl_tree.specs.declared.expressions.Binary.{Binary}
use Rattle.idl_tree.specs.declared.expressions.Binary.TheVariants as b
use Rattle.idl_tree.specs.declared.expressions.Expr.{Expr}
use Rattle.idl_tree.specs.declared.expressions.Expr.TheVariants as ex
use Rattle.idl_tree.specs.declared.expressions.Expr.TheOpen.{Expr-F}
use Rattle.idl_tree.specs.declared.expressions.Expr.TheFolds.{para-Expr}
use Rattle.idl_tree.specs.declared.statements.Stmt.{Stmt}
use Rattle.idl_tree.specs.declared.statements.Stmt.TheOpen.{Stmt-F}
use Rattle.idl_tree.specs.declared.statements.Stmt.TheFolds.{fold-Stmt}
use Rattle.idl_tree.specs.declared.programs.Function.{Function}
use Rattle.idl_tree.specs.Operands.{layer_operands, layer_parts}
use Rattle.idl_spec.specs.Formulas.{claims}
use Rattle.idl_spec.specs.Deeds.{is_quiet}

-- the conditions known at a place, the expression there, and whether a literal may stand there
pub record TestPlace : Type 0 where
  pub context : List Cond
  pub test : Expr
  pub literal : Bool

abbrev pub TestPlaces : Type 0
TestPlaces = List Cond → List TestPlace

abbrev pub place : List Cond → Expr → TestPlace
place context test = record { context = context; test = test; literal = false }

-- all places of parts that share a context
abbrev pub together : List TestPlaces → TestPlaces
together ps context = flat_map (λ p. p context) ps

-- what is known below a test, beside its context
abbrev pub where_true : Space → Expr → List Cond → List Cond
where_true space test context = context ++ (claims space test).when_true ∷ []

abbrev pub where_false : Space → Expr → List Cond → List Cond
where_false space test context = context ++ (claims space test).when_false ∷ []

abbrev pub is_literal : Bool → Expr → Bool
is_literal true (ex.Flag x) = x
is_literal false (ex.Flag x) = not x
is_literal _ _ = false

-- ---- expressions

-- an operand with its places
abbrev pub Part : Type 0
Part = Expr × TestPlaces

-- an operand that is a test itself
abbrev pub tested : Part → TestPlaces
tested of context = place context of.0 ∷ of.1 context

-- a right operand; the literal that the left one leaves may stand where that isn't quiet
abbrev pub tested_behind : List Function → Bool → Expr → Part → TestPlaces
tested_behind functions literal left right context =
    record { context = context; test = right.0; literal = is_literal literal right.0 && not (is_quiet functions left) }
    ∷ right.1 context

-- the right operand stands where the left one leaves it open
abbrev pub binary_places : Space → List Function → Binary → Part → Part → TestPlaces
binary_places space functions b.And left right context =
    tested left context ++ tested_behind functions false left.0 right (where_true space left.0 context)
binary_places space functions b.Or left right context =
    tested left context ++ tested_behind functions true left.0 right (where_false space left.0 context)
binary_places space functions _ left right context = left.1 context ++ right.1 context

abbrev pub choice_places : Space → Part → Part → Part → TestPlaces
choice_places space test taken other context =
    tested test context ++ (taken.1 (where_true space test.0 context) ++ other.1 (where_false space test.0 context))

abbrev pub expr_places_step : Space → List Function → Expr-F Part → TestPlaces
expr_places_step space functions (Expr-F.Unary u.Not of) = tested of
expr_places_step space functions (Expr-F.Binary sign left right) =
    binary_places space functions sign left right
expr_places_step space functions (Expr-F.Choice test taken other) =
    choice_places space test taken other
expr_places_step space functions layer = together (map (λ p. p.1) (layer_operands layer))

-- the places of an expression in a context
unfoldable pub expr_places : Space → List Function → Expr → TestPlaces
expr_places space functions = para-Expr TestPlaces (expr_places_step space functions)

-- ---- statements

abbrev pub other_places : Option (List TestPlaces) → TestPlaces
other_places None context = []
other_places (Some ps) context = together ps context

abbrev pub if_places : Space → List Function → Expr → List TestPlaces → Option (List TestPlaces)
    → TestPlaces
if_places space functions test taken other context =
    tested (test, expr_places space functions test) context
    ++ (together taken (where_true space test context) ++ other_places other (where_false space test context))

abbrev pub stmt_places_step : Space → List Function → Stmt-F TestPlaces → TestPlaces
stmt_places_step space functions (Stmt-F.If test taken other) context =
    if_places space functions test taken other context
stmt_places_step space functions layer context =
    flat_map (λ x. expr_places space functions x context) (layer_parts layer).values
    ++ flat_map (λ ps. together ps context) (layer_parts layer).blocks

-- the places of a statement in a context
unfoldable pub stmt_places : Space → List Function → Stmt → TestPlaces
stmt_places space functions = fold-Stmt TestPlaces (stmt_places_step space functions)

-- the places of statements in a context
abbrev pub test_places : Space → List Function → List Stmt → TestPlaces
test_places space functions statements = together (map (stmt_places space functions) statements)
