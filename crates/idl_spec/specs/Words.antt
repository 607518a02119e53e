-- The words that stand in a body as values or targets or in widths; `$bits` counts as naming none,
-- and so does a word that is the whole address of a CSR, since it names the CSR or a local.
use Rattle.std.specs.Prelude.{◌++◌, ℕ, List, [], ◌∷◌, map, flat_map, Option, None, Some}
use Rattle.idl_tree.specs.declared.widths.Width.{Width}
use Rattle.idl_tree.specs.declared.widths.Width.TheOpen.{Width-F}
use Rattle.idl_tree.specs.declared.widths.Width.TheFolds.{fold-Width}
use Rattle.idl_tree.specs.declared.widths.Shape.{Shape}
use Rattle.idl_tree.specs.declared.widths.Shape.TheVariants.{Bits}
use Rattle.idl_tree.specs.declared.expressions.Expr.{Expr}
use Rattle.idl_tree.specs.declared.expressions.Expr.TheVariants as ex
use Rattle.idl_tree.specs.declared.expressions.Expr.TheOpen.{Expr-F}
use Rattle.idl_tree.specs.declared.expressions.Expr.TheFolds.{para-Expr}
use Rattle.idl_tree.specs.declared.statements.Target.{Target}
use Rattle.idl_tree.specs.declared.statements.Target.TheVariants as t
use Rattle.idl_tree.specs.declared.statements.Stmt.{Stmt}
use Rattle.idl_tree.specs.declared.statements.Stmt.TheOpen.{Stmt-F}
use Rattle.idl_tree.specs.declared.statements.Stmt.TheFolds.{fold-Stmt}
use Rattle.idl_tree.specs.declared.programs.Function.{Function}
use Rattle.idl_tree.specs.Operands.{layer_operands, layer_parts}
use Rattle.idl_spec.specs.Deeds.{all_of}

abbrev pub Word : Type 0
Word = List ℕ

-- ---- widths and shapes

abbrev pub width_words_step : Width-F (List Word) → List Word
width_words_step (Width-F.Number n) = []
width_words_step (Width-F.Word name) = name ∷ []
width_words_step (Width-F.Plus a c) = a ++ c
width_words_step (Width-F.Minus a c) = a ++ c
width_words_step (Width-F.Times a c) = a ++ c
width_words_step (Width-F.Max a c) = a ++ c
width_words_step (Width-F.Bits csr name) = []

unfoldable pub width_words : Width → List Word
width_words = fold-Width (List Word) width_words_step

abbrev pub shape_words : Shape → List Word
shape_words (Bits signed width) = width_words width
shape_words _ = []

-- ---- expressions

-- the words of an address, which are `words` where it isn't one word
abbrev pub address_words : Expr → List Word → List Word
address_words (ex.Word name) words = []
address_words _ words = words

-- an operand with its words
abbrev pub Part : Type 0
Part = Expr × List Word

-- the words that stand in an expression itself
abbrev pub expr_own_words : Expr-F Part → List Word
expr_own_words (Expr-F.Sized width signed n) = width_words width
expr_own_words (Expr-F.Word name) = name ∷ []
expr_own_words (Expr-F.WideLeft left by) = width_words by
expr_own_words (Expr-F.Repeat times of) = width_words times
expr_own_words (Expr-F.Slice of high low) = width_words high ++ width_words low
expr_own_words (Expr-F.Resize width of) = width_words width
expr_own_words _ = []

abbrev pub expr_words_step : Expr-F Part → List Word
expr_words_step (Expr-F.SoftRead address) = address_words address.0 address.1
expr_words_step layer = expr_own_words layer ++ flat_map (λ p. p.1) (layer_operands layer)

unfoldable pub expr_words : Expr → List Word
expr_words = para-Expr (List Word) expr_words_step

-- ---- statements

abbrev pub target_words : Target → List Word
target_words (t.Word name) = name ∷ []
target_words (t.Bit name at) = name ∷ []
target_words (t.Slice name high low) = name ∷ width_words high ++ width_words low
target_words _ = []

-- the words that stand in a statement itself
abbrev pub stmt_own_words : {A : Type 0} → Stmt-F A → List Word
stmt_own_words (Stmt-F.Declare declared name x) = shape_words declared
stmt_own_words (Stmt-F.Assign target x) = target_words target
stmt_own_words (Stmt-F.For name from to block) = width_words from ++ width_words to
stmt_own_words _ = []

abbrev pub stmt_words_step : Stmt-F (List Word) → List Word
stmt_words_step (Stmt-F.SoftWrite address x) =
    address_words address (expr_words address) ++ expr_words x
stmt_words_step layer =
    stmt_own_words layer
    ++ (flat_map expr_words (layer_parts layer).values ++ flat_map all_of (layer_parts layer).blocks)

unfoldable pub stmt_words : Stmt → List Word
stmt_words = fold-Stmt (List Word) stmt_words_step

-- the words of statements
abbrev pub words : List Stmt → List Word
words statements = all_of (map stmt_words statements)

abbrev pub result_words : Option Shape → List Word
result_words None = []
result_words (Some result) = shape_words result

-- the words of a function: its body's, and those of its result's and arguments' types
abbrev pub function_words : Function → List Word
function_words f =
    result_words f.result ++ (flat_map (λ a. shape_words a.shape) f.arguments ++ words f.body.statements)
