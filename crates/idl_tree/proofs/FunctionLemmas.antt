-- The text of functions, piece by piece.
use Rattle.std.proofs.Common.{◌≡◌, ◌<◌, ◌+◌, ℕ, zero, suc, true, false, Option, None, Some, List, [], ◌∷◌, ◌++◌, map, take, length, get_or, codes, refl, sym, ap, ◌∙◌, append_assoc, add-one, arith}
use Rattle.std.specs.Prelude.{◌==◌}
use Rattle.std.specs.List.{flat_map}
use Rattle.std.proofs.lemmas.List.{append-nil}
use Rattle.idl_tree.specs.declared.widths.Shape.{Shape}
use Rattle.idl_tree.specs.declared.programs.Argument.{Argument}
use Rattle.idl_tree.specs.declared.programs.Body.{Body}
use Rattle.idl_tree.specs.declared.programs.Function.{Function}
use Rattle.idl_tree.specs.Print.{shape_text, commas, separator, margined, body_lines}
use Rattle.idl_tree.proofs.Margins.{flat_map-take}
use Rattle.idl_tree.specs.PrintFunctions.{argument_text, arguments_text, returns_lines, arguments_lines, block_lines, function_lines}

pub argument-is : (a : Argument) → argument_text a ≡ shape_text a.shape ++ codes " " ++ a.name
unfolding argument_text
argument-is a = refl

pub returns-None : returns_lines None ≡ []
unfolding returns_lines
returns-None = refl

pub returns-Some : (shape : Shape) → returns_lines (Some shape) ≡ (codes "  returns " ++ shape_text shape) ∷ []
unfolding returns_lines
returns-Some shape = refl

pub arguments-none : (arguments : List Argument) → (length arguments == 0) ≡ true → arguments_lines arguments ≡ []
unfolding arguments_lines
arguments-none arguments h = rw h refl

pub arguments-some : (arguments : List Argument) → (length arguments == 0) ≡ false → arguments_lines arguments ≡ (codes "  arguments " ++ arguments_text arguments) ∷ []
unfolding arguments_lines
arguments-some arguments h = rw h refl

pub block-is : (body : Body) → block_lines body ≡ codes "  body {" ∷ margined (codes "    ") (body_lines body) ++ (codes "  }" ∷ codes "}" ∷ [])
unfolding block_lines
block-is body = refl

pub function-is : (f : Function) → function_lines f ≡ (codes "function " ++ f.name ++ codes " {") ∷ returns_lines f.result ++ (arguments_lines f.arguments ++ block_lines f.body)
unfolding function_lines
function-is f = refl

pub ruleset argument_forms = (argument-is, append_assoc)

pub ruleset returns_forms = (returns-None, returns-Some, append-nil)

pub ruleset arguments_forms = (arguments-none, arguments-some, append-nil)

pub ruleset block_forms = (block-is, append_assoc)

pub ruleset function_forms = (function-is, append_assoc)

pub functions-more : (fs : List Function) (i : ℕ) (d : Function) → i < length fs → flat_map function_lines (take (i + 1) fs) ≡ flat_map function_lines (take i fs) ++ function_lines (get_or fs i d)
functions-more fs i d lt = rw add-one (flat_map-take function_lines fs i d lt)

pub ruleset more_functions = (functions-more, append-nil, append_assoc)

arguments-rest : (xs : List Argument) (i : ℕ) (d : Argument) → i < length xs →
    flat_map (λ (y : List ℕ). codes ", " ++ y) (map argument_text (take (suc i) xs)) ≡ flat_map (λ (y : List ℕ). codes ", " ++ y) (map argument_text (take i xs)) ++ (codes ", " ++ argument_text (get_or xs i d))
arguments-rest [] i d lt = absurd (omega arith)
arguments-rest (x ∷ xs) zero d lt = append-nil (codes ", " ++ argument_text x)
arguments-rest (x ∷ xs) (suc i) d lt = ap (λ (ys : List ℕ). (codes ", " ++ argument_text x) ++ ys) (arguments-rest xs i d (omega arith)) ∙ sym (append_assoc (codes ", " ++ argument_text x) _ _)

pub arguments-first : arguments_text [] ≡ []
unfolding arguments_text
arguments-first = refl

pub arguments-more : (xs : List Argument) (i : ℕ) (d : Argument) → i < length xs → arguments_text (take (i + 1) xs) ≡ arguments_text (take i xs) ++ (separator i ++ argument_text (get_or xs i d))
unfolding arguments_text
arguments-more [] i d lt = absurd (omega arith)
arguments-more (x ∷ xs) zero d lt = append-nil (argument_text x)
arguments-more (x ∷ xs) (suc i) d lt = rw (add-one) (ap (λ (ys : List ℕ). argument_text x ++ ys) (arguments-rest xs i d (omega arith)) ∙ sym (append_assoc (argument_text x) _ _))

pub ruleset argument_steps = (arguments-first, arguments-more, append-nil, append_assoc)
