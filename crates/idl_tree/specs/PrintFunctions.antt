-- The text of functions: a header, the result's type and the arguments where there are any, and the
-- body's lines two levels in.
use Rattle.std.specs.Prelude.{ℕ, ◌==◌, List, [], ◌∷◌, ◌++◌, map, length, codes, Option, None, Some, if◌then◌else◌}
use Rattle.std.specs.List.{flat_map}
use Rattle.udb_base.specs.declared.names.Name.{Name}
use Rattle.idl_tree.specs.declared.widths.Shape.{Shape}
use Rattle.idl_tree.specs.declared.programs.Argument.{Argument}
use Rattle.idl_tree.specs.declared.programs.Body.{Body}
use Rattle.idl_tree.specs.declared.programs.Function.{Function}
use Rattle.udb_base.specs.Lines.{Lines, text_of_lines}
use Rattle.idl_tree.specs.Print.{shape_text, commas, margined, body_lines}

unfoldable pub argument_text : Argument → List ℕ
argument_text a = shape_text a.shape ++ codes " " ++ a.name

-- with a comma and a space between two
unfoldable pub arguments_text : List Argument → List ℕ
arguments_text arguments = commas (map argument_text arguments)

unfoldable pub returns_lines : Option Shape → Lines
returns_lines None = []
returns_lines (Some shape) = (codes "  returns " ++ shape_text shape) ∷ []

unfoldable pub arguments_lines : List Argument → Lines
arguments_lines arguments = if length arguments == 0 then [] else (codes "  arguments " ++ arguments_text arguments) ∷ []

unfoldable pub block_lines : Body → Lines
block_lines body = codes "  body {" ∷ margined (codes "    ") (body_lines body) ++ (codes "  }" ∷ codes "}" ∷ [])

abbrev pub header_text : Name → List ℕ
header_text name = codes "function " ++ name ++ codes " {"

unfoldable pub function_lines : Function → Lines
function_lines f = header_text f.name ∷ returns_lines f.result ++ (arguments_lines f.arguments ++ block_lines f.body)

-- functions follow each other without empty lines
abbrev pub functions_text : List Function → List ℕ
functions_text functions = text_of_lines (flat_map function_lines functions)
