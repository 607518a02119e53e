-- What is asked of deeds, and functions that are marked.
use Rattle.std.specs.Prelude.{◌||◌, ◌++◌, Bool, false, ℕ, List, [], ◌∷◌, flat_map, filter, slice_get, unwrap_or, if◌then◌else◌}
use Rattle.std.specs.List.{list_any}
use Rattle.udb_base.specs.declared.names.Name.{Name}
use Rattle.udb_base.specs.Lists.{is_among}
use Rattle.udb_spec.specs.Conditions.{same_bytes}
use Rattle.idl_tree.specs.declared.expressions.Expr.{Expr}
use Rattle.idl_tree.specs.declared.statements.Target.{Target}
use Rattle.idl_tree.specs.declared.statements.Target.TheVariants as t
use Rattle.idl_tree.specs.declared.programs.Body.{Body}
use Rattle.idl_tree.specs.declared.programs.Function.{Function}
use Rattle.idl_tree.specs.declared.programs.FieldBodies.{FieldBodies}
use Rattle.idl_tree.specs.declared.programs.CsrBody.{CsrBody}
use Rattle.idl_tree.specs.declared.programs.Program.{Program}
use Rattle.idl_spec.specs.Deeds.{Deed, calls, acts, leaves_fields, is_loud, expr_deeds, deeds_of, function_deeds, called_names}
use Rattle.idl_spec.specs.Costs.{kind_bodies, reset_bodies, write_bodies, field_bodies}
use Rattle.idl_reach.specs.declared.deeds.Asked.{Asked}
use Rattle.idl_reach.specs.declared.deeds.Asked.TheVariants as a

-- the call of a function
abbrev pub is_call : Name → Deed → Bool
is_call name (calls called) = same_bytes name called
is_call name _ = false

abbrev pub passes : Asked → Deed → Bool
passes (a.Leaves reads) deed = leaves_fields reads deed
passes a.Loud deed = is_loud deed
passes (a.Calls name) deed = is_call name.now deed

-- whether a target does what is asked
abbrev pub target_asks : (Deed → Bool) → Target → Bool
target_asks p (t.Word name) = false
target_asks p (t.Bit name at) = list_any p (expr_deeds at)
target_asks p (t.Slice name high low) = false
target_asks p (t.Register at) = p acts || list_any p (expr_deeds at)
target_asks p (t.Field csr field) = p acts

-- whether a function does what is asked
abbrev pub does : (Deed → Bool) → Function → Bool
does p f = list_any p (function_deeds f)

-- whether a function has a name or calls the function of the name
abbrev pub is_met : Name → Function → Bool
is_met name f = same_bytes name f.name || does (is_call name) f

-- the functions whose mark is true
abbrev pub chosen : List Function → List Bool → List Function
chosen (f ∷ fs) (mark ∷ marks) = if mark then f ∷ chosen fs marks else chosen fs marks
chosen _ _ = []

-- the mark of a place; past the end there is none
abbrev pub mark_at : List Bool → ℕ → Bool
mark_at marks place = unwrap_or (slice_get marks place) false

-- the name of a function whose mark is true
abbrev pub name_if : Bool → Function → List Name
name_if mark f = if mark then f.name ∷ [] else []

-- the functions of a name
abbrev pub named : Name → List Function → List Function
named name functions = filter (λ f. is_among same_bytes f.name (name ∷ [])) functions

-- the functions that an expression calls
abbrev pub called_by : Expr → List Function → List Function
called_by e functions = filter (λ f. is_among same_bytes f.name (called_names (expr_deeds e))) functions

-- ---- bodies of fields

-- whether a body calls the function of a name
abbrev pub body_calls : Name → Body → Bool
body_calls name body = list_any (is_call name) (deeds_of body.statements)

-- the bodies of a field
abbrev pub bodies_of : FieldBodies → List Body
bodies_of f = kind_bodies f.kind ++ (reset_bodies f.reset ++ write_bodies f.write)

-- whether a body of a field calls the function of a name
abbrev pub fields_call : Name → List CsrBody → Bool
fields_call name csrs = list_any (body_calls name) (flat_map (λ one. flat_map bodies_of one.fields) csrs)

-- the functions that bodies of fields call
abbrev pub called_by_fields : Program → List Function
called_by_fields program =
    filter (λ f. is_among same_bytes f.name (flat_map (λ body. called_names (deeds_of body.statements)) (field_bodies program)))
    program.functions
