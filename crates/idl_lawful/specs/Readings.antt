-- Tests of what was read, as the code makes them.
use Rattle.std.specs.Prelude.{◌&&◌, Bool, true, false, not, List, [], Option, None, Some}
use Rattle.std.specs.List.{list_all, list_any}
use Rattle.udb_base.specs.declared.spaces.Domain.{Domain}
use Rattle.udb_base.specs.declared.spaces.Domain.TheVariants as d
use Rattle.udb_base.specs.declared.spaces.ParamSpace.{ParamSpace}
use Rattle.udb_base.specs.declared.spaces.Space.{Space}
use Rattle.udb_spec.specs.Conditions.{same_bytes}
use Rattle.idl_tree.specs.declared.statements.Stmt.{Stmt}
use Rattle.idl_tree.specs.declared.statements.Target.{Target}
use Rattle.idl_tree.specs.declared.statements.Target.TheVariants as t
use Rattle.idl_tree.specs.declared.programs.Variable.{Variable}
use Rattle.idl_tree.specs.declared.programs.Body.{Body}
use Rattle.idl_tree.specs.declared.programs.Function.{Function}
use Rattle.idl_tree.specs.declared.programs.FieldKind.{FieldKind}
use Rattle.idl_tree.specs.declared.programs.FieldKind.TheVariants as kind
use Rattle.idl_tree.specs.declared.programs.ResetValue.{ResetValue}
use Rattle.idl_tree.specs.declared.programs.ResetValue.TheVariants as reset
use Rattle.idl_tree.specs.declared.programs.FieldBodies.{FieldBodies}
use Rattle.idl_tree.specs.declared.programs.CsrBody.{CsrBody}
use Rattle.idl_tree.specs.declared.programs.Program.{Program}
use Rattle.type_laws.specs.Literals.{expr_numbers, numbers_of}
use Rattle.idl_lawful.specs.Tests.{is_below_power}

-- ---- spaces

abbrev pub is_read_domain : Domain → Bool
is_read_domain (d.Numbers ns) = list_all (is_below_power 64) ns
is_read_domain (d.Range low high) = is_below_power 64 low && is_below_power 64 high
is_read_domain _ = true

abbrev pub has_read_domain : ParamSpace → Bool
has_read_domain param = is_read_domain param.domain

-- ---- bodies

abbrev pub is_parameter : List ParamSpace → Variable → Bool
is_parameter params v = list_any (λ p. same_bytes p.name v.name) params

abbrev pub are_apart : List ParamSpace → List Variable → Bool
are_apart params variables = list_all (λ v. not (is_parameter params v)) variables

-- the operand of a target has small literals
abbrev pub is_small_target : Target → Bool
is_small_target (t.Bit name at) = list_all (is_below_power 128) (expr_numbers at)
is_small_target (t.Register at) = list_all (is_below_power 128) (expr_numbers at)
is_small_target _ = true

abbrev pub are_small : List Stmt → Bool
are_small statements = list_all (is_below_power 128) (numbers_of statements)

abbrev pub is_read_body : Space → Body → Bool
is_read_body space body = are_apart space.params body.variables && are_small body.statements

abbrev pub has_no_variables : List Variable → Bool
has_no_variables [] = true
has_no_variables _ = false

abbrev pub is_bare_body : Body → Bool
is_bare_body body = has_no_variables body.variables && are_small body.statements

-- ---- programs

abbrev pub is_bare_function : Function → Bool
is_bare_function f = is_bare_body f.body

abbrev pub is_bare_kind : FieldKind → Bool
is_bare_kind (kind.Plain type) = true
is_bare_kind (kind.Computed body) = is_bare_body body

abbrev pub is_bare_reset : ResetValue → Bool
is_bare_reset (reset.Plain n) = true
is_bare_reset (reset.Computed body) = is_bare_body body

abbrev pub is_bare_if_any : Option Body → Bool
is_bare_if_any None = true
is_bare_if_any (Some body) = is_bare_body body

abbrev pub is_bare_field : FieldBodies → Bool
is_bare_field field =
    is_bare_kind field.kind && (is_bare_reset field.reset && is_bare_if_any field.write)

abbrev pub has_bare_fields : CsrBody → Bool
has_bare_fields csr = list_all is_bare_field csr.fields

abbrev pub is_bare_program : Program → Bool
is_bare_program program =
    list_all is_bare_function program.functions && list_all has_bare_fields program.csrs
