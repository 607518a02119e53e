-- Demands under their contexts, and the cost of nested loops.
use Rattle.std.proofs.Common.{◌≡◌, ℕ, true, false, List, [], ◌∷◌, None, refl}
use Rattle.std.specs.Prelude.{codes}
use Rattle.udb_base.specs.declared.conditions.Cond.TheVariants as c
use Rattle.udb_base.specs.declared.conditions.Value.TheVariants as given
use Rattle.udb_base.specs.declared.spaces.Domain.TheVariants as d
use Rattle.udb_base.specs.declared.spaces.Space.{Space}
use Rattle.udb_base.specs.declared.spaces.Full.{Full}
use Rattle.udb_spec.specs.CondLaws.{holds-Always, holds-Never, holds-Ext, holds-Param, holds-All, holds-Any, holds-One, holds-Not}
use Rattle.idl_tree.specs.declared.widths.Width.TheVariants as wd
use Rattle.idl_tree.specs.declared.expressions.Binary.TheVariants as b
use Rattle.idl_tree.specs.declared.expressions.Expr.{Expr}
use Rattle.idl_tree.specs.declared.expressions.Expr.TheVariants as ex
use Rattle.idl_tree.specs.declared.statements.Stmt.{Stmt}
use Rattle.idl_tree.specs.declared.statements.Stmt.TheVariants as st
use Rattle.idl_tree.specs.declared.statements.Target.TheVariants as target
use Rattle.idl_tree.specs.declared.programs.Body.{Body}
use Rattle.idl_tree.specs.declared.programs.Program.{Program}
use Rattle.idl_width.specs.Numbers.{larger}
use Rattle.idl_width.specs.NumberLaws.{width_numbers}
use Rattle.idl_spec.specs.declared.scopes.BodyScope.TheVariants as scope
use Rattle.idl_spec.specs.Values.{least_width}
use Rattle.idl_spec.specs.ShapeLaws.{shapes}
use Rattle.idl_spec.specs.Fields.{bits_scope}
use Rattle.idl_spec.specs.FormulaLaws.{all_claims}
use Rattle.idl_spec.specs.DeedLaws.{deeds}
use Rattle.idl_spec.specs.Checks.{fits, body_checks}
use Rattle.idl_spec.specs.CheckLaws.{all_checks}
use Rattle.idl_spec.specs.Costs.{cost_of, cost_of_fields, greatest_turns}
use Rattle.idl_spec.specs.CostLaws.{costs}

ruleset holdings = (holds-Always, holds-Never, holds-Ext, holds-Param, holds-All, holds-Any, holds-One, holds-Not)

ruleset typing = (all_checks, shapes, all_claims, deeds, width_numbers, holdings)

abbrev space : Space
space = record {
  extensions = record { name = codes "M"; versions = []; needs = c.Always } ∷ [];
  params =
      record { name = codes "MXLEN"; domain = d.Numbers (32 ∷ 64 ∷ []); defined = c.Always; needs = c.Always }
      ∷ record { name = codes "N"; domain = d.Range 0 9; defined = c.Ext (codes "M") []; needs = c.Always } ∷ [];
}

-- without M; N has its first value
abbrev at : ℕ → Full
at mxlen = record { extensions = None ∷ []; params = given.Number mxlen ∷ given.Number 0 ∷ [] }

abbrev empty : Program
empty = record { functions = []; csrs = [] }

abbrev operation_of : List Stmt → Body
operation_of statements = record { variables = []; statements = statements }

abbrev register : ℕ → Expr
register n = ex.Register (ex.Number n)

-- X[2] = X[1][63:32];
abbrev upper : Stmt
upper = st.Assign (target.Register (ex.Number 2)) (ex.Slice (register 1) (wd.Number 63) (wd.Number 32))

fits_64 : fits space (at 64) empty c.Always scope.Operation (operation_of (upper ∷ [])) ≡ true
unfolding fits body_checks least_width bits_scope
fits_64 = simp typing refl

breaks_32 : fits space (at 32) empty c.Always scope.Operation (operation_of (upper ∷ [])) ≡ false
unfolding fits body_checks least_width bits_scope
breaks_32 = simp typing refl

-- if (MXLEN == 64) { X[2] = X[1][63:32]; }
abbrev guarded : Stmt
guarded = st.If (ex.Binary b.Equal (ex.Word (codes "MXLEN")) (ex.Number 64)) (upper ∷ []) None

guarded_32 : fits space (at 32) empty c.Always scope.Operation (operation_of (guarded ∷ [])) ≡ true
unfolding fits body_checks least_width bits_scope
guarded_32 = simp typing refl

-- X[1] = N; where N is defined by M
abbrev reads_n : Stmt
reads_n = st.Assign (target.Register (ex.Number 1)) (ex.Word (codes "N"))

absent : fits space (at 32) empty c.Always scope.Operation (operation_of (reads_n ∷ [])) ≡ false
unfolding fits body_checks least_width bits_scope
absent = simp typing refl

-- if (implemented?(ExtensionName::M)) { X[1] = N; }
guarded_by_m : fits space (at 32) empty c.Always scope.Operation (operation_of (st.If (ex.Implemented (codes "M")) (reads_n ∷ []) None ∷ [])) ≡ true
unfolding fits body_checks least_width bits_scope
guarded_by_m = simp typing refl

-- X[3] = ((X[1] `* X[2]) `+ 1)[31:0];
abbrev too_wide : Stmt
too_wide = st.Assign (target.Register (ex.Number 3)) (ex.Slice (ex.Binary b.WideAdd (ex.Binary b.WideMul (register 1) (register 2)) (ex.Number 1)) (wd.Number 31) (wd.Number 0))

wide_32 : fits space (at 32) empty c.Always scope.Operation (operation_of (too_wide ∷ [])) ≡ true
unfolding fits body_checks least_width bits_scope larger
wide_32 = simp typing refl

wide_64 : fits space (at 64) empty c.Always scope.Operation (operation_of (too_wide ∷ [])) ≡ false
unfolding fits body_checks least_width bits_scope larger
wide_64 = simp typing refl

-- for (U32 i = 0; i < 1024; i++) { for (U32 j = 0; j < 1024; j++) { X[1] = i; } }
abbrev nested : Stmt
nested = st.For (codes "i") (wd.Number 0) (wd.Number 1024) (st.For (codes "j") (wd.Number 0) (wd.Number 1024) (st.Assign (target.Register (ex.Number 1)) (ex.Word (codes "i")) ∷ []) ∷ [])

cost_of_nested : cost_of space empty scope.Operation (operation_of (nested ∷ [])) ≡ 4195329
unfolding cost_of cost_of_fields greatest_turns bits_scope
cost_of_nested = simp (costs, width_numbers) refl
