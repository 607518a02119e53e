-- Rules of names, kinds, functions and bodies of fields: each refused body beside a neighbour that fits.
use Rattle.std.proofs.Common.{◌≡◌, ℕ, Bool, true, false, List, [], ◌∷◌, None, Some, refl}
use Rattle.std.specs.Prelude.{codes}
use Rattle.udb_base.specs.declared.conditions.Cond.TheVariants as c
use Rattle.udb_base.specs.declared.conditions.Value.TheVariants as given
use Rattle.udb_base.specs.declared.spaces.Domain.TheVariants as d
use Rattle.udb_base.specs.declared.spaces.Space.{Space}
use Rattle.udb_base.specs.declared.spaces.Full.{Full}
use Rattle.udb_spec.specs.CondLaws.{holds-Always}
use Rattle.idl_tree.specs.declared.widths.Width.TheVariants as wd
use Rattle.idl_tree.specs.declared.widths.EnumKind.TheVariants.{CsrFieldType}
use Rattle.idl_tree.specs.declared.widths.Shape.{Shape}
use Rattle.idl_tree.specs.declared.widths.Shape.TheVariants as sh
use Rattle.idl_tree.specs.declared.expressions.Binary.TheVariants as b
use Rattle.idl_tree.specs.declared.expressions.Expr.{Expr}
use Rattle.idl_tree.specs.declared.expressions.Expr.TheVariants as ex
use Rattle.idl_tree.specs.declared.statements.Stmt.{Stmt}
use Rattle.idl_tree.specs.declared.statements.Stmt.TheVariants as st
use Rattle.idl_tree.specs.declared.statements.Target.TheVariants as target
use Rattle.idl_tree.specs.declared.programs.Body.{Body}
use Rattle.idl_tree.specs.declared.programs.FieldType.TheVariants.{RW}
use Rattle.idl_tree.specs.declared.programs.FieldKind.TheVariants as kind
use Rattle.idl_tree.specs.declared.programs.ResetValue.TheVariants as reset
use Rattle.idl_tree.specs.declared.programs.FieldPlaces.TheVariants as places
use Rattle.idl_tree.specs.declared.programs.FieldBodies.{FieldBodies}
use Rattle.idl_tree.specs.declared.programs.Length.TheVariants as length_
use Rattle.idl_tree.specs.declared.programs.Function.{Function}
use Rattle.idl_tree.specs.declared.programs.Program.{Program}
use Rattle.idl_width.specs.NumberLaws.{width_numbers}
use Rattle.idl_spec.specs.declared.scopes.BodyScope.{BodyScope}
use Rattle.idl_spec.specs.declared.scopes.BodyScope.TheVariants as scope
use Rattle.idl_spec.specs.Values.{least_width, member_number}
use Rattle.idl_spec.specs.ShapeLaws.{shapes}
use Rattle.idl_spec.specs.Fields.{bits_scope, layout, present_field}
use Rattle.idl_spec.specs.FormulaLaws.{all_claims}
use Rattle.idl_spec.specs.Deeds.{reached}
use Rattle.idl_spec.specs.DeedLaws.{deeds}
use Rattle.idl_spec.specs.Checks.{fits, body_checks}
use Rattle.idl_spec.specs.CheckLaws.{all_checks}

ruleset typing = (all_checks, shapes, all_claims, deeds, width_numbers, holds-Always)

opened : Unit {0}
unfolding fits body_checks least_width member_number bits_scope layout present_field reached
opened = tt

abbrev space : Space
space = record { extensions = []; params = record { name = codes "MXLEN"; domain = d.Numbers (32 ∷ 64 ∷ []); defined = c.Always; needs = c.Always } ∷ [] }

abbrev full : Full
full = record { extensions = []; params = given.Number 32 ∷ [] }

abbrev body_of : List Stmt → Body
body_of statements = record { variables = []; statements = statements }

-- four bits that a function of no arguments returns
abbrev four : Shape
four = sh.Bits false (wd.Number 4)

abbrev function_of : List ℕ → List Stmt → Function
function_of name statements = record { name = name; result = Some four; arguments = []; body = body_of statements }

abbrev calls : List ℕ → Expr
calls name = ex.Call name []

-- function reads { returns Bits<4> body { return CSR[m].A; } }
abbrev reads : Function
reads = function_of (codes "reads") (st.Return (ex.Field (codes "m") (codes "A")) ∷ [])

-- function jumps { returns Bits<4> body { jump(0); return reads(); } }
abbrev jumps : Function
jumps = function_of (codes "jumps") (st.Jump (ex.Number 0) ∷ st.Return (calls (codes "reads")) ∷ [])

-- a CSR m with a field A at 3-0
abbrev field_a : FieldBodies
field_a = record {
  name = codes "A";
  present = c.Always;
  places = places.All (record { high = 3; low = 0 });
  kind = kind.Plain RW;
  reset = reset.Plain 0;
  write = None;
}

abbrev program : Program
program = record {
  functions = reads ∷ jumps ∷ [];
  csrs = record { name = codes "m"; present = c.Always; address = 0x300; length = length_.Mxlen; fields = field_a ∷ [] } ∷ [];
}

abbrev are_fine : BodyScope → List Stmt → Bool
are_fine place statements = fits space full program c.Always place (body_of statements)

abbrev write_of : Expr → List Stmt
write_of x = st.Assign (target.Register (ex.Number 1)) x ∷ []

-- ---- names and kinds

-- X[1] = Z;
unknown : are_fine scope.Operation (write_of (ex.Word (codes "Z"))) ≡ false
unfolding opened
unknown = simp typing refl

-- X[1] = CSR[m].A; and CSR[m].Z
known_field : are_fine scope.Operation (write_of (ex.Field (codes "m") (codes "A"))) ≡ true
unfolding opened
known_field = simp typing refl

unknown_field : are_fine scope.Operation (write_of (ex.Field (codes "m") (codes "Z"))) ≡ false
unfolding opened
unknown_field = simp typing refl

-- X[1] = X[1] << true;
shifted_by_truth : are_fine scope.Operation (write_of (ex.Binary b.Left (ex.Register (ex.Number 1)) (ex.Flag true))) ≡ false
unfolding opened
shifted_by_truth = simp typing refl

-- Bits<4> MXLEN = 1; and Bits<4> v = 1;
declared_again : are_fine scope.Operation (st.Declare four (codes "MXLEN") (ex.Number 1) ∷ []) ≡ false
unfolding opened
declared_again = simp typing refl

declared_once : are_fine scope.Operation (st.Declare four (codes "v") (ex.Number 1) ∷ []) ≡ true
unfolding opened
declared_once = simp typing refl

-- for (U32 i = 0; i < 4; i++) { i = 1; }
assigned_counter : are_fine scope.Operation (st.For (codes "i") (wd.Number 0) (wd.Number 4) (st.Assign (target.Word (codes "i")) (ex.Number 1) ∷ []) ∷ []) ≡ false
unfolding opened
assigned_counter = simp typing refl

-- an operation that returns
returning : are_fine scope.Operation (st.Return (ex.Number 1) ∷ []) ≡ false
unfolding opened
returning = simp typing refl

-- ---- functions

-- jumps stands behind reads, which it calls
earlier : are_fine (scope.Function 1) jumps.body.statements ≡ true
unfolding opened
earlier = simp typing refl

later : are_fine (scope.Function 0) (st.Return (calls (codes "jumps")) ∷ []) ≡ false
unfolding opened
later = simp typing refl

-- a function with a result that ends in no return
endless : are_fine (scope.Function 0) (st.Declare four (codes "v") (ex.Number 1) ∷ []) ≡ false
unfolding opened
endless = simp typing refl

-- ---- bodies of fields

-- csr_value stands in bodies of `sw_write` alone
new_value : are_fine (scope.FieldWrite 0 0) (st.Return (ex.NewField (codes "A")) ∷ []) ≡ true
unfolding opened
new_value = simp typing refl

no_new_value : are_fine scope.Operation (write_of (ex.NewField (codes "A"))) ≡ false
unfolding opened
no_new_value = simp typing refl

-- a body of `sw_write` may read fields through a function, one of a reset value may not
written_reads : are_fine (scope.FieldWrite 0 0) (st.Return (calls (codes "reads")) ∷ []) ≡ true
unfolding opened
written_reads = simp typing refl

reset_reads : are_fine (scope.FieldReset 0 0) (st.Return (calls (codes "reads")) ∷ []) ≡ false
unfolding opened
reset_reads = simp typing refl

-- none may jump, also through a function
written_jumps : are_fine (scope.FieldWrite 0 0) (st.Return (calls (codes "jumps")) ∷ []) ≡ false
unfolding opened
written_jumps = simp typing refl

-- a type is a member of its enumeration
type_is_member : are_fine (scope.FieldType 0 0) (st.Return (ex.Member CsrFieldType (codes "RWH")) ∷ []) ≡ true
unfolding opened
type_is_member = simp typing refl

type_is_number : are_fine (scope.FieldType 0 0) (st.Return (ex.Number 1) ∷ []) ≡ false
unfolding opened
type_is_number = simp typing refl
