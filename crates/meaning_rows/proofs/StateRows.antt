-- CSRs read and written, bodies of fields, memory, loops, reset and costs.
use Rattle.std.proofs.Common.{◌≡◌, ℕ, false, List, [], ◌∷◌, Option, None, Some, refl}
use Rattle.std.specs.Prelude.{codes, replicate}
use Rattle.udb_base.specs.declared.conditions.Cond.TheVariants as c
use Rattle.udb_base.specs.declared.conditions.Value.TheVariants as given
use Rattle.udb_base.specs.declared.spaces.Domain.TheVariants as d
use Rattle.udb_base.specs.declared.spaces.Space.{Space}
use Rattle.udb_base.specs.declared.spaces.Full.{Full}
use Rattle.udb_spec.specs.CondLaws.{holds-Always}
use Rattle.idl_tree.specs.declared.widths.Width.TheVariants as wd
use Rattle.idl_tree.specs.declared.widths.Shape.TheVariants as sh
use Rattle.idl_tree.specs.declared.expressions.Binary.TheVariants as b
use Rattle.idl_tree.specs.declared.expressions.Expr.TheVariants as ex
use Rattle.idl_tree.specs.declared.statements.Stmt.{Stmt}
use Rattle.idl_tree.specs.declared.statements.Stmt.TheVariants as st
use Rattle.idl_tree.specs.declared.statements.Target.TheVariants as target
use Rattle.idl_tree.specs.declared.programs.Body.{Body}
use Rattle.idl_tree.specs.declared.programs.FieldType.{FieldType}
use Rattle.idl_tree.specs.declared.programs.FieldType.TheVariants.{RO, RW}
use Rattle.idl_tree.specs.declared.programs.FieldKind.TheVariants as kind
use Rattle.idl_tree.specs.declared.programs.ResetValue.TheVariants as reset
use Rattle.idl_tree.specs.declared.programs.FieldPlaces.TheVariants as places
use Rattle.idl_tree.specs.declared.programs.FieldBodies.{FieldBodies}
use Rattle.idl_tree.specs.declared.programs.Length.TheVariants as length_
use Rattle.idl_tree.specs.declared.programs.CsrBody.{CsrBody}
use Rattle.idl_tree.specs.declared.programs.Function.{Function}
use Rattle.idl_tree.specs.declared.programs.Program.{Program}
use Rattle.idl_bits.specs.Number.{number, pattern_of}
use Rattle.idl_bits.specs.Operators.{sum_of}
use Rattle.idl_width.specs.NumberLaws.{width_numbers}
use Rattle.idl_spec.specs.Values.{bits, plain, least_width}
use Rattle.idl_spec.specs.Harts.{FieldValue, State, Outcome, done, raised, stuck, field_number, with_field, loaded, stored}
use Rattle.idl_spec.specs.Fields.{layout, present_field, read_csr}
use Rattle.idl_spec.specs.declared.scopes.BodyScope.TheVariants as scope
use Rattle.idl_spec.specs.DeedLaws.{deeds}
use Rattle.idl_spec.specs.Deeds.{reached}
use Rattle.idl_spec.specs.Costs.{cost_of, cost_of_fields}
use Rattle.idl_spec.specs.CostLaws.{costs}
use Rattle.idl_spec.specs.MeanLaws.{meanings}
use Rattle.idl_spec.specs.Programs.{blank_state, mean, as_operation, as_field, loud_setting, quiet_setting, field_result, field_type, write_csr, reset_number, reset_state}

abbrev space : Space
space = record { extensions = []; params = record { name = codes "MXLEN"; domain = d.Numbers (32 ∷ 64 ∷ []); defined = c.Always; needs = c.Always } ∷ [] }

abbrev full : Full
full = record { extensions = []; params = given.Number 32 ∷ [] }

abbrev body_of : List Stmt → Body
body_of statements = record { variables = []; statements = statements }

abbrev field_of : List ℕ → ℕ → ℕ → FieldType → Option Body → FieldBodies
field_of name high low type write = record {
  name = name;
  present = c.Always;
  places = places.All (record { high = high; low = low });
  kind = kind.Plain type;
  reset = reset.Plain 3;
  write = write;
}

-- function inc { returns Bits<4> arguments Bits<4> n body { return n + 4'd1; } }
abbrev inc : Function
inc = record {
  name = codes "inc";
  result = Some (sh.Bits false (wd.Number 4));
  arguments = record { shape = sh.Bits false (wd.Number 4); name = codes "n" } ∷ [];
  body = body_of (st.Return (ex.Binary b.Add (ex.Word (codes "n")) (ex.Sized (wd.Number 4) false 1)) ∷ []);
}

-- sw_write(csr_value): return inc(csr_value.B);
abbrev incremented : Body
incremented = body_of (st.Return (ex.Call (codes "inc") (ex.NewField (codes "B") ∷ [])) ∷ [])

-- A 3-0 RW, B 7-4 RW with a body, C 11-8 RO
abbrev csr : CsrBody
csr = record {
  name = codes "m";
  present = c.Always;
  address = 0x300;
  length = length_.Mxlen;
  fields = field_of (codes "A") 3 0 RW None ∷ field_of (codes "B") 7 4 RW (Some incremented) ∷ field_of (codes "C") 11 8 RO None ∷ [];
}

abbrev program : Program
program = record { functions = inc ∷ []; csrs = csr ∷ [] }

abbrev value : List ℕ → ℕ → FieldValue
value name n = record { csr = codes "m"; field = name; number = n }

abbrev fields : ℕ → ℕ → ℕ → List FieldValue
fields a z o = value (codes "A") a ∷ value (codes "B") z ∷ value (codes "C") o ∷ []

abbrev start : State
start = record blank_state { fields = fields 1 2 3; word = 0x30009073; ram = 0x11 ∷ 0x22 ∷ 0x33 ∷ 0x44 ∷ [] }

abbrev run : List Stmt → Outcome (Option Rattle.idl_spec.specs.Values.Value)
run stmts = mean space full program as_operation (body_of stmts) start

-- CSR[0x300].sw_write(0xf64); A takes its bits, B the result of its body, C keeps
writes : run (st.SoftWrite (ex.Number 0x300) (ex.Number 0xf64) ∷ []) ≡ done None (record start { fields = fields 4 7 3 })
unfolding mean loud_setting write_csr layout field_type field_result quiet_setting field_number with_field present_field least_width sum_of number pattern_of
writes = simp (meanings, width_numbers, holds-Always) refl

-- X[1] = CSR[m].sw_read();
reads : run (st.Assign (target.Register (ex.Number 1)) (ex.SoftRead (ex.Word (codes "m"))) ∷ []) ≡ done None (record start { x = 0 ∷ 0x321 ∷ replicate 30 0 })
unfolding mean loud_setting read_csr layout field_number least_width number pattern_of
reads = simp (meanings, holds-Always) refl

-- CSR[0x301].sw_read() where no CSR has the address
illegal : run (st.Assign (target.Register (ex.Number 1)) (ex.SoftRead (ex.Number 0x301)) ∷ []) ≡ raised 2 0x30009073 start
unfolding mean loud_setting least_width
illegal = simp (meanings, holds-Always) refl

-- in a body of a field `sw_read` is stuck
quiet : mean space full program (as_field (codes "m") (codes "A")) (body_of (st.Return (ex.SoftRead (ex.Word (codes "m"))) ∷ [])) start ≡ stuck
unfolding mean quiet_setting
quiet = simp meanings refl

-- CSR[m].C = 8'd255; sets the field whatever its type, truncated
sets : run (st.Assign (target.Field (codes "m") (codes "C")) (ex.Sized (wd.Number 8) false 255) ∷ []) ≡ done None (record start { fields = fields 1 2 15 })
unfolding mean loud_setting present_field layout with_field number pattern_of
sets = simp (meanings, width_numbers, holds-Always) refl

-- X[1] = read_memory<16>(2); write_memory<8>(1, 0x1ff);
memory : run (st.Assign (target.Register (ex.Number 1)) (ex.ReadMemory 16 (ex.Number 2)) ∷ st.WriteMemory 8 (ex.Number 1) (ex.Number 0x1ff) ∷ [])
    ≡ done None (record start { x = 0 ∷ 0x4433 ∷ replicate 30 0; ram = 0x11 ∷ 0xff ∷ 0x33 ∷ 0x44 ∷ [] })
unfolding mean loud_setting least_width loaded stored number pattern_of
memory = simp meanings refl

-- read_memory<32>(2) isn't aligned, read_memory<32>(4) is outside
misaligned : run (st.Assign (target.Register (ex.Number 1)) (ex.ReadMemory 32 (ex.Number 2)) ∷ []) ≡ raised 4 2 start
unfolding mean loud_setting least_width number pattern_of
misaligned = simp meanings refl

outside : run (st.Assign (target.Register (ex.Number 1)) (ex.ReadMemory 32 (ex.Number 4)) ∷ []) ≡ raised 5 4 start
unfolding mean loud_setting least_width number pattern_of
outside = simp meanings refl

-- Bits<8> v = 0; for (U32 i = 1; i < 4; i++) { v = v + i; } X[1] = v;
sums : run (st.Declare (sh.Bits false (wd.Number 8)) (codes "v") (ex.Number 0)
    ∷ st.For (codes "i") (wd.Number 1) (wd.Number 4) (st.Assign (target.Word (codes "v")) (ex.Binary b.Add (ex.Word (codes "v")) (ex.Word (codes "i"))) ∷ [])
    ∷ st.Assign (target.Register (ex.Number 1)) (ex.Word (codes "v")) ∷ [])
    ≡ done None (record start { x = 0 ∷ 6 ∷ replicate 30 0 })
unfolding mean loud_setting least_width sum_of number pattern_of
sums = simp (meanings, width_numbers) refl

-- the reset value of A
resets : reset_state space full program [] ≡ record blank_state { fields = fields 3 3 3 }
unfolding reset_state reset_number layout
resets = simp holds-Always refl

-- X[1] = CSR[m].sw_read(); inc(3);
cost : cost_of space program scope.Operation (body_of (st.Assign (target.Register (ex.Number 1)) (ex.SoftRead (ex.Word (codes "m"))) ∷ st.Call (codes "inc") (ex.Number 3 ∷ []) ∷ [])) ≡ 18
unfolding cost_of cost_of_fields reached
cost = simp (costs, deeds) refl
