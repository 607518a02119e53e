-- Steps of a hart: a sum, a jump that raises, and a word without an instruction.
use Rattle.std.proofs.Common.{◌≡◌, ℕ, false, List, [], ◌∷◌, None, refl}
use Rattle.std.specs.Prelude.{codes, replicate}
use Rattle.udb_base.specs.declared.conditions.Cond.TheVariants as c
use Rattle.udb_base.specs.declared.conditions.Value.TheVariants as given
use Rattle.udb_base.specs.declared.spaces.Domain.TheVariants as d
use Rattle.udb_base.specs.declared.spaces.Space.{Space}
use Rattle.udb_base.specs.declared.spaces.Full.{Full}
use Rattle.udb_spec.specs.CondLaws.{holds-Always}
use Rattle.idl_tree.specs.declared.widths.Width.TheVariants as wd
use Rattle.idl_tree.specs.declared.widths.Shape.TheVariants as sh
use Rattle.idl_tree.specs.declared.expressions.Binary.TheVariants as b
use Rattle.idl_tree.specs.declared.expressions.Expr.{Expr}
use Rattle.idl_tree.specs.declared.expressions.Expr.TheVariants as ex
use Rattle.idl_tree.specs.declared.statements.Stmt.{Stmt}
use Rattle.idl_tree.specs.declared.statements.Stmt.TheVariants as st
use Rattle.idl_tree.specs.declared.statements.Target.TheVariants as target
use Rattle.idl_tree.specs.declared.programs.Base.TheVariants as base
use Rattle.idl_tree.specs.declared.programs.BitPart.{BitPart}
use Rattle.idl_tree.specs.declared.programs.Variable.{Variable}
use Rattle.idl_tree.specs.declared.programs.FieldType.TheVariants.{RWH}
use Rattle.idl_tree.specs.declared.programs.FieldKind.TheVariants as kind
use Rattle.idl_tree.specs.declared.programs.ResetValue.TheVariants as reset
use Rattle.idl_tree.specs.declared.programs.FieldPlaces.TheVariants as places
use Rattle.idl_tree.specs.declared.programs.FieldBodies.{FieldBodies}
use Rattle.idl_tree.specs.declared.programs.Length.TheVariants as length_
use Rattle.idl_tree.specs.declared.programs.CsrBody.{CsrBody}
use Rattle.idl_tree.specs.declared.programs.Program.{Program}
use Rattle.entry_tree.specs.declared.InstructionEntry.{InstructionEntry}
use Rattle.idl_bits.specs.Number.{number, pattern_of}
use Rattle.idl_bits.specs.Operators.{sum_of}
use Rattle.idl_width.specs.NumberLaws.{width_numbers}
use Rattle.idl_spec.specs.Values.{least_width}
use Rattle.idl_spec.specs.Harts.{FieldValue, State, field_number, with_field, loaded}
use Rattle.idl_spec.specs.Fields.{layout, present_field}
use Rattle.idl_spec.specs.MeanLaws.{meanings}
use Rattle.idl_spec.specs.Programs.{blank_state, mean, loud_setting}
use Rattle.hart_spec.specs.Presence.{has_instruction, matches, picked}
use Rattle.hart_spec.specs.Steps.{Machine, trapped, step}

abbrev space : Space
space = record { extensions = []; params = record { name = codes "MXLEN"; domain = d.Numbers (32 ∷ 64 ∷ []); defined = c.Always; needs = c.Always } ∷ [] }

abbrev full : Full
full = record { extensions = []; params = given.Number 32 ∷ [] }

abbrev field_of : List ℕ → ℕ → ℕ → FieldBodies
field_of name high low = record {
  name = name;
  present = c.Always;
  places = places.All (record { high = high; low = low });
  kind = kind.Plain RWH;
  reset = reset.Plain 0;
  write = None;
}

abbrev csr_of : List ℕ → ℕ → List FieldBodies → CsrBody
csr_of name address fields = record { name = name; present = c.Always; address = address; length = length_.Mxlen; fields = fields }

abbrev program : Program
program = record {
  functions = [];
  csrs =
      csr_of (codes "mcause") 0x342 (field_of (codes "CODE") 30 0 ∷ field_of (codes "INT") 31 31 ∷ [])
      ∷ csr_of (codes "mepc") 0x341 (field_of (codes "PC") 31 2 ∷ [])
      ∷ csr_of (codes "mtval") 0x343 (field_of (codes "VALUE") 31 0 ∷ []) ∷ [];
}

abbrev value : List ℕ → List ℕ → ℕ → FieldValue
value csr name n = record { csr = csr; field = name; number = n }

abbrev fields : ℕ → ℕ → ℕ → List FieldValue
fields code pc tval =
    value (codes "mcause") (codes "CODE") code ∷ value (codes "mcause") (codes "INT") 0 ∷ value (codes "mepc") (codes "PC") pc ∷ value (codes "mtval") (codes "VALUE") tval ∷ []

abbrev part : ℕ → ℕ → BitPart
part high low = record { high = high; low = low }

abbrev variable : List ℕ → List BitPart → ℕ → Variable
variable name location shift = record { base = base.All; name = name; location = location; shift = shift }

abbrev x : Expr → Expr
x e = ex.Register e

abbrev word : List ℕ → Expr
word name = ex.Word name

abbrev instruction : List ℕ → List ℕ → List Variable → List Stmt → InstructionEntry
instruction name digits variables statements = record {
  name = name;
  long_name = [];
  description = [];
  assembly = [];
  base = None;
  encodings = record { base = base.All; digits = digits } ∷ [];
  defined = c.Always;
  operation = record { variables = variables; statements = statements };
}

-- X[xd] = X[xs1] + X[xs2];
abbrev add : InstructionEntry
add = instruction (codes "add") (codes "0000000----------000-----0110011")
    (variable (codes "xs2") (part 24 20 ∷ []) 0 ∷ variable (codes "xs1") (part 19 15 ∷ []) 0 ∷ variable (codes "xd") (part 11 7 ∷ []) 0 ∷ [])
    (st.Assign (target.Register (word (codes "xd"))) (ex.Binary b.Add (x (word (codes "xs1"))) (x (word (codes "xs2")))) ∷ [])

-- XReg link = $pc + 4; jump($pc + $signed(imm)); X[xd] = link;
abbrev jal : InstructionEntry
jal = instruction (codes "jal") (codes "-------------------------1101111")
    (variable (codes "imm") (part 31 31 ∷ part 19 12 ∷ part 20 20 ∷ part 30 21 ∷ []) 1 ∷ variable (codes "xd") (part 11 7 ∷ []) 0 ∷ [])
    (st.Declare (sh.Bits false (wd.Word (codes "MXLEN"))) (codes "link") (ex.Binary b.Add ex.Pc (ex.Number 4))
    ∷ st.Jump (ex.Binary b.Add ex.Pc (ex.Signed (word (codes "imm"))))
    ∷ st.Assign (target.Register (word (codes "xd"))) (word (codes "link")) ∷ [])

abbrev machine : Machine
machine = record { space = space; full = full; program = program; instructions = add ∷ jal ∷ [] }

abbrev holding : ℕ → ℕ → ℕ → ℕ → State
holding a z y w = record blank_state { x = 0 ∷ 5 ∷ 7 ∷ replicate 29 0; fields = fields 0 0 0; ram = a ∷ z ∷ y ∷ w ∷ [] }

-- the word 0x002081B3
adds : step machine (holding 0xb3 0x81 0x20 0x00) ≡ record (holding 0xb3 0x81 0x20 0x00) { x = 0 ∷ 5 ∷ 7 ∷ 12 ∷ replicate 28 0; pc = 4; next = 4; word = 0x002081b3 }
unfolding step picked has_instruction matches loaded mean loud_setting sum_of number pattern_of
adds = simp (meanings, holds-Always) refl

-- the word 0x002000EF, a jump to pc+2
misaligned : step machine (holding 0xef 0x00 0x20 0x00) ≡ record (holding 0xef 0x00 0x20 0x00) { fields = fields 0 0 2; pc = 0; next = 4; word = 0x002000ef }
unfolding step picked has_instruction matches loaded mean loud_setting trapped present_field layout with_field field_number sum_of number pattern_of least_width
misaligned = simp (meanings, width_numbers, holds-Always) refl

-- the word 0x022081B3, which no instruction matches
illegal : step machine (holding 0xb3 0x81 0x20 0x02) ≡ record (holding 0xb3 0x81 0x20 0x02) { fields = fields 2 0 0x022081b3; word = 0x022081b3 }
unfolding step picked has_instruction matches loaded trapped present_field layout with_field field_number
illegal = simp holds-Always refl
