-- One step of a hart (RISC-V privileged manual, "Machine-Mode Privileged Instructions" and "Machine
-- Trap-Vector Base-Address Register").
use Rattle.std.specs.Prelude.{◌+◌, ◌*◌, ◌/◌, ◌%◌, ◌^◌, ℕ, zero, suc, nat_lt, List, [], ◌∷◌, length, Option, None, Some, unwrap_or, if◌then◌else◌, codes}
use Rattle.udb_base.specs.declared.names.Name.{Name}
use Rattle.udb_base.specs.declared.spaces.Space.{Space}
use Rattle.udb_base.specs.declared.spaces.Full.{Full}
use Rattle.udb_spec.specs.Conditions.{holds}
use Rattle.udb_spec.specs.Spaces.{mxlen}
use Rattle.idl_tree.specs.declared.programs.CsrBody.{CsrBody}
use Rattle.idl_tree.specs.declared.programs.Program.{Program}
use Rattle.entry_tree.specs.declared.InstructionEntry.{InstructionEntry}
use Rattle.idl_spec.specs.Harts.{State, Outcome, done, raised, stuck, field_number, with_field, loaded}
use Rattle.idl_spec.specs.Fields.{Placed, part_width, bits_at, csr_named, present_field, read_csr}
use Rattle.idl_spec.specs.Programs.{mean, as_operation}
use Rattle.hart_spec.specs.Presence.{picked}

-- the space, the full configuration, the program and the instructions in name order
pub record Machine : Type 0 where
  pub space : Space
  pub full : Full
  pub program : Program
  pub instructions : List InstructionEntry

-- a field takes a number, truncated, where it is present
abbrev pub set_placed : Name → Name → ℕ → Option Placed → State → State
set_placed csr field n None s = s
set_placed csr field n (Some p) s =
    record s { fields = with_field s.fields csr field (n % 2 ^ part_width p.bits) }

abbrev pub set_field : Machine → Name → Name → ℕ → State → State
set_field m csr field n s =
    set_placed csr field n (present_field m.space m.full m.program csr field) s

-- the program counter's own bits at the place of mepc.PC
abbrev pub set_mepc : Option Placed → ℕ → State → State
set_mepc None pc s = s
set_mepc (Some p) pc s =
    record s { fields = with_field s.fields (codes "mepc") (codes "PC") (bits_at pc p.bits) }

abbrev pub old_mie : State → ℕ
old_mie s = unwrap_or (field_number s.fields (codes "mstatus") (codes "MIE")) 0

-- the handler's address: mtvec with bits 1:0 cleared, or 0 where there is none
abbrev pub handler_of : Machine → Option CsrBody → State → ℕ
handler_of m None s = 0
handler_of m (Some csr) s =
    if holds m.space m.full csr.present then read_csr m.space m.full csr s / 4 * 4 else 0

-- the entry of a trap
unfoldable pub trapped : Machine → ℕ → ℕ → State → State
trapped m code tval s =
    let a = set_mepc (present_field m.space m.full m.program (codes "mepc") (codes "PC")) s.pc s in
    let b = set_field m (codes "mcause") (codes "CODE") code a in
    let c = set_field m (codes "mcause") (codes "INT") 0 b in
    let d = set_field m (codes "mtval") (codes "VALUE") tval c in
    let e = set_field m (codes "mstatus") (codes "MPIE") (old_mie s) d in
    let f = set_field m (codes "mstatus") (codes "MIE") 0 e in
    let g = set_field m (codes "mstatus") (codes "MPP") 3 f in
    record g { pc = handler_of m (csr_named m.program.csrs (codes "mtvec")) g }

abbrev pub left_by : {A : Type 0} → Machine → Outcome A → State → State
left_by m (done v s) before = record s { pc = s.next }
left_by m (raised code tval s) before = trapped m code tval s
left_by m stuck before = before

-- a word without an instruction is illegal; the next pc is that behind the word
abbrev pub executed : Machine → List InstructionEntry → State → State
executed m [] s = trapped m 2 s.word s
executed m (one ∷ more) s =
    let before = record s { next = (s.pc + 4) % 2 ^ mxlen m.space m.full } in
    left_by m (mean m.space m.full m.program as_operation one.operation before) before

-- the four bytes at pc are the word; one outside the memory is exception 1
unfoldable pub step : Machine → State → State
step m s =
    if nat_lt (length s.ram) (s.pc + 4) then trapped m 1 s.pc s
    else let fetched = record s { word = loaded s.ram s.pc 4 } in executed m (picked m.space m.full m.instructions fetched.word) fetched

unfoldable pub steps : Machine → ℕ → State → State
steps m zero s = s
steps m (suc n) s = steps m n (step m s)
