-- What a refusal of a body says.
use Rattle.std.specs.Prelude.{Option, None, Some, IfSome}
use Rattle.udb_base.specs.declared.conditions.Cond.{Cond}
use Rattle.udb_base.specs.declared.spaces.Space.{Space}
use Rattle.idl_tree.specs.declared.programs.Body.{Body}
use Rattle.idl_tree.specs.declared.programs.Program.{Program}
use Rattle.idl_spec.specs.declared.scopes.BodyScope.{BodyScope}
use Rattle.idl_spec.specs.Faults.{Fault, unknown_at, mismatch_at, width_at, slice_at, absent_at, costs, order_at, IsFirstFault}
use Rattle.idl_types.specs.declared.faults.TypeFault.{TypeFault}
use Rattle.idl_types.specs.declared.faults.TypeFault.TheVariants as f

-- the fault that is told; want of memory tells none
abbrev pub fault_of : TypeFault → Option Fault
fault_of f.Memory = None
fault_of (f.Unknown node name) = Some (unknown_at node name)
fault_of (f.Mismatch node) = Some (mismatch_at node)
fault_of (f.Width node shows) = Some (width_at node shows)
fault_of (f.Slice node shows) = Some (slice_at node shows)
fault_of (f.Absent node shows) = Some (absent_at node shows)
fault_of f.Cost = Some costs
fault_of (f.Order node name) = Some (order_at node name)

-- the fault that is told, if any, has a property
abbrev pub IsTold : (Fault → Type 0) → TypeFault → Type 0
IsTold P refusal = IfSome (fault_of refusal) P

-- want of memory, or the body's first fault
abbrev pub IsRefusal : Space → Program → Cond → BodyScope → Body → TypeFault → Type 0
IsRefusal space program presence scope body =
    IsTold (IsFirstFault space program presence scope body)
