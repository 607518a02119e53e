use Rattle.std.proofs.Common.{◌≡◌, ◌++◌, take}
use Rattle.std.specs.Prelude.{flat_map, map}
use Rattle.idl_forms.specs.States.{field_of}
use Rattle.udb_csr.specs.Resets.{values_at}
use Rattle.udb_csr.proofs.reset.push_fields.Given as goal

abbrev pub invariant-loop-at : goal.invariant-loop-at
invariant-loop-at l =
    map field_of l.values ≡ map field_of l.initial.values ++ flat_map (values_at l.evaluator.space l.full l.evaluator.program l.csr) (take l.at l.csr.fields)
