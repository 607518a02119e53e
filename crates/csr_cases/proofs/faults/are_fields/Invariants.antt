use Rattle.std.proofs.Common.{All, take}
use Rattle.udb_csr.specs.Faults.{ArePlaces}
use Rattle.csr_cases.proofs.faults.are_fields.Given as goal

abbrev pub invariant-loop-field : goal.invariant-loop-field
invariant-loop-field l = All (λ f. ArePlaces f.places) (take l.field-index l.fields)
