use Rattle.std.proofs.Common.{sym, arith}
use Rattle.idl_forms.proofs.FieldPlaces.{far-place}
use Rattle.udb_csr.proofs.reading.at_place.Goals as goal

pub returns-then-low-ge64 : goal.returns-then-low-ge64
returns-then-low-ge64 c = sym (far-place c.args.number c.args.low (omega arith))
