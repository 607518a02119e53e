use Rattle.std.proofs.Common.{sym, arith}
use Rattle.idl_spec.specs.Fields.{part_width}
use Rattle.idl_forms.proofs.FieldPlaces.{far-bits}
use Rattle.idl_forms.proofs.fields.bits_of.Goals as goal

pub returns-then-part-ge64-clause-value : goal.returns-then-part-ge64-clause-value
returns-then-part-ge64-clause-value c = sym (far-bits c.args.number c.args.part.low (part_width c.args.part) (omega arith) (omega arith))
