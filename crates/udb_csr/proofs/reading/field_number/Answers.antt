use Rattle.std.proofs.Common.{sym, ◌∙◌}
use Rattle.std.specs.Prelude.{map}
use Rattle.std.proofs.lemmas.List.{at_drop_all}
use Rattle.idl_spec.specs.Harts.{field_number}
use Rattle.idl_forms.specs.States.{field_of}
use Rattle.idl_forms.proofs.FieldPlaces.{number-none}
use Rattle.udb_csr.proofs.reading.field_number.Goals as goal

pub returns : goal.returns
returns c =
    sym (at_drop_all (λ vs. field_number (map field_of vs) c.args.csr.now c.args.field.now) c.args.fields.now c.loop-value.value-index c.loop-value-test.false ∙ number-none c.args.csr.now c.args.field.now)
    ∙ c.loop-value.invariant
