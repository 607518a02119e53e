use Rattle.std.proofs.Common.{subst}
use Rattle.std.proofs.lemmas.List.Elements.{All-more}
use Rattle.udb_lawful.proofs.Lists.{all-of}
use Rattle.idl_tree.specs.declared.programs.FieldBodies.{FieldBodies}
use Rattle.udb_csr.specs.Faults.{ArePlaces}
use Rattle.csr_cases.proofs.faults.are_fields.Goals as goal

abbrev HasPlaces : FieldBodies → Type 0
HasPlaces f = ArePlaces f.places

pub loop-field-preserved : goal.loop-field-preserved
loop-field-preserved c =
    let places : HasPlaces c.field-item.result = c.are_places.ensures (cc) in
    All-more HasPlaces c.args.fields.now c.loop-field.field-index c.field-item.result c.loop-field-test.true c.loop-field.invariant (subst HasPlaces c.field-item.is places)

pub returns : goal.returns
returns c = λ _. all-of HasPlaces c.args.fields.now c.loop-field.field-index c.loop-field-test.false c.loop-field.invariant
