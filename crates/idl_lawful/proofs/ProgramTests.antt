-- The tests of a program decide whether it is lawful.
use Rattle.std.proofs.Common.{◌≡◌, ◌≢◌, ◌&&◌, ◌+◌, ◌≤◌, ◌<◌, Bool, true, ℕ, nat_le, nat_lt, List, Option, None, Some, All, refl}
use Rattle.std.specs.Prelude.{AllPairs, IfSome}
use Rattle.std.specs.List.{list_all}
use Rattle.std.specs.Bool.{Decides}
use Rattle.std.proofs.lemmas.Bool.Decides.{Decides-and, Decides-by_and, Decides-ltb}
use Rattle.idl_lawful.proofs.Bits.{at-most-decides}
use Rattle.udb_base.specs.Lists.{are_distinct}
use Rattle.idl_tree.specs.declared.programs.BitPart.{BitPart}
use Rattle.idl_tree.specs.declared.programs.FieldPlaces.{FieldPlaces}
use Rattle.idl_tree.specs.declared.programs.FieldPlaces.TheVariants as places
use Rattle.idl_tree.specs.declared.programs.FieldBodies.{FieldBodies}
use Rattle.idl_tree.specs.declared.programs.CsrBody.{CsrBody}
use Rattle.idl_tree.specs.declared.programs.Program.{Program}
use Rattle.idl_forms.specs.Ready.{IsPart, ArePlaces, IsLawfulProgram}
use Rattle.idl_lawful.specs.Tests.{is_part, is_part_if_any, are_places, stands, is_same_csr, is_same_field, has_distinct_fields, has_places, passes}
use Rattle.idl_lawful.proofs.Distinct.{names-differ, pairs-decide}

part-decides : (part : BitPart) → Decides (is_part part) (IsPart part)
part-decides part = Decides-and (nat_le part.low part.high) (nat_lt part.high (part.low + 64)) (at-most-decides part.low part.high) (Decides-ltb part.high (part.low + 64))

if-any-decides : (part : Option BitPart) → Decides (is_part_if_any part) (IfSome part IsPart)
if-any-decides None = (λ _. tt, λ _. refl)
if-any-decides (Some part) = part-decides part

places-decide : (p : FieldPlaces) → Decides (are_places p) (ArePlaces p)
places-decide (places.All part) = part-decides part
places-decide (places.ByBase rv32 rv64) = Decides-and (is_part_if_any rv32) (is_part_if_any rv64) (if-any-decides rv32) (if-any-decides rv64)

abbrev DistinctFields : CsrBody → Type 0
DistinctFields c = AllPairs (λ a b. a.name ≢ b.name) c.fields

abbrev HasPlaces : CsrBody → Type 0
HasPlaces c = All (λ f. ArePlaces f.places) c.fields

csrs-decide : (cs : List CsrBody) → Decides (are_distinct is_same_csr cs) (AllPairs (λ a b. a.name ≢ b.name) cs)
csrs-decide = pairs-decide is_same_csr (λ a b. a.name ≢ b.name) (λ a b. names-differ a.name b.name)

fields-decide : (c : CsrBody) → Decides (has_distinct_fields c) (DistinctFields c)
fields-decide c = pairs-decide is_same_field (λ a b. a.name ≢ b.name) (λ a b. names-differ a.name b.name) c.fields

field-places-decide : (c : CsrBody) → Decides (has_places c) (HasPlaces c)
field-places-decide c = Decides-by_and stands (λ f. ArePlaces f.places) (list_all stands) (λ f. places-decide f.places) refl (λ _ _. refl) c.fields

all-fields-decide : (cs : List CsrBody) → Decides (list_all has_distinct_fields cs) (All DistinctFields cs)
all-fields-decide = Decides-by_and has_distinct_fields DistinctFields (list_all has_distinct_fields) fields-decide refl (λ _ _. refl)

all-places-decide : (cs : List CsrBody) → Decides (list_all has_places cs) (All HasPlaces cs)
all-places-decide = Decides-by_and has_places HasPlaces (list_all has_places) field-places-decide refl (λ _ _. refl)

pub program-decides : (program : Program) → Decides (passes program) (IsLawfulProgram program)
program-decides program =
    let cs : List CsrBody = program.csrs in
    let all = Decides-and (are_distinct is_same_csr cs) (list_all has_distinct_fields cs && list_all has_places cs) (csrs-decide cs)
    (Decides-and (list_all has_distinct_fields cs) (list_all has_places cs) (all-fields-decide cs) (all-places-decide cs)) in (
      λ e. (let h = all.0 e in record { csrs = h.0; fields = h.1.0; places = h.1.1 }),
      λ h. all.1 (h.csrs, (h.fields, h.places)),
    )
