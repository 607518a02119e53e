-- Where a field is present, as a condition.
use Rattle.std.specs.Prelude.{[], ◌∷◌, map, filter, None, Some, codes}
use Rattle.udb_base.specs.declared.names.Name.{Name}
use Rattle.udb_base.specs.declared.conditions.Cond.{Cond}
use Rattle.udb_base.specs.declared.conditions.Cond.TheVariants as c
use Rattle.udb_base.specs.declared.conditions.Test.TheVariants as t
use Rattle.udb_base.specs.declared.conditions.Value.TheVariants.{Number}
use Rattle.udb_spec.specs.Conditions.{same_bytes}
use Rattle.idl_tree.specs.declared.programs.FieldPlaces.{FieldPlaces}
use Rattle.idl_tree.specs.declared.programs.FieldPlaces.TheVariants as places
use Rattle.idl_tree.specs.declared.programs.FieldBodies.{FieldBodies}
use Rattle.idl_tree.specs.declared.programs.CsrBody.{CsrBody}
use Rattle.idl_tree.specs.declared.programs.Program.{Program}
use Rattle.idl_spec.specs.Fields.{csr_named}

-- the registers have 64 bits; else they have 32, also where MXLEN is no parameter
abbrev pub is_64 : Cond
is_64 = c.Param (codes "MXLEN") t.Equal (Number 64)

-- the field has a place
abbrev pub place_cond : FieldPlaces → Cond
place_cond (places.All part) = c.Always
place_cond (places.ByBase (Some p) (Some q)) = c.Always
place_cond (places.ByBase (Some p) None) = c.Not is_64
place_cond (places.ByBase None (Some q)) = is_64
place_cond (places.ByBase None None) = c.Never

abbrev pub field_cond : FieldBodies → Cond
field_cond f = c.All (f.present ∷ place_cond f.places ∷ [])

-- the CSR is present, and one of its fields of a name
abbrev pub csr_cond : Name → CsrBody → Cond
csr_cond field csr =
    c.All (csr.present ∷ c.Any (map field_cond (filter (λ f. same_bytes f.name field) csr.fields)) ∷ [])

abbrev pub presence : Program → Name → Name → Cond
presence program csr field = elim (csr_named program.csrs csr) [
  | None ↦ c.Never
  | Some one ↦ csr_cond field one
]
