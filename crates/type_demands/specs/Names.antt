-- What widths name, as the definitions have it.
use Rattle.std.specs.Prelude.{false, [], ◌∷◌}
use Rattle.udb_base.specs.declared.names.Name.{Name}
use Rattle.idl_spec.specs.Costs as meant
use Rattle.type_demands.specs.declared.costs.Named.{Named}

abbrev pub named_of : Named → meant.Named
named_of n = record { params = n.params; is_product = n.is_product }

abbrev pub names_one : Name → meant.Named
names_one name = record { params = name ∷ []; is_product = false }
