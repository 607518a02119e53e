-- What stands round a node, as the definitions have it.
use Rattle.std.specs.Prelude.{List, ℕ, map, Option, None, Some, false, option_map}
use Rattle.udb_base.specs.declared.spaces.ParamSpace.{ParamSpace}
use Rattle.idl_tree.specs.declared.widths.EnumKind.TheVariants.{CsrFieldType}
use Rattle.idl_tree.specs.declared.widths.Width.TheVariants as wd
use Rattle.idl_spec.specs.Shapes.{Kind, of_bits, of_member, declared_kind, parameter_named, domain_kind}
use Rattle.type_kinds.specs.declared.views.Returns.{Returns}
use Rattle.type_kinds.specs.declared.views.Returns.TheVariants as r
use Rattle.idl_spec.specs.Demands as meant
use Rattle.type_kinds.specs.declared.views.View.{View}
use Rattle.type_kinds.specs.declared.views.Visible.{Visible}
use Rattle.type_kinds.specs.Kinds.{kind_of}

abbrev pub visible_of : Visible → meant.Visible
visible_of v = record { name = v.name; kind = kind_of v.kind; is_assignable = v.is_assignable }

abbrev pub returned : Returns → Option Kind
returned r.Nothing = None
returned (r.Shape shape) = Some (declared_kind shape.now)
returned r.FieldType = Some (of_member CsrFieldType)
returned r.Bits = Some (of_bits (wd.Number 1) false)

abbrev pub view_of : View → meant.View
view_of v = record {
  space = v.space.now;
  program = v.program.now;
  variables = v.variables.now;
  before = v.before.now;
  in_field = v.in_field;
  reads_fields = v.reads_fields;
  written = option_map (λ n. n.now) v.written;
  returns = returned v.returns;
  visible = map visible_of v.visible.now;
}

abbrev pub parameter_kind : List ParamSpace → List ℕ → Option Kind
parameter_kind params name = option_map (λ p. domain_kind p.domain) (parameter_named params name)

-- the same with other visible names
abbrev pub seeing : meant.View → List meant.Visible → meant.View
seeing view visible = record view { visible = visible }
