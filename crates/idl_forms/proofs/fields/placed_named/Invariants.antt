use Rattle.std.proofs.Common.{◌≡◌, drop}
use Rattle.std.specs.Prelude.{filter_map}
use Rattle.idl_spec.specs.Fields.{placed, placed_named}
use Rattle.idl_forms.proofs.fields.placed_named.Given as goal

abbrev pub invariant-loop-field : goal.invariant-loop-field
invariant-loop-field l = placed_named (filter_map (placed l.scene.space.now l.scene.full.now) (drop l.field-index l.fields)) l.name ≡ placed_named (filter_map (placed l.scene.space.now l.scene.full.now) l.fields) l.name
