use Rattle.std.proofs.Common.{◌≡◌, take}
use Rattle.std.specs.Prelude.{map}
use Rattle.idl_spec.specs.Demands.{kind_at}
use Rattle.type_kinds.specs.Kinds.{kind_if_any}
use Rattle.type_kinds.specs.Views.{view_of}
use Rattle.type_kinds.proofs.shapes.shapes_of.Given as goal

abbrev pub invariant-loop-part : goal.invariant-loop-part
invariant-loop-part l = map kind_if_any l.kinds ≡ map (kind_at (view_of l.view)) (take l.part-index l.parts)
