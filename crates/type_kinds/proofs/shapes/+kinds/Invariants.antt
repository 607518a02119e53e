use Rattle.std.proofs.Common.{◌≡◌, drop}
use Rattle.std.specs.Prelude.{map}
use Rattle.idl_spec.specs.Shapes.{join_kind, joined_kind}
use Rattle.idl_spec.specs.Demands.{kind_at}
use Rattle.type_kinds.specs.Kinds.{kind_if_any}
use Rattle.type_kinds.specs.Views.{view_of}
use Rattle.type_kinds.proofs.shapes.+kinds.Given as goal

abbrev pub invariant-join_kind-loop-part : goal.invariant-join_kind-loop-part
invariant-join_kind-loop-part l =
    joined_kind (kind_if_any l.kind) (map (kind_at (view_of l.view)) (drop l.part-index l.rest)) ≡ join_kind (map (kind_at (view_of l.view)) l.parts)
