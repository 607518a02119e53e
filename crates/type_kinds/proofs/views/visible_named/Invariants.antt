use Rattle.std.proofs.Common.{◌≡◌, take}
use Rattle.std.specs.Prelude.{option_map}
use Rattle.std.specs.Option.{option_copied}
use Rattle.idl_spec.specs.Shapes.{innermost}
use Rattle.type_kinds.specs.Views.{visible_of}
use Rattle.type_kinds.proofs.VisibleNames.{pairs}
use Rattle.type_kinds.proofs.views.visible_named.Given as goal

abbrev pub invariant-loop-one : goal.invariant-loop-one
invariant-loop-one l = option_map visible_of (option_copied l.found) ≡ innermost (pairs (take l.one-index l.visible)) l.name
