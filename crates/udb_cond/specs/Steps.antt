-- The steps of a path of cells, the newest first.
use Rattle.std.specs.Prelude.{List, [], ◌∷◌}
use Rattle.udb_spec.specs.Cells.{Step, Child, Below, From}
use Rattle.udb_cond.specs.declared.cells.Cells.{Cells, All, Child', Below', From'}

abbrev pub steps_of : Cells → List Step
steps_of All = []
steps_of (Child' param place child at rest) = Child param place child ∷ steps_of rest
steps_of (Below' place at pointer rest) = Below place at ∷ steps_of rest
steps_of (From' place at pointer rest) = From place at ∷ steps_of rest
