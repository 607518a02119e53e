use Rattle.std.proofs.Common.{◌≡◌, ◌++◌, ◌∷◌, length}
use denote.Shadow.{shadow}
use denote.Text.{Utf8}
use Rattle.yaml_spec.specs.Print.{escape}
use Rattle.udb_yaml.proofs.print.push_quoted.Given as goal

abbrev pub invariant-runs : goal.invariant-runs
invariant-runs l = (l.out ++ escape l.rest ≡ l.fn.out ++ (34 ∷ escape l.fn.text)) × shadow (Utf8 l.rest)

abbrev pub decreases-runs : goal.decreases-runs
decreases-runs l = length l.rest
