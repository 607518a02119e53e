use Rattle.std.proofs.Common.{◌≡◌, length, List, ◌++◌, Some}
use denote.Shadow.{shadow}
use denote.Text.{Utf8}
use Rattle.yaml_spec.specs.Spells.{Line}
use Rattle.yaml_spec.specs.Texts.{lines_of}
use Rattle.yaml_spec.specs.Machine.{reads, start}
use Rattle.udb_yaml.specs.Steps.{reader_of}
use Rattle.udb_yaml.proofs.reader.read.Given as goal

abbrev pub invariant-rows : goal.invariant-rows
invariant-rows l = (front : List Line) × (lines_of l.fn.text ≡ front ++ lines_of l.rest) × (length front ≡ l.line) × (reads start front ≡ Some (reader_of l.state)) × shadow (Utf8 l.rest)

abbrev pub decreases-rows : goal.decreases-rows
decreases-rows l = length l.rest
