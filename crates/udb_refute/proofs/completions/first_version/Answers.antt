use Rattle.std.proofs.Common.{false}
use Rattle.udb_cond.specs.Steps.{steps_of}
use Rattle.udb_refute.specs.Paths.{taken}
use Rattle.udb_refute.proofs.FirstLaws.{version-taken, version-missing}
use Rattle.udb_refute.proofs.completions.first_version.Goals as goal

pub returns-in-Some : goal.returns-in-Some
returns-in-Some c = λ v found. version-taken c.args.ext.now (taken (steps_of c.args.cells.now) false c.args.place) c.taken-choice.result c.in-Some.listed.now v c.taken-choice.ensures c.if-choice-eq0.false c.in-Some.ensures.value found

pub returns-in-None : goal.returns-in-None
returns-in-None c = λ v found. version-missing c.args.ext.now (taken (steps_of c.args.cells.now) false c.args.place) c.taken-choice.result v c.taken-choice.ensures c.if-choice-eq0.false c.in-None.ensures.value found
