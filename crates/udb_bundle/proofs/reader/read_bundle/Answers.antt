use Rattle.udb_bundle.specs.Bundles.{lines_of}
use Rattle.udb_bundle.proofs.AnswerLemmas.{answer_found, answer_only, answer_bad, answer_bad_only, answer_keys, answer_rows}
use Rattle.udb_bundle.proofs.FrontLemmas.{spells_one}
use Rattle.udb_bundle.proofs.reader.read_bundle.Goals as goal

pub returns-clause-found : goal.returns-clause-found
returns-clause-found c = answer_found c.args.bytes.now c.read.result c.read.ensures

pub returns-clause-only : goal.returns-clause-only
returns-clause-only c = λ b spells. answer_only c.args.bytes.now c.read.result b c.read.ensures spells

pub returns-clause-one : goal.returns-clause-one
returns-clause-one c = λ a b g h. spells_one (lines_of c.args.bytes.now) a b g h

pub returns-clause-bad : goal.returns-clause-bad
returns-clause-bad c = λ n e. answer_bad c.args.bytes.now c.read.result n e c.read.ensures

pub returns-clause-bad_only : goal.returns-clause-bad_only
returns-clause-bad_only c = λ none. answer_bad_only c.args.bytes.now c.read.result none c.read.ensures

pub returns-clause-keys : goal.returns-clause-keys
returns-clause-keys c = answer_keys c.args.bytes.now c.read.result c.read.ensures

pub returns-clause-rows : goal.returns-clause-rows
returns-clause-rows c = answer_rows c.args.bytes.now c.read.result c.read.ensures
