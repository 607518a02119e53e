use Rattle.yaml_spec.specs.Texts.{lines_of}
use Rattle.yaml_spec.proofs.Whole.{spells_one}
use Rattle.yaml_spec.proofs.Writable.{spelled_writable}
use Rattle.udb_yaml.proofs.TextLemmas.{answers_spelled, answers_read}
use Rattle.udb_yaml.proofs.reader.read_tree.Goals as goal

pub returns-clause-spelled : goal.returns-clause-spelled
returns-clause-spelled c = λ x q. answers_spelled (lines_of c.args.text.now) c.read.result x c.read.ensures q

pub returns-clause-once : goal.returns-clause-once
returns-clause-once c = λ x y p q. spells_one (lines_of c.args.text.now) x y p q

pub returns-clause-writable : goal.returns-clause-writable
returns-clause-writable c = λ x is. spelled_writable c.args.text.now x (answers_read (lines_of c.args.text.now) c.read.result x c.read.ensures is)
