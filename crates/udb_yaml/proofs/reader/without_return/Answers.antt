use Rattle.udb_yaml.proofs.TextLemmas.{return_here, no_return, no_line}
use Rattle.udb_yaml.proofs.reader.without_return.Goals.{else-line-gt0-via-then-line-gt0+else-line-eq13, else-line-gt0-via-else-line-gt0}
use Rattle.udb_yaml.proofs.reader.without_return.Goals as goal

pub returns-then-line-eq13-clause-content : goal.returns-then-line-eq13-clause-content
returns-then-line-eq13-clause-content c = return_here c.args.line.now c.if-line-gt0.true c.if-line-eq13.true

pub returns-else-line-gt0-clause-content : goal.returns-else-line-gt0-clause-content
returns-else-line-gt0-clause-content c = elim c.else-line-gt0.branch [
  | else-line-gt0-via-then-line-gt0+else-line-eq13 w ↦ no_return c.args.line.now w.if-line-eq13.false
  | else-line-gt0-via-else-line-gt0 w ↦ no_line c.args.line.now w.if-line-gt0.false
]
