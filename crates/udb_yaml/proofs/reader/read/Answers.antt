use Rattle.std.proofs.Common.{◌∷◌, ◌++◌, [], drop, subst}
use Rattle.yaml_spec.specs.Spells.{at}
use Rattle.yaml_spec.specs.Texts.{lines_of}
use Rattle.yaml_spec.specs.Machine.{step}
use Rattle.udb_yaml.specs.Steps.{Reaches, reader_of}
use Rattle.udb_yaml.proofs.TextLemmas.{answers_fault, answers_whole, reads_more, row_lines, row_behind_front, one_longer, next_line, empty_rest}
use Rattle.udb_yaml.proofs.reader.read.Goals as goal

pub returns-in-Ok-None : goal.returns-in-Ok-None
returns-in-Ok-None c =
    answers_fault (lines_of c.args.text.now) c.rows.invariant.0 (lines_of (drop c.first_row-row.result.length c.rows.rest.now)) (at c.first_row-row.result.column c.text_after-content.result.now) (reader_of c.rows.state) _ c.fault.result (row_lines c.args.text.now c.rows.rest.now c.text_before.result.now c.text_after-content.result.now c.rows.invariant.0 c.first_row-row.result.column c.first_row-row.result.count c.first_row-row.result.length c.rows.invariant.1 c.first_row-row.ensures.lines c.text_before.ensures c.text_after-content.ensures) c.rows.invariant.3 (subst (Reaches (step c.rows.state.started c.rows.state.frames c.rows.state.leaf (at c.first_row-row.result.column c.text_after-content.result.now))) c.in-Ok-None.field-0-is c.in-Ok-None.ensures) (next_line c.rows.invariant.0 c.rows.line c.rows.invariant.2) c.fault.ensures

pub rows-preserved : goal.rows-preserved
rows-preserved c = (
  c.rows.invariant.0 ++ at c.first_row-row.result.column c.text_after-content.result.now ∷ [],
  row_behind_front c.args.text.now c.rows.rest.now c.text_after-rest.result.now c.rows.invariant.0 (at c.first_row-row.result.column c.text_after-content.result.now) c.first_row-row.result.length (row_lines c.args.text.now c.rows.rest.now c.text_before.result.now c.text_after-content.result.now c.rows.invariant.0 c.first_row-row.result.column c.first_row-row.result.count c.first_row-row.result.length c.rows.invariant.1 c.first_row-row.ensures.lines c.text_before.ensures c.text_after-content.ensures) c.text_after-rest.ensures,
  one_longer c.rows.invariant.0 (at c.first_row-row.result.column c.text_after-content.result.now) c.rows.line c.rows.invariant.2,
  reads_more c.rows.invariant.0 (at c.first_row-row.result.column c.text_after-content.result.now) (reader_of c.rows.state) (reader_of c.in-Ok-Some.next) c.rows.invariant.3 (subst (Reaches (step c.rows.state.started c.rows.state.frames c.rows.state.leaf (at c.first_row-row.result.column c.text_after-content.result.now))) c.in-Ok-Some.field-0-is c.in-Ok-Some.ensures),
  c.text_after-rest.utf8,
)

pub returns : goal.returns
returns c = answers_whole c.args.text.now c.rows.rest.now c.rows.invariant.0 (reader_of c.rows.state) c.whole.result c.rows.invariant.1 (empty_rest c.rows.rest.now c.is_empty.result c.is_empty.ensures c.rows-test.false) c.rows.invariant.3 c.whole.ensures
