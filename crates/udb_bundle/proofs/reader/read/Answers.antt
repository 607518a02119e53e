use Rattle.std.proofs.Common.{◌∙◌, Err, sym, subst}
use Rattle.udb_bundle.specs.declared.faults.LineFault.{LineFault}
use Rattle.udb_bundle.specs.Reading.{TakesLine}
use Rattle.udb_bundle.proofs.AnswerLemmas.{at_more, at_bad, at_end, at_missing, empty_rest}
use Rattle.udb_bundle.proofs.reader.read.Goals as goal

pub lines-preserved : goal.lines-preserved
lines-preserved c =
    let line = c.in-Ok.ensures.line in (
      at_more c.args.bytes.now c.lines.rest.now c.first_line.result.1.now c.lines.number c.lines.reading c.take_line.new.self c.first_line.result.0.now c.lines.invariant.0 c.first_line.ensures.lines c.first_line.ensures.shorter line.0 line.1,
      c.in-Ok.ensures.titles,
    )

pub returns-in-Err-Bad : goal.returns-in-Err-Bad
returns-in-Err-Bad c =
    let bad = subst (λ (e : LineFault). TakesLine c.lines.reading c.first_line.result.0.now (Err e) c.take_line.new.self) c.in-Err-Bad.field-0-is c.in-Err-Bad.ensures.line in
    at_bad c.args.bytes.now c.lines.rest.now c.first_line.result.1.now c.lines.number c.lines.reading c.first_line.result.0.now c.lines.invariant.0 c.first_line.ensures.lines bad

pub returns-then-is_between : goal.returns-then-is_between
returns-then-is_between c =
    let all = empty_rest c.lines.rest.now (sym c.is_empty.ensures ∙ c.lines-test.false) in
    rw c.into_bundle.ensures (at_end c.args.bytes.now c.lines.rest.now c.lines.number c.lines.reading c.lines.invariant.0 all (sym c.is_between.ensures ∙ c.if-is_between.true))

pub returns-else-is_between : goal.returns-else-is_between
returns-else-is_between c =
    let all = empty_rest c.lines.rest.now (sym c.is_empty.ensures ∙ c.lines-test.false) in
    at_missing c.args.bytes.now c.lines.rest.now c.lines.number c.lines.reading c.lines.invariant.0 all (sym c.is_between.ensures ∙ c.if-is_between.false)
