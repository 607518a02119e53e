use Rattle.std.proofs.Common.{length, ap, sym, ◌∙◌}
use Rattle.std.proofs.lemmas.List.{length-map}
use Rattle.udb_base.specs.declared.conditions.Value.TheVariants.{Number, Word}
use Rattle.udb_spec.specs.Cells.{values_of}
use Rattle.udb_cond.specs.Steps.{steps_of}
use Rattle.udb_refute.specs.Search.{is_range}
use Rattle.udb_refute.proofs.ChoiceLaws.{listed-divided, value-divided-at, not-number}
use Rattle.udb_refute.proofs.choices.value_choice.Goals as goal

pub returns-in-Flags : goal.returns-in-Flags
returns-in-Flags c = λ whole unknown. listed-divided (steps_of c.args.cells.now) c.args.place 2 c.args.test c.args.given.now c.args.domain.now c.listed.result (ap is_range c.in-Flags.is) c.listed.ensures (ap (λ d. length (values_of d)) (sym c.in-Flags.is)) unknown

pub returns-in-Numbers : goal.returns-in-Numbers
returns-in-Numbers c = λ whole unknown. listed-divided (steps_of c.args.cells.now) c.args.place c.len.result c.args.test c.args.given.now c.args.domain.now c.listed-in-Numbers.result (ap is_range c.in-Numbers.is) c.listed-in-Numbers.ensures (c.len.ensures ∙ sym (length-map c.in-Numbers.numbers Number) ∙ ap (λ d. length (values_of d)) (sym c.in-Numbers.is)) unknown

pub returns-in-Words : goal.returns-in-Words
returns-in-Words c = λ whole unknown. listed-divided (steps_of c.args.cells.now) c.args.place c.len-in-Words.result c.args.test c.args.given.now c.args.domain.now c.listed-in-Words.result (ap is_range c.in-Words.is) c.listed-in-Words.ensures (c.len-in-Words.ensures ∙ sym (length-map c.in-Words.words Word) ∙ ap (λ d. length (values_of d)) (sym c.in-Words.is)) unknown

pub returns-in-Number : goal.returns-in-Number
returns-in-Number c = λ whole unknown. value-divided-at (steps_of c.args.cells.now) c.args.place c.low_end.result c.in-Range.low c.in-Range.high c.in-Number.given c.cut_at.result c.args.test c.args.domain.now c.args.given.now c.in-Range.is c.in-Number.is c.low_end.ensures c.cut_at.ensures whole unknown

pub returns-in_default : goal.returns-in_default
returns-in_default c = λ whole unknown. not-number (steps_of c.args.cells.now) c.args.place c.in-Range.low c.in-Range.high c.args.test c.args.domain.now c.args.given.now c.in-Range.is c.in_default.not-Number unknown
