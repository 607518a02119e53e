use Rattle.std.proofs.Common.{sym, ap, ◌∙◌}
use Rattle.std.specs.HashMap.{get_by_text}
use Rattle.std.specs.Option.{option_copied}
use Rattle.udb_cond.specs.Steps.{steps_of}
use Rattle.udb_refute.proofs.AtomLaws.{param-unknown, param-read}
use Rattle.udb_refute.proofs.truth.param_atom.Goals as goal

pub returns-in-None : goal.returns-in-None
returns-in-None c = λ test given is.
    param-unknown c.args.space.now (steps_of c.args.cells.now) c.args.variables.now c.args.board.now c.requires.variables c.requires.board c.requires.open c.args.cond.now c.args.name.now test given (sym (ap (get_by_text c.args.variables.now.params) c.as_str.ensures) ∙ (sym c.get.ensures.value ∙ ap option_copied c.in-None.is)) is

pub returns-in-Some : goal.returns-in-Some
returns-in-Some c = λ test given is.
    param-read c.args.space.now (steps_of c.args.cells.now) c.args.variables.now c.args.board.now c.requires.variables c.requires.board c.requires.open c.args.cond.now c.args.name.now test given c.in-Some.variable.now c.param.result c.param_truth.result (sym (ap (get_by_text c.args.variables.now.params) c.as_str.ensures) ∙ (sym c.get.ensures.value ∙ ap option_copied c.in-Some.is)) c.param.ensures c.param_truth.ensures is
