use Rattle.std.proofs.Common.{◌≡◌, sym, ap, ◌∙◌}
use Rattle.idl_grammar.specs.ExprReader as er
use Rattle.idl_grammar.specs.Outcome.{after}
use Rattle.idl_exprs.specs.Gives.{in_expr, ahead}
use Rattle.idl_exprs.specs.Steps.{moved_by}
use Rattle.idl_token.specs.Symbol as t
use Rattle.idl_exprs.proofs.AtomSteps.{opens_as}
use Rattle.idl_exprs.proofs.atoms.special_word.Goals as goal

pub returns-in-Implemented-clause-leads : goal.returns-in-Implemented-clause-leads
returns-in-Implemented-clause-leads c = opens_as c.args.below (moved_by er.atom_by c.args.below (t.special c.args.word)) (in_expr er.implemented c.args.below) c.args.tokens.now c.skip-in-Implemented.new.self c.extension_test.new.tokens c.extension_test.result
    (rw c.in-Implemented.is (ap (in_expr er.implemented c.args.below) (sym c.skip-in-Implemented.ensures))) (c.extension_test.ensures.leads c.args.below)

pub returns-in-Implemented-clause-small : goal.returns-in-Implemented-clause-small
returns-in-Implemented-clause-small c = c.extension_test.ensures.small c.args.below

pub returns-in-ImplementedVersion-clause-leads : goal.returns-in-ImplementedVersion-clause-leads
returns-in-ImplementedVersion-clause-leads c = opens_as c.args.below (moved_by er.atom_by c.args.below (t.special c.args.word)) (in_expr er.implemented_version c.args.below) c.args.tokens.now c.skip-in-ImplementedVersion.new.self c.version_test.new.tokens c.version_test.result
    (rw c.in-ImplementedVersion.is (ap (in_expr er.implemented_version c.args.below) (sym c.skip-in-ImplementedVersion.ensures))) (c.version_test.ensures.leads c.args.below)

pub returns-in-ImplementedVersion-clause-small : goal.returns-in-ImplementedVersion-clause-small
returns-in-ImplementedVersion-clause-small c = c.version_test.ensures.small c.args.below
