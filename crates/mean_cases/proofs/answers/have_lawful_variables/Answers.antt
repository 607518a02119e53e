use Rattle.std.proofs.Common.{subst}
use Rattle.std.proofs.lemmas.List.Elements.{All-more}
use Rattle.udb_lawful.proofs.Lists.{all-of}
use Rattle.idl_tree.specs.declared.programs.Body.{Body}
use Rattle.idl_forms.specs.Ready.{AreLawfulVariables}
use Rattle.mean_cases.proofs.answers.have_lawful_variables.Goals as goal

abbrev HasVariables : Body → Type 0
HasVariables b = AreLawfulVariables b.variables

pub loop-body-preserved : goal.loop-body-preserved
loop-body-preserved c =
    let here : HasVariables c.body-item.result = subst AreLawfulVariables c.as_slice.ensures (c.if-not-are_lawful_variables.ensures.0 (cc)) in
    All-more HasVariables c.args.bodies.now c.loop-body.body-index c.body-item.result c.loop-body-test.true c.loop-body.invariant (subst HasVariables c.body-item.is here)

pub returns : goal.returns
returns c = λ _. all-of HasVariables c.args.bodies.now c.loop-body.body-index c.loop-body-test.false c.loop-body.invariant
