use Rattle.std.proofs.Common.{◌≡◌, ◌<◌, List, Option, length, get_or, sym, ap, ◌∙◌, subst}
use Rattle.std.proofs.lemmas.List.Elements.{All-get_or}
use Rattle.idl_tree.specs.declared.programs.Body.{Body}
use Rattle.idl_tree.specs.declared.programs.Variable.{Variable}
use Rattle.idl_tree.specs.declared.programs.Function.{Function}
use Rattle.idl_tree.specs.declared.programs.Program.{Program}
use Rattle.udb_base.specs.declared.spaces.Space.{Space}
use Rattle.udb_base.specs.declared.spaces.Full.{Full}
use Rattle.idl_spec.specs.Values as meant
use Rattle.idl_spec.specs.Harts.{Outcome}
use Rattle.idl_spec.specs.Programs.{loud_setting}
use Rattle.idl_forms.specs.States.{state_of, Ends}
use Rattle.idl_forms.specs.Scenes.{setting_of}
use Rattle.idl_forms.specs.Ready.{IsLawfulProgram, AreLawfulVariables}
use Rattle.idl_mean.specs.declared.prepared.Prepared.{Prepared}
use Rattle.idl_mean.specs.Flows.{nothing}
use Rattle.idl_mean.proofs.StatesKept.{state-sound, state-kept}
use Rattle.idl_mean.proofs.Operations.{loud-scene, operation-ends}
use Rattle.idl_mean.proofs.Places.{operation-at, sound-at, sound-of}
use Rattle.idl_mean.proofs.evaluator.Evaluator.attempt.Goals as goal

pub scene-scene-requires-clause-variables : goal.scene-scene-requires-clause-variables
scene-scene-requires-clause-variables c =
    let bodies = c.self.inside.prepared.bodies in
    let body = c.index-as_slice-body-2.result in
    let inside : c.args.body < length bodies = subst (λ (p : Prepared). c.args.body < length p.bodies) (sym c.self.view_is) c.requires.place in
    let is : body ≡ get_or bodies c.args.body body = c.index-as_slice-body-2.is ∙ ap (λ xs. get_or xs c.args.body body) c.as_slice-2.ensures in
    subst (λ (vs : List Variable). AreLawfulVariables vs) (sym c.as_slice-3.ensures)
    (subst (λ (b : Body). AreLawfulVariables b.variables) (sym is) (All-get_or (λ (b : Body). AreLawfulVariables b.variables) bodies c.args.body body inside c.self.invariant.variables))

pub execute_all-requires-clause-sound : goal.execute_all-requires-clause-sound
execute_all-requires-clause-sound c =
    let p = c.args.self.now in
    let lawful = subst (λ (q : Prepared). IsLawfulProgram q.program) c.self.view_is c.self.invariant.program in
    let e = c.scene-scene.ensures in
    sound-at c.scene-scene.result p.space c.args.full.now p.program (state_of c.args.state.now) e.space e.full e.program (state-sound p.space c.args.full.now p.program lawful (state_of c.args.state.now) c.requires.state)

pub returns-clause-value : goal.returns-clause-value
returns-clause-value c =
    let p = c.args.self.now in
    let s = state_of c.args.state.now in
    let body = c.index-as_slice-body-2.result in
    let e = c.scene-scene.ensures in
    let scene = c.scene-scene.result in
    let bodies : c.as_slice-2.result.now ≡ p.bodies = c.as_slice-2.ensures ∙ ap (λ (q : Prepared). q.bodies) c.self.view_is in
    let is : body ≡ get_or p.bodies c.args.body body = c.index-as_slice-body-2.is ∙ ap (λ xs. get_or xs c.args.body body) bodies in
    let setting : setting_of scene ≡ record (loud_setting p.space c.args.full.now p.program p.program.functions) { variables = body.variables } =
    loud-scene scene e.loud e.written
    ∙ ap (λ (x : Space). record (loud_setting x scene.full.now scene.program.now scene.functions.now) { variables = scene.variables.now }) e.space
    ∙ ap (λ (x : Full). record (loud_setting p.space x scene.program.now scene.functions.now) { variables = scene.variables.now }) e.full
    ∙ ap (λ (x : Program). record (loud_setting p.space c.args.full.now x scene.functions.now) { variables = scene.variables.now }) e.program
    ∙ ap (λ (x : List Function). record (loud_setting p.space c.args.full.now p.program x) { variables = scene.variables.now }) e.functions
    ∙ ap (λ (x : List Variable). record (loud_setting p.space c.args.full.now p.program p.program.functions) { variables = x }) (e.variables ∙ c.as_slice-3.ensures) in
    subst (λ (o : Outcome (Option meant.Value)). Ends nothing o c.operation_end.result (state_of c.execute_all.new.state)) (sym (operation-at p c.args.body c.args.full.now body s c.requires.place is))
    (operation-ends p.space c.args.full.now p.program body (setting_of scene) c.as_slice-stmts.result.now c.new-scope.result.items c.execute_all.new.scope.items s (state_of c.execute_all.new.state) c.execute_all.result c.operation_end.result
    setting c.as_slice-stmts.ensures c.new-scope.ensures.items c.execute_all.ensures.value c.operation_end.ensures)

pub returns-clause-state : goal.returns-clause-state
returns-clause-state c =
    let p = c.args.self.now in
    let lawful = subst (λ (q : Prepared). IsLawfulProgram q.program) c.self.view_is c.self.invariant.program in
    let e = c.scene-scene.ensures in
    let kept = c.execute_all.ensures.kept in
    state-kept p.space c.args.full.now p.program lawful (state_of c.args.state.now) (state_of c.execute_all.new.state) c.requires.state
    (sound-of c.scene-scene.result p.space c.args.full.now p.program (state_of c.execute_all.new.state) e.space e.full e.program kept.sound) kept.names
