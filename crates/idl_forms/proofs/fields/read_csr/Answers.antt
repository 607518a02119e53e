use Rattle.std.proofs.Common.{sym, ◌∙◌}
use Rattle.idl_forms.specs.States.{state_of}
use Rattle.idl_forms.proofs.SceneKinds.{width-limit}
use Rattle.idl_forms.proofs.PresentFields.{read-absent, read-present}
use Rattle.idl_forms.proofs.fields.read_csr.Goals as goal

pub returns-then-not-is_present_csr-clause-value : goal.returns-then-not-is_present_csr-clause-value
returns-then-not-is_present_csr-clause-value c =
    sym (read-absent c.args.scene.now.space.now c.args.scene.now.full.now c.args.csr.now (state_of c.args.state.now) (sym c.is_present_csr.ensures ∙ c.if-not-is_present_csr.true))

pub returns-clause-value : goal.returns-clause-value
returns-clause-value c =
    c.truncated.ensures
    ∙ read-present c.args.scene.now.space.now c.args.scene.now.full.now c.args.csr.now (state_of c.args.state.now) c.args.scene.now.registers c.sum_of_fields.result
    (sym c.is_present_csr.ensures ∙ c.if-not-is_present_csr.false) c.requires.ready.registers (width-limit c.args.scene.now.registers c.requires.ready.width) c.sum_of_fields.ensures
