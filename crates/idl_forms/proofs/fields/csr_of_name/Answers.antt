use Rattle.std.proofs.Common.{◌≡◌, Some, sym, ap, ◌∙◌}
use Rattle.std.specs.Option.{option_copied}
use Rattle.udb_spec.specs.Conditions.{same_bytes}
use Rattle.idl_spec.specs.Fields.{csr_named}
use Rattle.idl_forms.proofs.SceneKinds.{or-stop-ok}
use Rattle.idl_forms.proofs.PresentFields.{found-contains}
use Rattle.idl_forms.proofs.fields.csr_of_name.Goals as goal

pub returns-clause-known : goal.returns-clause-known
returns-clause-known c =
    let found : c.csr_named.result ≡ Some c.in_ok-csr.csr = or-stop-ok c.csr_named.result c.in_ok-csr.csr (sym c.required.ensures ∙ c.in_ok-csr.was) in
    let named : csr_named c.args.scene.now.program.now.csrs c.args.name.now ≡ Some c.in_ok-csr.csr.now = sym c.csr_named.ensures.value ∙ ap option_copied found in
    (found-contains (λ d. same_bytes d.name c.args.name.now) c.args.scene.now.program.now.csrs c.in_ok-csr.csr.now named, sym c.is_present_csr.ensures ∙ c.if-not-is_present_csr.false)
