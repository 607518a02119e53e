use Rattle.std.proofs.Common.{None, Some, true, false, sym, ap, ◌∙◌}
use Rattle.idl_tree.specs.declared.widths.EnumKind.TheVariants.{CsrFieldType}
use Rattle.idl_tree.specs.declared.widths.Width.TheVariants as wd
use Rattle.idl_spec.specs.declared.scopes.BodyScope.TheVariants as scopes
use Rattle.idl_spec.specs.Shapes.{of_bits, of_member}
use Rattle.idl_spec.specs.Checks.{body_checks}
use Rattle.type_issues.specs.Issues.{checks_of}
use Rattle.type_checks.specs.Nodes.{checks_in, field_view_of}
use Rattle.type_checks.proofs.BodyForms.{type-is, reset-is, write-is, if-ok}
use Rattle.type_checks.proofs.bodies.body_checks.Goals as goal

pub returns-in-FieldType : goal.returns-in-FieldType
returns-in-FieldType c =
    let space = c.args.space.now in
    let program = c.args.program.now in
    let presence = c.args.presence.now in
    let body = c.args.body.now in
    if-ok checks_of c.field_checks.result
    (ap (λ z. checks_in (field_view_of space program false None (Some (of_member CsrFieldType))) presence z body) c.in-FieldType.is
    ∙ type-is space program presence body c.in-FieldType.csr c.in-FieldType.field
    ∙ sym (ap (λ z. body_checks space program presence z body) c.in-FieldType.is))
    c.field_checks.ensures

pub returns-in-FieldReset : goal.returns-in-FieldReset
returns-in-FieldReset c =
    let space = c.args.space.now in
    let program = c.args.program.now in
    let presence = c.args.presence.now in
    let body = c.args.body.now in
    if-ok checks_of c.field_checks-in-FieldReset.result
    (ap (λ z. checks_in (field_view_of space program false None (Some (of_bits (wd.Number 1) false))) presence z body) c.in-FieldReset.is
    ∙ reset-is space program presence body c.in-FieldReset.csr c.in-FieldReset.field
    ∙ sym (ap (λ z. body_checks space program presence z body) c.in-FieldReset.is))
    c.field_checks-in-FieldReset.ensures

pub returns-in-FieldWrite : goal.returns-in-FieldWrite
returns-in-FieldWrite c =
    let space = c.args.space.now in
    let program = c.args.program.now in
    let presence = c.args.presence.now in
    let body = c.args.body.now in
    if-ok checks_of c.field_checks-in-FieldWrite.result
    (ap (λ w. checks_in (field_view_of space program true w (Some (of_bits (wd.Number 1) false))) presence (scopes.FieldWrite c.in-FieldWrite.csr c.in-FieldWrite.field) body) c.csr_name.ensures
    ∙ write-is space program presence body c.in-FieldWrite.csr c.in-FieldWrite.field
    ∙ sym (ap (λ z. body_checks space program presence z body) c.in-FieldWrite.is))
    c.field_checks-in-FieldWrite.ensures
