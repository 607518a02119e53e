use Rattle.std.proofs.Common.{◌≡◌, ◌+◌, ◌-◌, ◌<◌, Bool, false, List, [], ◌∷◌, ◌++◌, map, take, drop, length, get_or, Vec, Global, Ok, Err, Option, Some, if◌then◌else◌, refl, sym, ap, ◌∙◌, subst, arith}
use Rattle.std.specs.Prelude.{option_map}
use Rattle.std.proofs.lemmas.Result.{err_from_is_err_and}
use Rattle.std.proofs.Math.ListN.{drop_of_length-le}
use Rattle.idl_tree.specs.declared.expressions.Expr.{Expr}
use Rattle.idl_tree.specs.declared.expressions.Expr.TheVariants as ex
use Rattle.idl_tree.specs.declared.statements.Stmt.{Stmt}
use Rattle.idl_tree.specs.declared.statements.Stmt.TheVariants as st
use Rattle.idl_tree.specs.declared.programs.Argument.{Argument}
use Rattle.idl_tree.specs.declared.programs.Function.{Function}
use Rattle.idl_spec.specs.Values as meant
use Rattle.idl_spec.specs.Harts.{State, Outcome, done, and_then}
use Rattle.idl_spec.specs.Fields.{placed, present_field}
use Rattle.idl_spec.specs.Settings.{Scope}
use Rattle.idl_spec.specs.Shapes.{shape}
use Rattle.idl_spec.specs.Settings.{names_of}
use Rattle.idl_spec.specs.Forms as forms
use Rattle.idl_spec.specs.Programs as programs
use Rattle.idl_spec.specs.Mean.{mean_expr, mean_stmt, mean_stmts, declared, turns}
use Rattle.idl_forms.specs.declared.values.Local.{Local}
use Rattle.idl_forms.specs.States.{as_value, scope_of, state_of, value_if_any, going_on, Ends, Gives, Finds}
use Rattle.idl_forms.specs.Scenes.{setting_of, placed_of, addressed_of, new_number}
use Rattle.idl_forms.specs.Ready.{IsSound, Keeps}
use Rattle.idl_forms.specs.Steps.{left_step, word_step, side_by_side}
use Rattle.idl_forms.proofs.Endings.{ends-same, early}
use Rattle.idl_forms.proofs.KeptParts.{field-kept}
use Rattle.idl_mean.specs.Flows.{one_turn, raise_change, store_change, soft_write_change, flow_of, values_of, choice_reading, Writes, with_fields}
use Rattle.idl_mean.proofs.FormSteps.{of-form, of-choice, form-Number, form-Sized, form-Text, form-Flag, form-Word, form-Member, form-Unary, form-Binary, form-WideLeft, form-Join, form-Repeat, form-Index, form-Slice, form-Call, form-Signed, form-Resize, form-Pc, form-Encoding, form-Register, form-Field, form-SoftRead, form-ReadMemory, form-NewField, form-Mode, form-Implemented, form-ImplementedVersion}
use Rattle.idl_mean.proofs.StatementSteps.{of-statement, does-Declare, does-Assign, does-Block, does-Return, does-If, does-For, does-Jump, does-Raise, does-WriteMemory, does-SoftWrite, does-Call}
use Rattle.idl_mean.proofs.Sequences.{bits_behind, bits-stop, bits-more, bits-all, turns-go-on, turns-return, turns-stop}
use Rattle.idl_mean.proofs.Scenes.{keeps-then, setting-under, setting-quiet}
use Rattle.idl_mean.proofs.CallSteps.{body-ends, call-missing, call-ends, function-ends}
use Rattle.idl_mean.proofs.Binary.{left-stops, left-settles, right-counts, flag-given, address-stops, address-found, address-read}
use Rattle.idl_mean.proofs.Blocks.{block-ends, turn-ends, written-back}
use Rattle.idl_mean.proofs.Changes.{assign-word, assign-bit, assign-slice, assign-register, raises, stores}
use Rattle.idl_mean.proofs.FieldWrites.{placed-field, present-at, blank-sound}
use Rattle.idl_mean.proofs.WriteSteps.{opened-at, rest-stops, rest-none, csr-written, field-returns, field-stops, plain-type, computed-type}
use Rattle.idl_mean.proofs.+evaluation.Goals as goal
use Rattle.idl_mean.proofs.+evaluation.Goals.{expressions::choice-then-taken, expressions::choice-else-taken}

pub expressions::evaluate-returns-in-Number-clause-value : goal.expressions::evaluate-returns-in-Number-clause-value
expressions::evaluate-returns-in-Number-clause-value t c =
    of-form (setting_of c.args.scene.now) _ _ (scope_of c.args.scope.now) (state_of c.args.state.now) _ _ (c.in-Number.is)
    (form-Number _ _ _ _ _ c.number.ensures)

pub expressions::evaluate-returns-in-Sized-clause-value : goal.expressions::evaluate-returns-in-Sized-clause-value
expressions::evaluate-returns-in-Sized-clause-value t c =
    of-form (setting_of c.args.scene.now) _ _ (scope_of c.args.scope.now) (state_of c.args.state.now) _ _ (c.in-Sized.is)
    (form-Sized _ _ _ _ _ _ _ c.literal.ensures)

pub expressions::evaluate-returns-in-Text-clause-value : goal.expressions::evaluate-returns-in-Text-clause-value
expressions::evaluate-returns-in-Text-clause-value t c =
    of-form (setting_of c.args.scene.now) _ _ (scope_of c.args.scope.now) (state_of c.args.state.now) _ _ (c.in-Text.is)
    (form-Text _ _ _ _ _ c.text.ensures)

pub expressions::evaluate-returns-in-Flag-clause-value : goal.expressions::evaluate-returns-in-Flag-clause-value
expressions::evaluate-returns-in-Flag-clause-value t c =
    of-form (setting_of c.args.scene.now) _ _ (scope_of c.args.scope.now) (state_of c.args.state.now) _ _ (c.in-Flag.is)
    (form-Flag _ _ _ _ _ c.flag.ensures)

pub expressions::evaluate-returns-in-Word-clause-value : goal.expressions::evaluate-returns-in-Word-clause-value
expressions::evaluate-returns-in-Word-clause-value t c =
    of-form (setting_of c.args.scene.now) _ _ (scope_of c.args.scope.now) (state_of c.args.state.now) _ _ (c.in-Word.is)
    (form-Word _ _ _ _ _ c.word.ensures)

pub expressions::evaluate-returns-in-Member-clause-value : goal.expressions::evaluate-returns-in-Member-clause-value
expressions::evaluate-returns-in-Member-clause-value t c =
    of-form (setting_of c.args.scene.now) _ _ (scope_of c.args.scope.now) (state_of c.args.state.now) _ _ (c.in-Member.is)
    (form-Member _ _ _ _ _ _ c.member.ensures)

pub expressions::evaluate-returns-in-Unary-clause-value : goal.expressions::evaluate-returns-in-Unary-clause-value
expressions::evaluate-returns-in-Unary-clause-value t c =
    of-form (setting_of c.args.scene.now) _ _ (scope_of c.args.scope.now) (state_of c.args.state.now) _ _ (c.in-Unary.is ∙ ap (ex.Unary c.in-Unary.sign) (sym c.get.ensures))
    (form-Unary _ _ _ _ _ _ _ _ c.evaluate.ensures.value c.unary.ensures)

pub expressions::evaluate-returns-in-Binary-clause-value : goal.expressions::evaluate-returns-in-Binary-clause-value
expressions::evaluate-returns-in-Binary-clause-value t c =
    of-form (setting_of c.args.scene.now) _ _ (scope_of c.args.scope.now) (state_of c.args.state.now) _ _ (c.in-Binary.is ∙ ap (λ x. ex.Binary c.in-Binary.sign x c.in-Binary.right) (sym c.get-in-Binary.ensures)
    ∙ ap (ex.Binary c.in-Binary.sign c.get-in-Binary.result.now) (sym c.get-in-Binary-2.ensures))
    (form-Binary _ _ _ _ _ _ _ _ c.binary.ensures.value)

pub expressions::evaluate-returns-in-WideLeft-clause-value : goal.expressions::evaluate-returns-in-WideLeft-clause-value
expressions::evaluate-returns-in-WideLeft-clause-value t c =
    of-form (setting_of c.args.scene.now) _ _ (scope_of c.args.scope.now) (state_of c.args.state.now) _ _ (c.in-WideLeft.is ∙ ap (λ x. ex.WideLeft x c.in-WideLeft.by) (sym c.get-in-WideLeft.ensures))
    (form-WideLeft _ _ _ _ _ _ _ _ c.evaluate-in-WideLeft.ensures.value c.wide_left.ensures)

pub expressions::evaluate-returns-in-Choice-clause-value : goal.expressions::evaluate-returns-in-Choice-clause-value
expressions::evaluate-returns-in-Choice-clause-value t c =
    of-choice (setting_of c.args.scene.now) _ _ _ _ (scope_of c.args.scope.now) (state_of c.args.state.now) _ _
    (c.in-Choice.is ∙ ap (λ x. ex.Choice x c.in-Choice.yes c.in-Choice.no) (sym c.get-in-Choice.ensures)
    ∙ ap (λ x. ex.Choice c.get-in-Choice.result.now x c.in-Choice.no) (sym c.get-in-Choice-2.ensures)
    ∙ ap (ex.Choice c.get-in-Choice.result.now c.get-in-Choice-2.result.now) (sym c.get-in-Choice-3.ensures))
    c.choice.ensures.value

pub expressions::evaluate-returns-in-Join-clause-value : goal.expressions::evaluate-returns-in-Join-clause-value
expressions::evaluate-returns-in-Join-clause-value t c =
    of-form (setting_of c.args.scene.now) _ _ (scope_of c.args.scope.now) (state_of c.args.state.now) _ _ (c.in-Join.is ∙ ap ex.Join (sym c.as_slice.ensures))
    (form-Join _ _ _ _ _ _ c.join_parts.ensures.value)

pub expressions::evaluate-returns-in-Repeat-clause-value : goal.expressions::evaluate-returns-in-Repeat-clause-value
expressions::evaluate-returns-in-Repeat-clause-value t c =
    of-form (setting_of c.args.scene.now) _ _ (scope_of c.args.scope.now) (state_of c.args.state.now) _ _ (c.in-Repeat.is ∙ ap (ex.Repeat c.in-Repeat.times) (sym c.get-in-Repeat.ensures))
    (form-Repeat _ _ _ _ _ _ _ _ c.evaluate-in-Repeat.ensures.value c.repeat.ensures)

pub expressions::evaluate-returns-in-Index-clause-value : goal.expressions::evaluate-returns-in-Index-clause-value
expressions::evaluate-returns-in-Index-clause-value t c =
    of-form (setting_of c.args.scene.now) _ _ (scope_of c.args.scope.now) (state_of c.args.state.now) _ _ (c.in-Index.is ∙ ap (λ x. ex.Index x c.in-Index.at) (sym c.get-in-Index.ensures) ∙ ap (ex.Index c.get-in-Index.result.now) (sym c.get-in-Index-2.ensures))
    (form-Index _ _ _ _ _ _ _ c.index.ensures.value)

pub expressions::evaluate-returns-in-Slice-clause-value : goal.expressions::evaluate-returns-in-Slice-clause-value
expressions::evaluate-returns-in-Slice-clause-value t c =
    of-form (setting_of c.args.scene.now) _ _ (scope_of c.args.scope.now) (state_of c.args.state.now) _ _ (c.in-Slice.is ∙ ap (λ x. ex.Slice x c.in-Slice.high c.in-Slice.low) (sym c.get-in-Slice.ensures))
    (form-Slice _ _ _ _ _ _ _ _ _ c.evaluate-in-Slice.ensures.value c.slice.ensures)

pub expressions::evaluate-returns-in-Call-clause-value : goal.expressions::evaluate-returns-in-Call-clause-value
expressions::evaluate-returns-in-Call-clause-value t c =
    of-form (setting_of c.args.scene.now) _ _ (scope_of c.args.scope.now) (state_of c.args.state.now) _ _ (c.in-Call.is ∙ ap (ex.Call c.in-Call.name) (sym c.as_slice-in-Call.ensures))
    (form-Call _ _ _ _ _ _ _ _ c.call.ensures.value c.returned_value.ensures)

pub expressions::evaluate-returns-in-Signed-clause-value : goal.expressions::evaluate-returns-in-Signed-clause-value
expressions::evaluate-returns-in-Signed-clause-value t c =
    of-form (setting_of c.args.scene.now) _ _ (scope_of c.args.scope.now) (state_of c.args.state.now) _ _ (c.in-Signed.is ∙ ap ex.Signed (sym c.get-in-Signed.ensures))
    (form-Signed _ _ _ _ _ _ _ c.evaluate-in-Signed.ensures.value c.signed.ensures)

pub expressions::evaluate-returns-in-Resize-clause-value : goal.expressions::evaluate-returns-in-Resize-clause-value
expressions::evaluate-returns-in-Resize-clause-value t c =
    of-form (setting_of c.args.scene.now) _ _ (scope_of c.args.scope.now) (state_of c.args.state.now) _ _ (c.in-Resize.is ∙ ap (ex.Resize c.in-Resize.width) (sym c.get-in-Resize.ensures))
    (form-Resize _ _ _ _ _ _ _ _ c.evaluate-in-Resize.ensures.value c.resized.ensures)

pub expressions::evaluate-returns-in-Pc-clause-value : goal.expressions::evaluate-returns-in-Pc-clause-value
expressions::evaluate-returns-in-Pc-clause-value t c =
    of-form (setting_of c.args.scene.now) _ _ (scope_of c.args.scope.now) (state_of c.args.state.now) _ _ (c.in-Pc.is)
    (form-Pc _ _ _ _ c.pc.ensures)

pub expressions::evaluate-returns-in-Encoding-clause-value : goal.expressions::evaluate-returns-in-Encoding-clause-value
expressions::evaluate-returns-in-Encoding-clause-value t c =
    of-form (setting_of c.args.scene.now) _ _ (scope_of c.args.scope.now) (state_of c.args.state.now) _ _ (c.in-Encoding.is)
    (form-Encoding _ _ _ _ c.encoding.ensures)

pub expressions::evaluate-returns-in-Register-clause-value : goal.expressions::evaluate-returns-in-Register-clause-value
expressions::evaluate-returns-in-Register-clause-value t c =
    of-form (setting_of c.args.scene.now) _ _ (scope_of c.args.scope.now) (state_of c.args.state.now) _ _ (c.in-Register.is ∙ ap ex.Register (sym c.get-in-Register.ensures))
    (form-Register _ _ _ _ _ _ _ c.evaluate-at.ensures.value c.register.ensures)

pub expressions::evaluate-returns-in-Field-clause-value : goal.expressions::evaluate-returns-in-Field-clause-value
expressions::evaluate-returns-in-Field-clause-value t c =
    of-form (setting_of c.args.scene.now) _ _ (scope_of c.args.scope.now) (state_of c.args.state.now) _ _ (c.in-Field.is)
    (form-Field _ _ _ _ _ _ c.field_value.ensures)

pub expressions::evaluate-returns-in-SoftRead-clause-value : goal.expressions::evaluate-returns-in-SoftRead-clause-value
expressions::evaluate-returns-in-SoftRead-clause-value t c =
    of-form (setting_of c.args.scene.now) _ _ (scope_of c.args.scope.now) (state_of c.args.state.now) _ _ (c.in-SoftRead.is ∙ ap ex.SoftRead (sym c.get-in-SoftRead.ensures))
    (form-SoftRead _ _ _ _ _ _ _ c.addressed-one.ensures.value c.soft_read.ensures)

pub expressions::evaluate-returns-in-ReadMemory-clause-value : goal.expressions::evaluate-returns-in-ReadMemory-clause-value
expressions::evaluate-returns-in-ReadMemory-clause-value t c =
    of-form (setting_of c.args.scene.now) _ _ (scope_of c.args.scope.now) (state_of c.args.state.now) _ _ (c.in-ReadMemory.is ∙ ap (ex.ReadMemory c.in-ReadMemory.bits) (sym c.get-in-ReadMemory.ensures))
    (form-ReadMemory _ _ _ _ _ _ _ _ c.evaluate-at-in-ReadMemory.ensures.value c.read_memory.ensures)

pub expressions::evaluate-returns-in-NewField-clause-value : goal.expressions::evaluate-returns-in-NewField-clause-value
expressions::evaluate-returns-in-NewField-clause-value t c =
    of-form (setting_of c.args.scene.now) _ _ (scope_of c.args.scope.now) (state_of c.args.state.now) _ _ (c.in-NewField.is)
    (form-NewField _ _ _ _ _ c.new_field.ensures)

pub expressions::evaluate-returns-in-Mode-clause-value : goal.expressions::evaluate-returns-in-Mode-clause-value
expressions::evaluate-returns-in-Mode-clause-value t c =
    of-form (setting_of c.args.scene.now) _ _ (scope_of c.args.scope.now) (state_of c.args.state.now) _ _ (c.in-Mode.is)
    (form-Mode _ _ _ _ c.machine_mode.ensures)

pub expressions::evaluate-returns-in-Implemented-clause-value : goal.expressions::evaluate-returns-in-Implemented-clause-value
expressions::evaluate-returns-in-Implemented-clause-value t c =
    of-form (setting_of c.args.scene.now) _ _ (scope_of c.args.scope.now) (state_of c.args.state.now) _ _ (c.in-Implemented.is)
    (form-Implemented _ _ _ _ _ c.implemented.ensures)

pub expressions::evaluate-returns-in-ImplementedVersion-clause-value : goal.expressions::evaluate-returns-in-ImplementedVersion-clause-value
expressions::evaluate-returns-in-ImplementedVersion-clause-value t c =
    of-form (setting_of c.args.scene.now) _ _ (scope_of c.args.scope.now) (state_of c.args.state.now) _ _ (c.in-ImplementedVersion.is)
    (form-ImplementedVersion _ _ _ _ _ _ c.implemented_version.ensures)

pub statements::execute-returns-in-Declare-clause-value : goal.statements::execute-returns-in-Declare-clause-value
statements::execute-returns-in-Declare-clause-value t c =
    of-statement (setting_of c.args.scene.now) _ _ _ (scope_of c.args.scope.now.items) (state_of c.args.state.now) _ _ (c.in-Declare.is)
    (does-Declare _ _ _ _ _ _ _ _ _ _ c.declare_local.ensures.value c.nothing_returned.ensures)

pub statements::execute-returns-in-Assign-clause-value : goal.statements::execute-returns-in-Assign-clause-value
statements::execute-returns-in-Assign-clause-value t c =
    of-statement (setting_of c.args.scene.now) _ _ _ (scope_of c.args.scope.now.items) (state_of c.args.state.now) _ _ (c.in-Assign.is)
    (does-Assign _ _ _ _ _ _ _ _ _ c.assign.ensures.value c.nothing_returned-in-Assign.ensures)

pub statements::execute-returns-in-Block-clause-value : goal.statements::execute-returns-in-Block-clause-value
statements::execute-returns-in-Block-clause-value t c =
    of-statement (setting_of c.args.scene.now) _ _ _ (scope_of c.args.scope.now.items) (state_of c.args.state.now) _ _ (c.in-Block.is ∙ ap st.Block (sym c.as_slice.ensures))
    (does-Block _ _ _ _ _ _ _ c.block.ensures.value)

pub statements::execute-returns-in-If-clause-value : goal.statements::execute-returns-in-If-clause-value
statements::execute-returns-in-If-clause-value t c =
    of-statement (setting_of c.args.scene.now) _ _ _ (scope_of c.args.scope.now.items) (state_of c.args.state.now) _ _ (c.in-If.is ∙ ap (λ x. st.If c.in-If.test x c.in-If.no) (sym c.as_slice-in-If.ensures))
    (does-If _ _ _ _ _ _ _ _ _ c.branch-alloc.ensures.value)

pub statements::execute-returns-in-For-clause-value : goal.statements::execute-returns-in-For-clause-value
statements::execute-returns-in-For-clause-value t c =
    of-statement (setting_of c.args.scene.now) _ _ _ (scope_of c.args.scope.now.items) (state_of c.args.state.now) _ _ (c.in-For.is ∙ ap (st.For c.in-For.name c.in-For.from c.in-For.to) (sym c.as_slice-in-For.ensures))
    (does-For _ _ _ _ _ _ _ _ _ _ c.for_each.ensures.value)

pub statements::execute-returns-in-Return-clause-value : goal.statements::execute-returns-in-Return-clause-value
statements::execute-returns-in-Return-clause-value t c =
    of-statement (setting_of c.args.scene.now) _ _ _ (scope_of c.args.scope.now.items) (state_of c.args.state.now) _ _ (c.in-Return.is)
    (does-Return (setting_of c.args.scene.now) c.in-Return.value c.args.scope.now.items _ _ _ _ (subst (λ (scope : List Local). Gives (mean_expr (setting_of c.args.scene.now) c.in-Return.value (scope_of scope) (state_of c.args.state.now)) c.evaluate.result (state_of c.evaluate.new.state)) c.as_slice-in-Return.ensures.value c.evaluate.ensures.value) c.returned.ensures)

pub statements::execute-returns-in-Jump-clause-value : goal.statements::execute-returns-in-Jump-clause-value
statements::execute-returns-in-Jump-clause-value t c =
    of-statement (setting_of c.args.scene.now) _ _ _ (scope_of c.args.scope.now.items) (state_of c.args.state.now) _ _ (c.in-Jump.is)
    (does-Jump (setting_of c.args.scene.now) c.in-Jump.to c.args.scope.now.items _ _ _ _ _ _ (subst (λ (scope : List Local). Gives (mean_expr (setting_of c.args.scene.now) c.in-Jump.to (scope_of scope) (state_of c.args.state.now)) c.evaluate-to.result (state_of c.evaluate-to.new.state)) c.as_slice-in-Jump.ensures.value c.evaluate-to.ensures.value) c.jump.ensures.value c.nothing_returned-in-Jump.ensures)

pub statements::execute-returns-in-Raise-clause-value : goal.statements::execute-returns-in-Raise-clause-value
statements::execute-returns-in-Raise-clause-value t c =
    of-statement (setting_of c.args.scene.now) _ _ _ (scope_of c.args.scope.now.items) (state_of c.args.state.now) _ _ (c.in-Raise.is)
    (does-Raise (setting_of c.args.scene.now) c.in-Raise.code c.in-Raise.tval c.args.scope.now.items c.args.scope.now.items _ _ _ _
    (subst (λ (scope : List Local). Ends (going_on scope) (raise_change (setting_of c.args.scene.now) c.in-Raise.code c.in-Raise.tval (scope_of scope) (state_of c.args.state.now)) c.raise_exception.result (state_of c.raise_exception.new.state)) c.as_slice-in-Raise.ensures.value c.raise_exception.ensures.value) c.nothing_returned-in-Raise.ensures)

pub statements::execute-returns-in-WriteMemory-clause-value : goal.statements::execute-returns-in-WriteMemory-clause-value
statements::execute-returns-in-WriteMemory-clause-value t c =
    of-statement (setting_of c.args.scene.now) _ _ _ (scope_of c.args.scope.now.items) (state_of c.args.state.now) _ _ (c.in-WriteMemory.is)
    (does-WriteMemory (setting_of c.args.scene.now) c.in-WriteMemory.bits c.in-WriteMemory.at c.in-WriteMemory.value c.args.scope.now.items c.args.scope.now.items _ _ _ _
    (subst (λ (scope : List Local). Ends (going_on scope) (store_change (setting_of c.args.scene.now) c.in-WriteMemory.bits c.in-WriteMemory.at c.in-WriteMemory.value (scope_of scope) (state_of c.args.state.now)) c.store.result (state_of c.store.new.state)) c.as_slice-in-WriteMemory.ensures.value c.store.ensures.value) c.nothing_returned-in-WriteMemory.ensures)

pub statements::execute-returns-in-SoftWrite-clause-value : goal.statements::execute-returns-in-SoftWrite-clause-value
statements::execute-returns-in-SoftWrite-clause-value t c =
    of-statement (setting_of c.args.scene.now) _ _ _ (scope_of c.args.scope.now.items) (state_of c.args.state.now) _ _ (c.in-SoftWrite.is)
    (does-SoftWrite (setting_of c.args.scene.now) c.in-SoftWrite.address c.in-SoftWrite.value c.args.scope.now.items c.args.scope.now.items _ _ _ _
    (subst (λ (scope : List Local). Ends (going_on scope) (soft_write_change (setting_of c.args.scene.now) c.in-SoftWrite.address c.in-SoftWrite.value (scope_of scope) (state_of c.args.state.now)) c.soft_write.result (state_of c.soft_write.new.state)) c.as_slice-in-SoftWrite.ensures.value c.soft_write.ensures.value) c.nothing_returned-in-SoftWrite.ensures)

pub statements::execute-returns-in-Call-clause-value : goal.statements::execute-returns-in-Call-clause-value
statements::execute-returns-in-Call-clause-value t c =
    of-statement (setting_of c.args.scene.now) _ _ _ (scope_of c.args.scope.now.items) (state_of c.args.state.now) _ _ (c.in-Call.is ∙ ap (st.Call c.in-Call.name) (sym c.as_slice-in-Call-2.ensures))
    (does-Call (setting_of c.args.scene.now) c.in-Call.name c.as_slice-in-Call-2.result.now c.args.scope.now.items _ _ _ _
    (subst (λ (scope : List Local). Ends value_if_any (forms.call (setting_of c.args.scene.now) c.in-Call.name (map (mean_expr (setting_of c.args.scene.now)) c.as_slice-in-Call-2.result.now) (scope_of scope) (state_of c.args.state.now)) c.call.result (state_of c.call.new.state)) c.as_slice-in-Call.ensures.value c.call.ensures.value) c.without_value.ensures)

pub calls::call-returns-in_err-place-clause-value : goal.calls::call-returns-in_err-place-clause-value
calls::call-returns-in_err-place-clause-value t c =
    let p = err_from_is_err_and c.from_residual-in_err-place.result c.from_residual-in_err-place.ensures.1 in
    call-missing c.args.scene.now c.args.name.now (map (mean_expr (setting_of c.args.scene.now)) c.args.args.now) (scope_of c.args.scope.now) (state_of c.args.state.now) (state_of c.values.new.state) (values_of c.in_ok-values.values.items)
    c.function_place.result c.in_err-place.field-0.0 c.from_residual-in_err-place.result c.in_ok-values.ensures.value c.function_place.ensures.value
    (sym c.required.ensures ∙ c.in_err-place.was) (p.1 ∙ ap Err p.2)

pub calls::call-returns-clause-value : goal.calls::call-returns-clause-value
calls::call-returns-clause-value t c =
    let b = c.under-below.ensures in
    call-ends c.args.scene.now c.under-below.result c.args.name.now (map (mean_expr (setting_of c.args.scene.now)) c.args.args.now) (scope_of c.args.scope.now) (state_of c.args.state.now) (state_of c.values.new.state) (state_of c.run_function.new.state)
    c.in_ok-values.values.items c.as_slice.result.now c.function_place.result c.in_ok-place.place c.index-scene-place.result c.run_function.result
    c.in_ok-values.ensures.value c.function_place.ensures.value (sym c.required.ensures ∙ c.in_ok-place.was) c.index-scene-place.is
    (setting-under c.args.scene.now c.under-below.result (take c.in_ok-place.place c.args.scene.now.functions.now) b.space b.full b.program b.functions b.loud b.variables b.written)
    c.as_slice.ensures.value
    (subst (λ (f : Function). Ends value_if_any (programs.run_function (setting_of c.under-below.result) f f.body.statements (map as_value c.as_slice.result.now) (state_of c.values.new.state)) c.run_function.result (state_of c.run_function.new.state)) (sym c.index-scene-place.is) c.run_function.ensures.value)

pub calls::run_function-returns-in_err-scope-clause-value : goal.calls::run_function-returns-in_err-scope-clause-value
calls::run_function-returns-in_err-scope-clause-value t c =
    let e = setting_of c.args.scene.now in
    let f = c.args.function.now in
    let s = state_of c.args.state.now in
    let vs = map as_value c.args.values.now in
    let p = err_from_is_err_and c.from_residual-in_err-scope.result c.from_residual-in_err-scope.ensures.1 in
    let next = (λ (scope : Scope) (z : State). and_then (programs.run_stmts e f.body.statements scope z) (programs.result e f.result)) in
    let h = subst (λ (args : List Argument). Ends (λ (v : Vec Local Global). scope_of v.items) (programs.arguments e args vs [] s) (Err c.in_err-scope.field-0.0) s) c.as_slice.ensures (c.in_err-scope.ensures s) in
    ends-same value_if_any (programs.run_function e f f.body.statements vs s) (and_then (programs.arguments e f.arguments vs [] s) next) c.from_residual-in_err-scope.result (Err c.in_err-scope.field-0.0) s
    refl (p.1 ∙ ap Err p.2)
    (early (λ (v : Vec Local Global). scope_of v.items) value_if_any (programs.arguments e f.arguments vs [] s) next c.in_err-scope.field-0.0 s h)

pub calls::run_function-returns-clause-value : goal.calls::run_function-returns-clause-value
calls::run_function-returns-clause-value t c =
    let e = setting_of c.args.scene.now in
    let f = c.args.function.now in
    let s = state_of c.args.state.now in
    let locals = c.in_ok-scope.scope.items in
    let args = subst (λ (args : List Argument). programs.arguments e args (map as_value c.args.values.now) [] s ≡ done (scope_of locals) s) c.as_slice.ensures (c.in_ok-scope.ensures s) in
    let body = subst (λ (stmts : List Stmt). Ends (flow_of c.execute_all.new.scope.items) (mean_stmts e stmts (scope_of locals) s) (Ok c.in_ok-returned.returned) (state_of c.execute_all.new.state)) c.as_slice-stmts.ensures c.in_ok-returned.ensures.value in
    function-ends e f (map as_value c.args.values.now) locals c.execute_all.new.scope.items s (state_of c.execute_all.new.state) c.in_ok-returned.returned c.result.result args body c.result.ensures

pub expressions::addressed-returns-in_err-one-clause-value : goal.expressions::addressed-returns-in_err-one-clause-value
expressions::addressed-returns-in_err-one-clause-value t c =
    let p = err_from_is_err_and c.from_residual-in_err-one.result c.from_residual-in_err-one.ensures.1 in
    address-stops c.args.scene.now c.args.address.now (mean_expr (setting_of c.args.scene.now) c.args.address.now) (scope_of c.args.scope.now) (state_of c.args.state.now) c.in_err-one.field-0.0 c.from_residual-in_err-one.result c.if-not-scene.false c.in_err-one.ensures.value (p.1 ∙ ap Err p.2)

pub expressions::addressed-returns-in-Some-clause-value : goal.expressions::addressed-returns-in-Some-clause-value
expressions::addressed-returns-in-Some-clause-value t c =
    let found = subst (λ r. Finds (option_map addressed_of) (word_step (setting_of c.args.scene.now) (forms.csr_word (setting_of c.args.scene.now) (scope_of c.args.scope.now) c.args.address.now)) (Ok r)) c.in-Some.is c.in_ok-one.ensures.value in
    address-found c.args.scene.now c.args.address.now (mean_expr (setting_of c.args.scene.now) c.args.address.now) (scope_of c.args.scope.now) (state_of c.args.state.now) c.in-Some.one c.if-not-scene.false found

pub expressions::addressed-returns-clause-value : goal.expressions::addressed-returns-clause-value
expressions::addressed-returns-clause-value t c =
    let found = subst (λ r. Finds (option_map addressed_of) (word_step (setting_of c.args.scene.now) (forms.csr_word (setting_of c.args.scene.now) (scope_of c.args.scope.now) c.args.address.now)) (Ok r)) c.in_default.is c.in_ok-one.ensures.value in
    address-read c.args.scene.now c.args.address.now (mean_expr (setting_of c.args.scene.now) c.args.address.now) (scope_of c.args.scope.now) (state_of c.args.state.now) (state_of c.evaluate.new.state) c.evaluate.result c.csr_at.result c.if-not-scene.false found c.evaluate.ensures.value c.csr_at.ensures.value

pub expressions::binary-returns-in_err-value-clause-value : goal.expressions::binary-returns-in_err-value-clause-value
expressions::binary-returns-in_err-value-clause-value t c =
    let p = err_from_is_err_and c.from_residual-in_err-value.result c.from_residual-in_err-value.ensures.1 in
    left-stops c.args.sign (mean_expr (setting_of c.args.scene.now) c.args.left.now) (mean_expr (setting_of c.args.scene.now) c.args.right.now) (scope_of c.args.scope.now) (state_of c.args.state.now) (state_of c.evaluate.new.state) (as_value c.in_ok-first.first) c.in_err-value.field-0.0 c.from_residual-in_err-value.result c.in_ok-first.ensures.value c.in_err-value.ensures (p.1 ∙ ap Err p.2)

pub expressions::binary-returns-in-Some-clause-value : goal.expressions::binary-returns-in-Some-clause-value
expressions::binary-returns-in-Some-clause-value t c =
    let known = subst (λ r. Finds (λ (k : Option Bool). k) (left_step c.args.sign (as_value c.in_ok-first.first)) (Ok r)) c.in-Some.is c.in_ok-value.ensures in
    left-settles c.args.sign (mean_expr (setting_of c.args.scene.now) c.args.left.now) (mean_expr (setting_of c.args.scene.now) c.args.right.now) (scope_of c.args.scope.now) (state_of c.args.state.now) (state_of c.evaluate.new.state) (as_value c.in_ok-first.first) c.in-Some.value c.flag.result c.in_ok-first.ensures.value known c.flag.ensures

pub expressions::binary-returns-clause-value : goal.expressions::binary-returns-clause-value
expressions::binary-returns-clause-value t c =
    let left-open = subst (λ r. Finds (λ (k : Option Bool). k) (left_step c.args.sign (as_value c.in_ok-first.first)) (Ok r)) c.in_default.is c.in_ok-value.ensures in
    right-counts c.args.sign (mean_expr (setting_of c.args.scene.now) c.args.left.now) (mean_expr (setting_of c.args.scene.now) c.args.right.now) (scope_of c.args.scope.now) (state_of c.args.state.now) (state_of c.evaluate.new.state) (state_of c.evaluate-2.new.state) (as_value c.in_ok-first.first) c.evaluate-2.result c.with_right.result
    c.in_ok-first.ensures.value left-open c.evaluate-2.ensures.value c.with_right.ensures

pub expressions::choice-returns-clause-value : goal.expressions::choice-returns-clause-value
expressions::choice-returns-clause-value t c =
    let e = setting_of c.args.scene.now in
    let scope = scope_of c.args.scope.now in
    let s = state_of c.args.state.now in
    let r = state_of c.evaluate.new.state in
    let side = c.if-taken.side.now in
    let both = (λ (x : Bool). if x then mean_expr e c.args.yes.now scope r else mean_expr e c.args.no.now scope r) in
    let next = forms.in_kind e (shape (names_of e scope) c.args.expr.now) in
    let test = c.in_ok-taken.ensures r (mean_expr e c.args.test.now scope s) c.evaluate.ensures.value in
    let taken : both c.in_ok-taken.taken ≡ mean_expr e side scope r =
    elim c.if-taken.branch [
      | expressions::choice-then-taken w ↦ ap both w.if-taken.true ∙ ap (λ (x : Expr). mean_expr e x scope r) (ap (λ y. y.now) (sym w.side-is))
      | expressions::choice-else-taken w ↦ ap both w.if-taken.false ∙ ap (λ (x : Expr). mean_expr e x scope r) (ap (λ y. y.now) (sym w.side-is))
    ] in
    ends-same as_value (choice_reading e c.args.expr.now (mean_expr e c.args.test.now) (mean_expr e c.args.yes.now) (mean_expr e c.args.no.now) scope s) (and_then (mean_expr e side scope r) next) c.chosen.result c.chosen.result (state_of c.evaluate-value.new.state)
    (flag-given (mean_expr e c.args.test.now scope s) (λ x z. and_then (if x then mean_expr e c.args.yes.now scope z else mean_expr e c.args.no.now scope z) next) c.in_ok-taken.taken r test
    ∙ ap (λ (o : Outcome meant.Value). and_then o next) taken) refl
    (c.chosen.ensures (state_of c.evaluate-value.new.state) (mean_expr e side scope r) c.evaluate-value.ensures.value)

pub expressions::join_parts-returns-in_err-bits-clause-value : goal.expressions::join_parts-returns-in_err-bits-clause-value
expressions::join_parts-returns-in_err-bits-clause-value t c =
    let m = mean_expr (setting_of c.args.scene.now) in
    let p = err_from_is_err_and c.from_residual-in_err-bits.result c.from_residual-in_err-bits.ensures.1 in
    let i = c.loop-part.part-index in
    let inside : i < length c.args.parts.now = omega arith in
    let opened = opened-at c.args.parts.now i c.part-item.result inside c.part-item.is in
    ends-same as_value (forms.joined (map m c.args.parts.now) (scope_of c.args.scope.now) (state_of c.args.state.now)) (bits_behind c.loop-part.all.items (m c.part-item.result ∷ map m (drop (i + 1) c.args.parts.now)) (scope_of c.args.scope.now) (state_of c.loop-part.state))
    c.from_residual-in_err-bits.result (Err c.in_err-bits.field-0.0) (state_of c.evaluate.new.state)
    (c.loop-part.invariant.0 ∙ ap (λ (xs : List Expr). bits_behind c.loop-part.all.items (map m xs) (scope_of c.args.scope.now) (state_of c.loop-part.state)) opened) (p.1 ∙ ap Err p.2)
    (bits-stop c.loop-part.all.items (m c.part-item.result) (map m (drop (i + 1) c.args.parts.now)) (scope_of c.args.scope.now) c.in_err-bits.field-0.0 (state_of c.loop-part.state) (state_of c.evaluate.new.state)
    (c.in_err-bits.ensures (state_of c.evaluate.new.state) (m c.part-item.result (scope_of c.args.scope.now) (state_of c.loop-part.state)) c.evaluate.ensures.value))

pub expressions::join_parts-loop-part-preserved : goal.expressions::join_parts-loop-part-preserved
expressions::join_parts-loop-part-preserved t c =
    let m = mean_expr (setting_of c.args.scene.now) in
    let i = c.loop-part.part-index in
    let inside : i < length c.args.parts.now = omega arith in
    let opened = opened-at c.args.parts.now i c.part-item.result inside c.part-item.is in
    let rest = map m (drop (i + 1) c.args.parts.now) in (
      c.loop-part.invariant.0 ∙ ap (λ (xs : List Expr). bits_behind c.loop-part.all.items (map m xs) (scope_of c.args.scope.now) (state_of c.loop-part.state)) opened
          ∙ bits-more c.loop-part.all.items (m c.part-item.result) rest c.in_ok-bits.bits (scope_of c.args.scope.now) (state_of c.loop-part.state) (state_of c.evaluate.new.state)
          (c.in_ok-bits.ensures (state_of c.evaluate.new.state) (m c.part-item.result (scope_of c.args.scope.now) (state_of c.loop-part.state)) c.evaluate.ensures.value)
          ∙ ap (λ vs. bits_behind vs rest (scope_of c.args.scope.now) (state_of c.evaluate.new.state)) (sym c.in_ok-push.ensures.items),
      keeps-then c.args.scene.now (state_of c.args.state.now) (state_of c.loop-part.state) (state_of c.evaluate.new.state) c.loop-part.invariant.1 c.evaluate.ensures.kept,
    )

pub expressions::join_parts-returns-clause-value : goal.expressions::join_parts-returns-clause-value
expressions::join_parts-returns-clause-value t c =
    let m = mean_expr (setting_of c.args.scene.now) in
    let s = state_of c.loop-part.state in
    let over : drop c.loop-part.part-index c.args.parts.now ≡ [] = drop_of_length-le c.args.parts.now (omega arith) in
    ends-same as_value (forms.joined (map m c.args.parts.now) (scope_of c.args.scope.now) (state_of c.args.state.now)) (side_by_side c.as_slice.result.now s) c.join.result c.join.result s
    (c.loop-part.invariant.0 ∙ ap (λ (xs : List Expr). bits_behind c.loop-part.all.items (map m xs) (scope_of c.args.scope.now) s) over ∙ bits-all c.loop-part.all.items (scope_of c.args.scope.now) s
    ∙ ap (λ vs. side_by_side vs s) (sym c.as_slice.ensures.value)) refl (c.join.ensures s)

pub statements::assign-returns-in-Word-clause-value : goal.statements::assign-returns-in-Word-clause-value
statements::assign-returns-in-Word-clause-value t c =
    assign-word (setting_of c.args.scene.now) c.args.target.now c.args.value.now c.args.scope.now.items c.as_slice.result.now c.as_mut_slice.result.now c.set_word.new.scope
    (take c.args.scope.now.len (c.set_word.new.scope ++ drop (length c.set_word.new.scope) c.args.scope.now.items)) (state_of c.args.state.now) (state_of c.evaluate-value.new.state) c.evaluate-value.result c.set_word.result
    c.as_slice.ensures.value c.as_mut_slice.ensures.value (written-back c.args.scope.now.len c.set_word.new.scope c.args.scope.now.items (omega arith) (omega arith)) c.in-Word.name c.in-Word.is c.evaluate-value.ensures.value c.set_word.ensures

pub statements::assign-returns-in_ok-at-in-Bit-clause-value : goal.statements::assign-returns-in_ok-at-in-Bit-clause-value
statements::assign-returns-in_ok-at-in-Bit-clause-value t c =
    assign-bit (setting_of c.args.scene.now) c.args.target.now c.args.value.now c.args.scope.now.items c.as_slice-in-Bit-2.result.now c.as_mut_slice-in-Bit.result.now c.set_bit.new.scope
    (take c.args.scope.now.len (c.set_bit.new.scope ++ drop (length c.set_bit.new.scope) c.args.scope.now.items)) (state_of c.evaluate.new.state) (state_of c.evaluate-value-in-Bit.new.state) c.evaluate-value-in-Bit.result c.set_bit.result
    c.as_slice-in-Bit-2.ensures.value c.as_mut_slice-in-Bit.ensures.value (written-back c.args.scope.now.len c.set_bit.new.scope c.args.scope.now.items (omega arith) (omega arith))
    c.in-Bit.name c.in-Bit.at c.as_slice-in-Bit.result.now c.in_ok-at-in-Bit.at (state_of c.args.state.now) c.in-Bit.is c.as_slice-in-Bit.ensures.value
    (c.in_ok-at-in-Bit.ensures (state_of c.evaluate.new.state) (mean_expr (setting_of c.args.scene.now) c.in-Bit.at (scope_of c.as_slice-in-Bit.result.now) (state_of c.args.state.now)) c.evaluate.ensures.value) c.evaluate-value-in-Bit.ensures.value c.set_bit.ensures

pub statements::assign-returns-in-Slice-clause-value : goal.statements::assign-returns-in-Slice-clause-value
statements::assign-returns-in-Slice-clause-value t c =
    assign-slice (setting_of c.args.scene.now) c.args.target.now c.args.value.now c.args.scope.now.items c.as_slice-in-Slice.result.now c.as_mut_slice-in-Slice.result.now c.set_slice.new.scope
    (take c.args.scope.now.len (c.set_slice.new.scope ++ drop (length c.set_slice.new.scope) c.args.scope.now.items)) (state_of c.args.state.now) (state_of c.evaluate-value-in-Slice.new.state) c.evaluate-value-in-Slice.result c.set_slice.result
    c.as_slice-in-Slice.ensures.value c.as_mut_slice-in-Slice.ensures.value (written-back c.args.scope.now.len c.set_slice.new.scope c.args.scope.now.items (omega arith) (omega arith)) c.in-Slice.name c.in-Slice.high c.in-Slice.low c.in-Slice.is c.evaluate-value-in-Slice.ensures.value c.set_slice.ensures

pub statements::assign-returns-in_ok-at-in-Register-clause-value : goal.statements::assign-returns-in_ok-at-in-Register-clause-value
statements::assign-returns-in_ok-at-in-Register-clause-value t c =
    assign-register (setting_of c.args.scene.now) c.args.target.now c.args.value.now c.in-Register.at c.args.scope.now.items c.as_slice-in-Register.result.now c.as_slice-in-Register-2.result.now c.in_ok-at-in-Register.at
    (state_of c.args.state.now) (state_of c.evaluate-in-Register.new.state) (state_of c.evaluate-value-in-Register.new.state) (state_of c.set_register.new.state) c.evaluate-value-in-Register.result c.set_register.result
    c.in-Register.is c.as_slice-in-Register.ensures.value c.as_slice-in-Register-2.ensures.value
    (c.in_ok-at-in-Register.ensures (state_of c.evaluate-in-Register.new.state) (mean_expr (setting_of c.args.scene.now) c.in-Register.at (scope_of c.as_slice-in-Register.result.now) (state_of c.args.state.now)) c.evaluate-in-Register.ensures.value)
    c.evaluate-value-in-Register.ensures.value c.set_register.ensures.value

pub statements::block-returns-clause-value : goal.statements::block-returns-clause-value
statements::block-returns-clause-value t c =
    block-ends (map (mean_stmt (setting_of c.args.scene.now)) c.args.stmts.now) c.args.scope.now.items c.execute_all.new.scope.items c.truncate.new.self.items c.in_ok-returned.returned c.len-count.result (state_of c.args.state.now) (state_of c.execute_all.new.state)
    (c.len-count.ensures ∙ c.args.scope.now.ok.0) c.truncate.ensures.items c.in_ok-returned.ensures.value

pub statements::turn-returns-clause-value : goal.statements::turn-returns-clause-value
statements::turn-returns-clause-value t c =
    turn-ends c.args.name.now (map (mean_stmt (setting_of c.args.scene.now)) c.args.stmts.now) c.args.counter c.args.scope.now.items c.declare.new.scope.items c.execute_all.new.scope.items c.truncate.new.self.items c.in_ok-returned.returned c.len-count.result (state_of c.args.state.now) (state_of c.execute_all.new.state)
    (c.len-count.ensures ∙ c.args.scope.now.ok.0) (c.in_ok-declare.ensures ∙ ap (λ b. declared (scope_of c.args.scope.now.items) c.args.name.now (meant.bits b)) (c.new.ensures ∙ ap (λ n. record { width = 32; signed = false; pattern = n }) c.from.ensures)) c.truncate.ensures.items c.in_ok-returned.ensures.value

pub statements::turns-returns-in_err-value-clause-value : goal.statements::turns-returns-in_err-value-clause-value
statements::turns-returns-in_err-value-clause-value t c =
    let p = err_from_is_err_and c.from_residual-in_err-value.result c.from_residual-in_err-value.ensures.1 in
    let f = flow_of c.turn.new.scope.items in
    let whole = turns c.args.name.now (map (mean_stmt (setting_of c.args.scene.now)) c.args.stmts.now) (c.args.high - c.args.low) c.args.low (scope_of c.args.scope.now.items) (state_of c.args.state.now) in
    let left = turns c.args.name.now (map (mean_stmt (setting_of c.args.scene.now)) c.args.stmts.now) (c.args.high - c.loop-counter.counter) c.loop-counter.counter (scope_of c.loop-counter.scope.items) (state_of c.loop-counter.state) in
    ends-same f whole left c.from_residual-in_err-value.result (Err c.in_err-value.field-0.0) (state_of c.turn.new.state) c.loop-counter.invariant.0 (p.1 ∙ ap Err p.2)
    (turns-stop f c.args.name.now (map (mean_stmt (setting_of c.args.scene.now)) c.args.stmts.now) c.args.high c.loop-counter.counter (scope_of c.loop-counter.scope.items) f c.in_err-value.field-0.0 (state_of c.loop-counter.state) (state_of c.turn.new.state) (omega arith) c.in_err-value.ensures.value)

pub statements::turns-returns-in-Some-clause-value : goal.statements::turns-returns-in-Some-clause-value
statements::turns-returns-in-Some-clause-value t c =
    let here = subst (λ r. one_turn c.args.name.now (map (mean_stmt (setting_of c.args.scene.now)) c.args.stmts.now) c.loop-counter.counter (scope_of c.loop-counter.scope.items) (state_of c.loop-counter.state) ≡ done (flow_of c.turn.new.scope.items r) (state_of c.turn.new.state)) c.in-Some.is c.in_ok-value.ensures.value in
    c.loop-counter.invariant.0 ∙ turns-return c.args.name.now (map (mean_stmt (setting_of c.args.scene.now)) c.args.stmts.now) c.args.high c.loop-counter.counter (scope_of c.loop-counter.scope.items) (as_value c.in-Some.value) (state_of c.loop-counter.state) (state_of c.turn.new.state) (omega arith) here

pub statements::turns-loop-counter-preserved : goal.statements::turns-loop-counter-preserved
statements::turns-loop-counter-preserved t c =
    let here = subst (λ r. one_turn c.args.name.now (map (mean_stmt (setting_of c.args.scene.now)) c.args.stmts.now) c.loop-counter.counter (scope_of c.loop-counter.scope.items) (state_of c.loop-counter.state) ≡ done (flow_of c.turn.new.scope.items r) (state_of c.turn.new.state)) c.in_default.is c.in_ok-value.ensures.value in (
      c.loop-counter.invariant.0 ∙ turns-go-on c.args.name.now (map (mean_stmt (setting_of c.args.scene.now)) c.args.stmts.now) c.args.high c.loop-counter.counter (scope_of c.loop-counter.scope.items) (scope_of c.turn.new.scope.items) (state_of c.loop-counter.state) (state_of c.turn.new.state) (omega arith) here,
      keeps-then c.args.scene.now (state_of c.args.state.now) (state_of c.loop-counter.state) (state_of c.turn.new.state) c.loop-counter.invariant.1 c.turn.ensures.kept,
    )

pub statements::raise_exception-returns-clause-value : goal.statements::raise_exception-returns-clause-value
statements::raise_exception-returns-clause-value t c =
    raises (setting_of c.args.scene.now) c.args.code.now c.args.tval.now c.args.scope.now (state_of c.args.state.now) (state_of c.evaluate.new.state) (state_of c.evaluate-tval.new.state) c.in_ok-code.code c.evaluate-tval.result c.raise.result
    c.in_ok-code.ensures.value c.evaluate-tval.ensures.value c.raise.ensures

pub statements::store-returns-clause-value : goal.statements::store-returns-clause-value
statements::store-returns-clause-value t c =
    stores (setting_of c.args.scene.now) c.args.bits c.args.at.now c.args.value.now c.args.scope.now (state_of c.args.state.now) (state_of c.evaluate.new.state) (state_of c.evaluate-value.new.state) (state_of c.write_memory.new.state) c.in_ok-at.at c.evaluate-value.result c.write_memory.result
    (c.in_ok-at.ensures (state_of c.evaluate.new.state) (mean_expr (setting_of c.args.scene.now) c.args.at.now (scope_of c.args.scope.now) (state_of c.args.state.now)) c.evaluate.ensures.value) c.evaluate-value.ensures.value c.write_memory.ensures.value

pub writes::field_result-returns-in-Ok : goal.writes::field_result-returns-in-Ok
writes::field_result-returns-in-Ok t c =
    field-returns c.args.scene.now.space.now c.args.scene.now.full.now c.args.scene.now.program.now (option_map new_number c.args.written) (setting_of c.quiet-quiet.result) c.args.body.now c.as_slice-stmts.result.now c.new-scope.result.items c.execute_all.new.scope.items (state_of c.args.state.now) (state_of c.in_ok-copy.copy) (state_of c.execute_all.new.state)
    (setting-quiet c.args.scene.now c.quiet-quiet.result c.args.written c.quiet-quiet.ensures.space c.quiet-quiet.ensures.full c.quiet-quiet.ensures.program c.quiet-quiet.ensures.functions c.quiet-quiet.ensures.loud c.quiet-quiet.ensures.variables c.quiet-quiet.ensures.written) c.as_slice-stmts.ensures c.new-scope.ensures.items (ap state_of c.in_ok-copy.ensures) c.in-Ok.returned c.in-Ok.ensures.value

pub writes::field_result-returns : goal.writes::field_result-returns
writes::field_result-returns t c =
    field-stops c.args.scene.now.space.now c.args.scene.now.full.now c.args.scene.now.program.now (option_map new_number c.args.written) (setting_of c.quiet-quiet.result) c.args.body.now c.as_slice-stmts.result.now c.new-scope.result.items c.execute_all.new.scope.items (state_of c.args.state.now) (state_of c.in_ok-copy.copy) (state_of c.execute_all.new.state)
    (setting-quiet c.args.scene.now c.quiet-quiet.result c.args.written c.quiet-quiet.ensures.space c.quiet-quiet.ensures.full c.quiet-quiet.ensures.program c.quiet-quiet.ensures.functions c.quiet-quiet.ensures.loud c.quiet-quiet.ensures.variables c.quiet-quiet.ensures.written) c.as_slice-stmts.ensures c.new-scope.ensures.items (ap state_of c.in_ok-copy.ensures) c.in-Err.stop c.unless_memory.result c.in-Err.ensures.value
    (c.unless_memory.ensures (programs.run_stmts (setting_of c.quiet-quiet.result) c.as_slice-stmts.result.now (scope_of c.new-scope.result.items) (state_of c.in_ok-copy.copy)) (state_of c.execute_all.new.state)
    (body-ends (setting_of c.quiet-quiet.result) c.as_slice-stmts.result.now (scope_of c.new-scope.result.items) c.execute_all.new.scope.items (state_of c.in_ok-copy.copy) (state_of c.execute_all.new.state) (Err c.in-Err.stop) c.in-Err.ensures.value))

pub writes::field_type-field_result-requires : goal.writes::field_type-field_result-requires
writes::field_type-field_result-requires t c =
    (omega (arith, c.decreases, c.in_ok-depth.ensures.less), (c.requires.ready, subst (λ (s : State). IsSound c.args.scene.now.space.now c.args.scene.now.full.now c.args.scene.now.program.now s) (sym c.in_ok-blank-in-Computed.ensures) (blank-sound c.args.scene.now.space.now c.args.scene.now.full.now c.args.scene.now.program.now)))

pub writes::field_type-returns-in-Plain : goal.writes::field_type-returns-in-Plain
writes::field_type-returns-in-Plain t c =
    plain-type c.args.scene.now.space.now c.args.scene.now.full.now c.args.scene.now.program.now (placed_of c.args.placed) c.in-Plain.kind c.in-Plain.is

pub writes::field_type-returns-in_ok-field_result-in-Computed : goal.writes::field_type-returns-in_ok-field_result-in-Computed
writes::field_type-returns-in_ok-field_result-in-Computed t c =
    computed-type c.args.scene.now.space.now c.args.scene.now.full.now c.args.scene.now.program.now (placed_of c.args.placed) c.in-Computed.body (state_of c.in_ok-blank-in-Computed.blank) c.in_ok-field_result-in-Computed.field-0 c.type_of_value.result c.in-Computed.is
    c.in_ok-blank-in-Computed.ensures c.in_ok-field_result-in-Computed.ensures c.type_of_value.ensures

pub writes::write_csr-write_field-requires : goal.writes::write_csr-write_field-requires
writes::write_csr-write_field-requires t c =
    let i = c.loop-field.field-index in
    let fields = c.args.csr.now.fields in
    let inside : i < length fields = omega (arith, ap length c.as_slice-field-items.ensures) in
    let item : c.field-item.result ≡ get_or fields i c.field-item.result = c.field-item.is ∙ ap (λ xs. get_or xs i c.field-item.result) c.as_slice-field-items.ensures in
    let is : placed c.args.scene.now.space.now c.args.scene.now.full.now c.field-item.result ≡ Some (placed_of c.in-Some.placed) = sym c.field_place.ensures ∙ ap (option_map placed_of) c.in-Some.is in
    let at = present-at c.args.scene.now.space.now c.args.scene.now.full.now c.args.scene.now.program.now c.args.csr.now i c.field-item.result (placed_of c.in-Some.placed) c.requires.ready.program c.requires.known.0 c.requires.known.1 inside item is in
    let named = subst (λ f. present_field c.args.scene.now.space.now c.args.scene.now.full.now c.args.scene.now.program.now c.args.csr.now.name f.name ≡ Some (placed_of c.in-Some.placed)) (sym (placed-field c.args.scene.now.space.now c.args.scene.now.full.now c.field-item.result (placed_of c.in-Some.placed) is).0) at.0 in
    (omega (arith, c.decreases, c.in_ok-depth.ensures.less), (c.requires.ready, (subst (λ h. IsSound c.args.scene.now.space.now c.args.scene.now.full.now c.args.scene.now.program.now (state_of h)) (sym c.in_ok-before.ensures) c.requires.sound, (c.loop-field.invariant.1.sound, (at.1, named)))))

pub writes::write_csr-returns-in_err-write_field-clause-value : goal.writes::write_csr-returns-in_err-write_field-clause-value
writes::write_csr-returns-in_err-write_field-clause-value t c =
    let i = c.loop-field.field-index in
    let fields = c.args.csr.now.fields in
    let inside : i < length fields = omega (arith, ap length c.as_slice-field-items.ensures) in
    let item : c.field-item.result ≡ get_or fields i c.field-item.result = c.field-item.is ∙ ap (λ xs. get_or xs i c.field-item.result) c.as_slice-field-items.ensures in
    let is : placed c.args.scene.now.space.now c.args.scene.now.full.now c.field-item.result ≡ Some (placed_of c.in-Some.placed) = sym c.field_place.ensures ∙ ap (option_map placed_of) c.in-Some.is in
    let p = err_from_is_err_and c.from_residual-in_err-write_field.result c.from_residual-in_err-write_field.ensures.1 in
    let s = state_of c.args.state.now in
    let whole = csr-written c.args.scene.now.space.now c.args.scene.now.full.now c.args.scene.now.program.now c.args.csr.now c.args.number s c.requires.known.1 ∙ c.loop-field.invariant.0 in
    let stops = subst (λ h. Writes (with_fields (state_of c.loop-field.state) (programs.write_field c.args.scene.now.space.now c.args.scene.now.full.now c.args.scene.now.program.now (record { csr = c.args.csr.now.name; number = c.args.number }) (state_of h) (placed_of c.in-Some.placed) (state_of c.loop-field.state).fields)) (Err c.in_err-write_field.field-0.0) (state_of c.write_field.new.state)) c.in_ok-before.ensures c.in_err-write_field.ensures.value in
    rest-stops c.args.scene.now.space.now c.args.scene.now.full.now c.args.scene.now.program.now (record { csr = c.args.csr.now.name; number = c.args.number }) s fields i c.field-item.result (placed_of c.in-Some.placed) (state_of c.loop-field.state) (state_of c.write_field.new.state) c.in_err-write_field.field-0.0 c.from_residual-in_err-write_field.result
    (programs.write_csr c.args.scene.now.space.now c.args.scene.now.full.now c.args.scene.now.program.now c.args.csr.now c.args.number s) inside item is whole stops (p.1 ∙ ap Err p.2)

pub writes::write_csr-returns-clause-value : goal.writes::write_csr-returns-clause-value
writes::write_csr-returns-clause-value t c =
    csr-written c.args.scene.now.space.now c.args.scene.now.full.now c.args.scene.now.program.now c.args.csr.now c.args.number (state_of c.args.state.now) c.requires.known.1 ∙ c.loop-field.invariant.0
    ∙ rest-none c.args.scene.now.space.now c.args.scene.now.full.now c.args.scene.now.program.now (record { csr = c.args.csr.now.name; number = c.args.number }) (state_of c.args.state.now) c.args.csr.now.fields c.loop-field.field-index (state_of c.loop-field.state) (omega (arith, ap length c.as_slice-field-items.ensures))

pub writes::write_field-returns-clause-kept : goal.writes::write_field-returns-clause-kept
writes::write_field-returns-clause-kept t c =
    let s = state_of c.args.state.now in
    let name = c.args.placed.field.now.name in
    subst (λ fields. Keeps c.args.scene.now s (record s { fields = fields })) (sym c.set.ensures)
    (field-kept c.args.scene.now s c.args.new.csr.now name (placed_of c.args.placed) c.in_ok-number.number c.requires.sound c.requires.present c.in_ok-number.ensures.small)
