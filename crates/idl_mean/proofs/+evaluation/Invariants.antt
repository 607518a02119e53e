use Rattle.std.proofs.Common.{◌≡◌, ◌-◌, map, drop}
use Rattle.idl_spec.specs.Forms.{values_in_turn, joined}
use Rattle.idl_spec.specs.Mean.{mean_expr, mean_stmt, in_turn, turns}
use Rattle.idl_spec.specs.Programs.{write_fields}
use Rattle.idl_spec.specs.Fields.{placed}
use Rattle.std.specs.Prelude.{filter_map}
use Rattle.idl_forms.specs.States.{scope_of, state_of}
use Rattle.idl_forms.specs.Scenes.{setting_of, new_number}
use Rattle.idl_forms.specs.Ready.{Keeps}
use Rattle.idl_mean.specs.Flows.{values_of, with_fields}
use Rattle.idl_mean.proofs.Sequences.{values_behind, bits_behind}
use Rattle.idl_mean.proofs.+evaluation.Given as goal

abbrev pub decreases-calls::call : goal.decreases-calls::call
decreases-calls::call l = l.depth

abbrev pub decreases-calls::run_function : goal.decreases-calls::run_function
decreases-calls::run_function l = l.depth

abbrev pub decreases-calls::values : goal.decreases-calls::values
decreases-calls::values l = l.depth

abbrev pub decreases-expressions::addressed : goal.decreases-expressions::addressed
decreases-expressions::addressed l = l.depth

abbrev pub decreases-expressions::binary : goal.decreases-expressions::binary
decreases-expressions::binary l = l.depth

abbrev pub decreases-expressions::choice : goal.decreases-expressions::choice
decreases-expressions::choice l = l.depth

abbrev pub decreases-expressions::evaluate : goal.decreases-expressions::evaluate
decreases-expressions::evaluate l = l.depth

abbrev pub decreases-expressions::index : goal.decreases-expressions::index
decreases-expressions::index l = l.depth

abbrev pub decreases-expressions::join_parts : goal.decreases-expressions::join_parts
decreases-expressions::join_parts l = l.depth

abbrev pub decreases-statements::assign : goal.decreases-statements::assign
decreases-statements::assign l = l.depth

abbrev pub decreases-statements::block : goal.decreases-statements::block
decreases-statements::block l = l.depth

abbrev pub decreases-statements::branch : goal.decreases-statements::branch
decreases-statements::branch l = l.depth

abbrev pub decreases-statements::declare_local : goal.decreases-statements::declare_local
decreases-statements::declare_local l = l.depth

abbrev pub decreases-statements::execute : goal.decreases-statements::execute
decreases-statements::execute l = l.depth

abbrev pub decreases-statements::execute_all : goal.decreases-statements::execute_all
decreases-statements::execute_all l = l.depth

abbrev pub decreases-statements::for_each : goal.decreases-statements::for_each
decreases-statements::for_each l = l.depth

abbrev pub decreases-statements::raise_exception : goal.decreases-statements::raise_exception
decreases-statements::raise_exception l = l.depth

abbrev pub decreases-statements::soft_write : goal.decreases-statements::soft_write
decreases-statements::soft_write l = l.depth

abbrev pub decreases-statements::store : goal.decreases-statements::store
decreases-statements::store l = l.depth

abbrev pub decreases-statements::turn : goal.decreases-statements::turn
decreases-statements::turn l = l.depth

abbrev pub decreases-statements::turns : goal.decreases-statements::turns
decreases-statements::turns l = l.depth

abbrev pub decreases-writes::field_result : goal.decreases-writes::field_result
decreases-writes::field_result l = l.depth

abbrev pub decreases-writes::field_type : goal.decreases-writes::field_type
decreases-writes::field_type l = l.depth

abbrev pub decreases-writes::write_csr : goal.decreases-writes::write_csr
decreases-writes::write_csr l = l.depth

abbrev pub decreases-writes::write_field : goal.decreases-writes::write_field
decreases-writes::write_field l = l.depth

abbrev pub decreases-writes::written_number : goal.decreases-writes::written_number
decreases-writes::written_number l = l.depth

abbrev pub invariant-calls::values-loop-arg : goal.invariant-calls::values-loop-arg
invariant-calls::values-loop-arg l =
    let m = mean_expr (setting_of l.scene) in
    (values_in_turn (map m l.args) (scope_of l.scope) (state_of l.fn.state)
    ≡ values_behind (values_of l.all.items) (values_in_turn (map m (drop l.arg-index l.args)) (scope_of l.scope) (state_of l.state)))
    × Keeps l.scene (state_of l.fn.state) (state_of l.state)

abbrev pub invariant-expressions::join_parts-loop-part : goal.invariant-expressions::join_parts-loop-part
invariant-expressions::join_parts-loop-part l =
    let m = mean_expr (setting_of l.scene) in
    (joined (map m l.parts) (scope_of l.scope) (state_of l.fn.state)
    ≡ bits_behind l.all.items (map m (drop l.part-index l.parts)) (scope_of l.scope) (state_of l.state))
    × Keeps l.scene (state_of l.fn.state) (state_of l.state)

abbrev pub invariant-statements::execute_all-loop-stmt : goal.invariant-statements::execute_all-loop-stmt
invariant-statements::execute_all-loop-stmt l =
    let m = mean_stmt (setting_of l.scene) in
    (in_turn (map m l.stmts) (scope_of l.fn.scope.items) (state_of l.fn.state)
    ≡ in_turn (map m (drop l.stmt-index l.stmts)) (scope_of l.scope.items) (state_of l.state))
    × Keeps l.scene (state_of l.fn.state) (state_of l.state)

abbrev pub invariant-statements::turns-loop-counter : goal.invariant-statements::turns-loop-counter
invariant-statements::turns-loop-counter l =
    let cs = map (mean_stmt (setting_of l.scene)) l.stmts in
    (turns l.name cs (l.high - l.low) l.low (scope_of l.fn.scope.items) (state_of l.fn.state)
    ≡ turns l.name cs (l.high - l.counter) l.counter (scope_of l.scope.items) (state_of l.state))
    × Keeps l.scene (state_of l.fn.state) (state_of l.state)

abbrev pub invariant-writes::write_csr-loop-field : goal.invariant-writes::write_csr-loop-field
invariant-writes::write_csr-loop-field l =
    let c = l.scene in
    let s = state_of l.fn.state in
    let left = filter_map (placed c.space.now c.full.now) (drop l.field-index l.csr.fields) in
    let all = filter_map (placed c.space.now c.full.now) l.csr.fields in
    (with_fields s (write_fields c.space.now c.full.now c.program.now (new_number l.new) s all s.fields)
    ≡ with_fields (state_of l.state) (write_fields c.space.now c.full.now c.program.now (new_number l.new) s left (state_of l.state).fields))
    × Keeps c s (state_of l.state)
