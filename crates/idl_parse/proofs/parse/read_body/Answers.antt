use Rattle.std.proofs.Common.{Err, ap, ◌∙◌}
use Rattle.idl_parse.specs.declared.faults.Halt.{Halt}
use Rattle.idl_tree.specs.declared.programs.Body.{Body}
use Rattle.idl_grammar.specs.Faults.{OfBody}
use Rattle.idl_grammar.specs.StmtReader.{whole_body}
use Rattle.idl_grammar.proofs.Whole.{body_exact}
use Rattle.idl_parse.proofs.Stopped.{told_by, left_by, free_by, stopped_by}
use Rattle.idl_parse.proofs.parse.read_body.Goals as goal

pub returns-in-Ok-clause-tells : goal.returns-in-Ok-clause-tells
returns-in-Ok-clause-tells c = told_by OfBody whole_body body_exact c.args.limit c.args.source.now c.in_ok-tokens.tokens.items c.as_slice.result.now c.in_ok-seen.seen.items c.as_slice-2.result.now c.in_ok-tokens.ensures.row c.as_slice.ensures.value c.in_ok-seen.ensures c.as_slice-2.ensures.value
    c.in-Ok.statements c.in-Ok.ensures

pub fault-requires-clause-within : goal.fault-requires-clause-within
fault-requires-clause-within c = left_by OfBody whole_body body_exact c.args.limit c.args.source.now c.in_ok-tokens.tokens.items c.as_slice.result.now c.in_ok-seen.seen.items c.as_slice-2.result.now c.in_ok-tokens.ensures.row c.as_slice.ensures.value c.in_ok-seen.ensures c.as_slice-2.ensures.value
    c.whole_body.result c.in-Err-Left.left (c.in-Err-Left.is ∙ ap (λ (h : Halt). Err h) c.in-Err-Left.field-0-is) c.whole_body.ensures c.as_slice-in-Err-Left-2.result.now c.as_slice-in-Err-Left-2.ensures.value

pub fault-requires-clause-free_within : goal.fault-requires-clause-free_within
fault-requires-clause-free_within c = free_by OfBody whole_body body_exact c.args.limit c.args.source.now c.in_ok-tokens.tokens.items c.as_slice.result.now c.in_ok-seen.seen.items c.as_slice-2.result.now c.in_ok-tokens.ensures.row c.as_slice.ensures.value c.in_ok-seen.ensures c.as_slice-2.ensures.value
    c.as_slice-in-Err-Left.result.now c.as_slice-in-Err-Left.ensures.value c.in_ok-free-in-Err-Left.free c.in_ok-free-in-Err-Left.ensures c.as_slice-in-Err-Left-2.result.now c.as_slice-in-Err-Left-2.ensures.value

pub returns-clause-tells : goal.returns-clause-tells
returns-clause-tells c = stopped_by OfBody whole_body body_exact c.args.limit c.args.source.now c.in_ok-tokens.tokens.items c.as_slice.result.now c.in_ok-seen.seen.items c.as_slice-2.result.now c.in_ok-tokens.ensures.row c.as_slice.ensures.value c.in_ok-seen.ensures c.as_slice-2.ensures.value
    c.as_slice-in-Err-Left.result.now c.as_slice-in-Err-Left.ensures.value c.in_ok-free-in-Err-Left.free c.in_ok-free-in-Err-Left.ensures
    (λ (b : Body). b.statements) c.whole_body.result c.in-Err-Left.left (c.in-Err-Left.is ∙ ap (λ (h : Halt). Err h) c.in-Err-Left.field-0-is) c.whole_body.ensures c.as_slice-in-Err-Left-2.result.now c.as_slice-in-Err-Left-2.ensures.value c.fault.result c.fault.ensures
