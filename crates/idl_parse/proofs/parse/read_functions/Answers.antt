use Rattle.std.proofs.Common.{List, Err, ap, ◌∙◌}
use Rattle.idl_parse.specs.declared.faults.Halt.{Halt}
use Rattle.idl_tree.specs.declared.programs.Function.{Function}
use Rattle.idl_grammar.specs.Faults.{OfFunctions}
use Rattle.idl_grammar.specs.StmtReader.{whole_functions}
use Rattle.idl_grammar.proofs.Whole.{functions_exact}
use Rattle.idl_parse.proofs.Stopped.{told_by, left_by, free_by, stopped_by}
use Rattle.idl_parse.proofs.parse.read_functions.Goals as goal

pub returns-in-Ok : goal.returns-in-Ok
returns-in-Ok c = told_by OfFunctions whole_functions functions_exact c.args.limit c.args.source.now c.in_ok-tokens.tokens.items c.as_slice.result.now c.in_ok-seen.seen.items c.as_slice-2.result.now c.in_ok-tokens.ensures.row c.as_slice.ensures.value c.in_ok-seen.ensures c.as_slice-2.ensures.value
    c.in-Ok.found c.in-Ok.ensures

pub fault-requires-clause-within : goal.fault-requires-clause-within
fault-requires-clause-within c = left_by OfFunctions whole_functions functions_exact c.args.limit c.args.source.now c.in_ok-tokens.tokens.items c.as_slice.result.now c.in_ok-seen.seen.items c.as_slice-2.result.now c.in_ok-tokens.ensures.row c.as_slice.ensures.value c.in_ok-seen.ensures c.as_slice-2.ensures.value
    c.whole_functions.result c.in-Err-Left.left (c.in-Err-Left.is ∙ ap (λ (h : Halt). Err h) c.in-Err-Left.field-0-is) c.whole_functions.ensures c.as_slice-in-Err-Left-2.result.now c.as_slice-in-Err-Left-2.ensures.value

pub fault-requires-clause-free_within : goal.fault-requires-clause-free_within
fault-requires-clause-free_within c = free_by OfFunctions whole_functions functions_exact c.args.limit c.args.source.now c.in_ok-tokens.tokens.items c.as_slice.result.now c.in_ok-seen.seen.items c.as_slice-2.result.now c.in_ok-tokens.ensures.row c.as_slice.ensures.value c.in_ok-seen.ensures c.as_slice-2.ensures.value
    c.as_slice-in-Err-Left.result.now c.as_slice-in-Err-Left.ensures.value c.in_ok-free-in-Err-Left.free c.in_ok-free-in-Err-Left.ensures c.as_slice-in-Err-Left-2.result.now c.as_slice-in-Err-Left-2.ensures.value

pub returns : goal.returns
returns c = stopped_by OfFunctions whole_functions functions_exact c.args.limit c.args.source.now c.in_ok-tokens.tokens.items c.as_slice.result.now c.in_ok-seen.seen.items c.as_slice-2.result.now c.in_ok-tokens.ensures.row c.as_slice.ensures.value c.in_ok-seen.ensures c.as_slice-2.ensures.value
    c.as_slice-in-Err-Left.result.now c.as_slice-in-Err-Left.ensures.value c.in_ok-free-in-Err-Left.free c.in_ok-free-in-Err-Left.ensures
    (λ (xs : List Function). xs) c.whole_functions.result c.in-Err-Left.left (c.in-Err-Left.is ∙ ap (λ (h : Halt). Err h) c.in-Err-Left.field-0-is) c.whole_functions.ensures c.as_slice-in-Err-Left-2.result.now c.as_slice-in-Err-Left-2.ensures.value c.fault.result c.fault.ensures
