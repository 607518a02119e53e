use Rattle.std.proofs.Common.{◌≡◌, ◌++◌, false, length, OnOk, sym, subst}
use Rattle.std.specs.Prelude.{◌==◌}
use Rattle.udb_base.specs.Lines.{Lines}
use Rattle.idl_tree.proofs.FunctionLemmas.{arguments-some}
use Rattle.idl_print.proofs.function_lines.push_arguments.Goals as goal

pub returns : goal.returns
returns c =
    let some : (length c.args.all.now == 0) ≡ false = cc in
    subst (λ (lines : Lines). OnOk c.push_argument_line.result (c.push_argument_line.new.out ≡ c.args.out.now ++ lines)) (sym (arguments-some c.args.all.now some)) c.push_argument_line.ensures
