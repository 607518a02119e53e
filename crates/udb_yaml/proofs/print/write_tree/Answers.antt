use Rattle.std.proofs.lemmas.Result.{IfOk-weaker}
use Rattle.udb_yaml.proofs.PrintLemmas.{back_spelled}
use Rattle.udb_yaml.proofs.print.write_tree.Goals as goal

pub returns-clause-back : goal.returns-clause-back
returns-clause-back c = IfOk-weaker c.text_of_tree.result _ _ (λ w e. back_spelled c.args.tree.now w c.requires e) c.text_of_tree.ensures
