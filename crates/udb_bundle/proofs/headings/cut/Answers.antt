use Rattle.udb_bundle.proofs.Cuts.{cut_answer}
use Rattle.udb_bundle.proofs.headings.cut.Goals as goal

pub returns : goal.returns
returns c = cut_answer c.args.text.now c.split_once.result c.split_once.ensures.cases
