use Rattle.udb_lawful.proofs.Lists.{widths-at}
use Rattle.udb_lawful.proofs.domains.lists_widths.Goals as goal

pub returns-in-Numbers : goal.returns-in-Numbers
returns-in-Numbers c = widths-at c.args.domain.now c.in-Numbers.numbers c.are_widths.result (cc) (cc)
