use Rattle.std.specs.Option.{option_copied}
use Rattle.udb_full.proofs.FrontLaws.{named, no-name}
use Rattle.udb_full.proofs.lines.after_name.Goals as goal

pub returns-in-Some : goal.returns-in-Some
returns-in-Some c = named c.args.name.now c.args.line.now c.in-Some.rest.now (option_copied c.strip_prefix-in-Some.result) c.in-Some.ensures c.strip_prefix-in-Some.ensures

pub returns-in-None : goal.returns-in-None
returns-in-None c = no-name c.args.name.now c.args.line.now c.in-None.ensures
