use Rattle.idl_types.proofs.ProgramLaws.{typed-fits}
use Rattle.idl_types.proofs.programs.assemble.Goals as goal

pub returns-clause-fits : goal.returns-clause-fits
returns-clause-fits c = λ full valid. typed-fits c.args.space.now full valid c.args.program.now c.requires.typed
