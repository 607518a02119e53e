use Rattle.udb_schema.proofs.WordLaws.{names_other}
use Rattle.udb_schema.proofs.meeting.word_names.Goals as goal

pub returns-in_default : goal.returns-in_default
returns-in_default c = names_other c.args.key.now c.args.word.now c.in_default.not-Properties
