use Rattle.type_laws.proofs.Expressions.{expressions_sound}
use Rattle.type_laws.proofs.expressions_are_sound.Goals as goal

pub returns : goal.returns
returns c = expressions_sound
