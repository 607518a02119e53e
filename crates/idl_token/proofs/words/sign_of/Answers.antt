use Rattle.idl_token.specs.Spelling.{signs}
use Rattle.idl_token.proofs.words.sign_of.Goals as goal

pub returns : goal.returns
unfolding signs
returns c = c.first_sign.ensures
