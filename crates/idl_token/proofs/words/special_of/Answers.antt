use Rattle.idl_token.specs.Spelling.{special_words}
use Rattle.idl_token.proofs.words.special_of.Goals as goal

pub returns : goal.returns
unfolding special_words
returns c = c.first_special.ensures
