use Rattle.idl_token.specs.Spelling.{reserved_words}
use Rattle.idl_token.proofs.words.reserved_of.Goals as goal

pub returns : goal.returns
unfolding reserved_words
returns c = c.first_reserved.ensures
