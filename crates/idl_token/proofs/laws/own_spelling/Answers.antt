use Rattle.idl_token.proofs.SignLemmas.{reserved-itself, special-itself, sign-itself, sign-longest, sign-none}
use Rattle.idl_token.proofs.laws.own_spelling.Goals as goal

pub returns-clause-reserved : goal.returns-clause-reserved
returns-clause-reserved c = reserved-itself

pub returns-clause-special : goal.returns-clause-special
returns-clause-special c = special-itself

pub returns-clause-sign : goal.returns-clause-sign
returns-clause-sign c = sign-itself

pub returns-clause-longest : goal.returns-clause-longest
returns-clause-longest c = sign-longest

pub returns-clause-none : goal.returns-clause-none
returns-clause-none c = sign-none
