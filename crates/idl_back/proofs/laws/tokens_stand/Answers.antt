use Rattle.idl_back.proofs.FrontBytes.{sits_gap}
use Rattle.idl_back.proofs.FrontWords.{word_sits, reserved_sits, special_sits}
use Rattle.idl_back.proofs.FrontNumbers.{number_sits, sized_number_sits, sized_word_sits}
use Rattle.idl_back.proofs.FrontTexts.{text_sits}
use Rattle.idl_back.proofs.laws.tokens_stand.Goals as goal

pub returns-clause-blank : goal.returns-clause-blank
returns-clause-blank c = sits_gap

pub returns-clause-word : goal.returns-clause-word
returns-clause-word c = word_sits

pub returns-clause-reserved : goal.returns-clause-reserved
returns-clause-reserved c = reserved_sits

pub returns-clause-special : goal.returns-clause-special
returns-clause-special c = special_sits

pub returns-clause-number : goal.returns-clause-number
returns-clause-number c = number_sits

pub returns-clause-sized : goal.returns-clause-sized
returns-clause-sized c = sized_number_sits

pub returns-clause-sized_by : goal.returns-clause-sized_by
returns-clause-sized_by c = sized_word_sits

pub returns-clause-text : goal.returns-clause-text
returns-clause-text c = text_sits
