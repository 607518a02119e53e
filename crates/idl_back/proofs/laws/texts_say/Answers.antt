use Rattle.idl_back.proofs.FrontNumbers.{number_symbol, sized_number_symbol, sized_word_symbol}
use Rattle.idl_back.proofs.FrontTexts.{text_symbol}
use Rattle.idl_back.proofs.laws.texts_say.Goals as goal

pub returns-clause-number : goal.returns-clause-number
returns-clause-number c = number_symbol

pub returns-clause-sized : goal.returns-clause-sized
returns-clause-sized c = sized_number_symbol

pub returns-clause-sized_by : goal.returns-clause-sized_by
returns-clause-sized_by c = sized_word_symbol

pub returns-clause-text : goal.returns-clause-text
returns-clause-text c = text_symbol
