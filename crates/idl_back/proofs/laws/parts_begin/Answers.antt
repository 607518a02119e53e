use Rattle.idl_token.specs.Spelling.{reserved_text, special_text}
use Rattle.std.proofs.Common.{decimal}
use Rattle.idl_back.specs.Piece.{between_quotes}
use Rattle.idl_back.proofs.FrontParts.{part_append, word_part, number_part, reserved_part, special_part, text_part}
use Rattle.idl_back.proofs.laws.parts_begin.Goals as goal

pub returns-clause-word : goal.returns-clause-word
returns-clause-word c x s h some = part_append x s (word_part x h some)

pub returns-clause-number : goal.returns-clause-number
returns-clause-number c n s h = part_append (decimal n) s (number_part n h)

pub returns-clause-reserved : goal.returns-clause-reserved
returns-clause-reserved c x s = part_append (reserved_text x) s (reserved_part x)

pub returns-clause-special : goal.returns-clause-special
returns-clause-special c x s = part_append (special_text x) s (special_part x)

pub returns-clause-text : goal.returns-clause-text
returns-clause-text c x s = part_append (between_quotes x) s (text_part x)
