use Rattle.idl_back.proofs.Pieces.{stands_row, symbols_from, sits_none, sits_append}
use Rattle.idl_back.proofs.laws.pieces_are_tokens.Goals as goal

pub returns-clause-row : goal.returns-clause-row
returns-clause-row c = stands_row

pub returns-clause-symbols : goal.returns-clause-symbols
returns-clause-symbols c = symbols_from

pub returns-clause-none : goal.returns-clause-none
returns-clause-none c = sits_none

pub returns-clause-joined : goal.returns-clause-joined
returns-clause-joined c = sits_append
