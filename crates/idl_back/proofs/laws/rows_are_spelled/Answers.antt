use Rattle.idl_back.proofs.Spelled.{row_symbols}
use Rattle.idl_back.proofs.laws.rows_are_spelled.Goals as goal

pub returns : goal.returns
returns c = row_symbols
