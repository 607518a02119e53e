use Rattle.idl_token.proofs.RowLemmas.{row-unique, bad-unique, row-not-bad, row-or-bad}
use Rattle.idl_token.proofs.SteadyLemmas.{bad-front}
use Rattle.idl_token.proofs.laws.one_reading.Goals as goal

pub returns-clause-row : goal.returns-clause-row
returns-clause-row c = row-unique

pub returns-clause-place : goal.returns-clause-place
returns-clause-place c = bad-unique

pub returns-clause-apart : goal.returns-clause-apart
returns-clause-apart c = row-not-bad

pub returns-clause-either : goal.returns-clause-either
returns-clause-either c = row-or-bad

pub returns-clause-front : goal.returns-clause-front
returns-clause-front c = bad-front
