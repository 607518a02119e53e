use Rattle.first_bundle.proofs.Spelled.{read_found, read_none, read_one}
use Rattle.first_bundle.proofs.reader.read_first.Goals as goal

pub returns-clause-found : goal.returns-clause-found
returns-clause-found c = read_found c.args.bytes.now c.spelled_by.result c.spelled_by.ensures

pub returns-clause-none : goal.returns-clause-none
returns-clause-none c = read_none c.args.bytes.now c.spelled_by.result c.spelled_by.ensures

pub returns-clause-one : goal.returns-clause-one
returns-clause-one c = read_one c.args.bytes.now c.spelled_by.result c.spelled_by.ensures
