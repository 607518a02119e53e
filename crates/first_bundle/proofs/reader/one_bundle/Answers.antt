use Rattle.first_bundle.proofs.Spelled as spelled
use Rattle.first_bundle.proofs.reader.one_bundle.Goals as goal

pub returns : goal.returns
returns c = spelled.one_bundle
