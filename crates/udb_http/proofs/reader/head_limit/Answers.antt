use Rattle.std.proofs.Common.{refl}
use Rattle.udb_http.specs.Heads.{head_limit}
use Rattle.udb_http.proofs.reader.head_limit.Goals as goal

pub returns : goal.returns
unfolding head_limit
returns c = refl
