use Rattle.std.proofs.Common.{◌≡◌, drop}
use Rattle.udb_entry.specs.Config.{given_among}
use Rattle.udb_entry.proofs.constraints.given_among.Given as goal

abbrev pub invariant-loop-given : goal.invariant-loop-given
invariant-loop-given l = given_among (drop l.given-index l.givens) l.name ≡ given_among l.givens l.name
