use Rattle.std.proofs.Common.{All, take}
use Rattle.udb_spec.specs.Lawful.{IsLawfulExt}
use Rattle.udb_lawful.proofs.spaces.extensions_are_lawful.Given as goal

abbrev pub invariant-loop-extension : goal.invariant-loop-extension
invariant-loop-extension l = All (IsLawfulExt l.space) (take l.extension-index l.space.extensions)
