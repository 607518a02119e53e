use Rattle.std.proofs.Common.{◌≡◌, drop}
use Rattle.udb_base.specs.Lists.{is_among}
use Rattle.idl_lawful.specs.Tests.{is_same_csr}
use Rattle.idl_lawful.proofs.programs.is_csr_among.Given as goal

abbrev pub invariant-loop-other : goal.invariant-loop-other
invariant-loop-other l = is_among is_same_csr l.csr (drop l.other-index l.others) ≡ is_among is_same_csr l.csr l.others
