-- Cases whose lists are short are small enough.
use Rattle.std.proofs.Common.{◌<◌, ◌-◌, ◌^◌, All, length, arith}
use Rattle.udb_base.specs.declared.refutations.Partial.{Partial}
use Rattle.udb_base.specs.declared.spaces.Space.{Space}
use Rattle.udb_refute.specs.Search.{IsShortDomain}
use Rattle.udb_refute.proofs.SearchLaws.{length-all}
use Rattle.case_space.specs.Small.{IsShort, IsSmall}

pub small : (space : Space) (part : Partial) → All (λ e. length e.versions < 2 ^ 32 - 1) space.extensions → All (λ p. IsShortDomain p.domain) space.params → IsShort space part → IsSmall space part
small space part versions values short = record {
  short = short;
  lists = record { versions = versions; values = values };
  places = record { extensions = omega (arith, short.extensions); params = omega (arith, short.params) };
  few = λ asked. omega (arith, length-all space part asked, short.extensions, short.params, short.constraints);
}
