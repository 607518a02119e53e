use Rattle.std.proofs.Common.{◌∙◌, ◌-◌, false, sym, arith}
use Rattle.std.specs.Prelude.{IsTrue}
use Rattle.udb_spec.specs.Versions.{version_lt}
use Rattle.udb_lawful.proofs.Rising.{rising-more, version-trans, rises-at}
use Rattle.udb_lawful.proofs.spaces.versions_rise.Goals as goal

pub loop-at-preserved : goal.loop-at-preserved
loop-at-preserved c =
    let next = rises-at c.args.list.now (c.loop-at.at - 1) c.loop-at.at (record { version = record { major = 0; minor = 0; patch = 0 }; breaking = false }) (omega arith) (omega arith) (sym c.are_versions_rising.ensures ∙ c.if-not-are_versions_rising.false) in
    rising-more (λ a b. IsTrue (version_lt a.version b.version)) (λ a b d. version-trans a.version b.version d.version) c.args.list.now c.loop-at.at c.loop-at.invariant next
