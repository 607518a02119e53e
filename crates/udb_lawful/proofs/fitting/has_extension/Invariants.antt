use Rattle.std.proofs.Common.{◌≡◌, drop}
use Rattle.std.specs.List.{list_any}
use Rattle.udb_spec.specs.Conditions.{same_bytes}
use Rattle.udb_lawful.proofs.fitting.has_extension.Given as goal

abbrev pub invariant-loop-extension : goal.invariant-loop-extension
invariant-loop-extension l = list_any (λ e. same_bytes e.name l.name) (drop l.extension-index l.space.extensions) ≡ list_any (λ e. same_bytes e.name l.name) l.space.extensions
