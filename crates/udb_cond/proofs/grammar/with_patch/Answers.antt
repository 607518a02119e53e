use Rattle.std.proofs.Common.{◌∷◌, Some, sym, ap, ◌∙◌}
use Rattle.std.specs.Option.{option_copied}
use Rattle.udb_spec.specs.Grammar.{version_of_parts}
use Rattle.udb_cond.proofs.GrammarLemmas.{more-parts, four-parts}
use Rattle.udb_cond.proofs.grammar.with_patch.Goals as goal

pub returns-in-Some : goal.returns-in-Some
returns-in-Some c =
    let parts = more-parts c.args.text.now c.first_part.result.0.now (option_copied c.first_part.result.1) c.in-Some.field-0.now c.in_ok-patch.patch c.first_part.ensures (ap option_copied c.in-Some.is) (sym c.number.ensures ∙ c.in_ok-patch.was) in
    sym (ap (λ ps. version_of_parts (Some c.args.major ∷ Some c.args.minor ∷ ps)) parts ∙ four-parts c.args.major c.args.minor c.in_ok-patch.patch c.in-Some.field-0.now)
