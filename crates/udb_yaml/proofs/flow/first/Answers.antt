use Rattle.std.proofs.Common.{◌+◌, ℕ, drop, ap, sym, subst, ◌∙◌}
use Rattle.std.specs.Str.{IsCharBoundary}
use Rattle.std.proofs.lemmas.Str.{IsCharBoundary-after_ascii}
use Rattle.yaml_spec.specs.Reading as spec
use Rattle.udb_yaml.proofs.KeyLemmas.{rest_cut}
use Rattle.udb_yaml.proofs.flow.first.Goals as goal

pub returns-clause-boundary : goal.returns-clause-boundary
returns-clause-boundary c =
    let cut = IsCharBoundary-after_ascii c.args.text.now 0 c.utf8.text c.requires.some c.requires.sign in
    let count = c.front.ensures.count ∙ ap spec.front (c.after.ensures ∙ ap (drop 1) c.as_bytes.ensures.value) in
    subst (λ (z : ℕ). IsCharBoundary c.args.text.now (1 + z)) (sym count) (rest_cut c.args.text.now 1 c.utf8.text c.requires.some cut).1
