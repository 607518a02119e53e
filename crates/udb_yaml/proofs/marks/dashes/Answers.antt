use Rattle.std.proofs.Common.{◌∙◌, ap, false, sym, ◌≤◌, length, arith, ℕ}
use Rattle.std.proofs.lemmas.Str.{IsCharBoundary-start}
use Rattle.yaml_spec.specs.Marks.{undashed}
use Rattle.udb_yaml.proofs.TextLemmas.{dash_more}
use Rattle.udb_yaml.proofs.marks.dashes.Goals as goal

pub marks-init : goal.marks-init
marks-init c = (ap (undashed false) c.as_bytes-rest.ensures.value, c.as_bytes-rest.ensures.value, zero_le (length c.args.text.now), IsCharBoundary-start c.args.text.now c.utf8.text)
  where
    zero_le : (n : ℕ) → 0 ≤ n
    zero_le n = omega arith

pub marks-preserved : goal.marks-preserved
marks-preserved c =
    let more = dash_more c.marks.spaced c.is_dashed.result c.marks.rest.now c.args.text.now c.after-rest.result.now c.marks.at c.is_dashed.ensures c.marks-test.true c.marks.invariant.1 c.marks.invariant.2 c.utf8.text c.after-rest.ensures in
    (sym more.0 ∙ c.marks.invariant.0, more.1, more.2, more.3)
