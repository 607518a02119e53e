use Rattle.std.proofs.Common.{◌∙◌, ◌+◌, sym, ap, arith, ne_eqb}
use Rattle.std.proofs.lemmas.List.{take_rest}
use Rattle.yaml_spec.specs.Line.{parts_here}
use Rattle.std.proofs.lemmas.Bool.{and_left, and_right}
use Rattle.udb_yaml.proofs.PlaceLemmas.{colon_more}
use Rattle.udb_yaml.proofs.bytes.colon.Goals as goal
use Rattle.udb_yaml.proofs.bytes.colon.Goals.{else-text-at-eq58-via-then-text-at-eq58+else-parts_here, else-text-at-eq58-via-else-text-at-eq58}

pub bytes-preserved : goal.bytes-preserved
bytes-preserved c = (
  elim c.else-text-at-eq58.branch [
    | else-text-at-eq58-via-then-text-at-eq58+else-parts_here w ↦ colon_more c.args.text.now c.bytes.at c.bytes-test.true (and_right _ _ (ap parts_here (sym (take_rest c.args.text.now (c.bytes.at + 1))) ∙ (sym w.parts_here.ensures ∙ w.if-parts_here.false))) ∙ c.bytes.invariant.0
    | else-text-at-eq58-via-else-text-at-eq58 w ↦ colon_more c.args.text.now c.bytes.at c.bytes-test.true (and_left _ _ (ne_eqb _ 58 w.if-text-at-eq58.false)) ∙ c.bytes.invariant.0
  ],
  omega arith,
)
