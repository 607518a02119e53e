use Rattle.std.proofs.Common.{Some, ap, ◌∙◌, sym}
use Rattle.udb_base.proofs.FrontLemmas.{after-starts, after-not}
use Rattle.udb_base.proofs.fronts.strip_prefix.Goals as goal

pub returns-then-starts_with : goal.returns-then-starts_with
returns-then-starts_with c = ap Some c.split_at.ensures.back ∙ after-starts c.args.front.now c.args.text.now (sym c.starts_with.ensures.value ∙ c.if-starts_with.true)

pub returns-else-starts_with : goal.returns-else-starts_with
returns-else-starts_with c = after-not c.args.front.now c.args.text.now (sym c.starts_with.ensures.value ∙ c.if-starts_with.false)
