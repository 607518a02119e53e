use Rattle.std.proofs.Common.{ap, ◌∙◌}
use Rattle.idl_token.specs.declared.kinds.TokenKind.TheVariants as k
use Rattle.idl_token.specs.Front as spec
use Rattle.idl_token.proofs.CutLemmas.{number_some}
use Rattle.idl_token.proofs.scan.number.Goals as goal

pub returns : goal.returns
returns c =
    c.with_tail.ensures ∙ ap (λ t. spec.with_tail k.Number c.number_at-len.result t) (c.tail_at.ensures.count ∙ ap spec.tail_at c.past.ensures)
    ∙ number_some c.number_at-len.result (spec.number_at c.args.text.now) c.args.text.now c.number_at-len.ensures.count c.if-len-eq0.false
