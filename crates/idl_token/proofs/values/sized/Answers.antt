use Rattle.std.proofs.Common.{ap, ◌∙◌, length, arith}
use Rattle.std.specs.List.{position_or_len}
use Rattle.idl_token.specs.Numbers.{is_quote}
use Rattle.idl_token.proofs.ValueLemmas.{quote-boundary}
use Rattle.idl_token.proofs.values.sized.Goals as goal

pub split_at-requires : goal.split_at-requires
split_at-requires c = quote-boundary c.args.text.now c.quote_at-at.result (c.quote_at-at.ensures.place ∙ ap (λ s. position_or_len is_quote s) c.as_bytes.ensures.value) (omega (arith, c.quote_at-at.ensures.within, ap length c.as_bytes.ensures.value))
