use Rattle.idl_token.proofs.ValueLemmas.{quoted-first}
use Rattle.idl_token.proofs.values.text_value.Goals as goal

pub split_at-requires : goal.split_at-requires
split_at-requires c = quoted-first c.args.text.now c.utf8.text c.requires
