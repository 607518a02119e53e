use Rattle.std.proofs.lemmas.Str.{IsCharBoundary-after_ascii}
use Rattle.udb_yaml.proofs.keys.quoted_key.Goals as goal

pub text_after-requires : goal.text_after-requires
text_after-requires c = IsCharBoundary-after_ascii c.args.text.now 0 c.utf8.text c.requires.some c.requires.quote
