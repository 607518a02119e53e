use Rattle.idl_parse.proofs.Places.{place_none, place_some}
use Rattle.idl_parse.proofs.parse.place.Goals as goal

pub returns-in-empty : goal.returns-in-empty
returns-in-empty c = place_none c.args.source.now c.args.tokens.now c.split_at.result.1.now c.args.left c.requires.within c.split_at.ensures.back c.in-empty.len_below

pub returns-in-len1-up : goal.returns-in-len1-up
returns-in-len1-up c = place_some c.args.source.now c.args.tokens.now c.split_at.result.1.now c.args.left _ c.requires.within c.split_at.ensures.back c.in-len1-up.len_at_least
