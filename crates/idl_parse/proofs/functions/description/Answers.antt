use Rattle.std.proofs.Common.{◌≡◌, true, sym, ap, ◌∙◌}
use Rattle.idl_token.specs.declared.kinds.Reserved.TheVariants as r
use Rattle.idl_token.specs.declared.kinds.Sign.TheVariants as s
use Rattle.idl_grammar.specs.Outcome as o
use Rattle.idl_token.specs.Seen.{symbols}
use Rattle.idl_parse.proofs.StmtSteps.{about_is}
use Rattle.idl_parse.proofs.functions.description.Goals as goal

pub returns : goal.returns
returns c =
    let some : o.sees (o.is_reserved r.Description) (symbols c.args.tokens.now.rest.now) ≡ true = cc in
    rw (about_is (symbols c.args.tokens.now.rest.now) (symbols c.expect.new.tokens.rest.now) some (ap (o.expect s.OpenBrace) (sym c.skip.ensures) ∙ c.in_ok-expect.ensures)) c.description_text.ensures
