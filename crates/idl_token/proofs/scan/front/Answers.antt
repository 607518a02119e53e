use Rattle.std.proofs.Common.{◌≡◌, ℕ, List, subst, sym, ap, ◌∙◌}
use Rattle.std.specs.Str.{IsUtf8}
use Rattle.idl_token.specs.declared.front.Front.{Front}
use Rattle.idl_token.specs.declared.front.Front.TheVariants.{Gap, Token, Nothing}
use Rattle.idl_token.specs.Front as spec
use Rattle.idl_token.proofs.CutLemmas.{EndsFront, Ends-boundary, front-ends}
use Rattle.idl_token.proofs.scan.front.Goals as goal

cut_of : (s : List ℕ) (f : Front) → IsUtf8 s → EndsFront s f → spec.IsCut s f
cut_of s (Gap n) utf8 e = (e.some, Ends-boundary s n utf8 e)
cut_of s (Token t n) utf8 e = (e.some, Ends-boundary s n utf8 e)
cut_of s Nothing utf8 e = tt

pub returns-clause-cut : goal.returns-clause-cut
returns-clause-cut c =
    let is : c.front_of.result ≡ spec.front_at c.args.before c.args.text.now = c.front_of.ensures ∙ ap (λ s. spec.front_at c.args.before s) c.as_bytes.ensures.value in
    cut_of c.args.text.now c.front_of.result c.utf8.text (subst (EndsFront c.args.text.now) (sym is) (front-ends c.args.before c.args.text.now))
