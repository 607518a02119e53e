use Rattle.std.proofs.Common.{◌+◌, length, subst, sym, ap, arith}
use Rattle.std.proofs.lemmas.List.{length-drop}
use Rattle.std.proofs.lemmas.Str.{IsUtf8-drop}
use Rattle.std.specs.Str.{IsUtf8}
use Rattle.idl_token.specs.Lexeme.{lexemes}
use Rattle.idl_token.specs.Front.{start}
use Rattle.idl_token.specs.Rows.{Reads, done}
use Rattle.idl_token.proofs.RowLemmas.{Reads-gap, Reads-step}
use Rattle.idl_token.proofs.lexer.read.Goals as goal

pub tokens-init : goal.tokens-init
tokens-init c = record {
  text = c.utf8.source;
  reads = subst (λ b. Reads start 0 c.args.source.now (lexemes c.new-tokens.result.items) b 0 c.args.source.now) (sym c.start-before.ensures)
      (subst (λ xs. Reads start 0 c.args.source.now (lexemes xs) start 0 c.args.source.now) (sym c.new-tokens.ensures.items) done);
  whole = omega arith;
}

pub tokens-preserved-in-Gap : goal.tokens-preserved-in-Gap
tokens-preserved-in-Gap c =
    let rest = c.split_at.ensures.back in
    let cut = c.in-Gap.ensures.cut in
    record {
      text = subst IsUtf8 (sym rest) (IsUtf8-drop c.tokens.rest.now c.in-Gap.len c.tokens.invariant.text cut.1);
      reads = subst (λ r. Reads start 0 c.args.source.now (lexemes c.tokens.tokens.items) c.tokens.before (c.tokens.at + c.in-Gap.len) r) (sym rest) (Reads-gap c.tokens.invariant.reads (sym c.in-Gap.ensures.value));
      whole = omega (arith, ap length rest, length-drop c.in-Gap.len c.tokens.rest.now, cut.1.0, c.tokens.invariant.whole);
    }

pub tokens-preserved : goal.tokens-preserved
tokens-preserved c =
    let rest = c.split_at-in-Token.ensures.back in
    let cut = c.in-Token.ensures.cut in
    record {
      text = subst IsUtf8 (sym rest) (IsUtf8-drop c.tokens.rest.now c.in-Token.len c.tokens.invariant.text cut.1);
      reads = Reads-step c.args.source.now (lexemes c.tokens.tokens.items) (lexemes c.push.new.tokens.items) c.tokens.before c.after-before.result c.tokens.at c.in-Token.len c.tokens.rest.now c.split_at-in-Token.result.1.now c.split_at-in-Token.result.0.now c.in-Token.kind
          c.tokens.invariant.reads c.in-Token.ensures.value c.split_at-in-Token.ensures.front rest c.after-before.ensures c.in_ok-push-in-Token.ensures.ok;
      whole = omega (arith, ap length rest, length-drop c.in-Token.len c.tokens.rest.now, cut.1.0, c.tokens.invariant.whole);
    }
