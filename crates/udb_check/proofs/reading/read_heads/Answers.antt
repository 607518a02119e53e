use Rattle.std.proofs.Common.{◌≡◌, ◌+◌, ◌-◌, ◌<◌, Some, map, take, length, IsTrue, ap, subst, sym, ◌∙◌, arith}
use Rattle.std.specs.List.{list_all}
use Rattle.udb_check.specs.Heads.{IsHeadOf, head_text, is_head, arity, awaited_after}
use Rattle.udb_check.proofs.Forest.{unread-at, extra-at, missing-at, next-text, next-fit, next-count, arity-small}
use Rattle.udb_check.proofs.reading.read_heads.Goals as goal

pub returns-then-awaited-eq0 : goal.returns-then-awaited-eq0
returns-then-awaited-eq0 c =
    let i = c.loop-at.invariant in
    extra-at c.args.space.now c.args.lines.now c.loop-at.heads c.loop-at.at c.loop-at.awaited i.text i.fit i.count c.requires.lawful c.index-lines-at.result (omega arith) c.index-lines-at.is c.if-awaited-eq0.true

pub returns-in_default : goal.returns-in_default
returns-in_default c =
    let i = c.loop-at.invariant in
    unread-at c.args.space.now c.args.lines.now c.loop-at.heads c.loop-at.at c.loop-at.awaited i.text i.fit i.count c.as_bytes.result.now c.index-lines-at.result (omega arith) c.index-lines-at.is c.as_bytes.ensures (subst (IsHeadOf c.args.space.now c.as_bytes.result.now) c.in_default.is c.in_ok-head.ensures)

pub returns-then-awaited-gt0 : goal.returns-then-awaited-gt0
returns-then-awaited-gt0 c =
    let i = c.loop-at.invariant in
    missing-at c.args.space.now c.args.lines.now c.loop-at.heads c.loop-at.at c.loop-at.awaited i.text i.fit i.count c.requires.lawful (omega arith) (omega arith)

pub loop-at-preserved : goal.loop-at-preserved
loop-at-preserved c =
    let i = c.loop-at.invariant in
    let lines = c.args.lines.now in
    let read = subst (IsHeadOf c.args.space.now c.as_bytes.result.now) c.in-Some.is c.in_ok-head.ensures in
    let short : c.loop-at.at < length lines = omega arith in
    let small = arity-small c.args.space.now c.in-Some.head read.1 in
    let pushed = sym c.in_ok-push.ensures.ok in
    let awaited : c.loop-at.awaited - 1 + arity c.in-Some.head ≡ c.loop-at.awaited - 1 + c.from.result = omega (arith, c.from.ensures, c.arity.ensures) in
    record {
      text = subst (λ hs. map (head_text c.args.space.now) hs ≡ take (c.loop-at.at + 1) lines) pushed (next-text c.args.space.now lines c.loop-at.heads c.loop-at.at c.loop-at.awaited i.text i.fit i.count c.in-Some.head c.as_bytes.result.now c.index-lines-at.result short c.index-lines-at.is c.as_bytes.ensures read.0);
      fit = subst (λ hs. IsTrue (list_all (is_head c.args.space.now) hs)) pushed (next-fit c.args.space.now lines c.loop-at.heads c.loop-at.at c.loop-at.awaited i.text i.fit i.count c.in-Some.head read.1);
      count = subst (λ hs. awaited_after 1 hs ≡ Some (c.loop-at.awaited - 1 + c.from.result)) pushed (next-count c.args.space.now lines c.loop-at.heads c.loop-at.at c.loop-at.awaited i.text i.fit i.count c.in-Some.head (omega arith) ∙ ap Some awaited);
      room = omega (arith, i.room, small, c.from.ensures, c.arity.ensures);
    }
