use Rattle.std.proofs.Common.{arith, [], length, sym, subst, ap}
use Rattle.std.proofs.lemmas.List.{append-nil, length-drop}
use Rattle.httparse.specs.Grammar.{ReadsRequest}
use Rattle.httparse.specs.Spans.{IsRequestOf, IsRequestWithin}
use Rattle.httparse.proofs.GrammarLemmas.{request_unique}
use Rattle.udb_http.proofs.HeadLemmas.{head_within}
use Rattle.udb_http.proofs.heads.whole_head.Goals as goal

pub returns-in_default : goal.returns-in_default
returns-in_default c h x =
    let head = c.args.head.now in
    let found : IsRequestOf head c.parse_request.new.headers c.in-Ok-Complete.spans = rw c.in-Ok-Complete.field-0-is at c.in-Ok-Complete.ensures.complete in
    let within : IsRequestWithin head c.parse_request.new.headers c.in-Ok-Complete.spans = rw c.in-Ok-Complete.field-0-is at c.in-Ok-Complete.ensures.within in
    let same = request_unique head h found.0 [] _ x found.1.reads in
    let len = c.in-Ok-Complete.spans.len in
    c.if-spans-head.false (omega (arith, within.section.len_fits, ap length same.1, length-drop len head))

pub returns-in_default-3 : goal.returns-in_default-3
returns-in_default-3 c h x =
    let head = c.args.head.now in
    let over = (rw c.in_default.is at c.parse_request.ensures.no_room) [] h [] (subst (λ b. ReadsRequest b h []) (sym (append-nil head)) x) in
    omega (arith, over, head_within head h x, c.requires)
