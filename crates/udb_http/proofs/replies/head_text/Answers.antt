use Rattle.std.proofs.Common.{◌∙◌}
use Rattle.std.proofs.lemmas.Result.{IfOk-weaker}
use Rattle.udb_http.proofs.ReplyLemmas.{head_is}
use Rattle.udb_http.proofs.replies.head_text.Goals as goal

pub returns : goal.returns
returns c =
    let r = c.args.reply.now in
    IfOk-weaker c.format.result _ _
    (λ s h. h ∙ head_is r.status r.form c.args.size c.args.allow.now r.close _ _ _
    c.phrase_of-phrase.ensures c.type_line-form.ensures c.close_line-close.ensures) c.format.ensures.ok
