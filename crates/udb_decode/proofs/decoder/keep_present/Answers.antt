use Rattle.std.proofs.Common.{◌∙◌, ◌∷◌, ◌++◌, [], take, ◌+◌, sym, ap, subst}
use Rattle.std.proofs.lemmas.Bool.{false≢true}
use Rattle.udb_decode.specs.Kept.{AreKept}
use Rattle.udb_decode.proofs.KeptLaws.{kept_more, left_more}
use Rattle.udb_decode.proofs.decoder.keep_present.Goals.{then-branch+in_ok-keep+in_ok-push, else-branch}
use Rattle.udb_decode.proofs.decoder.keep_present.Goals as goal

pub loop-coding-preserved : goal.loop-coding-preserved
loop-coding-preserved c =
    elim c.if-branch.branch [
      | then-branch+in_ok-keep+in_ok-push w ↦
          subst (AreKept c.args.space.now c.args.part.now (take (c.loop-coding.coding-index + 1) c.args.codings.now))
          (ap (λ x. c.loop-coding.all.items ++ x ∷ []) (sym w.in_ok-keep.ensures) ∙ (sym w.in_ok-push.ensures.items ∙ ap (λ v. v.items) (sym w.all-is)))
          (kept_more c.args.space.now c.args.part.now c.args.codings.now c.loop-coding.coding-index c.coding-item.result c.loop-coding.all.items c.loop-coding-test.true c.coding-item.is c.loop-coding.invariant (c.in_ok-can_hold.ensures.0 w.if-branch.true))
      | else-branch w ↦
          subst (AreKept c.args.space.now c.args.part.now (take (c.loop-coding.coding-index + 1) c.args.codings.now))
          (ap (λ v. v.items) (sym w.all-is))
          (left_more c.args.space.now c.args.part.now c.args.codings.now c.loop-coding.coding-index c.coding-item.result c.loop-coding.all.items c.loop-coding-test.true c.coding-item.is c.loop-coding.invariant (λ can. false≢true (sym w.if-branch.false ∙ c.in_ok-can_hold.ensures.1 can)))
    ]
