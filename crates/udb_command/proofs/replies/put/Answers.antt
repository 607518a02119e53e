use Rattle.std.proofs.Common.{◌≡◌, ◌++◌, ℕ, List, Some, length, sym, ap, ◌∙◌}
use Rattle.std.proofs.Math.Seq.{take-length}
use Rattle.udb_command.proofs.replies.put.Goals as goal

pub returns-in-Ok-clause-front : goal.returns-in-Ok-clause-front
returns-in-Ok-clause-front g c os e =
    let told : g.T.Sink.written c.write.new.self ≡ Some (os ++ c.args.text.now) = rw e at c.in-Ok.ensures.bytes in
    (length c.args.text.now, told ∙ ap (λ (text : List ℕ). Some (os ++ text)) (sym (take-length c.args.text.now)))
