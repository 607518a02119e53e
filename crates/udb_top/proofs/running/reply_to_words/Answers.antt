use Rattle.std.proofs.Common.{◌≡◌, Option, Some, subst}
use Rattle.std.specs.Option.{MatchOption}
use Rattle.udb_command.specs.declared.commands.Command.{Command}
use Rattle.udb_command.specs.Words.{words_of, Asks, IsNoCommand}
use Rattle.udb_top.proofs.Answered.{result_has}
use Rattle.udb_top.proofs.running.reply_to_words.Goals as goal

pub returns-in-Ok-Some-clause-reply : goal.returns-in-Ok-Some-clause-reply
returns-in-Ok-Some-clause-reply g c =
    let some : c.in-Ok-Some.field-0 ≡ Some c.in-Ok-Some.command = cc in
    let asked : Asks (words_of c.args.words.now) c.in-Ok-Some.command = subst (λ (found : Option Command). MatchOption found (IsNoCommand (words_of c.args.words.now)) (Asks (words_of c.args.words.now))) some c.in-Ok-Some.ensures.answer in
    result_has (words_of c.args.words.now) (g.S.Source.left c.args.input.now) (g.S.Source.left c.reply_to_source.new.input) c.in-Ok-Some.command asked c.reply_to_source.result c.reply_to_source.ensures.reply
