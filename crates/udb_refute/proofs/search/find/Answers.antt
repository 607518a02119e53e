use Rattle.std.proofs.lemmas.Result.{IfOk-weaker}
use Rattle.udb_refute.proofs.StartLaws.{start-open, start-hold, start-few, found-answer}
use Rattle.udb_refute.proofs.search.find.Goals as goal

pub of-requires : goal.of-requires
of-requires c = start-few c.args.space.now c.args.part.now c.args.cond.now c.requires.few

pub search-requires-clause-few : goal.search-requires-clause-few
search-requires-clause-few c = start-few c.args.space.now c.args.part.now c.args.cond.now c.requires.few

pub search-requires-clause-open : goal.search-requires-clause-open
search-requires-clause-open c = start-open c.args.space.now c.requires.lawful

pub search-requires-clause-before : goal.search-requires-clause-before
search-requires-clause-before c = start-hold c.args.space.now c.args.part.now c.args.cond.now

pub returns : goal.returns
returns c = IfOk-weaker c.search.result _ _ (λ found h. found-answer c.args.space.now c.args.part.now c.args.cond.now found c.requires.lawful h) c.search.ensures
