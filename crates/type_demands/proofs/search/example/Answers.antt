use Rattle.std.proofs.Common.{◌≡◌, [], true, sym, ap, subst, arith, length}
use Rattle.std.specs.Prelude.{All}
use Rattle.std.proofs.lemmas.List.Elements.{All-nil}
use Rattle.udb_base.specs.declared.refutations.Partial.{Partial}
use Rattle.udb_base.specs.declared.spaces.Space.{Space}
use Rattle.udb_base.specs.declared.spaces.Full.{Full}
use Rattle.udb_spec.specs.Conditions.{holds}
use Rattle.udb_spec.specs.Spaces.{Valid, Completes}
use Rattle.udb_refute.specs.Answers.{IsAnswer}
use Rattle.udb_refute.proofs.SearchLaws.{length-all}
use Rattle.type_demands.proofs.search.example.Goals as goal

completes-empty : (space : Space) (part : Partial) (full : Full) → part.constraints ≡ [] → Valid space full → Completes space part full
completes-empty space part full none valid = record {
  valid = valid;
  constraints = subst (All (λ d. holds space full d ≡ true)) (sym none) (All-nil (λ d. holds space full d ≡ true));
}

pub find-requires-clause-few : goal.find-requires-clause-few
find-requires-clause-few c =
    omega (arith, length-all c.args.space.now (record { constraints = c.new.result }) c.args.cond.now, ap length c.new.ensures, c.requires.few)

pub returns-in-Completion : goal.returns-in-Completion
returns-in-Completion c =
    let found = subst (IsAnswer c.args.space.now (record { constraints = c.new.result }) c.args.cond.now) c.in-Completion.is c.in_ok-full.ensures in
    (found.0.valid, found.1)

pub returns : goal.returns
returns c full valid =
    let none = subst (IsAnswer c.args.space.now (record { constraints = c.new.result }) c.args.cond.now) c.in-Refuted.is c.in_ok-full.ensures in
    none.1 full (completes-empty c.args.space.now (record { constraints = c.new.result }) full c.new.ensures valid)
