use Rattle.std.proofs.Common.{◌≡◌, ◌∙◌, true, sym, ap, subst, arith, length}
use Rattle.std.proofs.lemmas.Bool.{false≢true}
use Rattle.udb_spec.specs.Conditions.{holds}
use Rattle.udb_refute.specs.Answers.{IsAnswer}
use Rattle.udb_refute.proofs.SearchLaws.{length-all}
use Rattle.udb_csr.proofs.FaultLaws.{present-from, present-to, completes-empty}
use Rattle.udb_csr.proofs.searching.find_width.Goals as goal

pub find-requires-clause-few : goal.find-requires-clause-few
find-requires-clause-few c =
    omega (arith, length-all c.args.space.now (record { constraints = c.new.result }) c.in_ok-cond.cond, ap length c.new.ensures, c.requires.few)

pub returns-in-Completion : goal.returns-in-Completion
returns-in-Completion c =
    let found = subst (IsAnswer c.args.space.now (record { constraints = c.new.result }) c.in_ok-cond.cond) c.in-Completion.is c.in_ok-full.ensures in
    present-from c.args.space.now c.args.csr.now c.args.one.now c.args.other.now c.args.registers c.in-Completion.full c.requires.lawful found.0.valid c.requires.width
    (subst (λ d. holds c.args.space.now c.in-Completion.full d ≡ true) c.in_ok-cond.ensures found.1)

pub returns : goal.returns
returns c full are =
    let none = subst (IsAnswer c.args.space.now (record { constraints = c.new.result }) c.in_ok-cond.cond) c.in-Refuted.is c.in_ok-full.ensures in
    false≢true (sym (none.1 full (completes-empty c.args.space.now (record { constraints = c.new.result }) full c.new.ensures are.valid))
    ∙ subst (λ d. holds c.args.space.now full d ≡ true) (sym c.in_ok-cond.ensures) (present-to c.args.space.now c.args.csr.now c.args.one.now c.args.other.now c.args.registers full c.requires.lawful c.requires.width are))
