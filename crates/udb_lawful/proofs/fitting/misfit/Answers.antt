use Rattle.std.proofs.Common.{◌≡◌, ◌∙◌, List, ℕ, Option, None, Some, IfSome, Bor, refl, sym, ap}
use Rattle.std.specs.Option.{option_copied, is_none}
use Rattle.udb_base.specs.declared.conditions.Cond.{Cond}
use Rattle.udb_base.specs.declared.spaces.Space.{Space}
use Rattle.udb_lawful.specs.Misfit.{first_misfit, HasMisfit}
use Rattle.udb_lawful.specs.MisfitLaws.{misfit-none, misfit-has}
use Rattle.udb_lawful.proofs.fitting.misfit.Goals as goal

none-copied : (r : Option (Bor (List ℕ))) → is_none r ≡ is_none (option_copied r)
none-copied None = refl
none-copied (Some x) = refl

found : (space : Space) (cond : Cond) (r : Option (Bor (List ℕ))) → option_copied r ≡ first_misfit space cond → IfSome r (λ name. HasMisfit space cond name.now)
found space cond None e = tt
found space cond (Some x) e = misfit-has space cond x.now (sym e)

pub returns-clause-none : goal.returns-clause-none
returns-clause-none c = none-copied c.misfit_within.result ∙ (ap is_none c.misfit_within.ensures ∙ sym (misfit-none c.args.space.now c.args.cond.now))

pub returns-clause-found : goal.returns-clause-found
returns-clause-found c = found c.args.space.now c.args.cond.now c.misfit_within.result c.misfit_within.ensures
