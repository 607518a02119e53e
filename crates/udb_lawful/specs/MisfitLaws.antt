-- What doesn't fit, case by case; a condition fits exactly where it has no such name.
use Rattle.std.specs.Prelude.{◌≡◌, ◌&&◌, Bool, true, false, ℕ, List, [], ◌∷◌, map, Option, None, Some, Contains}
use Rattle.std.specs.List.{list_all}
use Rattle.std.specs.Option.{is_none}
use Rattle.std.proofs.Common.{refl, sym, ap, subst, ◌∙◌, arith, suc}
use Rattle.std.proofs.lemmas.Option.{none-some}
use Rattle.udb_base.specs.declared.versions.Requirement.{Requirement}
use Rattle.udb_base.specs.declared.conditions.Value.{Value}
use Rattle.udb_base.specs.declared.conditions.Test.{Test}
use Rattle.udb_base.specs.declared.conditions.Cond.{Cond}
use Rattle.udb_base.specs.declared.conditions.Cond.TheVariants as c
use Rattle.udb_base.specs.declared.conditions.Cond.TheFolds.{fold-Cond, fold-roll-Cond}
use Rattle.udb_base.specs.declared.spaces.Space.{Space}
use Rattle.udb_spec.specs.Lawful.{fits, fits_step}
use Rattle.udb_spec.specs.CondInduction.{Each, Cases-Cond, induct-Cond}
use Rattle.udb_lawful.specs.Misfit.{has_extension, param_fits, unless, first_name, misfit_step, first_misfit, HasMisfit, of_extension, of_param, in_all, in_any, in_one, in_not}

contains-later : (x : Cond) (xs : List Cond) (part : Cond) → Contains xs part → Contains (x ∷ xs) part
contains-later x xs part among = (suc among.0, omega (arith, among.1), among.2)

contains-first : (x : Cond) (xs : List Cond) → Contains (x ∷ xs) x
contains-first x xs = (0, omega arith, refl)

module _ (space : Space) where
  pub misfit-Always : first_misfit space c.Always ≡ None
  unfolding first_misfit
  misfit-Always = ap (fold-Cond (Option (List ℕ)) (misfit_step space)) (sym c.rolls-Always) ∙ fold-roll-Cond (Option (List ℕ)) (misfit_step space) _

  pub misfit-Never : first_misfit space c.Never ≡ None
  unfolding first_misfit
  misfit-Never = ap (fold-Cond (Option (List ℕ)) (misfit_step space)) (sym c.rolls-Never) ∙ fold-roll-Cond (Option (List ℕ)) (misfit_step space) _

  pub misfit-Ext : (name : List ℕ) (needs : List Requirement) → first_misfit space (c.Ext name needs) ≡ unless (has_extension space name) name
  unfolding first_misfit
  misfit-Ext name needs = ap (fold-Cond (Option (List ℕ)) (misfit_step space)) (sym (c.rolls-Ext name needs)) ∙ fold-roll-Cond (Option (List ℕ)) (misfit_step space) _

  pub misfit-Param : (name : List ℕ) (test : Test) (given : Value) → first_misfit space (c.Param name test given) ≡ unless (param_fits space name test given) name
  unfolding first_misfit
  misfit-Param name test given = ap (fold-Cond (Option (List ℕ)) (misfit_step space)) (sym (c.rolls-Param name test given)) ∙ fold-roll-Cond (Option (List ℕ)) (misfit_step space) _

  pub misfit-All : (parts : List Cond) → first_misfit space (c.All parts) ≡ first_name (map (first_misfit space) parts)
  unfolding first_misfit
  misfit-All parts = ap (fold-Cond (Option (List ℕ)) (misfit_step space)) (sym (c.rolls-All parts)) ∙ fold-roll-Cond (Option (List ℕ)) (misfit_step space) _

  pub misfit-Any : (parts : List Cond) → first_misfit space (c.Any parts) ≡ first_name (map (first_misfit space) parts)
  unfolding first_misfit
  misfit-Any parts = ap (fold-Cond (Option (List ℕ)) (misfit_step space)) (sym (c.rolls-Any parts)) ∙ fold-roll-Cond (Option (List ℕ)) (misfit_step space) _

  pub misfit-One : (parts : List Cond) → first_misfit space (c.One parts) ≡ first_name (map (first_misfit space) parts)
  unfolding first_misfit
  misfit-One parts = ap (fold-Cond (Option (List ℕ)) (misfit_step space)) (sym (c.rolls-One parts)) ∙ fold-roll-Cond (Option (List ℕ)) (misfit_step space) _

  pub misfit-Not : (part : Cond) → first_misfit space (c.Not part) ≡ first_misfit space part
  unfolding first_misfit
  misfit-Not part = ap (fold-Cond (Option (List ℕ)) (misfit_step space)) (sym (c.rolls-Not part)) ∙ fold-roll-Cond (Option (List ℕ)) (misfit_step space) _

  -- ---- fits, case by case

  fits-Always : fits space c.Always ≡ true
  unfolding fits
  fits-Always = ap (fold-Cond Bool (fits_step space)) (sym c.rolls-Always) ∙ fold-roll-Cond Bool (fits_step space) _

  fits-Never : fits space c.Never ≡ true
  unfolding fits
  fits-Never = ap (fold-Cond Bool (fits_step space)) (sym c.rolls-Never) ∙ fold-roll-Cond Bool (fits_step space) _

  fits-Ext : (name : List ℕ) (needs : List Requirement) → fits space (c.Ext name needs) ≡ has_extension space name
  unfolding fits
  fits-Ext name needs = ap (fold-Cond Bool (fits_step space)) (sym (c.rolls-Ext name needs)) ∙ fold-roll-Cond Bool (fits_step space) _

  fits-Param : (name : List ℕ) (test : Test) (given : Value) → fits space (c.Param name test given) ≡ param_fits space name test given
  unfolding fits
  fits-Param name test given = ap (fold-Cond Bool (fits_step space)) (sym (c.rolls-Param name test given)) ∙ fold-roll-Cond Bool (fits_step space) _

  fits-All : (parts : List Cond) → fits space (c.All parts) ≡ list_all (λ b. b) (map (fits space) parts)
  unfolding fits
  fits-All parts = ap (fold-Cond Bool (fits_step space)) (sym (c.rolls-All parts)) ∙ fold-roll-Cond Bool (fits_step space) _

  fits-Any : (parts : List Cond) → fits space (c.Any parts) ≡ list_all (λ b. b) (map (fits space) parts)
  unfolding fits
  fits-Any parts = ap (fold-Cond Bool (fits_step space)) (sym (c.rolls-Any parts)) ∙ fold-roll-Cond Bool (fits_step space) _

  fits-One : (parts : List Cond) → fits space (c.One parts) ≡ list_all (λ b. b) (map (fits space) parts)
  unfolding fits
  fits-One parts = ap (fold-Cond Bool (fits_step space)) (sym (c.rolls-One parts)) ∙ fold-roll-Cond Bool (fits_step space) _

  fits-Not : (part : Cond) → fits space (c.Not part) ≡ fits space part
  unfolding fits
  fits-Not part = ap (fold-Cond Bool (fits_step space)) (sym (c.rolls-Not part)) ∙ fold-roll-Cond Bool (fits_step space) _

  -- ---- a condition fits exactly where no name is the first that doesn't

  abbrev Agrees : Cond → Type 0
  Agrees cond = fits space cond ≡ is_none (first_misfit space cond)

  none-unless : (b : Bool) (name : List ℕ) → b ≡ is_none (unless b name)
  none-unless true name = refl
  none-unless false name = refl

  none-first : (o : Option (List ℕ)) (rest : List (Option (List ℕ))) → is_none (first_name (o ∷ rest)) ≡ (is_none o && is_none (first_name rest))
  none-first None rest = refl
  none-first (Some name) rest = refl

  each-agrees : (parts : List Cond) → Each Agrees parts → list_all (λ b. b) (map (fits space) parts) ≡ is_none (first_name (map (first_misfit space) parts))
  each-agrees [] e = refl
  each-agrees (x ∷ xs) e = ap (λ b. b && list_all (λ b. b) (map (fits space) xs)) e.0 ∙ (ap (λ b. is_none (first_misfit space x) && b) (each-agrees xs e.1) ∙ sym (none-first (first_misfit space x) (map (first_misfit space) xs)))

  agreeing : Cases-Cond Agrees
  agreeing = record {
    always = fits-Always ∙ sym (ap is_none misfit-Always);
    never = fits-Never ∙ sym (ap is_none misfit-Never);
    ext = λ name needs. fits-Ext name needs ∙ (none-unless (has_extension space name) name ∙ sym (ap is_none (misfit-Ext name needs)));
    param = λ name test given. fits-Param name test given ∙ (none-unless (param_fits space name test given) name ∙ sym (ap is_none (misfit-Param name test given)));
    all = λ parts e. fits-All parts ∙ (each-agrees parts e ∙ sym (ap is_none (misfit-All parts)));
    any = λ parts e. fits-Any parts ∙ (each-agrees parts e ∙ sym (ap is_none (misfit-Any parts)));
    one = λ parts e. fits-One parts ∙ (each-agrees parts e ∙ sym (ap is_none (misfit-One parts)));
    not = λ part e. fits-Not part ∙ (e ∙ sym (ap is_none (misfit-Not part)));
  }

  pub misfit-none : (cond : Cond) → fits space cond ≡ is_none (first_misfit space cond)
  misfit-none = induct-Cond Agrees agreeing

  -- ---- the name is that of an atom which doesn't fit

  abbrev Names : Cond → Type 0
  Names cond = (name : List ℕ) → first_misfit space cond ≡ Some name → HasMisfit space cond name

  unless-false : (b : Bool) (a name : List ℕ) → unless b a ≡ Some name → (b ≡ false) × (a ≡ name)
  unless-false true a name e = absurd (none-some name e)
  unless-false false a name e = (refl, cc)

  by-ext : (a : List ℕ) (needs : List Requirement) (name : List ℕ) → (has_extension space a ≡ false) × (a ≡ name) → HasMisfit space (c.Ext a needs) name
  by-ext a needs name h = subst (λ n. HasMisfit space (c.Ext a needs) n) h.1 (of_extension a needs h.0)

  by-param : (a : List ℕ) (test : Test) (given : Value) (name : List ℕ) → (param_fits space a test given ≡ false) × (a ≡ name) → HasMisfit space (c.Param a test given) name
  by-param a test given name h = subst (λ n. HasMisfit space (c.Param a test given) n) h.1 (of_param a test given h.0)

  abbrev Among : List Cond → List ℕ → Type 0
  Among parts name = (part : Cond) × (Contains parts part × HasMisfit space part name)

  later : (x : Cond) (xs : List Cond) (name : List ℕ) → Among xs name → Among (x ∷ xs) name
  later x xs name a = (a.0, (contains-later x xs a.0 a.1.0, a.1.1))

  split : (x : Cond) (xs : List Cond) (name : List ℕ) (o : Option (List ℕ)) → o ≡ first_misfit space x → Names x → (first_name (map (first_misfit space) xs) ≡ Some name → Among xs name) → first_name (o ∷ map (first_misfit space) xs) ≡ Some name → Among (x ∷ xs) name
  split x xs name None is here rest e = later x xs name (rest e)
  split x xs name (Some n) is here rest e = (x, (contains-first x xs, here name (sym is ∙ e)))

  each-names : (parts : List Cond) (name : List ℕ) → Each Names parts → first_name (map (first_misfit space) parts) ≡ Some name → Among parts name
  each-names [] name each e = absurd (none-some name e)
  each-names (x ∷ xs) name each e = split x xs name (first_misfit space x) refl each.0 (each-names xs name each.1) e

  naming : Cases-Cond Names
  naming = record {
    always = λ name e. absurd (none-some name (sym misfit-Always ∙ e));
    never = λ name e. absurd (none-some name (sym misfit-Never ∙ e));
    ext = λ a needs name e. by-ext a needs name (unless-false (has_extension space a) a name (sym (misfit-Ext a needs) ∙ e));
    param = λ a test given name e. by-param a test given name (unless-false (param_fits space a test given) a name (sym (misfit-Param a test given) ∙ e));
    all = λ parts each name e. (let a : Among parts name = each-names parts name each (sym (misfit-All parts) ∙ e) in in_all parts a.0 name a.1.0 a.1.1);
    any = λ parts each name e. (let a : Among parts name = each-names parts name each (sym (misfit-Any parts) ∙ e) in in_any parts a.0 name a.1.0 a.1.1);
    one = λ parts each name e. (let a : Among parts name = each-names parts name each (sym (misfit-One parts) ∙ e) in in_one parts a.0 name a.1.0 a.1.1);
    not = λ part of name e. in_not part name (of name (sym (misfit-Not part) ∙ e));
  }

  pub misfit-has : (cond : Cond) (name : List ℕ) → first_misfit space cond ≡ Some name → HasMisfit space cond name
  misfit-has = induct-Cond Names naming

pub ruleset misfit_laws = (misfit-Always, misfit-Never, misfit-Ext, misfit-Param, misfit-All, misfit-Any, misfit-One, misfit-Not)
