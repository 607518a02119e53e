-- What a test of the first path asks: the truth value of one Boolean parameter.
use Rattle.std.proofs.Common.{◌≡◌, ℕ, Bool, true, false, not, List, [], ◌∷◌, map, refl, ap, ◌∙◌, Option, None, Some}
use Rattle.std.specs.Prelude.{All, if◌then◌else◌, option_and_then}
use Rattle.std.specs.Option.{option_map}
use Rattle.udb_base.specs.declared.conditions.Cond.{Cond}
use Rattle.udb_base.specs.declared.conditions.Cond.TheVariants as c
use Rattle.udb_base.specs.declared.conditions.Value.{Value}
use Rattle.udb_base.specs.declared.conditions.Value.TheVariants.{Flag}
use Rattle.udb_base.specs.declared.conditions.Test.TheVariants.{Equal}
use Rattle.udb_base.specs.declared.spaces.Domain.{Domain}
use Rattle.udb_base.specs.declared.spaces.Domain.TheVariants.{Flags, Numbers, Range, Words}
use Rattle.udb_base.specs.declared.spaces.ParamSpace.{ParamSpace}
use Rattle.udb_base.specs.declared.spaces.Space.{Space}
use Rattle.udb_base.specs.declared.spaces.Full.{Full}
use Rattle.udb_spec.specs.Conditions.{holds, value_of, option_passes}
use Rattle.udb_spec.specs.CondLaws.{holds-Param, holds-Not}
use Rattle.idl_tree.specs.declared.expressions.Unary.TheVariants as u
use Rattle.idl_tree.specs.declared.expressions.Expr.{Expr}
use Rattle.idl_tree.specs.declared.expressions.Expr.TheVariants as e
use Rattle.idl_spec.specs.Values.{Value as Meant, flag, least_width}
use Rattle.idl_spec.specs.Harts.{State, Outcome, done, and_then, required}
use Rattle.idl_spec.specs.Shapes.{greatest}
use Rattle.idl_spec.specs.Settings.{Setting, given_value, parameter_value}
use Rattle.idl_spec.specs.Forms.{unary}
use Rattle.idl_spec.specs.Programs.{bare, write_csr}
use Rattle.idl_spec.specs.Mean.{mean_expr}
use Rattle.idl_spec.specs.MeanLaws.{mean-Word, mean-Unary}
use Rattle.idl_spec.specs.Formulas.{Side, claims, claims_unary, of_formula, of_option, parameter_side, word_formula}
use Rattle.idl_spec.specs.FormulaLaws.{claims-Word, claims-Unary}
use Rattle.entry_tree.specs.declared.ParamEntry.{ParamEntry}
use Rattle.first_spec.specs.Bundle.{IsTest, switch, not_switch, IsParam, is_switch_name}
use Rattle.manual_spec.specs.Entries.{param_space}
use Rattle.first_prune.specs.Known.{Known, look, no_program}
use Rattle.first_prune.specs.Pruning.{known_truth, known_after, truth_under, truth-Word, truth-Unary, after-Word, after-Unary}
use Rattle.first_prune.proofs.Worlds.{chosen_true, always_holds, space_with, Switch, switch_named}

-- the same truth value, or the other one
abbrev pub turned : Bool → Bool → Bool
turned true b = b
turned false b = not b

pub turned_back : (on b : Bool) → turned on (turned on b) ≡ b
turned_back true b = refl
turned_back false true = refl
turned_back false false = refl

not_not : (b : Bool) → not (not b) ≡ b
not_not true = refl
not_not false = refl

-- the setting of a body that names neither functions nor CSRs nor variables
abbrev pub setting_with : Space → Full → Setting
setting_with space full = bare space full no_program (Some (write_csr space full no_program))

-- the name, whether the test is true where the parameter is, and what this means everywhere
pub record Asks (params : List ParamEntry) (test : Expr) : Type 0 where
  pub name : List ℕ
  pub on : Bool
  pub named : is_switch_name params name ≡ true
  pub truth : (known : Known) → known_truth known test ≡ option_map (turned on) (look known name)
  pub after : (known : Known) (b : Bool) → known_after known test (turned on b) ≡ (name, b) ∷ known
  pub meaning : (full : Full) (b : Bool) (s : State) → value_of (space_with params) full name ≡ Some (Flag b) → mean_expr (setting_with (space_with params) full) test [] s ≡ done (flag (turned on b)) s
  pub formula : Cond
  pub claimed : claims (space_with params) test ≡ of_formula formula
  pub says : (full : Full) (b : Bool) → value_of (space_with params) full name ≡ Some (Flag b) → holds (space_with params) full formula ≡ turned on b

id_map : (o : Option Bool) → o ≡ option_map (turned true) o
id_map None = refl
id_map (Some b) = refl

turned_map : (o : Option Bool) → option_map not o ≡ option_map (turned false) o
turned_map None = refl
turned_map (Some b) = refl

passes_true : (b : Bool) → option_passes Equal (Some (Flag b)) (Flag true) ≡ b
passes_true true = refl
passes_true false = refl

module _ (params : List ParamEntry) (is_params : All IsParam params) (name : List ℕ) (is_named : is_switch_name params name ≡ true) where
  switch_of : Switch (map param_space params) name
  switch_of = switch_named params is_params name is_named

  side_of : (p : ParamSpace) → p.domain ≡ Flags → parameter_side name (Some p) ≡ Side.flag name
  side_of p e = ap (λ (d : Domain). elim d [ Flags ↦ Side.flag name | Numbers ns ↦ Side.number name | Range low high ↦ Side.number name | Words ws ↦ Side.word name ]) e

  word_claims : claims (space_with params) (e.Word name) ≡ of_formula (c.Param name Equal (Flag true))
  word_claims =
      claims-Word (space_with params) name
      ∙ ap (λ (s : Side). of_option (word_formula s)) (ap (parameter_side name) switch_of.named ∙ side_of switch_of.param switch_of.domain)

  word_says : (full : Full) (b : Bool) → value_of (space_with params) full name ≡ Some (Flag b) → holds (space_with params) full (c.Param name Equal (Flag true)) ≡ b
  word_says full b v = holds-Param (space_with params) full name Equal (Flag true) ∙ (ap (λ (o : Option Value). option_passes Equal o (Flag true)) v ∙ passes_true b)

  -- the value of the name, where the parameter has it
  given_here : (full : Full) (b : Bool) (p : ParamSpace) → p.defined ≡ c.Always → value_of (space_with params) full name ≡ Some (Flag b) → (if holds (space_with params) full p.defined then option_map (given_value (least_width (greatest p.domain))) (value_of (space_with params) full name) else None) ≡ Some (flag b)
  given_here full b p d v =
      chosen_true (option_map (given_value (least_width (greatest p.domain))) (value_of (space_with params) full name)) None (holds (space_with params) full p.defined) (always_holds (space_with params) full p.defined d)
      ∙ ap (option_map (given_value (least_width (greatest p.domain)))) v

  word_value : (full : Full) (b : Bool) → value_of (space_with params) full name ≡ Some (Flag b) → parameter_value (setting_with (space_with params) full) name ≡ Some (flag b)
  word_value full b v =
      ap (option_and_then (λ (p : ParamSpace). if holds (space_with params) full p.defined then option_map (given_value (least_width (greatest p.domain))) (value_of (space_with params) full name) else None)) switch_of.named
      ∙ given_here full b switch_of.param switch_of.defined v

  word_meaning : (full : Full) (b : Bool) (s : State) → value_of (space_with params) full name ≡ Some (Flag b) → mean_expr (setting_with (space_with params) full) (e.Word name) [] s ≡ done (flag b) s
  word_meaning full b s v =
      mean-Word (setting_with (space_with params) full) name [] s ∙ ap (λ (o : Option Meant). required o s) (word_value full b v)

  asks_word : Asks params (e.Word name)
  asks_word = record {
    name = name;
    on = true;
    named = is_named;
    truth = λ known. truth-Word known name ∙ id_map (look known name);
    after = λ known b. after-Word known name b;
    meaning = word_meaning;
    formula = c.Param name Equal (Flag true);
    claimed = word_claims;
    says = word_says;
  }

  asks_not : Asks params (e.Unary u.Not (e.Word name))
  asks_not = record {
    name = name;
    on = false;
    named = is_named;
    truth = λ known. truth-Unary known u.Not (e.Word name) ∙ (ap (truth_under u.Not) (truth-Word known name) ∙ turned_map (look known name));
    after = λ known b. after-Unary known u.Not (e.Word name) (not b) ∙ (after-Word known name (not (not b)) ∙ ap (λ (t : Bool). (name, t) ∷ known) (not_not b));
    meaning = λ full b s v. mean-Unary (setting_with (space_with params) full) u.Not (e.Word name) [] s ∙ ap (λ (a : Outcome Meant). and_then a (unary u.Not)) (word_meaning full b s v);
    formula = c.Not (c.Param name Equal (Flag true));
    claimed = claims-Unary (space_with params) u.Not (e.Word name) ∙ ap (claims_unary u.Not) word_claims;
    says = λ full b v. holds-Not (space_with params) full (c.Param name Equal (Flag true)) ∙ ap not (word_says full b v);
  }

pub asks : (params : List ParamEntry) → All IsParam params → (test : Expr) → IsTest params test → Asks params test
asks params is_params _ (switch name h) = asks_word params is_params name h
asks params is_params _ (not_switch name h) = asks_not params is_params name h
