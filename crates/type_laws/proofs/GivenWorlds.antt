-- What a valid full configuration of a lawful space and a lawful program give the names of a body.
use Rattle.std.proofs.Common.{◌≡◌, ◌++◌, ℕ, Bool, true, false, List, [], ◌∷◌, map, Option, None, Some, refl, sym, ap, ◌∙◌}
use Rattle.std.specs.Prelude.{is_some, sum_by, if◌then◌else◌}
use Rattle.std.specs.Cmp.Lexicographic.{bytes_decides}
use Rattle.std.proofs.lemmas.Bool.{false≢true}
use Rattle.std.proofs.lemmas.Option.{none-some}
use Rattle.std.proofs.lemmas.List.Elements.{All-head, All-tail}
use Rattle.udb_base.specs.declared.versions.Version.{Version}
use Rattle.udb_base.specs.declared.conditions.Value.TheVariants as g
use Rattle.udb_base.specs.declared.spaces.ParamSpace.{ParamSpace}
use Rattle.udb_spec.specs.Conditions.{same_bytes}
use Rattle.udb_spec.specs.Spaces.{mxlen, Valid}
use Rattle.udb_spec.specs.Lawful.{Lawful}
use Rattle.idl_tree.specs.declared.programs.Variable.{Variable}
use Rattle.idl_width.specs.Numbers.{bits_among}
use Rattle.idl_forms.specs.Ready.{IsLawfulProgram, AreLawfulVariables}
use Rattle.idl_spec.specs.Shapes.{parameter_named}
use Rattle.idl_spec.specs.Fields.{is_for, bits_scope, variables_for, variable_width, variable_bits}
use Rattle.idl_spec.specs.Settings.{Setting, registers}
use Rattle.idl_spec.specs.Forms.{choice_among}
use Rattle.idl_spec.specs.Formulas.{lists_extension}
use Rattle.type_laws.specs.Given.{IsReadDomain, IsReadSpace, AreApart}
use Rattle.type_laws.specs.Worlds.{HasChoice, World, Tested}
use Rattle.type_laws.proofs.GivenParams.{found_passes, inside_domain, number_fits, has_parameter, are_wide, have_width, choice_there}
use Rattle.type_laws.proofs.GivenBits.{some_variable, no_variable_bits, one_width, no_fields}
use Rattle.type_laws.proofs.GivenFields.{scopes_of, scope_is, present_bits, present_number}

module _ (e : Setting) (lawful : Lawful e.space) (valid : Valid e.space e.full) where
  chosen : (name : List ℕ) (o : Option (Option Version)) → choice_among e.space.extensions e.full.extensions name ≡ o → is_some o ≡ true → HasChoice e name
  chosen name None is h = absurd (false≢true h)
  chosen name (Some c) is h = record { choice = c; is = is }

  has_choice : (name : List ℕ) → lists_extension e.space name ≡ true → HasChoice e name
  has_choice name h = chosen name (choice_among e.space.extensions e.full.extensions name) refl (choice_there e.space e.full e.space.extensions e.full.extensions name valid.choices h)

  -- what `$bits` counts of a name without a CSR
  abbrev counts : List ℕ → ℕ → Type 0
  counts name n = bits_among (mxlen e.space e.full) (bits_scope e.program e.variables) None name ≡ n

  counted : (name : List ℕ) (n : ℕ) → bits_among (registers e) (map (variable_bits e.variables) e.variables ++ scopes_of e.program.csrs) None name ≡ n → counts name n
  counted name n h = ap (λ scope. bits_among (registers e) scope None name) (scope_is e.program e.variables) ∙ h

  one_counts : AreLawfulVariables e.variables → (name : List ℕ) (v : Variable) (more : List Variable) → variables_for (registers e) e.variables name ≡ v ∷ more → counts name (variable_width v)
  one_counts variables name v more h =
      let wide = (are_wide e valid lawful).which in
      counted name (variable_width v)
      (some_variable (registers e) wide e.variables name (scopes_of e.program.csrs) e.variables v more h
      ∙ one_width (registers e) wide e.variables variables name v more h)

  none_counts : (name : List ℕ) → variables_for (registers e) e.variables name ≡ [] → counts name 0
  none_counts name h =
      counted name 0
      (no_variable_bits (registers e) (are_wide e valid lawful).which e.variables name (scopes_of e.program.csrs)
      (ap (sum_by variable_width) h) (no_fields (registers e) name e.program.csrs) e.variables)

  -- the names of a setting stand for values as widths count them
  pub world : IsLawfulProgram e.program → AreLawfulVariables e.variables → World e
  world program variables = record {
    wide = have_width e valid lawful;
    parameters = has_parameter e valid;
    extensions = has_choice;
    field_bits = present_bits e.space e.full e.program e.variables program (are_wide e valid lawful).which;
    field_numbers = present_number e.space e.full e.program;
    variable = one_counts variables;
    no_variable = none_counts;
  }

-- no variable has the name of a parameter
no_variable_named : (params : List ParamSpace) (r : ℕ) (name : List ℕ) (p : ParamSpace) → parameter_named params name ≡ Some p → (vs : List Variable) → AreApart params vs → variables_for r vs name ≡ []
no_variable_named params r name p h [] apart = refl
no_variable_named params r name p h (v ∷ vs) apart = at (same_bytes v.name name) refl (no_variable_named params r name p h vs (All-tail (λ w. parameter_named params w.name ≡ None) v vs apart))
  where
    at : (b : Bool) → same_bytes v.name name ≡ b → variables_for r vs name ≡ [] → (if (if b then is_for r v.base else false) then v ∷ variables_for r vs name else variables_for r vs name) ≡ []
    at true is rest =
        let gone : parameter_named params v.name ≡ None = All-head (λ w. parameter_named params w.name ≡ None) v vs apart in
        absurd (none-some p (sym gone ∙ (ap (parameter_named params) ((bytes_decides v.name name).0 is) ∙ h)))
    at false is rest = rest

-- what tests say of parameters is so in a space that was read
pub tested : (e : Setting) → Valid e.space e.full → IsReadSpace e.space → AreApart e.space.params e.variables → Tested e
tested e valid read apart = record {
  inside = inside_domain e.space e.full valid;
  small = λ name p n h k. number_fits p.domain n (found_passes (λ q. IsReadDomain q.domain) (λ q. same_bytes q.name name) e.space.params p read h).0 (inside_domain e.space e.full valid name p (g.Number n) h k);
  apart = λ name p h. no_variable_named e.space.params (registers e) name p h e.variables apart;
}
