-- The kind and the value of a word: of the innermost local, else of a variable, else of a parameter.
use Rattle.std.proofs.Common.{◌≡◌, ℕ, Bool, true, false, cond, List, [], ◌∷◌, ◌++◌, Option, None, Some, refl, sym, ap, ◌∙◌}
use Rattle.std.specs.Prelude.{map, find, is_some, option_map, if◌then◌else◌}
use Rattle.std.specs.Cmp.Lexicographic.{bytes_decides}
use Rattle.std.proofs.lemmas.Bool.{false≢true}
use Rattle.udb_base.specs.declared.names.Name.{Name}
use Rattle.udb_spec.specs.Conditions.{same_bytes}
use Rattle.idl_tree.specs.declared.programs.Variable.{Variable}
use Rattle.idl_tree.specs.declared.widths.Width.TheVariants as wd
use Rattle.idl_spec.specs.Values.{Value}
use Rattle.idl_spec.specs.Harts.{State}
use Rattle.idl_spec.specs.Shapes.{Kind, of_bits, or_else, innermost, parameter_named, domain_kind, word_kind}
use Rattle.idl_spec.specs.Fields.{variables_for}
use Rattle.idl_spec.specs.Settings.{Setting, Scope, registers, names_of, kind_of_value, variable_kinds, variable_among, parameter_value, value_named}
use Rattle.idl_forms.proofs.VariableBits.{or-else-none, or-else-assoc}

-- ---- the innermost of two lists

innermost-append : {A : Type 0} (ps qs : List (List ℕ × A)) (name : List ℕ) → innermost (ps ++ qs) name ≡ or_else (innermost qs name) (innermost ps name)
innermost-append [] qs name = sym (or-else-none (innermost qs name))
innermost-append (p ∷ ps) qs name =
    ap (λ o. or_else o (if same_bytes p.0 name then Some p.1 else None)) (innermost-append ps qs name)
    ∙ or-else-assoc (innermost qs name) (innermost ps name) (if same_bytes p.0 name then Some p.1 else None)

innermost-kinds : (ps : Scope) (name : List ℕ) → innermost (map (λ p. (p.0, kind_of_value p.1)) ps) name ≡ option_map kind_of_value (innermost ps name)
innermost-kinds [] name = refl
innermost-kinds (p ∷ ps) name =
    ap (λ o. or_else o (if same_bytes p.0 name then Some (kind_of_value p.1) else None)) (innermost-kinds ps name) ∙ first (innermost ps name) (same_bytes p.0 name) p.1 where
      first : (o : Option Value) (b : Bool) (v : Value) → or_else (option_map kind_of_value o) (if b then Some (kind_of_value v) else None) ≡ option_map kind_of_value (or_else o (if b then Some v else None))
      first None true v = refl
      first None false v = refl
      first (Some w) b v = refl

-- ---- the variables of the encoding

module _ (name : Name) where
  absent : (b : Bool) (v : Variable) (k : Kind) (o : Option Variable) (i : Option Kind) → is_some (cond b (Some v) o) ≡ false → (is_some o ≡ false → i ≡ None) → or_else i (if b then Some k else None) ≡ None
  absent true v k o i h rest = absurd (false≢true (sym h))
  absent false v k o i h rest = ap (λ j. or_else j None) (rest h)

  pub no-variable : (vs : List Variable) → is_some (find (λ v. same_bytes v.name name) vs) ≡ false → innermost (variable_kinds vs) name ≡ None
  no-variable [] h = refl
  no-variable (v ∷ vs) h =
      absent (same_bytes v.name name) v (of_bits (wd.Bits None v.name) false) (find (λ w. same_bytes w.name name) vs) (innermost (variable_kinds vs) name) h (no-variable vs)

  here : (later : Bool) (v : Variable) (o : Option Variable) (i : Option Kind) → is_some o ≡ later → same_bytes v.name name ≡ true
      → (is_some o ≡ true → i ≡ Some (of_bits (wd.Bits None name) false)) → (is_some o ≡ false → i ≡ None)
      → or_else i (Some (of_bits (wd.Bits None v.name) false)) ≡ Some (of_bits (wd.Bits None name) false)
  here true v o i is same some none = ap (λ j. or_else j (Some (of_bits (wd.Bits None v.name) false))) (some is)
  here false v o i is same some none =
      ap (λ j. or_else j (Some (of_bits (wd.Bits None v.name) false))) (none is) ∙ ap (λ n. Some (of_bits (wd.Bits None n) false)) ((bytes_decides v.name name).0 same)

  present : (b : Bool) (v : Variable) (o : Option Variable) (i : Option Kind) → same_bytes v.name name ≡ b → is_some (cond b (Some v) o) ≡ true
      → (is_some o ≡ true → i ≡ Some (of_bits (wd.Bits None name) false)) → (is_some o ≡ false → i ≡ None)
      → or_else i (if b then Some (of_bits (wd.Bits None v.name) false) else None) ≡ Some (of_bits (wd.Bits None name) false)
  present true v o i same h some none = here (is_some o) v o i refl same some none
  present false v o i same h some none = ap (λ j. or_else j None) (some h)

  pub some-variable : (vs : List Variable) → is_some (find (λ v. same_bytes v.name name) vs) ≡ true → innermost (variable_kinds vs) name ≡ Some (of_bits (wd.Bits None name) false)
  some-variable [] h = absurd (false≢true h)
  some-variable (v ∷ vs) h =
      present (same_bytes v.name name) v (find (λ w. same_bytes w.name name) vs) (innermost (variable_kinds vs) name) refl h (some-variable vs) (no-variable vs)

-- ---- the kind of a word

module _ (e : Setting) (scope : Scope) (name : Name) where
  word-parts : word_kind (names_of e scope) name
      ≡ or_else (or_else (option_map kind_of_value (innermost scope name)) (innermost (variable_kinds e.variables) name)) (option_map (λ p. domain_kind p.domain) (parameter_named e.space.params name))
  word-parts = ap (λ o. or_else o (option_map (λ p. domain_kind p.domain) (parameter_named e.space.params name)))
      (innermost-append (variable_kinds e.variables) (map (λ p. (p.0, kind_of_value p.1)) scope) name
      ∙ ap (λ o. or_else o (innermost (variable_kinds e.variables) name)) (innermost-kinds scope name))

  pub word-local : (v : Value) → innermost scope name ≡ Some v → word_kind (names_of e scope) name ≡ Some (kind_of_value v)
  word-local v is = word-parts ∙ ap (λ o. or_else (or_else (option_map kind_of_value o) (innermost (variable_kinds e.variables) name)) (option_map (λ p. domain_kind p.domain) (parameter_named e.space.params name))) is

  no-local : innermost scope name ≡ None → word_kind (names_of e scope) name
      ≡ or_else (innermost (variable_kinds e.variables) name) (option_map (λ p. domain_kind p.domain) (parameter_named e.space.params name))
  no-local none = word-parts ∙ ap (λ o. or_else (or_else (option_map kind_of_value o) (innermost (variable_kinds e.variables) name)) (option_map (λ p. domain_kind p.domain) (parameter_named e.space.params name))) none

  pub word-variable : innermost scope name ≡ None → is_some (find (λ v. same_bytes v.name name) e.variables) ≡ true → word_kind (names_of e scope) name ≡ Some (of_bits (wd.Bits None name) false)
  word-variable none some = no-local none ∙ ap (λ o. or_else o (option_map (λ p. domain_kind p.domain) (parameter_named e.space.params name))) (some-variable name e.variables some)

  pub word-parameter : innermost scope name ≡ None → is_some (find (λ v. same_bytes v.name name) e.variables) ≡ false → word_kind (names_of e scope) name ≡ option_map (λ p. domain_kind p.domain) (parameter_named e.space.params name)
  word-parameter none gone = no-local none ∙ ap (λ o. or_else o (option_map (λ p. domain_kind p.domain) (parameter_named e.space.params name))) (no-variable name e.variables gone)

  -- the value of a word that is no local and no variable
  pub parameter-left : (word r : ℕ) (s : State) → s.word ≡ word → registers e ≡ r → innermost scope name ≡ None → variable_among word (variables_for r e.variables name) ≡ None → value_named e scope name s ≡ parameter_value e name
  parameter-left word r s at width none gone =
      ap (λ o. or_else o (or_else (variable_among s.word (variables_for (registers e) e.variables name)) (parameter_value e name))) none
      ∙ ap (λ o. or_else o (parameter_value e name))
      (ap (λ w. variable_among w (variables_for (registers e) e.variables name)) at ∙ (ap (λ n. variable_among word (variables_for n e.variables name)) width ∙ gone))
