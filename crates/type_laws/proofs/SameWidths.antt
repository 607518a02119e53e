-- A width that fits where no variables stand counts the same beside any variables.
use Rattle.std.proofs.Common.{◌≡◌, ◌⊎◌, ℕ, Bool, true, false, List, [], ◌∷◌, ◌++◌, length, Option, None, Some, refl, sym, ap, ◌∙◌, subst, append_assoc}
use Rattle.std.specs.Prelude.{pos, if◌then◌else◌, suc}
use Rattle.std.proofs.lemmas.Bool.{false≢true}
use Rattle.std.proofs.lemmas.Option.{none-some}
use Rattle.udb_base.specs.declared.names.Name.{Name}
use Rattle.udb_base.specs.declared.conditions.Cond.{Cond}
use Rattle.udb_base.specs.declared.conditions.Cond.TheVariants as c
use Rattle.udb_base.specs.declared.spaces.Space.{Space}
use Rattle.udb_base.specs.declared.spaces.Full.{Full}
use Rattle.udb_spec.specs.Conditions.{same_bytes}
use Rattle.udb_spec.specs.Spaces.{mxlen}
use Rattle.idl_tree.specs.WidthLaws.{induct-Width}
use Rattle.idl_tree.specs.Each.{Each}
use Rattle.idl_tree.specs.declared.widths.Width.{Width}
use Rattle.idl_tree.specs.declared.widths.Width.TheVariants as w
use Rattle.idl_tree.specs.declared.widths.Shape.{Shape}
use Rattle.idl_tree.specs.declared.widths.Shape.TheVariants as sh
use Rattle.idl_tree.specs.declared.programs.Variable.{Variable}
use Rattle.idl_tree.specs.declared.programs.Function.{Function}
use Rattle.idl_tree.specs.declared.programs.CsrBody.{CsrBody}
use Rattle.idl_tree.specs.declared.programs.Program.{Program}
use Rattle.idl_width.specs.Numbers.{clip, width_number, bits_among}
use Rattle.idl_width.specs.NumberLaws.{number-Number, number-Word, number-Plus, number-Minus, number-Times, number-Max, number-Bits}
use Rattle.idl_spec.specs.declared.scopes.BodyScope.TheVariants as scope
use Rattle.idl_spec.specs.Harts.{State}
use Rattle.idl_spec.specs.Shapes.{function_named}
use Rattle.idl_spec.specs.Fields.{bits_scope}
use Rattle.idl_spec.specs.Settings.{Setting}
use Rattle.idl_spec.specs.ProgramLaws.{callees_of}
use Rattle.idl_spec.specs.Programs.{bare}
use Rattle.idl_spec.specs.ProgramFits.{functions_fit}
use Rattle.std.specs.List.{list_any}
use Rattle.idl_spec.specs.Demands.{unknown_name, View, width_issues, ranged}
use Rattle.idl_spec.specs.CheckLaws.{issues-Plus, issues-Minus, issues-Times, issues-Max, issues-Bits}
use Rattle.idl_spec.specs.Checks.{argument_names, result_shape_issues, fits}
use Rattle.type_laws.specs.Kinds.{loud, Passes, view_in}
use Rattle.type_laws.specs.Given.{IsBareBody}
use Rattle.type_laws.proofs.Outcomes.{both_true, same_some}
use Rattle.type_laws.proofs.Passing.{front, back}
use Rattle.type_laws.proofs.GivenBits.{past_variables}
use Rattle.type_laws.proofs.GivenFields.{scopes_of, scope_is}
use Rattle.type_laws.proofs.FittedBodies.{function_passes, round_of}
use Rattle.type_laws.proofs.Moves as moves
use Rattle.type_laws.proofs.ProgramFunctions.{under_functions}

module _ (e : Setting) (view : View) (none : view.variables ≡ []) (wide : (mxlen e.space e.full ≡ 32) ⊎ (mxlen e.space e.full ≡ 64)) (known : List Cond) (variables : List Variable) where
  abbrev CountsSame : Width → Type 0
  CountsSame x = Passes e known (width_issues view x) → width_number e.space e.full (bits_scope e.program []) x ≡ width_number e.space e.full (bits_scope e.program variables) x

  two : (x a z : Width) → width_issues view x ≡ width_issues view a ++ width_issues view z → Passes e known (width_issues view x) → Passes e known (width_issues view a) × Passes e known (width_issues view z)
  two x a z is h =
      let k = subst (Passes e known) is h in
      (front e known (width_issues view a) _ k, back e known (width_issues view a) _ k)

  plus-case : (a z : Width) → CountsSame a → CountsSame z → CountsSame (w.Plus a z)
  plus-case a z one other h =
      let p = two (w.Plus a z) a z (issues-Plus view a z) h in
      let x = one p.0 in
      let y = other p.1 in
      let s = number-Plus e.space e.full (bits_scope e.program []) a z in
      let t = number-Plus e.space e.full (bits_scope e.program variables) a z in cc

  minus-case : (a z : Width) → CountsSame a → CountsSame z → CountsSame (w.Minus a z)
  minus-case a z one other h =
      let p = two (w.Minus a z) a z (issues-Minus view a z) h in
      let x = one p.0 in
      let y = other p.1 in
      let s = number-Minus e.space e.full (bits_scope e.program []) a z in
      let t = number-Minus e.space e.full (bits_scope e.program variables) a z in cc

  times-case : (a z : Width) → CountsSame a → CountsSame z → CountsSame (w.Times a z)
  times-case a z one other h =
      let p = two (w.Times a z) a z (issues-Times view a z) h in
      let x = one p.0 in
      let y = other p.1 in
      let s = number-Times e.space e.full (bits_scope e.program []) a z in
      let t = number-Times e.space e.full (bits_scope e.program variables) a z in cc

  max-case : (a z : Width) → CountsSame a → CountsSame z → CountsSame (w.Max a z)
  max-case a z one other h =
      let p = two (w.Max a z) a z (issues-Max view a z) h in
      let x = one p.0 in
      let y = other p.1 in
      let s = number-Max e.space e.full (bits_scope e.program []) a z in
      let t = number-Max e.space e.full (bits_scope e.program variables) a z in cc

  among : (vs : List Variable) (csr field : Name) → bits_among (mxlen e.space e.full) (bits_scope e.program vs) (Some csr) field ≡ bits_among (mxlen e.space e.full) (scopes_of e.program.csrs) (Some csr) field
  among vs csr field =
      ap (λ s. bits_among (mxlen e.space e.full) s (Some csr) field) (scope_is e.program vs)
      ∙ past_variables (mxlen e.space e.full) wide vs field (scopes_of e.program.csrs) csr vs

  bits-case : (csr : Option Name) (name : Name) → CountsSame (w.Bits csr name)
  bits-case None name h = absurd (unknown (subst (Passes e known) (issues-Bits view None name ∙ ap (λ vs. if list_any (λ (v : Variable). same_bytes v.name name) vs then [] else unknown_name name ∷ []) none) h))
    where
      unknown : Passes e known (unknown_name name ∷ []) → ⊥
      unknown k = let b : false ≡ true = k.0 in false≢true b
  bits-case (Some csr) name h =
      number-Bits e.space e.full (bits_scope e.program []) (Some csr) name
      ∙ (ap (λ n. clip (pos n)) (among [] csr name ∙ sym (among variables csr name))
      ∙ sym (number-Bits e.space e.full (bits_scope e.program variables) (Some csr) name))

  pub counts_same : (x : Width) → CountsSame x
  counts_same = induct-Width CountsSame (record {
    number = λ n h. number-Number e.space e.full (bits_scope e.program []) n ∙ sym (number-Number e.space e.full (bits_scope e.program variables) n);
    word = λ name h. number-Word e.space e.full (bits_scope e.program []) name ∙ sym (number-Word e.space e.full (bits_scope e.program variables) name);
    plus = plus-case;
    minus = minus-case;
    times = times-case;
    max = max-case;
    bits = bits-case;
  })

-- ---- the results of a program's functions

module _ (space : Space) (full : Full) (program : Program) (soft_write : Option (CsrBody → ℕ → State → Option State)) (variables : List Variable) (wide : (mxlen space full ≡ 32) ⊎ (mxlen space full ≡ 64)) where
  abbrev plain : Setting
  plain = under_functions space full program soft_write program.functions

  abbrev IsSame : Option Shape → Type 0
  IsSame shape = moves.SameResult plain variables (callees_of (bare space full program soft_write) program.functions) soft_write None shape

  same_shape : (earlier : List Function) (f : Function) (shape : Option Shape) → Passes plain (c.Always ∷ []) (result_shape_issues (view_in plain loud (round_of earlier f) (argument_names f.arguments)) shape) → IsSame shape
  same_shape earlier f None h = tt
  same_shape earlier f (Some sh.Boolean) h = tt
  same_shape earlier f (Some (sh.Enum k)) h = tt
  same_shape earlier f (Some (sh.Bits signed width)) h =
      let view = view_in plain loud (round_of earlier f) (argument_names f.arguments) in
      counts_same plain view refl wide (c.Always ∷ []) variables width (front plain (c.Always ∷ []) (width_issues view width) (ranged 1 128 width) h)

  results_from : (earlier later : List Function) → program.functions ≡ earlier ++ later → functions_fit space full program (length earlier) later ≡ true → Each (λ f. IsBareBody f.body) later
      → (name : List ℕ) (g : Function) → function_named later name ≡ Some g → IsSame g.result
  results_from earlier [] is fit bodies name g named = absurd (none-some g named)
  results_from earlier (f ∷ fs) is fit bodies name g named =
      at (same_bytes f.name name) named (results_from (earlier ++ f ∷ []) fs (is ∙ sym (append_assoc earlier (f ∷ []) fs)) (ap (λ n. functions_fit space full program n fs) (functions_length earlier f) ∙ b.1) bodies.1 name g)
    where
      functions_length : (gs : List Function) (f : Function) → length (gs ++ f ∷ []) ≡ suc (length gs)
      functions_length [] f = refl
      functions_length (h ∷ hs) f = ap suc (functions_length hs f)

      b : (fits space full program c.Always (scope.Function (length earlier)) f.body ≡ true) × (functions_fit space full program (suc (length earlier)) fs ≡ true)
      b = both_true (fits space full program c.Always (scope.Function (length earlier)) f.body) (functions_fit space full program (suc (length earlier)) fs) fit

      own : IsSame f.result
      own = same_shape earlier f f.result (function_passes space full program (callees_of (bare space full program soft_write) program.functions) soft_write loud tt earlier fs f is bodies.0.no_variables b.0).header

      at : (x : Bool) → (if x then Some f else function_named fs name) ≡ Some g → (function_named fs name ≡ Some g → IsSame g.result) → IsSame g.result
      at true k more = subst (λ (h : Function). IsSame h.result) (same_some k) own
      at false k more = more k

  pub results_same : functions_fit space full program 0 program.functions ≡ true → Each (λ f. IsBareBody f.body) program.functions → (name : List ℕ) (g : Function) → function_named program.functions name ≡ Some g → IsSame g.result
  results_same fit bodies = results_from [] program.functions refl fit bodies
