-- Words, fields and extensions.
use Rattle.std.proofs.Common.{◌≡◌, ◌≤◌, ℕ, Bool, true, false, List, [], ◌∷◌, ◌++◌, map, Option, None, Some, refl, sym, ap, ◌∙◌, subst, arith}
use Rattle.std.specs.Prelude.{filter, option_map, option_and_then, is_some, if◌then◌else◌, pos}
use Rattle.std.proofs.lemmas.Int.{ints, clamps}
use Rattle.udb_base.specs.declared.names.Name.{Name}
use Rattle.udb_base.specs.declared.characters.Chars.{Chars}
use Rattle.udb_base.specs.declared.versions.Version.{Version}
use Rattle.udb_base.specs.declared.versions.Requirement.{Requirement}
use Rattle.udb_base.specs.declared.conditions.Cond.{Cond}
use Rattle.udb_base.specs.declared.spaces.ParamSpace.{ParamSpace}
use Rattle.udb_spec.specs.Conditions.{same_bytes, present_among}
use Rattle.udb_spec.specs.Spaces.{mxlen}
use Rattle.udb_cond.specs.Requirements.{requirement_of}
use Rattle.idl_tree.specs.declared.widths.Width.{Width}
use Rattle.idl_tree.specs.declared.widths.Width.TheVariants as wd
use Rattle.idl_tree.specs.declared.expressions.Expr.TheVariants as ex
use Rattle.idl_tree.specs.declared.programs.Variable.{Variable}
use Rattle.idl_tree.specs.declared.programs.CsrBody.{CsrBody}
use Rattle.idl_tree.specs.declared.programs.FieldBodies.{FieldBodies}
use Rattle.idl_width.specs.Numbers.{clip, bits_among}
use Rattle.idl_width.specs.NumberLaws.{number-Bits}
use Rattle.idl_spec.specs.Values.{Value, bits, flag, plain}
use Rattle.idl_spec.specs.Harts.{State}
use Rattle.idl_spec.specs.Shapes.{Kind, of_bits, of_flag, innermost, or_else, parameter_named, domain_kind, word_kind, field_kind}
use Rattle.idl_spec.specs.ShapeLaws.{shape-Word, shape-Field, shape-NewField, shape-Implemented, shape-ImplementedVersion}
use Rattle.idl_spec.specs.Fields.{Placed, part_width, bits_at, present_field, bits_scope, csr_named, field_named, variables_for, variable_width, variable_pattern, is_for}
use Rattle.idl_spec.specs.Settings.{Setting, Scope, NewNumber, registers, number_of_width, value_named, variable_value, variable_among, parameter_value}
use Rattle.idl_spec.specs.Forms.{field_value, choice_among}
use Rattle.idl_spec.specs.Mean.{mean_expr}
use Rattle.idl_spec.specs.MeanLaws.{mean-Word, mean-Field, mean-NewField, mean-Implemented, mean-ImplementedVersion}
use Rattle.idl_tree.specs.declared.programs.Function.{Function}
use Rattle.idl_spec.specs.Deeds.{reads_field}
use Rattle.idl_spec.specs.DeedLaws.{deeds-Field}
use Rattle.idl_spec.specs.Formulas.{lists_extension}
use Rattle.idl_spec.specs.Demands.{Issue, Visible, kind_issues, unknown_unless, mismatch_unless, present_issues, new_field_issues, demand, defined, present, unknown_name}
use Rattle.idl_spec.specs.Checks.{check, variable_names}
use Rattle.idl_spec.specs.CheckLaws.{checks-Word, checks-Field, checks-NewField, checks-Implemented, checks-ImplementedVersion}
use Rattle.idl_spec.specs.Programs.{IsState}
use Rattle.type_laws.specs.Kinds.{IsBits, HasKind, Mode, loud, in_field, below_field, reads_fields, StateOk, Good, DeedOk, Round, view_in, Passes}
use Rattle.type_laws.proofs.Outcomes.{required_good, some_good}
use Rattle.type_laws.proofs.Passing.{Here, front, back, known, unless, met, range}
use Rattle.type_laws.proofs.Widths.{InRange}
use Rattle.type_laws.proofs.Sound.{Sound, names_in, own_deeds}
use Rattle.type_laws.proofs.Leaves.{HasValue, leaf_sound}
use Rattle.type_laws.proofs.Worlds.{World, HasParameter, HasNumber, HasChoice, seen, innermost_more, kinds_seen, IsFound, found, IsVariable, variable_seen}

map_more : (f : Visible → List ℕ × Visible) (xs ys : List Visible) → map f (xs ++ ys) ≡ map f xs ++ map f ys
map_more f [] ys = refl
map_more f (x ∷ xs) ys = ap (λ zs. f x ∷ zs) (map_more f xs ys)

-- the kind of a parameter where the name is no visible one
abbrev from_parameter : Option Visible → Option ParamSpace → Option Kind
from_parameter o p = or_else (option_map (λ v. v.kind) o) (option_map (λ q. domain_kind q.domain) p)

module _ (e : Setting) (mode : Mode) (round : Round) (world : World e) where
  abbrev looked : List Visible → Name → Option Visible
  looked inner name = or_else (innermost (seen inner) name) (innermost (seen (variable_names e.variables)) name)

  seen_all : (inner : List Visible) (name : Name) → innermost (seen (variable_names e.variables ++ inner)) name ≡ looked inner name
  seen_all inner name =
      ap (λ ps. innermost ps name) (map_more (λ v. (v.name, v)) (variable_names e.variables) inner)
      ∙ innermost_more (seen (variable_names e.variables)) (seen inner) name

  abbrev issues_of : Name → Option Visible → Option ParamSpace → List Issue
  issues_of name o p = if is_some o then [] else elim p [ None ↦ unknown_name name ∷ [] | Some q ↦ demand (defined q.defined) ∷ [] ]

  alike : (k n : ℕ) → n ≤ 128 → clip (pos k) ≡ pos n → k ≡ n
  alike k n h is = omega (arith, ints, clamps)

  -- bits whose count `$bits` gives
  pub counted_bits : (csr : Option Name) (name : Name) (n k : ℕ) → InRange 1 128 (number_of_width e (wd.Bits csr name)) → bits_among (mxlen e.space e.full) (bits_scope e.program e.variables) csr name ≡ n → IsBits e (wd.Bits csr name) false (plain n k)
  counted_bits csr name n k r is =
      let z : number_of_width e (wd.Bits csr name) ≡ clip (pos n) = number-Bits e.space e.full (bits_scope e.program e.variables) csr name ∙ ap (λ m. clip (pos m)) is in
      let m : n ≡ r.n = alike n r.n r.most (sym z ∙ r.is) in
      record { number = r.is ∙ ap pos (sym m); low = omega (arith, m, r.least); high = omega (arith, m, r.most); sign = refl }

  -- ---- words

  record WordValue (scope : Scope) (name : Name) (s : State) (kind : Kind) : Type 0 where
    pub value : Value
    pub is : value_named e scope name s ≡ Some value
    pub has : HasKind e kind value

  local_word : (scope : Scope) (name : Name) (s : State) (v : Visible) (o : Option Value) → innermost scope name ≡ o → IsFound e name (Some v) o → WordValue scope name s v.kind
  local_word scope name s v None is h = absurd h
  local_word scope name s v (Some x) is h = record { value = x; is = ap (λ o. or_else o (or_else (variable_value e name s) (parameter_value e name))) is; has = h.0 }

  no_local : (name : Name) (o : Option Value) → IsFound e name None o → o ≡ None
  no_local name None h = refl
  no_local name (Some x) h = absurd h

  variable_word : (scope : Scope) (name : Name) (s : State) (vs : List Variable) → innermost scope name ≡ None → InRange 1 128 (number_of_width e (wd.Bits None name)) → variables_for (registers e) e.variables name ≡ vs → WordValue scope name s (of_bits (wd.Bits None name) false)
  variable_word scope name s [] none r is =
      let b : IsBits e (wd.Bits None name) false (plain 0 0) = counted_bits None name 0 0 r (world.no_variable name is) in
      absurd (omega (arith, b.low))
  variable_word scope name s (v ∷ more) none r is = record {
    value = bits (plain (variable_width v) (variable_pattern s.word v));
    is = ap (λ o. or_else o (or_else (variable_value e name s) (parameter_value e name))) none
        ∙ ap (λ ws. or_else (variable_among s.word ws) (parameter_value e name)) is;
    has = counted_bits None name (variable_width v) (variable_pattern s.word v) r (world.variable name v more is);
  }

  unseen : (r : ℕ) (vs : List Variable) (name : Name) → innermost (seen (variable_names vs)) name ≡ None → variables_for r vs name ≡ []
  unseen r [] name h = refl
  unseen r (v ∷ vs) name h = at (innermost (seen (variable_names vs)) name) (same_bytes v.name name) (filter (λ w. if same_bytes w.name name then is_for r w.base else false) vs) h (unseen r vs name)
    where
      at : (o : Option Visible) (b : Bool) (rest : List Variable) → or_else o (if b then Some (record { name = v.name; kind = of_bits (wd.Bits None v.name) false; is_assignable = false }) else None) ≡ None → (o ≡ None → rest ≡ []) → (if (if b then is_for r v.base else false) then v ∷ rest else rest) ≡ []
      at None true rest h k = absurd (cc)
      at None false rest h k = k refl
      at (Some w) b rest h k = absurd (cc)

  parameter_word : (scope : Scope) (name : Name) (s : State) (p : ParamSpace) → innermost scope name ≡ None → innermost (seen (variable_names e.variables)) name ≡ None → HasParameter e name p
      → ((w : Width) (z : Bool) → domain_kind p.domain ≡ of_bits w z → InRange 1 128 (number_of_width e w)) → WordValue scope name s (domain_kind p.domain)
  parameter_word scope name s p none unseen_name has sized = record {
    value = has.value;
    is = ap (λ o. or_else o (or_else (variable_value e name s) (parameter_value e name))) none
        ∙ (ap (λ ws. or_else (variable_among s.word ws) (parameter_value e name)) (unseen (registers e) e.variables name unseen_name) ∙ has.is);
    has = has.kind sized;
  }

  word_good : (scope : Scope) (name : Name) (s : State) (kind : Kind) → WordValue scope name s kind → StateOk e mode s → Good e mode (HasKind e kind) (mean_expr e (ex.Word name) scope s)
  word_good scope name s kind w st = subst (Good e mode (HasKind e kind)) (sym (mean-Word e name scope s)) (required_good e mode (HasKind e kind) _ w.value s w.is w.has st)

  word_works : (name : Name) (inner : List Visible) (here : List Cond) (o u : Option Visible) (p : Option ParamSpace) → innermost (seen inner) name ≡ o → innermost (seen (variable_names e.variables)) name ≡ u → parameter_named e.space.params name ≡ p
      → Passes e here (issues_of name (or_else o u) p) → Passes e here (kind_issues (from_parameter (or_else o u) p)) → HasValue e mode round (ex.Word name) inner here (from_parameter (or_else o u) p)
  word_works name inner here (Some v) u p is isu isp h q = record {
    kind = v.kind;
    is = refl;
    runs = λ scope s at. word_good scope name s v.kind
        (local_word scope name s v (innermost scope name) refl (subst (λ (o : Option Visible). IsFound e name o (innermost scope name)) is (found e inner scope name at.matches))) at.state;
  }
  word_works name inner here None (Some v) p is isu isp h q =
      let k : v.kind ≡ of_bits (wd.Bits None name) false = subst (IsVariable name) isu (variable_seen e.variables name) in
      record {
        kind = v.kind;
        is = refl;
        runs = λ scope s at. subst (λ (z : Kind). Good e mode (HasKind e z) (mean_expr e (ex.Word name) scope s)) (sym k)
            (word_good scope name s (of_bits (wd.Bits None name) false)
            (variable_word scope name s (variables_for (registers e) e.variables name)
            (no_local name (innermost scope name) (subst (λ (o : Option Visible). IsFound e name o (innermost scope name)) is (found e inner scope name at.matches)))
            (range e here 1 128 (wd.Bits None name) at.here (subst (λ (z : Kind). Passes e here (kind_issues (Some z))) k q)) refl) at.state);
      }
  word_works name inner here None None None is isu isp h q = absurd (let k : false ≡ true = h.0 in cc)
  word_works name inner here None None (Some p) is isu isp h q = record {
    kind = domain_kind p.domain;
    is = refl;
    runs = λ scope s at. word_good scope name s (domain_kind p.domain)
        (parameter_word scope name s p
        (no_local name (innermost scope name) (subst (λ (o : Option Visible). IsFound e name o (innermost scope name)) is (found e inner scope name at.matches))) isu
        (world.parameters name p isp (met e here (defined p.defined) at.here h.0))
        (λ w z i. range e here 1 128 w at.here (subst (λ (k : Kind). Passes e here (kind_issues (Some k))) i q))) at.state;
  }

  kind_law : (inner : List Visible) (name : Name) → word_kind (names_in e mode round inner) name ≡ from_parameter (looked inner name) (parameter_named e.space.params name)
  kind_law inner name =
      ap (λ o. or_else o (option_map (λ q. domain_kind q.domain) (parameter_named e.space.params name)))
      (kinds_seen (variable_names e.variables ++ inner) name ∙ ap (option_map (λ (v : Visible). v.kind)) (seen_all inner name))

  pub sound-Word : (name : Name) → Sound e mode round (ex.Word name)
  sound-Word name = leaf_sound e mode round (ex.Word name) (λ inner. issues_of name (looked inner name) (parameter_named e.space.params name)) (λ inner. from_parameter (looked inner name) (parameter_named e.space.params name)) (record {
    shape_law = λ inner. shape-Word (names_in e mode round inner) name ∙ kind_law inner name;
    checks_law = λ inner here. checks-Word (view_in e mode round inner) name here
        ∙ (ap (λ o. check here (issues_of name o (parameter_named e.space.params name) ++ kind_issues (word_kind (names_in e mode round inner) name)) ∷ []) (seen_all inner name)
        ∙ ap (λ k. check here (issues_of name (looked inner name) (parameter_named e.space.params name) ++ kind_issues k) ∷ []) (kind_law inner name));
  }) (λ inner here clean p q. word_works name inner here (innermost (seen inner) name) (innermost (seen (variable_names e.variables)) name) (parameter_named e.space.params name) refl refl refl p q)

  -- ---- extensions

  pub sound-Implemented : (name : Name) → Sound e mode round (ex.Implemented name)
  sound-Implemented name = leaf_sound e mode round (ex.Implemented name) (λ inner. unknown_unless (lists_extension e.space name) name) (λ inner. Some of_flag) (record {
    shape_law = λ inner. shape-Implemented (names_in e mode round inner) name;
    checks_law = λ inner here. checks-Implemented (view_in e mode round inner) name here;
  }) (λ inner here clean p q. record {
    kind = of_flag;
    is = refl;
    runs = λ scope s at.
        let c : HasChoice e name = world.extensions name (known e here (lists_extension e.space name) name p) in
        subst (Good e mode (HasKind e of_flag)) (sym (mean-Implemented e name scope s))
        (required_good e mode (HasKind e of_flag) _ (flag (is_some c.choice)) s (ap (option_map (λ choice. flag (is_some choice))) c.is) tt at.state);
  })

  record HasRequirement (text : Chars) : Type 0 where
    pub need : Requirement
    pub is : requirement_of text ≡ Some need

  requirement_there : (text : Chars) (o : Option Requirement) → requirement_of text ≡ o → is_some o ≡ true → HasRequirement text
  requirement_there text None is h = absurd (cc)
  requirement_there text (Some need) is h = record { need = need; is = is }

  pub sound-ImplementedVersion : (name : Name) (text : Chars) → Sound e mode round (ex.ImplementedVersion name text)
  sound-ImplementedVersion name text = leaf_sound e mode round (ex.ImplementedVersion name text) (λ inner. unknown_unless (lists_extension e.space name) name ++ mismatch_unless (is_some (requirement_of text))) (λ inner. Some of_flag) (record {
    shape_law = λ inner. shape-ImplementedVersion (names_in e mode round inner) name text;
    checks_law = λ inner here. checks-ImplementedVersion (view_in e mode round inner) name text here;
  }) (λ inner here clean p q. record {
    kind = of_flag;
    is = refl;
    runs = λ scope s at.
        let c : HasChoice e name = world.extensions name (known e here (lists_extension e.space name) name (front e here (unknown_unless (lists_extension e.space name) name) _ p)) in
        let n : HasRequirement text = requirement_there text (requirement_of text) refl (unless e here (is_some (requirement_of text)) (back e here (unknown_unless (lists_extension e.space name) name) _ p)) in
        subst (Good e mode (HasKind e of_flag)) (sym (mean-ImplementedVersion e name text scope s))
        (required_good e mode (HasKind e of_flag) _ (flag (present_among e.space.extensions e.full.extensions name (n.need ∷ []))) s
        (ap (option_and_then (λ need. option_map (λ choice. flag (present_among e.space.extensions e.full.extensions name (need ∷ []))) (choice_among e.space.extensions e.full.extensions name))) n.is
        ∙ ap (option_map (λ (choice : Option Version). flag (present_among e.space.extensions e.full.extensions name (n.need ∷ [])))) c.is) tt at.state);
  })

  -- ---- fields

  pub record HasPlace (csr field : Name) : Type 0 where
    pub place : Placed
    pub is : present_field e.space e.full e.program csr field ≡ Some place

  place_there : (csr field : Name) (o : Option Placed) → present_field e.space e.full e.program csr field ≡ o → is_some o ≡ true → HasPlace csr field
  place_there csr field None is h = absurd (cc)
  place_there csr field (Some p) is h = record { place = p; is = is }

  field_step : Name → Name → CsrBody → Option Kind
  field_step csr field c = option_map (λ f. of_bits (wd.Bits (Some csr) field) false) (field_named c.fields field)

  -- a field that passes is one of the program, and present where its place is reached
  pub record FieldPasses (csr field : Name) (here : List Cond) (kind : Option Kind) : Type 0 where
    pub is : kind ≡ Some (of_bits (wd.Bits (Some csr) field) false)
    pub place : Here e here → HasPlace csr field

  abbrev or_present : Name → Name → List Issue → List Issue
  or_present csr field issues = elim issues [ [] ↦ demand (present csr field) ∷ [] | i ∷ more ↦ i ∷ more ]

  abbrev first_unknown : Name → Name → Option CsrBody → List Issue
  first_unknown csr field o = elim o [ None ↦ unknown_name csr ∷ [] | Some one ↦ unknown_unless (is_some (field_named one.fields field)) field ]

  pub field_passes : (inner : List Visible) (csr field : Name) (here : List Cond) → Passes e here (present_issues (view_in e mode round inner) csr field) → FieldPasses csr field here (field_kind (names_in e mode round inner) csr field)
  field_passes inner csr field here h = at (csr_named e.program.csrs csr) h
    where
      named : (c : CsrBody) (o : Option FieldBodies) → Passes e here (or_present csr field (unknown_unless (is_some o) field)) → FieldPasses csr field here (option_map (λ (f : FieldBodies). of_bits (wd.Bits (Some csr) field) false) o)
      named c None h = absurd (let k : false ≡ true = h.0 in cc)
      named c (Some f) h = record { is = refl; place = λ ok. place_there csr field (present_field e.space e.full e.program csr field) refl (met e here (present csr field) ok h.0) }

      at : (o : Option CsrBody) → Passes e here (or_present csr field (first_unknown csr field o))
          → FieldPasses csr field here (option_and_then (λ c. option_map (λ f. of_bits (wd.Bits (Some csr) field) false) (field_named c.fields field)) o)
      at None h = absurd (let k : false ≡ true = h.0 in cc)
      at (Some c) h = named c (field_named c.fields field) h

  -- where fields may be read, the state holds them
  pub state_seen : (turns : List Function) (s : State) → reads_fields mode ≡ true → DeedOk e mode turns reads_field → StateOk e mode s → IsState e.space e.full e.program s
  state_seen turns s h ok st = at mode h ok st
    where
      at : (m : Mode) → reads_fields m ≡ true → DeedOk e m turns reads_field → StateOk e m s → IsState e.space e.full e.program s
      at loud h ok st = st
      at (in_field true) h ok st = st
      at (in_field false) h ok st = absurd (cc)
      at (below_field true) h ok st = st
      at (below_field false) h ok st = absurd (let k : true ≡ false = ok in cc)

  field_good : (csr field : Name) (here : List Cond) (s : State) → Here e here → InRange 1 128 (number_of_width e (wd.Bits (Some csr) field)) → HasPlace csr field → IsState e.space e.full e.program s → StateOk e mode s → Good e mode (HasKind e (of_bits (wd.Bits (Some csr) field) false)) (field_value e csr field s)
  field_good csr field here s ok r at state st =
      let n : HasNumber s csr field = world.field_numbers csr field at.place s state at.is in
      some_good e mode (HasKind e (of_bits (wd.Bits (Some csr) field) false)) _ at.place _ at.is
      (required_good e mode (HasKind e (of_bits (wd.Bits (Some csr) field) false)) _ (bits (plain (part_width at.place.bits) n.number)) s
      (ap (option_map (λ m. bits (plain (part_width at.place.bits) m))) n.is)
      (counted_bits (Some csr) field (part_width at.place.bits) n.number r (world.field_bits csr field at.place at.is)) st)

  pub sound-Field : (csr field : Name) → Sound e mode round (ex.Field csr field)
  sound-Field csr field = leaf_sound e mode round (ex.Field csr field) (λ inner. mismatch_unless (reads_fields mode) ++ present_issues (view_in e mode round inner) csr field) (λ inner. field_kind (names_in e mode round inner) csr field) (record {
    shape_law = λ inner. shape-Field (names_in e mode round inner) csr field;
    checks_law = λ inner here. checks-Field (view_in e mode round inner) csr field here;
  }) (λ inner here clean p q. record {
    kind = of_bits (wd.Bits (Some csr) field) false;
    is = (field_passes inner csr field here (back e here (mismatch_unless (reads_fields mode)) _ p)).is;
    runs = λ scope s at.
        let f = field_passes inner csr field here (back e here (mismatch_unless (reads_fields mode)) _ p) in
        subst (Good e mode (HasKind e (of_bits (wd.Bits (Some csr) field) false))) (sym (mean-Field e csr field scope s))
        (field_good csr field here s at.here (range e here 1 128 (wd.Bits (Some csr) field) at.here (subst (λ (k : Option Kind). Passes e here (kind_issues k)) f.is q)) (f.place at.here)
        (state_seen round.before s (unless e here (reads_fields mode) (front e here (mismatch_unless (reads_fields mode)) _ p)) (own_deeds e mode round (ex.Field csr field) [] (reads_field ∷ []) (deeds-Field csr field) clean).0 at.state) at.state);
  })

  new_works : (field : Name) (inner : List Visible) (here : List Cond) (o : Option NewNumber) → e.written ≡ o
      → Passes e here (new_field_issues (view_in e mode round inner) (option_map (λ n. n.csr) o) field) → Passes e here (kind_issues (option_and_then (λ csr. field_kind (names_in e mode round inner) csr field) (option_map (λ n. n.csr) o)))
      → HasValue e mode round (ex.NewField field) inner here (option_and_then (λ csr. field_kind (names_in e mode round inner) csr field) (option_map (λ n. n.csr) o))
  new_works field inner here None is p q = absurd (let k : false ≡ true = p.0 in cc)
  new_works field inner here (Some n) is p q = record {
    kind = of_bits (wd.Bits (Some n.csr) field) false;
    is = (field_passes inner n.csr field here p).is;
    runs = λ scope s at.
        let f = field_passes inner n.csr field here p in
        let g : HasPlace n.csr field = f.place at.here in
        subst (Good e mode (HasKind e (of_bits (wd.Bits (Some n.csr) field) false))) (sym (mean-NewField e field scope s))
        (some_good e mode (HasKind e (of_bits (wd.Bits (Some n.csr) field) false)) e.written n _ is
        (some_good e mode (HasKind e (of_bits (wd.Bits (Some n.csr) field) false)) _ g.place _ g.is (
          counted_bits (Some n.csr) field (part_width g.place.bits) (bits_at n.number g.place.bits)
              (range e here 1 128 (wd.Bits (Some n.csr) field) at.here (subst (λ (k : Option Kind). Passes e here (kind_issues k)) f.is q)) (world.field_bits n.csr field g.place g.is),
          at.state,
        )));
  }

  pub sound-NewField : (field : Name) → Sound e mode round (ex.NewField field)
  sound-NewField field = leaf_sound e mode round (ex.NewField field) (λ inner. new_field_issues (view_in e mode round inner) (option_map (λ n. n.csr) e.written) field)
      (λ inner. option_and_then (λ csr. field_kind (names_in e mode round inner) csr field) (option_map (λ n. n.csr) e.written)) (record {
        shape_law = λ inner. shape-NewField (names_in e mode round inner) field;
        checks_law = λ inner here. checks-NewField (view_in e mode round inner) field here;
      }) (λ inner here clean p q. new_works field inner here e.written refl p q)
