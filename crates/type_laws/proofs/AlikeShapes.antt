-- The shapes of expressions under the names of a place and under the values of a scope that stands there.
use Rattle.std.proofs.Common.{◌≡◌, ℕ, Bool, true, false, List, [], ◌∷◌, ◌++◌, map, Option, None, Some, refl, sym, ap, ◌∙◌, subst, arith}
use Rattle.std.specs.Prelude.{option_map, option_and_then, if◌then◌else◌}
use Rattle.idl_tree.specs.Each.{Each}
use Rattle.udb_base.specs.declared.names.Name.{Name}
use Rattle.udb_spec.specs.Conditions.{same_bytes}
use Rattle.idl_tree.specs.declared.widths.Width.{Width}
use Rattle.idl_tree.specs.declared.widths.Width.TheVariants as wd
use Rattle.idl_tree.specs.declared.expressions.Expr.{Expr}
use Rattle.idl_tree.specs.declared.expressions.Expr.TheVariants as ex
use Rattle.idl_tree.specs.declared.programs.Variable.{Variable}
use Rattle.idl_tree.specs.ExprLaws.{induct-Expr}
use Rattle.idl_bits.specs.BitVector.{BitVector}
use Rattle.idl_spec.specs.Values.{Value, bits, flag, member, given_text, written_text}
use Rattle.idl_spec.specs.Shapes.{Kind, of_bits, of_flag, of_member, of_given_text, of_written_text, Names, or_else, innermost, parameter_named, domain_kind, kind_holding, register_width, field_kind, call_kind, on_bits, on_two, joined_kind, join_kind, word_kind, shape}
use Rattle.idl_spec.specs.ShapeLaws.{shape-Number, shape-Sized, shape-Text, shape-Flag, shape-Word, shape-Member, shape-Unary, shape-Binary, shape-WideLeft, shape-Choice, shape-Join, shape-Repeat, shape-Index, shape-Slice, shape-Call, shape-Signed, shape-Resize, shape-Pc, shape-Encoding, shape-Register, shape-Field, shape-SoftRead, shape-ReadMemory, shape-NewField, shape-Mode, shape-Implemented, shape-ImplementedVersion}
use Rattle.idl_spec.specs.Settings.{Setting, Scope, kind_of_value, variable_kinds, names_of}
use Rattle.idl_spec.specs.Demands.{Visible}
use Rattle.idl_spec.specs.Checks.{variable_names}
use Rattle.type_laws.specs.Kinds.{HasKind, Mode, Matches, Round}
use Rattle.type_laws.proofs.Widths.{number_is}
use Rattle.type_laws.proofs.Sound.{names_in}
use Rattle.type_laws.proofs.Worlds.{kinds, innermost_more}
use Rattle.type_laws.proofs.Calls.{enum_is}
use Rattle.type_laws.proofs.AlikeKinds.{Alike, in_bits, others, alike_same, alike_by, SameNumber, plus_alike, times_alike, or_alike, one_alike, two_alike, unary_alike, binary_alike, choice_alike}

module _ (e : Setting) where
  -- ---- shapes under two lists of local names

  -- the names of the setting with these local ones
  abbrev pub with_locals : List (List ℕ × Kind) → Names
  with_locals locals = record {
    params = e.space.params;
    functions = e.program.functions;
    csrs = e.program.csrs;
    written = option_map (λ n. n.csr) e.written;
    locals = locals;
  }

  module _ (xs ys : List (List ℕ × Kind)) (locals : (name : List ℕ) → Alike e (innermost xs name) (innermost ys name)) where
    abbrev first : Names
    first = with_locals xs

    abbrev second : Names
    second = with_locals ys

    abbrev AlikeShape : Expr → Type 0
    AlikeShape x = Alike e (shape first x) (shape second x)

    -- a shape that no operand makes
    own : (x : Expr) (k : Option Kind) → shape first x ≡ k → shape second x ≡ k → AlikeShape x
    own x k p q = alike_by e (shape first x) (shape second x) k k p q (alike_same e k)

    by_law : (x : Expr) (k l : Option Kind) → shape first x ≡ k → shape second x ≡ l → Alike e k l → AlikeShape x
    by_law x k l p q h = alike_by e (shape first x) (shape second x) k l p q h

    joined_alike : (es : List Expr) → Each AlikeShape es → (x y : Option Kind) → Alike e x y → Alike e (joined_kind x (map (shape first) es)) (joined_kind y (map (shape second) es))
    joined_alike [] hs x y h = h
    joined_alike (z ∷ es) hs x y h =
        let more = two_alike e (λ w s v t. of_bits (wd.Plus w v) false) (λ w v s p q t i j. in_bits (wd.Plus w p) (wd.Plus v q) false (plus_alike e w v p q i j)) x y (shape first z) (shape second z) h hs.0 in
        joined_alike es hs.1 (on_two x (shape first z) (λ w s v t. of_bits (wd.Plus w v) false)) (on_two y (shape second z) (λ w s v t. of_bits (wd.Plus w v) false)) more

    join_alike : (es : List Expr) → Each AlikeShape es → Alike e (join_kind (map (shape first) es)) (join_kind (map (shape second) es))
    join_alike [] hs = others None refl
    join_alike (z ∷ es) hs =
        joined_alike es hs.1 (on_bits (shape first z) (λ w s. of_bits w false)) (on_bits (shape second z) (λ w s. of_bits w false))
        (one_alike e (λ w s. of_bits w false) (λ w v s h. in_bits w v false h) (shape first z) (shape second z) hs.0)

    one : (x a : Expr) (form : Width → Bool → Kind) → shape first x ≡ on_bits (shape first a) form → shape second x ≡ on_bits (shape second a) form
        → ((w v : Width) (s : Bool) → SameNumber e w v → Alike e (Some (form w s)) (Some (form v s))) → AlikeShape a → AlikeShape x
    one x a form p q same h = by_law x (on_bits (shape first a) form) (on_bits (shape second a) form) p q (one_alike e form same (shape first a) (shape second a) h)

    word_alike : (name : Name) → Alike e (word_kind first name) (word_kind second name)
    word_alike name =
        let given = option_map (λ p. domain_kind p.domain) (parameter_named e.space.params name) in
        or_alike e (innermost xs name) (innermost ys name) given given (locals name) (alike_same e given)

    pub shapes_alike : (x : Expr) → AlikeShape x
    shapes_alike = induct-Expr AlikeShape (record {
      number = λ n. own (ex.Number n) (Some (kind_holding n)) (shape-Number first n) (shape-Number second n);
      sized = λ w s n. own (ex.Sized w s n) (Some (of_bits w s)) (shape-Sized first w s n) (shape-Sized second w s n);
      text = λ t. own (ex.Text t) (Some of_written_text) (shape-Text first t) (shape-Text second t);
      flag = λ t. own (ex.Flag t) (Some of_flag) (shape-Flag first t) (shape-Flag second t);
      word = λ name. by_law (ex.Word name) (word_kind first name) (word_kind second name) (shape-Word first name) (shape-Word second name) (word_alike name);
      member = λ k name. own (ex.Member k name) (Some (of_member k)) (shape-Member first k name) (shape-Member second k name);
      unary = λ sign a h. by_law (ex.Unary sign a) _ _ (shape-Unary first sign a) (shape-Unary second sign a) (unary_alike e sign (shape first a) (shape second a) h);
      binary = λ sign a c h k. by_law (ex.Binary sign a c) _ _ (shape-Binary first sign a c) (shape-Binary second sign a c) (binary_alike e sign (shape first a) (shape second a) (shape first c) (shape second c) h k);
      wide_left = λ a by h. one (ex.WideLeft a by) a (λ w s. of_bits (wd.Plus w by) s) (shape-WideLeft first a by) (shape-WideLeft second a by) (λ w v s i. in_bits (wd.Plus w by) (wd.Plus v by) s (plus_alike e w v by by i refl)) h;
      choice = λ test taken other h k l. by_law (ex.Choice test taken other) _ _ (shape-Choice first test taken other) (shape-Choice second test taken other) (choice_alike e (shape first taken) (shape second taken) (shape first other) (shape second other) k l);
      join = λ es hs. by_law (ex.Join es) _ _ (shape-Join first es) (shape-Join second es) (join_alike es hs);
      repeat = λ times a h. one (ex.Repeat times a) a (λ w s. of_bits (wd.Times times w) false) (shape-Repeat first times a) (shape-Repeat second times a) (λ w v s i. in_bits (wd.Times times w) (wd.Times times v) false (times_alike e times times w v refl i)) h;
      index = λ a at h k. own (ex.Index a at) (Some (of_bits (wd.Number 1) false)) (shape-Index first a at) (shape-Index second a at);
      slice = λ a high low h. own (ex.Slice a high low) (Some (of_bits (wd.Plus (wd.Minus high low) (wd.Number 1)) false)) (shape-Slice first a high low) (shape-Slice second a high low);
      call = λ name es hs. own (ex.Call name es) (call_kind first name) (shape-Call first name es) (shape-Call second name es);
      signed = λ a h. one (ex.Signed a) a (λ w s. of_bits w true) (shape-Signed first a) (shape-Signed second a) (λ w v s i. in_bits w v true i) h;
      resize = λ width a h. one (ex.Resize width a) a (λ w s. of_bits width s) (shape-Resize first width a) (shape-Resize second width a) (λ w v s i. in_bits width width s refl) h;
      pc = own ex.Pc (Some (of_bits (register_width e.space.params) false)) (shape-Pc first) (shape-Pc second);
      encoding = own ex.Encoding (Some (of_bits (wd.Number 32) false)) (shape-Encoding first) (shape-Encoding second);
      register = λ a h. own (ex.Register a) (Some (of_bits (register_width e.space.params) false)) (shape-Register first a) (shape-Register second a);
      field = λ csr field. own (ex.Field csr field) (field_kind first csr field) (shape-Field first csr field) (shape-Field second csr field);
      soft_read = λ a h. own (ex.SoftRead a) (Some (of_bits (register_width e.space.params) false)) (shape-SoftRead first a) (shape-SoftRead second a);
      read_memory = λ count a h. own (ex.ReadMemory count a) (Some (of_bits (wd.Number count) false)) (shape-ReadMemory first count a) (shape-ReadMemory second count a);
      new_field = λ field. own (ex.NewField field) (option_and_then (λ csr. field_kind first csr field) first.written) (shape-NewField first field) (shape-NewField second field);
      mode = own ex.Mode _ (shape-Mode first) (shape-Mode second);
      implemented = λ name. own (ex.Implemented name) (Some of_flag) (shape-Implemented first name) (shape-Implemented second name);
      implemented_version = λ name text. own (ex.ImplementedVersion name text) (Some of_flag) (shape-ImplementedVersion first name text) (shape-ImplementedVersion second name text);
    })

  -- ---- the values of a scope

  -- a value has a kind of its own, which is alike
  bits_alike : (w : Width) (s : Bool) (v : BitVector) → HasKind e (of_bits w s) (bits v) → Alike e (Some (of_bits w s)) (Some (kind_of_value (bits v)))
  bits_alike w s v h = subst (λ (t : Bool). Alike e (Some (of_bits w s)) (Some (of_bits (wd.Number v.width) t))) (sym h.sign)
      (in_bits w (wd.Number v.width) s (h.number ∙ sym (number_is e v.width (omega (arith, h.high)))))

  value_alike : (k : Kind) (v : Value) → HasKind e k v → Alike e (Some k) (Some (kind_of_value v))
  value_alike (of_bits w s) (bits v) h = bits_alike w s v h
  value_alike of_flag (flag x) h = others (Some of_flag) refl
  value_alike (of_member k) (member l n) h = subst (λ m. Alike e (Some (of_member k)) (Some (of_member m))) (enum_is k l h.0) (others (Some (of_member k)) refl)
  value_alike of_given_text (given_text x) h = others (Some of_given_text) refl
  value_alike of_written_text (written_text x) h = others (Some of_written_text) refl
  value_alike _ _ h = absurd h

  abbrev scope_kinds : Scope → List (List ℕ × Kind)
  scope_kinds ps = map (λ p. (p.0, kind_of_value p.1)) ps

  here_alike : (b : Bool) (v : Visible) (p : List ℕ × Value) → HasKind e v.kind p.1 → Alike e (if b then Some v.kind else None) (if b then Some (kind_of_value p.1) else None)
  here_alike true v p h = value_alike v.kind p.1 h
  here_alike false v p h = others None refl

  locals_alike : (vs : List Visible) (ps : Scope) (name : List ℕ) → Matches e vs ps → Alike e (innermost (kinds vs) name) (innermost (scope_kinds ps) name)
  locals_alike [] [] name h = others None refl
  locals_alike [] (p ∷ ps) name h = absurd h
  locals_alike (v ∷ vs) [] name h = absurd h
  locals_alike (v ∷ vs) (p ∷ ps) name h =
      or_alike e (innermost (kinds vs) name) (innermost (scope_kinds ps) name) (if same_bytes v.name name then Some v.kind else None) (if same_bytes p.0 name then Some (kind_of_value p.1) else None)
      (locals_alike vs ps name h.1)
      (subst (λ n. Alike e (if same_bytes v.name name then Some v.kind else None) (if same_bytes n name then Some (kind_of_value p.1) else None)) (sym h.0.name) (here_alike (same_bytes v.name name) v p h.0.kind))

  variables_same : (vs : List Variable) (more : List Visible) → kinds (variable_names vs ++ more) ≡ variable_kinds vs ++ kinds more
  variables_same [] more = refl
  variables_same (v ∷ vs) more = ap (λ ks. (v.name, of_bits (wd.Bits None v.name) false) ∷ ks) (variables_same vs more)

  all_alike : (inner : List Visible) (scope : Scope) → Matches e inner scope → (name : List ℕ) → Alike e (innermost (kinds (variable_names e.variables ++ inner)) name) (innermost (variable_kinds e.variables ++ scope_kinds scope) name)
  all_alike inner scope h name =
      let vars = variable_kinds e.variables in
      alike_by e (innermost (kinds (variable_names e.variables ++ inner)) name) (innermost (vars ++ scope_kinds scope) name) (or_else (innermost (kinds inner) name) (innermost vars name)) (or_else (innermost (scope_kinds scope) name) (innermost vars name))
      (ap (λ ks. innermost ks name) (variables_same e.variables inner) ∙ innermost_more vars (kinds inner) name) (innermost_more vars (scope_kinds scope) name)
      (or_alike e (innermost (kinds inner) name) (innermost (scope_kinds scope) name) (innermost vars name) (innermost vars name) (locals_alike inner scope name h) (alike_same e (innermost vars name)))

module _ (e : Setting) (mode : Mode) (round : Round) where
  -- the shape of an expression at a place and in a scope that matches
  pub shape_in_scope : (inner : List Visible) (scope : Scope) → Matches e inner scope → (x : Expr) → Alike e (shape (names_in e mode round inner) x) (shape (names_of e scope) x)
  shape_in_scope inner scope h x = shapes_alike e (kinds (variable_names e.variables ++ inner)) (variable_kinds e.variables ++ map (λ p. (p.0, kind_of_value p.1)) scope) (all_alike e inner scope h) x
