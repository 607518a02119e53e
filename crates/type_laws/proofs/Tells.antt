-- Tests tell their claims.
use Rattle.std.proofs.Common.{◌≡◌, ◌^◌, ℕ, Bool, true, false, List, Option, None, Some, refl, sym, ap, ◌∙◌, subst, arith}
use Rattle.std.specs.Prelude.{◌≤◌, ◌%◌, ◌&&◌, ℤ, pos, negsuc, nat_le, not, IfSome, option_map, option_and_then, if◌then◌else◌}
use Rattle.std.proofs.lemmas.Nat.{mod_below, pow_pos}
use Rattle.std.proofs.lemmas.Int.{ints, clamps}
use Rattle.std.proofs.lemmas.Bool.{leb-true}
use Rattle.idl_width.specs.Numbers.{clip}
use Rattle.idl_width.specs.NumberLaws.{number-Number}
use Rattle.idl_spec.specs.Fields.{bits_scope}
use Rattle.udb_base.specs.declared.names.Name.{Name}
use Rattle.udb_base.specs.declared.conditions.Value.{Value as Given}
use Rattle.udb_base.specs.declared.conditions.Value.TheVariants as given
use Rattle.udb_base.specs.declared.conditions.Test.{Test}
use Rattle.udb_base.specs.declared.spaces.Domain.{Domain}
use Rattle.udb_base.specs.declared.spaces.Domain.TheVariants as d
use Rattle.udb_base.specs.declared.spaces.ParamSpace.{ParamSpace}
use Rattle.udb_spec.specs.Conditions.{holds, value_of}
use Rattle.udb_spec.specs.Spaces.{InDomain}
use Rattle.idl_tree.specs.declared.widths.Width.{Width}
use Rattle.idl_tree.specs.declared.widths.Width.TheVariants as wd
use Rattle.idl_tree.specs.declared.expressions.Unary.TheVariants as u
use Rattle.idl_tree.specs.declared.expressions.Expr.{Expr}
use Rattle.idl_tree.specs.declared.expressions.Expr.TheVariants as ex
use Rattle.idl_tree.specs.ExprLaws.{induct-Expr}
use Rattle.idl_spec.specs.Values.{Value, bits, flag, member, given_text, written_text, plain, least_width, within}
use Rattle.idl_spec.specs.Harts.{State, Outcome, done, raised, stuck, and_then, or_stuck, required}
use Rattle.idl_spec.specs.Shapes.{or_else, innermost, parameter_named, greatest}
use Rattle.idl_spec.specs.Settings.{Setting, Scope, with_flag, number_of_width, value_named, variable_value, variable_among, parameter_value, given_value}
use Rattle.idl_spec.specs.Forms.{unary, binary, and_also, or_also}
use Rattle.idl_spec.specs.Mean.{mean_expr}
use Rattle.idl_spec.specs.MeanLaws.{mean-Number, mean-Sized, mean-Text, mean-Flag, mean-Word}
use Rattle.idl_spec.specs.Formulas.{Claims, claims, claims_step, unknown, of_formula, of_option, negated, both, either, truth_cond, Side, other, side, parameter_side, word_formula, comparison}
use Rattle.idl_spec.specs.Formulas as formula
use Rattle.idl_spec.specs.Demands.{Visible}
use Rattle.type_laws.specs.Kinds.{Matches}
use Rattle.type_laws.specs.Literals.{expr_numbers, AreSmall}
use Rattle.type_laws.specs.LiteralLaws.{numbers-Number}
use Rattle.type_laws.specs.Worlds.{Tested}
use Rattle.type_laws.proofs.Outcomes.{same_some}
use Rattle.type_laws.proofs.Told.{Told, told_unknown, told_negated, told_left, told_both, told_right, told_either}
use Rattle.type_laws.proofs.Sides.{in_least_width, sign_of, IsNumber, Shows, comparison_told}
use Rattle.type_laws.proofs.Worlds.{seen, IsFound, found}

module _ (e : Setting) (tested : Tested e) where
  abbrev pub ToldHere : Claims → Bool → Type 0
  ToldHere = Told e.space e.full

  -- ---- the values of names

  -- a word that is a parameter has the parameter's value
  pub record IsParameter (name : Name) (p : ParamSpace) (x : Value) : Type 0 where
    pub given : Given
    pub value : value_of e.space e.full name ≡ Some given
    pub is : x ≡ given_value (least_width (greatest p.domain)) given

  no_local : (name : Name) (p : ParamSpace) (v : Option Visible) (o : Option Value) → parameter_named e.space.params name ≡ Some p → IsFound e name v o → o ≡ None
  no_local name p None None is h = refl
  no_local name p None (Some x) is h = absurd h
  no_local name p (Some v) None is h = absurd h
  no_local name p (Some v) (Some x) is h = absurd (let z : Some p ≡ None = sym is ∙ h.1 in cc)

  parameter_is : (name : Name) (p : ParamSpace) (x : Value) → parameter_named e.space.params name ≡ Some p → parameter_value e name ≡ Some x → IsParameter name p x
  parameter_is name p x is h = at (holds e.space e.full p.defined) (value_of e.space e.full name) refl
      (sym (ap (λ o. option_and_then (λ q. if holds e.space e.full q.defined then option_map (given_value (least_width (greatest q.domain))) (value_of e.space e.full name) else None) o) is) ∙ h)
    where
      at : (y : Bool) (o : Option Given) → value_of e.space e.full name ≡ o → (if y then option_map (given_value (least_width (greatest p.domain))) o else None) ≡ Some x → IsParameter name p x
      at true (Some g) v k = record { given = g; value = v; is = sym (same_some k) }
      at true None v k = absurd (cc)
      at false o v k = absurd (cc)

  word_value : (name : Name) (p : ParamSpace) (inner : List Visible) (scope : Scope) (s t : State) (x : Value) → parameter_named e.space.params name ≡ Some p → Matches e inner scope → mean_expr e (ex.Word name) scope s ≡ done x t → IsParameter name p x
  word_value name p inner scope s t x is at h =
      let none : innermost scope name ≡ None = no_local name p (innermost (seen inner) name) (innermost scope name) is (found e inner scope name at) in
      let gone : variable_value e name s ≡ None = ap (variable_among s.word) (tested.apart name p is) in
      let same : value_named e scope name s ≡ parameter_value e name =
      ap (λ o. or_else o (or_else (variable_value e name s) (parameter_value e name))) none ∙ ap (λ o. or_else o (parameter_value e name)) gone in
      parameter_is name p x is (sym same ∙ given_there (value_named e scope name s) (sym (mean-Word e name scope s) ∙ h))
    where
      given_there : (o : Option Value) → required o s ≡ done x t → o ≡ Some x
      given_there None k = absurd (cc)
      given_there (Some y) k = cc

  -- ---- sides

  abbrev ShowsHere : Side → Value → Type 0
  ShowsHere = Shows e.space e.full

  parameter_shows : (name : Name) (p : ParamSpace) (dom : Domain) (g : Given) (x : Value) → parameter_named e.space.params name ≡ Some p → p.domain ≡ dom → value_of e.space e.full name ≡ Some g → InDomain dom g → x ≡ given_value (least_width (greatest p.domain)) g
      → ShowsHere (elim dom [ d.Flags ↦ formula.flag name | d.Numbers ns ↦ formula.number name | d.Range low high ↦ formula.number name | d.Words ws ↦ formula.word name ]) x
  parameter_shows name p d.Flags (given.Flag y) x is dom v i h = record { truth = y; value = v; is = h }
  parameter_shows name p d.Flags (given.Number n) x is dom v i h = absurd i
  parameter_shows name p d.Flags (given.Word w) x is dom v i h = absurd i
  parameter_shows name p (d.Numbers ns) (given.Flag y) x is dom v i h = absurd i
  parameter_shows name p (d.Numbers ns) (given.Number n) x is dom v i h =
      let k = tested.small name p n is v in record { n = n; value = v; small = k.0; number = record { width = least_width (greatest p.domain); is = h; fits = k.1 } }
  parameter_shows name p (d.Numbers ns) (given.Word w) x is dom v i h = absurd i
  parameter_shows name p (d.Range low high) (given.Flag y) x is dom v i h = absurd i
  parameter_shows name p (d.Range low high) (given.Number n) x is dom v i h =
      let k = tested.small name p n is v in record { n = n; value = v; small = k.0; number = record { width = least_width (greatest p.domain); is = h; fits = k.1 } }
  parameter_shows name p (d.Range low high) (given.Word w) x is dom v i h = absurd i
  parameter_shows name p (d.Words ws) (given.Flag y) x is dom v i h = absurd i
  parameter_shows name p (d.Words ws) (given.Number n) x is dom v i h = absurd i
  parameter_shows name p (d.Words ws) (given.Word w) x is dom v i h = record { text = w; value = v; is = h }

  word_shows : (name : Name) (o : Option ParamSpace) (inner : List Visible) (scope : Scope) (s t : State) (x : Value) → parameter_named e.space.params name ≡ o → Matches e inner scope → mean_expr e (ex.Word name) scope s ≡ done x t → ShowsHere (parameter_side name o) x
  word_shows name None inner scope s t x is at h = tt
  word_shows name (Some p) inner scope s t x is at h =
      let w = word_value name p inner scope s t x is at h in
      parameter_shows name p p.domain w.given x is refl w.value (tested.inside name p w.given is w.value) w.is

  -- what is shown of each expression: its side shows its value
  abbrev pub ShowsSide : Expr → Type 0
  ShowsSide l = (inner : List Visible) (scope : Scope) (s t : State) (x : Value) → Matches e inner scope → AreSmall (expr_numbers l) → mean_expr e l scope s ≡ done x t → ShowsHere (side e.space l) x

  same_value_of : (x y : Value) (s t : State) → done x s ≡ done y t → y ≡ x
  same_value_of x y s t h = cc

  alike : (k n : ℕ) → n ≤ 128 → clip (pos k) ≡ pos n → k ≡ n
  alike k n h is = omega (arith, ints, clamps)

  -- a width that has a place in the range
  record Found (k : ℕ) : Type 0 where
    pub is : within 1 128 (number_of_width e (wd.Number k)) ≡ Some k

  found_width : (k j : ℕ) (z : ℤ) → number_of_width e (wd.Number k) ≡ z → within 1 128 z ≡ Some j → j ≡ k
  found_width k j (pos m) is h = at (nat_le 1 m) (nat_le m 128) refl refl h
    where
      at : (x y : Bool) → nat_le 1 m ≡ x → nat_le m 128 ≡ y → (if x && y then Some m else None) ≡ Some j → j ≡ k
      at true true a b h =
          let top : m ≤ 128 = leb-true m 128 b in
          let same : k ≡ m = alike k m top (sym (number-Number e.space e.full (bits_scope e.program e.variables) k) ∙ is) in
          sym (same_some h) ∙ sym same
      at true false a b h = absurd (cc)
      at false y a b h = absurd (cc)
  found_width k j (negsuc m) is h = absurd (cc)

  sized_number : (k n : ℕ) (o : Option ℕ) (s t : State) (x : Value) → within 1 128 (number_of_width e (wd.Number k)) ≡ o
      → or_stuck o (λ j. done (bits (record { width = j; signed = false; pattern = n % 2 ^ j })) s) ≡ done x t → IsNumber (n % 2 ^ k) x
  sized_number k n None s t x is h = absurd (cc)
  sized_number k n (Some j) s t x is h =
      let same : j ≡ k = found_width k j (number_of_width e (wd.Number k)) refl is in
      record { width = k; is = same_value_of _ x s t h ∙ ap (λ i. bits (plain i (n % 2 ^ i))) same; fits = mod_below n (2 ^ k) (pow_pos k) }

  sized_shows : (width : Width) (signed : Bool) (n : ℕ) → ShowsSide (ex.Sized width signed n)
  sized_shows (wd.Number k) false n inner scope s t x at small h =
      sized_number k n (within 1 128 (number_of_width e (wd.Number k))) s t x refl (sym (mean-Sized e (wd.Number k) false n scope s) ∙ h)
  sized_shows width signed n inner scope s t x at small h = tt

  number_shows : (n : ℕ) → ShowsSide (ex.Number n)
  number_shows n inner scope s t x at small h =
      record { width = least_width n; is = same_value_of (bits (plain (least_width n) n)) x s t (sym (mean-Number e n scope s) ∙ h); fits = in_least_width n (subst AreSmall (numbers-Number n) small).0 }

  pub shows : (l : Expr) → ShowsSide l
  shows = induct-Expr ShowsSide (record {
    number = number_shows;
    sized = sized_shows;
    text = λ y inner scope s t x at small h. same_value_of (written_text y) x s t (sym (mean-Text e y scope s) ∙ h);
    flag = λ y inner scope s t x at small h. same_value_of (flag y) x s t (sym (mean-Flag e y scope s) ∙ h);
    word = λ name inner scope s t x at small h. word_shows name (parameter_named e.space.params name) inner scope s t x refl at h;
    member = λ kind name inner scope s t x at small h. tt;
    unary = λ sign a ia inner scope s t x at small h. tt;
    binary = λ sign a y ia iy inner scope s t x at small h. tt;
    wide_left = λ a by ia inner scope s t x at small h. tt;
    choice = λ test taken other it ia io inner scope s t x at small h. tt;
    join = λ es ies inner scope s t x at small h. tt;
    repeat = λ times a ia inner scope s t x at small h. tt;
    index = λ a y ia iy inner scope s t x at small h. tt;
    slice = λ a high low ia inner scope s t x at small h. tt;
    call = λ name es ies inner scope s t x at small h. tt;
    signed = λ a ia inner scope s t x at small h. tt;
    resize = λ width a ia inner scope s t x at small h. tt;
    pc = λ inner scope s t x at small h. tt;
    encoding = λ inner scope s t x at small h. tt;
    register = λ a ia inner scope s t x at small h. tt;
    field = λ csr field inner scope s t x at small h. tt;
    soft_read = λ a ia inner scope s t x at small h. tt;
    read_memory = λ count a ia inner scope s t x at small h. tt;
    new_field = λ name inner scope s t x at small h. tt;
    mode = λ inner scope s t x at small h. tt;
    implemented = λ name inner scope s t x at small h. tt;
    implemented_version = λ name text inner scope s t x at small h. tt;
  })

  -- ---- tests

  -- what is shown of each expression: its truth tells its claims
  abbrev pub Tells : Expr → Type 0
  Tells x = (inner : List Visible) (scope : Scope) (s t : State) (v : Bool) → Matches e inner scope → AreSmall (expr_numbers x) → mean_expr e x scope s ≡ done (flag v) t → ToldHere (claims e.space x) v

  pub silent : (x : Expr) → claims e.space x ≡ unknown → Tells x
  silent x is inner scope s t v at small h = subst (λ (y : Claims). ToldHere y v) (sym is) (told_unknown e.space e.full v)

  told_at : (x : Claims) (v w : Bool) → v ≡ w → ToldHere x v → ToldHere x w
  told_at x v w is h = subst (λ (z : Bool). ToldHere x z) is h

  pub after_not : (x : Claims) (r : Outcome Value) (t : State) (v : Bool) → ((w : Bool) (q : State) → r ≡ done (flag w) q → ToldHere x w) → and_then r (unary u.Not) ≡ done (flag v) t → ToldHere (negated x x.formula) v
  after_not x (done (flag w) q) t v k h = told_at (negated x x.formula) (not w) v (cc) (told_negated e.space e.full x x.formula w refl (k w q refl))
  after_not x (done (bits b) q) t v k h = absurd (cc)
  after_not x (done (member m n) q) t v k h = absurd (cc)
  after_not x (done (given_text y) q) t v k h = absurd (cc)
  after_not x (done (written_text y) q) t v k h = absurd (cc)
  after_not x (raised code tval q) t v k h = absurd (cc)
  after_not x stuck t v k h = absurd (cc)

  of_truth : (r : Outcome Value) (t : State) (v : Bool) → with_flag r (λ y q. done (flag y) q) ≡ done (flag v) t → r ≡ done (flag v) t
  of_truth (done (flag w) q) t v h = h
  of_truth (done (bits b) q) t v h = absurd (cc)
  of_truth (done (member m n) q) t v h = absurd (cc)
  of_truth (done (given_text y) q) t v h = absurd (cc)
  of_truth (done (written_text y) q) t v h = absurd (cc)
  of_truth (raised code tval q) t v h = absurd (cc)
  of_truth stuck t v h = absurd (cc)

  pub after_and : (x y : Claims) (r : Outcome Value) (right : State → Outcome Value) (t : State) (v : Bool) → ((w : Bool) (q : State) → r ≡ done (flag w) q → ToldHere x w) → ((w : Bool) (s q : State) → right s ≡ done (flag w) q → ToldHere y w)
      → and_also r right ≡ done (flag v) t → ToldHere (both x y x.formula y.formula) v
  after_and x y (done (flag false) q) right t v k l h = told_at (both x y x.formula y.formula) false v (cc) (told_left e.space e.full x y x.formula y.formula refl (k false q refl))
  after_and x y (done (flag true) q) right t v k l h = told_both e.space e.full x y x.formula y.formula v refl refl (k true q refl) (l v q t (of_truth (right q) t v h))
  after_and x y (done (bits b) q) right t v k l h = absurd (cc)
  after_and x y (done (member m n) q) right t v k l h = absurd (cc)
  after_and x y (done (given_text z) q) right t v k l h = absurd (cc)
  after_and x y (done (written_text z) q) right t v k l h = absurd (cc)
  after_and x y (raised code tval q) right t v k l h = absurd (cc)
  after_and x y stuck right t v k l h = absurd (cc)

  pub after_or : (x y : Claims) (r : Outcome Value) (right : State → Outcome Value) (t : State) (v : Bool) → ((w : Bool) (q : State) → r ≡ done (flag w) q → ToldHere x w) → ((w : Bool) (s q : State) → right s ≡ done (flag w) q → ToldHere y w)
      → or_also r right ≡ done (flag v) t → ToldHere (either x y x.formula y.formula) v
  after_or x y (done (flag true) q) right t v k l h = told_at (either x y x.formula y.formula) true v (cc) (told_right e.space e.full x y x.formula y.formula refl (k true q refl))
  after_or x y (done (flag false) q) right t v k l h = told_either e.space e.full x y x.formula y.formula v refl refl (k false q refl) (l v q t (of_truth (right q) t v h))
  after_or x y (done (bits b) q) right t v k l h = absurd (cc)
  after_or x y (done (member m n) q) right t v k l h = absurd (cc)
  after_or x y (done (given_text z) q) right t v k l h = absurd (cc)
  after_or x y (done (written_text z) q) right t v k l h = absurd (cc)
  after_or x y (raised code tval q) right t v k l h = absurd (cc)
  after_or x y stuck right t v k l h = absurd (cc)

  -- the values that a comparison compares
  pub after_two : (i : Test) (l r : Side) (o : Outcome Value) (right : State → Outcome Value) (t : State) (v : Bool) → ((x : Value) (q : State) → o ≡ done x q → ShowsHere l x) → ((x : Value) (s q : State) → right s ≡ done x q → ShowsHere r x)
      → and_then o (λ x q. and_then (right q) (λ y z. binary (sign_of i) x y z)) ≡ done (flag v) t → IfSome (comparison i l r) (λ p. holds e.space e.full p ≡ v)
  after_two i l r (raised code tval q) right t v k m h = absurd (cc)
  after_two i l r stuck right t v k m h = absurd (cc)
  after_two i l r (done x q) right t v k m h = second (right q) refl h
    where
      second : (o : Outcome Value) → right q ≡ o → and_then o (λ y z. binary (sign_of i) x y z) ≡ done (flag v) t → IfSome (comparison i l r) (λ p. holds e.space e.full p ≡ v)
      second (done y z) is h = comparison_told e.space e.full i l r x y z t v (k x q refl) (m y q z is) h
      second (raised code tval z) is h = absurd (cc)
      second stuck is h = absurd (cc)
