-- Declarations, blocks, returns, tests, jumps and exceptions.
use Rattle.std.proofs.Common.{◌≡◌, ◌<◌, ◌≤◌, ◌%◌, ◌^◌, ℕ, Bool, true, false, List, [], ◌∷◌, ◌++◌, map, Option, None, Some, refl, sym, ap, ◌∙◌, subst}
use Rattle.std.specs.Prelude.{◌&&◌, ◌||◌, ◌==◌, not, IfSome, option_map, is_some, flat_map, if◌then◌else◌, pos}
use Rattle.std.specs.List.{list_all}
use Rattle.idl_tree.specs.Each.{Each}
use Rattle.udb_base.specs.declared.names.Name.{Name}
use Rattle.udb_base.specs.declared.conditions.Cond.{Cond}
use Rattle.udb_base.specs.declared.spaces.ParamSpace.{ParamSpace}
use Rattle.udb_spec.specs.Conditions.{holds}
use Rattle.idl_tree.specs.declared.widths.Width.{Width}
use Rattle.idl_tree.specs.declared.widths.EnumKind.{EnumKind}
use Rattle.idl_tree.specs.declared.widths.EnumKind.TheVariants.{PrivilegeMode, ExceptionCode, CsrFieldType}
use Rattle.idl_tree.specs.declared.widths.Shape.{Shape}
use Rattle.idl_tree.specs.declared.widths.Shape.TheVariants as sh
use Rattle.idl_tree.specs.declared.expressions.Expr.{Expr}
use Rattle.idl_tree.specs.declared.statements.Stmt.{Stmt}
use Rattle.idl_tree.specs.declared.statements.Stmt.TheVariants as st
use Rattle.idl_bits.specs.BitVector.{BitVector}
use Rattle.idl_bits.specs.Number.{number}
use Rattle.idl_bits.proofs.Modulo.{pattern_of-lt}
use Rattle.idl_spec.specs.Values.{Value, bits, flag, member, given_text, written_text, brought_to, same_enum}
use Rattle.idl_spec.specs.Harts.{State, Outcome, done, raised, stuck}
use Rattle.idl_spec.specs.Shapes.{Kind, of_bits, of_flag, of_member, of_given_text, of_written_text, declared_kind, parameter_named}
use Rattle.idl_spec.specs.Settings.{Setting, Scope, Flow, goes_on, registers, number_of_width}
use Rattle.idl_spec.specs.Forms.{address_of}
use Rattle.idl_spec.specs.Mean.{in_shape, block, other_block, jump, raise, mean_expr, mean_stmt}
use Rattle.idl_spec.specs.MeanLaws.{runs-Declare, runs-Block, runs-Return, runs-If, runs-Jump, runs-Raise}
use Rattle.idl_spec.specs.Programs.{IsState}
use Rattle.idl_spec.specs.Formulas.{claims}
use Rattle.idl_spec.specs.Deeds.{acts, all_of, expr_deeds, stmt_deeds}
use Rattle.idl_spec.specs.DeedLaws.{does-Declare, does-Block, does-Return, does-If, does-Jump, does-Raise}
use Rattle.idl_spec.specs.TestPlaces.{where_true, where_false}
use Rattle.idl_spec.specs.Demands.{Visible, View, visible_named, mismatch_unless, shape_issues, width_issues, want, suits, bits_kind, flag_kind, outside_fields}
use Rattle.idl_spec.specs.Checks.{is_fresh, visible_local, declares, context_holds, variable_names, other_checks, stmt_checks}
use Rattle.idl_spec.specs.CheckLaws.{walks-Declare, walks-Block, walks-Return, walks-If, walks-Jump, walks-Raise}
use Rattle.type_laws.specs.Kinds.{IsBits, bound, HasKind, IsLocal, Mode, loud, StateOk, MayRaise, Good, Matches, Round, view_in, under, Passes, AllPass}
use Rattle.type_laws.specs.Literals.{expr_numbers, stmt_numbers}
use Rattle.type_laws.specs.LiteralLaws.{counts-Declare, counts-Block, counts-Return, counts-If, counts-Jump, counts-Raise}
use Rattle.type_laws.proofs.Outcomes.{then_good, bits_good, flag_good, both_true, each_front, each_back}
use Rattle.type_laws.proofs.Passing.{Here, IsOfBits, bits_kind_is, flag_kind_is, front, back, unless, range}
use Rattle.type_laws.proofs.Widths.{InRange, width_good}
use Rattle.type_laws.proofs.OneForms.{must_be_loud, good_if}
use Rattle.type_laws.proofs.Sound.{Stands, IsSound, Sound, Clean, checks_in}
use Rattle.type_laws.proofs.StatementFlows.{IsReturn, IsFlow, append_none, block_in, CleanStmt, Flows, SoundStmt, each_statement, clean_values, own_acts, clean_rest, same_names, block_flow}

-- ---- a value in a declared shape

pub same_enum_trans : (k l m : EnumKind) → same_enum k l ≡ true → same_enum l m ≡ true → same_enum k m ≡ true
same_enum_trans PrivilegeMode PrivilegeMode m h k = k
same_enum_trans ExceptionCode ExceptionCode m h k = k
same_enum_trans CsrFieldType CsrFieldType m h k = k
same_enum_trans PrivilegeMode ExceptionCode m h k = absurd (cc)
same_enum_trans PrivilegeMode CsrFieldType m h k = absurd (cc)
same_enum_trans ExceptionCode PrivilegeMode m h k = absurd (cc)
same_enum_trans ExceptionCode CsrFieldType m h k = absurd (cc)
same_enum_trans CsrFieldType PrivilegeMode m h k = absurd (cc)
same_enum_trans CsrFieldType ExceptionCode m h k = absurd (cc)

-- a declared shape has a width from 1 to 128, where it has one
abbrev pub IsSized : Setting → Shape → Type 0
IsSized e (sh.Bits signed width) = InRange 1 128 (number_of_width e width)
IsSized e _ = Unit {0}

module _ (e : Setting) (mode : Mode) where
  brought_bits : (width : Width) (signed : Bool) (n : ℕ) (v : BitVector) → number_of_width e width ≡ pos n → 1 ≤ n → n ≤ 128 → IsBits e width signed (brought_to n signed v)
  brought_bits width signed n v is low high = record { number = is; low = low; high = high; sign = refl }

  member_good : (m j : EnumKind) (n : ℕ) (s : State) (b : Bool) → same_enum m j ≡ b → same_enum m j ≡ true → n < bound j → StateOk e mode s → Good e mode (HasKind e (of_member m)) (if b then done (member j n) s else stuck)
  member_good m j n s true is same low ok = ((same, low), ok)
  member_good m j n s false is same low ok = absurd (cc)

  bits_shape : (signed : Bool) (width : Width) (kind : Kind) (v : Value) (s : State) → suits (Some (of_bits width signed)) (Some kind) ≡ true → InRange 1 128 (number_of_width e width) → HasKind e kind v → StateOk e mode s
      → Good e mode (HasKind e (of_bits width signed)) (in_shape e (sh.Bits signed width) v s)
  bits_shape signed width (of_bits w p) (bits v) s h r k ok =
      width_good e mode (HasKind e (of_bits width signed)) 1 128 width (λ n. done (bits (brought_to n signed v)) s) r (brought_bits width signed r.n v r.is r.least r.most, ok)
  bits_shape signed width (of_bits w p) (flag x) s h r k ok = absurd k
  bits_shape signed width (of_bits w p) (member j n) s h r k ok = absurd k
  bits_shape signed width (of_bits w p) (given_text x) s h r k ok = absurd k
  bits_shape signed width (of_bits w p) (written_text x) s h r k ok = absurd k
  bits_shape signed width of_flag v s h r k ok = absurd (cc)
  bits_shape signed width (of_member m) v s h r k ok = absurd (cc)
  bits_shape signed width of_given_text v s h r k ok = absurd (cc)
  bits_shape signed width of_written_text v s h r k ok = absurd (cc)

  flag_shape : (kind : Kind) (v : Value) (s : State) → suits (Some of_flag) (Some kind) ≡ true → HasKind e kind v → StateOk e mode s → Good e mode (HasKind e of_flag) (in_shape e sh.Boolean v s)
  flag_shape of_flag (flag x) s h k ok = (tt, ok)
  flag_shape of_flag (bits v) s h k ok = absurd k
  flag_shape of_flag (member j n) s h k ok = absurd k
  flag_shape of_flag (given_text x) s h k ok = absurd k
  flag_shape of_flag (written_text x) s h k ok = absurd k
  flag_shape (of_bits w p) v s h k ok = absurd (cc)
  flag_shape (of_member m) v s h k ok = absurd (cc)
  flag_shape of_given_text v s h k ok = absurd (cc)
  flag_shape of_written_text v s h k ok = absurd (cc)

  member_shape : (m : EnumKind) (kind : Kind) (v : Value) (s : State) → suits (Some (of_member m)) (Some kind) ≡ true → HasKind e kind v → StateOk e mode s → Good e mode (HasKind e (of_member m)) (in_shape e (sh.Enum m) v s)
  member_shape m (of_member l) (member j n) s h k ok = member_good m j n s (same_enum m j) refl (same_enum_trans m l j h k.0) k.1 ok
  member_shape m (of_member l) (flag x) s h k ok = absurd k
  member_shape m (of_member l) (bits v) s h k ok = absurd k
  member_shape m (of_member l) (given_text x) s h k ok = absurd k
  member_shape m (of_member l) (written_text x) s h k ok = absurd k
  member_shape m of_flag v s h k ok = absurd (cc)
  member_shape m (of_bits w p) v s h k ok = absurd (cc)
  member_shape m of_given_text v s h k ok = absurd (cc)
  member_shape m of_written_text v s h k ok = absurd (cc)

  pub in_shape_good : (shape : Shape) (kind : Kind) (v : Value) (s : State) → suits (Some (declared_kind shape)) (Some kind) ≡ true → IsSized e shape → HasKind e kind v → StateOk e mode s
      → Good e mode (HasKind e (declared_kind shape)) (in_shape e shape v s)
  in_shape_good (sh.Bits signed width) kind v s h r k ok = bits_shape signed width kind v s h r k ok
  in_shape_good sh.Boolean kind v s h r k ok = flag_shape kind v s h k ok
  in_shape_good (sh.Enum m) kind v s h r k ok = member_shape m kind v s h k ok

-- ---- the names of a scope

pub matches_more : (e : Setting) (vs : List Visible) (ps : Scope) (v : Visible) (p : List ℕ × Value) → Matches e vs ps → IsLocal e v p → Matches e (vs ++ v ∷ []) (ps ++ p ∷ [])
matches_more e [] [] v p h k = (k, tt)
matches_more e [] (q ∷ qs) v p h k = absurd h
matches_more e (w ∷ ws) [] v p h k = absurd h
matches_more e (w ∷ ws) (q ∷ qs) v p h k = (h.0, matches_more e ws qs v p h.1 k)

-- a fresh name is no parameter's
pub fresh_clear : (view : View) (name : Name) → is_fresh view name ≡ true → parameter_named view.space.params name ≡ None
fresh_clear view name h = at (is_some (visible_named view name)) (parameter_named view.space.params name) h
  where
    at : (x : Bool) (o : Option ParamSpace) → not (x || is_some o) ≡ true → o ≡ None
    at true o h = absurd (cc)
    at false None h = refl
    at false (Some p) h = absurd (cc)

-- one more condition holds
pub one_more : (e : Setting) (known : List Cond) (p : Cond) → context_holds (under e) known ≡ true → holds e.space e.full p ≡ true → context_holds (under e) (known ++ p ∷ []) ≡ true
one_more e [] p h k = both (holds e.space e.full p) true k refl
  where
    both : (x y : Bool) → x ≡ true → y ≡ true → (x && y) ≡ true
    both true y h k = k
    both false y h k = absurd (cc)
one_more e (q ∷ qs) p h k =
    let b = both_true (holds e.space e.full q) (list_all (holds e.space e.full) qs) h in
    both (holds e.space e.full q) (list_all (holds e.space e.full) (qs ++ p ∷ [])) b.0 (one_more e qs p b.1 k)
  where
    both : (x y : Bool) → x ≡ true → y ≡ true → (x && y) ≡ true
    both true y h k = k
    both false y h k = absurd (cc)

module _ (e : Setting) (mode : Mode) (round : Round) where
  -- what is shown of tests: where one is true or false, its claims hold
  pub record HasTold (x : Expr) (v : Bool) : Type 0 where
    pub yes : v ≡ true → holds e.space e.full (claims e.space x).when_true ≡ true
    pub no : v ≡ false → holds e.space e.full (claims e.space x).when_false ≡ true

  abbrev pub Tells : Expr → Type 0
  Tells x = (inner : List Visible) (known : List Cond) → Clean e mode round x → AllPass e (checks_in e mode round inner x known)
      → (scope : Scope) (s : State) → Stands e mode round inner known scope s → (v : Bool) (t : State) → mean_expr e x scope s ≡ done (flag v) t → HasTold x v

module _ (e : Setting) (mode : Mode) (round : Round) (sound : (x : Expr) → Sound e mode round x) where
  abbrev view : List Visible → View
  view inner = view_in e mode round inner

  -- a statement that declares nothing
  pub silent : (x : Stmt) (inner : List Visible) (o : Outcome Flow) → declares x ≡ [] → Flows e mode round inner o → Flows e mode round (inner ++ declares x) o
  silent x inner o is h = same_names e mode round inner (inner ++ declares x) o (sym (append_none inner) ∙ ap (λ (vs : List Visible). inner ++ vs) (sym is)) h

  -- ---- declarations

  size_of : (shape : Shape) (inner : List Visible) (known : List Cond) → Here e known → Passes e known (shape_issues (view inner) shape) → IsSized e shape
  size_of (sh.Bits signed width) inner known here h = range e known 1 128 width here (back e known (width_issues (view inner) width) _ h)
  size_of sh.Boolean inner known here h = tt
  size_of (sh.Enum m) inner known here h = tt

  pub sound-Declare : (shape : Shape) (name : Name) (x : Expr) → SoundStmt e mode round (st.Declare shape name x)
  sound-Declare shape name x inner known clean pass scope s h =
      let p = subst (AllPass e) (walks-Declare (view_in e mode round []) shape name x (variable_names e.variables ++ inner) known) pass in
      let c = (clean_values e mode round (st.Declare shape name x) (x ∷ []) [] [] [] (does-Declare shape name x) (counts-Declare shape name x) clean).0 in
      let a : IsSound e mode round x inner known = sound x inner known c p.1 in
      let i : Passes e known (shape_issues (view inner) shape ++ mismatch_unless (is_fresh (view inner) name && suits (Some (declared_kind shape)) (Some a.kind))) =
      subst (λ (k : Option Kind). Passes e known (shape_issues (view inner) shape ++ mismatch_unless (is_fresh (view inner) name && suits (Some (declared_kind shape)) k))) a.is p.0 in
      let b = both_true (is_fresh (view inner) name) (suits (Some (declared_kind shape)) (Some a.kind)) (unless e known _ (back e known (shape_issues (view inner) shape) _ i)) in
      let r : IsSized e shape = size_of shape inner known h.here (front e known (shape_issues (view inner) shape) _ i) in
      subst (Flows e mode round (inner ++ visible_local name (declared_kind shape) ∷ [])) (sym (runs-Declare e shape name x scope s))
      (then_good e mode (HasKind e a.kind) (IsFlow e round.returns (inner ++ visible_local name (declared_kind shape) ∷ [])) (mean_expr e x scope s) _ (a.runs scope s h) (λ v t hv ht.
      then_good e mode (HasKind e (declared_kind shape)) (IsFlow e round.returns (inner ++ visible_local name (declared_kind shape) ∷ [])) (in_shape e shape v t) _ (in_shape_good e mode shape a.kind v t b.1 r hv ht) (λ w z hw hz.
      (matches_more e inner scope (visible_local name (declared_kind shape)) (name, w) h.matches (record { name = refl; kind = hw; clear = fresh_clear (view inner) name b.0 }), hz))))

  -- ---- returns

  returned : (inner : List Visible) (known : List Cond) (kind : Kind) (v : Value) (result : Option Kind) → Passes e known (elim result [ None ↦ mismatch_unless false | Some k ↦ want (Some k) (Some kind) ]) → HasKind e kind v → IsReturn e result v
  returned inner known kind v None h k = absurd (let b : false ≡ true = h.0 in cc)
  returned inner known kind v (Some wanted) h k = record { from = kind; has = k; fits = unless e known (suits (Some wanted) (Some kind)) h }

  pub sound-Return : (x : Expr) → SoundStmt e mode round (st.Return x)
  sound-Return x inner known clean pass scope s h =
      let p = subst (AllPass e) (walks-Return (view_in e mode round []) x (variable_names e.variables ++ inner) known) pass in
      let c = (clean_values e mode round (st.Return x) (x ∷ []) [] [] [] (does-Return x) (counts-Return x) clean).0 in
      let a : IsSound e mode round x inner known = sound x inner known c p.1 in
      let i : Passes e known (elim round.returns [ None ↦ mismatch_unless false | Some k ↦ want (Some k) (Some a.kind) ]) =
      subst (λ (z : Option Kind). Passes e known (elim round.returns [ None ↦ mismatch_unless false | Some k ↦ want (Some k) z ])) a.is p.0 in
      silent (st.Return x) inner _ refl
      (subst (Flows e mode round inner) (sym (runs-Return e x scope s))
      (then_good e mode (HasKind e a.kind) (IsFlow e round.returns inner) (mean_expr e x scope s) _ (a.runs scope s h) (λ v t hv ht.
      (returned inner known a.kind v round.returns i hv, ht))))

  -- ---- blocks

  pub sound-Block : (ss : List Stmt) → Each (SoundStmt e mode round) ss → SoundStmt e mode round (st.Block ss)
  sound-Block ss hs inner known clean pass scope s h =
      let p = subst (AllPass e) (walks-Block (view_in e mode round []) ss (variable_names e.variables ++ inner) known) pass in
      let c = clean_rest e mode round (st.Block ss) [] (all_of (map stmt_deeds ss) ++ []) [] (all_of (map stmt_numbers ss) ++ []) (does-Block ss) (counts-Block ss) clean in
      let cs = each_statement e mode round ss (each_front _ (all_of (map stmt_deeds ss)) [] c.0) (each_front _ (all_of (map stmt_numbers ss)) [] c.1) in
      silent (st.Block ss) inner _ refl
      (subst (Flows e mode round inner) (sym (runs-Block e ss scope s)) (block_flow e mode round ss hs inner known cs p.1 scope s h))

  -- ---- jumps and exceptions

  pub jump_loud : (inner : List Visible) (scope : Scope) (to : ℕ) (s : State) → Matches e inner scope → to < 2 ^ registers e → IsState e.space e.full e.program s → Good e loud (IsFlow e round.returns inner) (jump scope to s)
  jump_loud inner scope to s m low h =
      good_if e loud (IsFlow e round.returns inner) (to % 4 == 0) (done (goes_on scope) (record s { next = to })) (raised 0 to s)
      (λ i. (m, record { registers = h.registers; in_range = h.in_range; zero_register = h.zero_register; pc = h.pc; next = low; word = h.word; fields = h.fields; room = h.room; ram = h.ram }))
      (λ i. (tt, h))

  pub sound-Jump : (x : Expr) → SoundStmt e mode round (st.Jump x)
  sound-Jump x inner known clean pass scope s h =
      let p = subst (AllPass e) (walks-Jump (view_in e mode round []) x (variable_names e.variables ++ inner) known) pass in
      let c = (clean_values e mode round (st.Jump x) (x ∷ []) (acts ∷ []) [] [] (does-Jump x) (counts-Jump x) clean).0 in
      let a : IsSound e mode round x inner known = sound x inner known c p.1 in
      let i : Passes e known (outside_fields (view inner) ++ want bits_kind (Some a.kind)) =
      subst (λ (z : Option Kind). Passes e known (outside_fields (view inner) ++ want bits_kind z)) a.is p.0 in
      let k : IsOfBits a.kind = bits_kind_is a.kind (unless e known (suits bits_kind (Some a.kind)) (back e known (outside_fields (view inner)) _ i)) in
      let out : mode ≡ loud = must_be_loud e mode round.before acts known refl refl (front e known (outside_fields (view inner)) _ i)
      (own_acts e mode round (st.Jump x) (acts ∷ []) _ (does-Jump x) clean).0 in
      silent (st.Jump x) inner _ refl
      (subst (Flows e mode round inner) (sym (runs-Jump e x scope s))
      (bits_good e mode (IsFlow e round.returns inner) k.width k.signed (mean_expr e x scope s) _
      (subst (λ (z : Kind). Good e mode (HasKind e z) (mean_expr e x scope s)) k.is (a.runs scope s h)) (λ v t hv ht.
      subst (λ (m : Mode). StateOk e m t → Good e m (IsFlow e round.returns inner) (jump scope (address_of e v) t)) (sym out)
      (jump_loud inner scope (address_of e v) t h.matches (pattern_of-lt (registers e) (number v))) ht)))

  raised_code : (inner : List Visible) (kind : Kind) (c : Value) (tval : ℕ) (s : State) → suits (Some (of_member ExceptionCode)) (Some kind) ≡ true → HasKind e kind c → MayRaise mode → StateOk e mode s → Flows e mode round inner (raise c tval s)
  raised_code inner (of_member ExceptionCode) (member ExceptionCode n) tval s h k may ok = (may, ok)
  raised_code inner (of_member ExceptionCode) (member PrivilegeMode n) tval s h k may ok = absurd (let b : false ≡ true = k.0 in cc)
  raised_code inner (of_member ExceptionCode) (member CsrFieldType n) tval s h k may ok = absurd (let b : false ≡ true = k.0 in cc)
  raised_code inner (of_member PrivilegeMode) c tval s h k may ok = absurd (cc)
  raised_code inner (of_member CsrFieldType) c tval s h k may ok = absurd (cc)
  raised_code inner (of_member ExceptionCode) (bits v) tval s h k may ok = absurd k
  raised_code inner (of_member ExceptionCode) (flag x) tval s h k may ok = absurd k
  raised_code inner (of_member ExceptionCode) (given_text x) tval s h k may ok = absurd k
  raised_code inner (of_member ExceptionCode) (written_text x) tval s h k may ok = absurd k
  raised_code inner (of_bits w p) c tval s h k may ok = absurd (cc)
  raised_code inner of_flag c tval s h k may ok = absurd (cc)
  raised_code inner of_given_text c tval s h k may ok = absurd (cc)
  raised_code inner of_written_text c tval s h k may ok = absurd (cc)

  pub sound-Raise : (cause tval : Expr) → SoundStmt e mode round (st.Raise cause tval)
  sound-Raise cause tval inner known clean pass scope s h =
      let p = subst (AllPass e) (walks-Raise (view_in e mode round []) cause tval (variable_names e.variables ++ inner) known) pass in
      let c = clean_values e mode round (st.Raise cause tval) (cause ∷ tval ∷ []) (acts ∷ []) [] [] (does-Raise cause tval) (counts-Raise cause tval) clean in
      let a : IsSound e mode round cause inner known = sound cause inner known c.0 (each_front _ (checks_in e mode round inner cause known) (checks_in e mode round inner tval known) p.1) in
      let b : IsSound e mode round tval inner known = sound tval inner known c.1.0 (each_back _ (checks_in e mode round inner cause known) (checks_in e mode round inner tval known) p.1) in
      let fault : Option Kind = Some (of_member ExceptionCode) in
      let q : Passes e known (outside_fields (view inner) ++ want fault (Some a.kind)) =
      subst (λ (z : Option Kind). Passes e known (outside_fields (view inner) ++ want fault z)) a.is (front e known (outside_fields (view inner) ++ want fault _) _ p.0) in
      let r : Passes e known (want bits_kind (Some b.kind)) =
      subst (λ (z : Option Kind). Passes e known (want bits_kind z)) b.is (back e known (outside_fields (view inner) ++ want fault _) _ p.0) in
      let k : IsOfBits b.kind = bits_kind_is b.kind (unless e known (suits bits_kind (Some b.kind)) r) in
      let out : mode ≡ loud = must_be_loud e mode round.before acts known refl refl (front e known (outside_fields (view inner)) _ q)
      (own_acts e mode round (st.Raise cause tval) (acts ∷ []) _ (does-Raise cause tval) clean).0 in
      silent (st.Raise cause tval) inner _ refl
      (subst (Flows e mode round inner) (sym (runs-Raise e cause tval scope s))
      (then_good e mode (HasKind e a.kind) (IsFlow e round.returns inner) (mean_expr e cause scope s) _ (a.runs scope s h) (λ v t hv ht.
      bits_good e mode (IsFlow e round.returns inner) k.width k.signed (mean_expr e tval scope t) _
      (subst (λ (z : Kind). Good e mode (HasKind e z) (mean_expr e tval scope t)) k.is (b.runs scope t (record { matches = h.matches; state = ht; here = h.here }))) (λ w z hw hz.
      raised_code inner a.kind v (address_of e w) z (unless e known (suits fault (Some a.kind)) (back e known (outside_fields (view inner)) _ q)) hv (subst MayRaise (sym out) tt) hz))))

module _ (e : Setting) (mode : Mode) (round : Round) (sound : (x : Expr) → Sound e mode round x) (tells : (x : Expr) → Tells e mode round x) where
  -- ---- tests

  abbrev OtherClean : Option (List Stmt) → Type 0
  OtherClean other = IfSome other (Each (CleanStmt e mode round))

  clean_if : (test : Expr) (taken : List Stmt) (other : Option (List Stmt)) → CleanStmt e mode round (st.If test taken other) → Each (CleanStmt e mode round) taken × OtherClean other
  clean_if test taken None clean =
      let c = clean_rest e mode round (st.If test taken None) (flat_map expr_deeds (test ∷ [])) (all_of (map stmt_deeds taken) ++ []) (flat_map expr_numbers (test ∷ [])) (all_of (map stmt_numbers taken) ++ []) (does-If test taken None) (counts-If test taken None) clean in
      (each_statement e mode round taken (each_front _ (all_of (map stmt_deeds taken)) [] c.0) (each_front _ (all_of (map stmt_numbers taken)) [] c.1), tt)
  clean_if test taken (Some other) clean =
      let ds = all_of (map stmt_deeds other) in
      let ns = all_of (map stmt_numbers other) in
      let c = clean_rest e mode round (st.If test taken (Some other)) (flat_map expr_deeds (test ∷ [])) (all_of (map stmt_deeds taken) ++ (ds ++ [])) (flat_map expr_numbers (test ∷ [])) (all_of (map stmt_numbers taken) ++ (ns ++ [])) (does-If test taken (Some other)) (counts-If test taken (Some other)) clean in (
        each_statement e mode round taken (each_front _ (all_of (map stmt_deeds taken)) (ds ++ []) c.0) (each_front _ (all_of (map stmt_numbers taken)) (ns ++ []) c.1),
        each_statement e mode round other (each_front _ ds [] (each_back _ (all_of (map stmt_deeds taken)) (ds ++ []) c.0)) (each_front _ ns [] (each_back _ (all_of (map stmt_numbers taken)) (ns ++ []) c.1)),
      )

  other_flow : (other : Option (List Stmt)) → IfSome other (Each (SoundStmt e mode round)) → (inner : List Visible) (known : List Cond) → OtherClean other
      → AllPass e (other_checks (option_map (map (λ p. (p, stmt_checks (view_in e mode round []) p))) other) (variable_names e.variables ++ inner) known)
      → (scope : Scope) (s : State) → Stands e mode round inner known scope s → Flows e mode round inner (other_block (option_map (map (mean_stmt e)) other) scope s)
  other_flow None hs inner known clean pass scope s h = (h.matches, h.state)
  other_flow (Some ss) hs inner known clean pass scope s h = block_flow e mode round ss hs inner known clean pass scope s h

  pub sound-If : (test : Expr) (taken : List Stmt) (other : Option (List Stmt)) → Each (SoundStmt e mode round) taken → IfSome other (Each (SoundStmt e mode round)) → SoundStmt e mode round (st.If test taken other)
  sound-If test taken other hs ks inner known clean pass scope s h =
      let p = subst (AllPass e) (walks-If (view_in e mode round []) test taken other (variable_names e.variables ++ inner) known) pass in
      let yes = where_true e.space test known in
      let no = where_false e.space test known in
      let c = (clean_test other clean).0 in
      let cs = clean_if test taken other clean in
      let first : AllPass e (checks_in e mode round inner test known) = each_front _ (checks_in e mode round inner test known) _ p.1 in
      let rest = each_back _ (checks_in e mode round inner test known) _ p.1 in
      let a : IsSound e mode round test inner known = sound test inner known c first in
      let i : Passes e known (want flag_kind (Some a.kind)) = subst (λ (z : Option Kind). Passes e known (want flag_kind z)) a.is p.0 in
      let k : a.kind ≡ of_flag = flag_kind_is a.kind (unless e known (suits flag_kind (Some a.kind)) i) in
      silent e mode round sound (st.If test taken other) inner _ refl
      (subst (Flows e mode round inner) (sym (runs-If e test taken other scope s))
      (flag_good e mode (IsFlow e round.returns inner) (mean_expr e test scope s) _
      (subst (λ (z : Kind). Good e mode (HasKind e z) (mean_expr e test scope s)) k (a.runs scope s h)) (λ x t is ht.
      side x t ht (tells test inner known c first scope s h x t is) cs.0 cs.1 (each_front _ (block_in e mode round taken inner yes) _ rest) (each_back _ (block_in e mode round taken inner yes) _ rest))))
    where
      clean_test : (other : Option (List Stmt)) → CleanStmt e mode round (st.If test taken other) → Each (Clean e mode round) (test ∷ [])
      clean_test None clean = clean_values e mode round (st.If test taken None) (test ∷ []) [] (all_of (map stmt_deeds taken) ++ []) (all_of (map stmt_numbers taken) ++ []) (does-If test taken None) (counts-If test taken None) clean
      clean_test (Some other) clean = clean_values e mode round (st.If test taken (Some other)) (test ∷ []) [] (all_of (map stmt_deeds taken) ++ (all_of (map stmt_deeds other) ++ [])) (all_of (map stmt_numbers taken) ++ (all_of (map stmt_numbers other) ++ [])) (does-If test taken (Some other)) (counts-If test taken (Some other)) clean

      side : (x : Bool) (t : State) → StateOk e mode t → HasTold e mode round test x → Each (CleanStmt e mode round) taken → OtherClean other
          → AllPass e (block_in e mode round taken inner (where_true e.space test known))
          → AllPass e (other_checks (option_map (map (λ p. (p, stmt_checks (view_in e mode round []) p))) other) (variable_names e.variables ++ inner) (where_false e.space test known))
          → Flows e mode round inner (if x then block (map (mean_stmt e) taken) scope t else other_block (option_map (map (mean_stmt e)) other) scope t)
      side true t ht told ct co pt po = block_flow e mode round taken hs inner (where_true e.space test known) ct pt scope t (record { matches = h.matches; state = ht; here = one_more e known (claims e.space test).when_true h.here (told.yes refl) })
      side false t ht told ct co pt po = other_flow other ks inner (where_false e.space test known) co po scope t (record { matches = h.matches; state = ht; here = one_more e known (claims e.space test).when_false h.here (told.no refl) })
