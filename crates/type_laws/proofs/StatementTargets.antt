-- Assignments to locals and to their bits.
use Rattle.std.proofs.Common.{◌≡◌, ℕ, Bool, true, false, List, [], ◌∷◌, ◌++◌, Option, None, Some, refl, sym, ap, ◌∙◌, subst}
use Rattle.std.specs.Prelude.{is_some, if◌then◌else◌}
use Rattle.udb_base.specs.declared.names.Name.{Name}
use Rattle.udb_base.specs.declared.conditions.Cond.{Cond}
use Rattle.idl_tree.specs.declared.widths.Width.{Width}
use Rattle.idl_tree.specs.declared.widths.EnumKind.{EnumKind}
use Rattle.idl_tree.specs.declared.widths.EnumKind.TheVariants.{PrivilegeMode, ExceptionCode, CsrFieldType}
use Rattle.idl_tree.specs.declared.expressions.Expr.{Expr}
use Rattle.idl_tree.specs.declared.statements.Stmt.TheVariants as st
use Rattle.idl_spec.specs.Values.{Value, bits, flag, member, given_text, written_text, brought_to, same_enum}
use Rattle.idl_spec.specs.Harts.{State}
use Rattle.idl_spec.specs.Shapes.{Kind, of_bits, of_flag, of_member, of_given_text, of_written_text, parameter_named}
use Rattle.idl_spec.specs.Settings.{Setting, Scope}
use Rattle.idl_spec.specs.Mean.{mean_expr}
use Rattle.idl_spec.specs.Demands.{Visible, visible_named, want, suits, bits_kind}
use Rattle.idl_spec.specs.Checks.{variable_names}
use Rattle.type_laws.specs.Kinds.{IsMember, HasKind, IsLocal, Mode, StateOk, Matches, Round, view_in, Passes, AllPass}
use Rattle.type_laws.proofs.Outcomes.{then_good}
use Rattle.type_laws.proofs.Passing.{flag_kind_is, unless}
use Rattle.type_laws.proofs.Sound.{IsSound, Sound}
use Rattle.type_laws.proofs.StatementFlows.{IsFlow, Flows, SoundStmt, clean_values}
use Rattle.udb_spec.specs.Conditions.{same_bytes}
use Rattle.idl_tree.specs.declared.programs.Variable.{Variable}
use Rattle.idl_tree.specs.declared.widths.Width.TheVariants as wd
use Rattle.idl_tree.specs.declared.statements.Target.TheVariants as t
use Rattle.idl_spec.specs.Shapes.{innermost, or_else}
use Rattle.idl_spec.specs.Mean.{in_shape_of, assigned, set_local}
use Rattle.idl_spec.specs.MeanLaws.{runs-Assign}
use Rattle.idl_spec.specs.DeedLaws.{does-Assign}
use Rattle.idl_spec.specs.Demands.{unknown_name, mismatch}
use Rattle.idl_spec.specs.Checks.{local_kind, assigned_issues}
use Rattle.idl_spec.specs.CheckLaws.{walks-Assign}
use Rattle.type_laws.specs.LiteralLaws.{counts-Assign}
use Rattle.type_laws.proofs.Outcomes.{chosen_true, chosen_false, some_good, same_some}
use Rattle.type_laws.proofs.Worlds.{seen, innermost_more, IsFound, found}
use Rattle.type_laws.proofs.StatementForms.{same_enum_trans, silent}

-- ---- a value in the shape of another

same_enum_back : (k l : EnumKind) → same_enum k l ≡ true → same_enum l k ≡ true
same_enum_back PrivilegeMode PrivilegeMode h = h
same_enum_back ExceptionCode ExceptionCode h = h
same_enum_back CsrFieldType CsrFieldType h = h
same_enum_back PrivilegeMode ExceptionCode h = absurd (cc)
same_enum_back PrivilegeMode CsrFieldType h = absurd (cc)
same_enum_back ExceptionCode PrivilegeMode h = absurd (cc)
same_enum_back ExceptionCode CsrFieldType h = absurd (cc)
same_enum_back CsrFieldType PrivilegeMode h = absurd (cc)
same_enum_back CsrFieldType ExceptionCode h = absurd (cc)

record HasShape (e : Setting) (kind : Kind) (o : Option Value) : Type 0 where
  new : Value
  is : o ≡ Some new
  has : HasKind e kind new

module _ (e : Setting) where
  bits_kept : (w : Width) (s : Bool) (old : Value) (from : Kind) (v : Value) → suits bits_kind (Some from) ≡ true → HasKind e (of_bits w s) old → HasKind e from v → HasShape e (of_bits w s) (in_shape_of old v)
  bits_kept w s (bits old) (of_bits u p) (bits v) h k l = record { new = bits (brought_to old.width old.signed v); is = refl; has = record { number = k.number; low = k.low; high = k.high; sign = k.sign } }
  bits_kept w s (bits old) (of_bits u p) (flag x) h k l = absurd l
  bits_kept w s (bits old) (of_bits u p) (member m n) h k l = absurd l
  bits_kept w s (bits old) (of_bits u p) (given_text x) h k l = absurd l
  bits_kept w s (bits old) (of_bits u p) (written_text x) h k l = absurd l
  bits_kept w s (bits old) of_flag v h k l = absurd (cc)
  bits_kept w s (bits old) (of_member m) v h k l = absurd (cc)
  bits_kept w s (bits old) of_given_text v h k l = absurd (cc)
  bits_kept w s (bits old) of_written_text v h k l = absurd (cc)
  bits_kept w s (flag x) from v h k l = absurd k
  bits_kept w s (member m n) from v h k l = absurd k
  bits_kept w s (given_text x) from v h k l = absurd k
  bits_kept w s (written_text x) from v h k l = absurd k

  flag_kept : (old : Value) (v : Value) → HasKind e of_flag old → HasKind e of_flag v → HasShape e of_flag (in_shape_of old v)
  flag_kept (flag old) (flag x) k l = record { new = flag x; is = refl; has = tt }
  flag_kept (flag old) (bits v) k l = absurd l
  flag_kept (flag old) (member m n) k l = absurd l
  flag_kept (flag old) (given_text x) k l = absurd l
  flag_kept (flag old) (written_text x) k l = absurd l
  flag_kept (bits x) v k l = absurd k
  flag_kept (member m n) v k l = absurd k
  flag_kept (given_text x) v k l = absurd k
  flag_kept (written_text x) v k l = absurd k

  chosen_member : (m j : EnumKind) (i n : ℕ) (q : EnumKind) → same_enum q j ≡ true → IsMember m j n → HasShape e (of_member m) (if same_enum q j then Some (member j n) else None)
  chosen_member m j i n q h k = record { new = member j n; is = chosen_true (Some (member j n)) None (same_enum q j) h; has = k }

  member_kept : (m l : EnumKind) (old v : Value) → same_enum m l ≡ true → HasKind e (of_member m) old → HasKind e (of_member l) v → HasShape e (of_member m) (in_shape_of old v)
  member_kept m l (member q i) (member j n) h k r =
      let same : same_enum m j ≡ true = same_enum_trans m l j h r.0 in
      chosen_member m j i n q (same_enum_trans q m j (same_enum_back m q k.0) same) (same, r.1)
  member_kept m l (member q i) (bits v) h k r = absurd r
  member_kept m l (member q i) (flag x) h k r = absurd r
  member_kept m l (member q i) (given_text x) h k r = absurd r
  member_kept m l (member q i) (written_text x) h k r = absurd r
  member_kept m l (bits x) v h k r = absurd k
  member_kept m l (flag x) v h k r = absurd k
  member_kept m l (given_text x) v h k r = absurd k
  member_kept m l (written_text x) v h k r = absurd k

  kept : (kind from : Kind) (old v : Value) → suits (Some kind) (Some from) ≡ true → HasKind e kind old → HasKind e from v → HasShape e kind (in_shape_of old v)
  kept (of_bits w s) from old v h k l = bits_kept w s old from v (as_bits_suit from h) k l
    where
      as_bits_suit : (from : Kind) → suits (Some (of_bits w s)) (Some from) ≡ true → suits bits_kind (Some from) ≡ true
      as_bits_suit (of_bits u p) h = refl
      as_bits_suit of_flag h = absurd (cc)
      as_bits_suit (of_member m) h = absurd (cc)
      as_bits_suit of_given_text h = absurd (cc)
      as_bits_suit of_written_text h = absurd (cc)
  kept of_flag from old v h k l = flag_kept old v k (subst (λ (z : Kind). HasKind e z v) (flag_kind_is from h) l)
  kept (of_member m) (of_member q) old v h k l = member_kept m q old v h k l
  kept (of_member m) (of_bits w s) old v h k l = absurd (cc)
  kept (of_member m) of_flag old v h k l = absurd (cc)
  kept (of_member m) of_given_text old v h k l = absurd (cc)
  kept (of_member m) of_written_text old v h k l = absurd (cc)
  kept of_given_text from old v h k l = absurd (cc)
  kept of_written_text from old v h k l = absurd (cc)

  -- ---- the innermost of a name takes a value

  one_assigned : (v w : Visible) (p : List ℕ × Value) (vs : List Visible) (ps : Scope) (name : List ℕ) (new : Value) (o : Option Visible) (x : Option Value)
      → innermost (seen vs) name ≡ o → innermost ps name ≡ x → IsFound e name o x → (b : Bool) → same_bytes p.0 name ≡ b → IsLocal e v p → Matches e vs ps
      → or_else o (if b then Some v else None) ≡ Some w → HasKind e w.kind new → (innermost (seen vs) name ≡ Some w → Matches e vs (assigned ps name new)) → Matches e (v ∷ vs) (assigned (p ∷ ps) name new)
  one_assigned v w p vs ps name new (Some u) (Some y) eo ex f b same local m is has rest =
      subst (Matches e (v ∷ vs)) (sym (chosen_true (p ∷ assigned ps name new) _ (is_some (innermost ps name)) (ap is_some ex))) (local, rest (eo ∙ is))
  one_assigned v w p vs ps name new (Some u) None eo ex f b same local m is has rest = absurd f
  one_assigned v w p vs ps name new None (Some y) eo ex f b same local m is has rest = absurd f
  one_assigned v w p vs ps name new None None eo ex f false same local m is has rest = absurd (cc)
  one_assigned v w p vs ps name new None None eo ex f true same local m is has rest =
      let one : v ≡ w = same_some is in
      subst (Matches e (v ∷ vs)) (sym (chosen_false (p ∷ assigned ps name new) _ (is_some (innermost ps name)) (ap is_some ex)
      ∙ chosen_true ((p.0, new) ∷ ps) (p ∷ ps) (same_bytes p.0 name) same))
      (record { name = local.name; kind = subst (λ (z : Visible). HasKind e z.kind new) (sym one) has; clear = local.clear }, m)

  pub assigned_matches : (vs : List Visible) (ps : Scope) (name : List ℕ) (w : Visible) (new : Value) → Matches e vs ps → innermost (seen vs) name ≡ Some w → HasKind e w.kind new → Matches e vs (assigned ps name new)
  assigned_matches [] ps name w new m is has = absurd (cc)
  assigned_matches (v ∷ vs) [] name w new m is has = absurd m
  assigned_matches (v ∷ vs) (p ∷ ps) name w new m is has =
      one_assigned v w p vs ps name new (innermost (seen vs) name) (innermost ps name) refl refl (found e vs ps name m.1) (same_bytes p.0 name) refl m.0 m.1
      (subst (λ (n : List ℕ). or_else (innermost (seen vs) name) (if same_bytes n name then Some v else None) ≡ Some w) (sym m.0.name) is) has
      (λ k. assigned_matches vs ps name w new m.1 k has)

  -- ---- what may be assigned is a local

  fixed : (vs : List Variable) (name : List ℕ) (v : Visible) → innermost (seen (variable_names vs)) name ≡ Some v → v.is_assignable ≡ false
  fixed [] name v is = absurd (cc)
  fixed (x ∷ xs) name v is = at (innermost (seen (variable_names xs)) name) (same_bytes x.name name) is (fixed xs name v)
    where
      at : (o : Option Visible) (b : Bool) → or_else o (if b then Some (record { name = x.name; kind = of_bits (wd.Bits None x.name) false; is_assignable = false }) else None) ≡ Some v → (o ≡ Some v → v.is_assignable ≡ false) → v.is_assignable ≡ false
      at (Some u) b is rest = rest is
      at None true is rest = ap (λ (z : Visible). z.is_assignable) (sym (same_some is))
      at None false is rest = absurd (cc)

  pub record HasLocal (inner : List Visible) (scope : Scope) (name : List ℕ) (o : Option Visible) : Type 0 where
    pub visible : Visible
    pub is : o ≡ Some visible
    pub inside : innermost (seen inner) name ≡ Some visible
    pub value : Value
    pub now : innermost scope name ≡ Some value
    pub has : HasKind e visible.kind value

  seen_more : (xs ys : List Visible) → seen (xs ++ ys) ≡ seen xs ++ seen ys
  seen_more [] ys = refl
  seen_more (x ∷ xs) ys = ap (λ (zs : List (List ℕ × Visible)). (x.name, x) ∷ zs) (seen_more xs ys)

  looked : (inner : List Visible) (name : List ℕ) → innermost (seen (variable_names e.variables ++ inner)) name ≡ or_else (innermost (seen inner) name) (innermost (seen (variable_names e.variables)) name)
  looked inner name = ap (λ zs. innermost zs name) (seen_more (variable_names e.variables) inner) ∙ innermost_more (seen (variable_names e.variables)) (seen inner) name

  pub local_there : (mode : Mode) (round : Round) (inner : List Visible) (known : List Cond) (scope : Scope) (name : Name) → Matches e inner scope
      → Passes e known (assigned_issues (view_in e mode round inner) name (visible_named (view_in e mode round inner) name)) → HasLocal inner scope name (visible_named (view_in e mode round inner) name)
  local_there mode round inner known scope name m h =
      at (innermost (seen inner) name) (innermost (seen (variable_names e.variables)) name) (innermost scope name) refl refl refl (found e inner scope name m)
      (subst (λ (o : Option Visible). Passes e known (assigned_issues (view_in e mode round inner) name o)) (looked inner name) h)
    where
      none_passes : (b : Bool) → Passes e known (if b then mismatch ∷ [] else unknown_name name ∷ []) → ⊥
      none_passes true h = absurd (let b : false ≡ true = h.0 in cc)
      none_passes false h = absurd (let b : false ≡ true = h.0 in cc)

      at : (o u : Option Visible) (x : Option Value) → innermost (seen inner) name ≡ o → innermost (seen (variable_names e.variables)) name ≡ u → innermost scope name ≡ x → IsFound e name o x
          → Passes e known (assigned_issues (view_in e mode round inner) name (or_else o u)) → HasLocal inner scope name (visible_named (view_in e mode round inner) name)
      at (Some v) u (Some x) eo eu ex f h = record { visible = v; is = looked inner name ∙ ap (λ (z : Option Visible). or_else z (innermost (seen (variable_names e.variables)) name)) eo; inside = eo; value = x; now = ex; has = f.0 }
      at (Some v) u None eo eu ex f h = absurd f
      at None u (Some x) eo eu ex f h = absurd f
      at None None None eo eu ex f h = absurd (none_passes (is_some (parameter_named e.space.params name)) h)
      at None (Some v) None eo eu ex f h = absurd (let no : v.is_assignable ≡ false = fixed e.variables name v eu in let yes : v.is_assignable ≡ true = unless e known v.is_assignable h in cc)

module _ (e : Setting) (mode : Mode) (round : Round) (sound : (x : Expr) → Sound e mode round x) where
  -- a local takes a value of its kind
  set_flow : (inner : List Visible) (scope : Scope) (name : List ℕ) (v : Visible) (new : Value) (s : State) → Matches e inner scope → innermost (seen inner) name ≡ Some v → HasKind e v.kind new → StateOk e mode s → Flows e mode round inner (set_local scope name new s)
  set_flow inner scope name v new s m is has ok = (assigned_matches e inner scope name v new m is has, ok)

  pub sound-assigned-Word : (name : Name) (x : Expr) → SoundStmt e mode round (st.Assign (t.Word name) x)
  sound-assigned-Word name x inner known clean pass scope s h =
      let view = view_in e mode round inner in
      let p = subst (AllPass e) (walks-Assign (view_in e mode round []) (t.Word name) x (variable_names e.variables ++ inner) known) pass in
      let c = (clean_values e mode round (st.Assign (t.Word name) x) (x ∷ []) [] [] [] (does-Assign (t.Word name) x) (counts-Assign (t.Word name) x) clean).0 in
      let a : IsSound e mode round x inner known = sound x inner known c p.1.1 in
      let l : HasLocal e inner scope name (visible_named view name) = local_there e mode round inner known scope name h.matches p.1.0 in
      let i : Passes e known (want (local_kind (Some l.visible)) (Some a.kind)) =
      subst (λ (z : Option Visible). Passes e known (want (local_kind z) (Some a.kind))) l.is
      (subst (λ (z : Option Kind). Passes e known (want (local_kind (visible_named view name)) z)) a.is p.0) in
      let fit : suits (Some l.visible.kind) (Some a.kind) ≡ true = unless e known (suits (Some l.visible.kind) (Some a.kind)) i in
      silent e mode round sound (st.Assign (t.Word name) x) inner _ refl
      (subst (Flows e mode round inner) (sym (runs-Assign e (t.Word name) x scope s))
      (then_good e mode (HasKind e a.kind) (IsFlow e round.returns inner) (mean_expr e x scope s) _ (a.runs scope s h) (λ v r hv hr.
      let n : HasShape e l.visible.kind (in_shape_of l.value v) = kept e l.visible.kind a.kind l.value v fit l.has hv in
      some_good e mode (IsFlow e round.returns inner) (innermost scope name) l.value _ l.now
      (some_good e mode (IsFlow e round.returns inner) (in_shape_of l.value v) n.new _ n.is
      (set_flow inner scope name l.visible n.new r h.matches l.inside n.has hr)))))
