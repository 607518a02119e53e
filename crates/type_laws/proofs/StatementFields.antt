-- Assignments to fields of CSRs.
use Rattle.std.proofs.Common.{◌≡◌, ◌<◌, ◌^◌, ℕ, Bool, true, false, List, [], ◌∷◌, ◌++◌, Option, Some, refl, sym, ap, ◌∙◌, subst}
use Rattle.std.specs.Prelude.{if◌then◌else◌}
use Rattle.std.specs.Cmp.Lexicographic.{bytes_decides}
use Rattle.idl_tree.specs.Each.{Each}
use Rattle.udb_base.specs.declared.names.Name.{Name}
use Rattle.udb_spec.specs.Conditions.{same_bytes}
use Rattle.idl_tree.specs.declared.expressions.Expr.{Expr}
use Rattle.idl_tree.specs.declared.statements.Target.TheVariants as t
use Rattle.idl_tree.specs.declared.statements.Stmt.TheVariants as st
use Rattle.idl_tree.specs.declared.programs.CsrBody.{CsrBody}
use Rattle.idl_bits.specs.BitVector.{BitVector}
use Rattle.idl_bits.specs.Number.{extension, number}
use Rattle.idl_bits.proofs.Modulo.{pattern_of-lt}
use Rattle.idl_spec.specs.Harts.{FieldValue, State, done, is_field, with_field}
use Rattle.idl_spec.specs.Shapes.{Kind}
use Rattle.idl_spec.specs.Fields.{Placed, part_width, present_field}
use Rattle.idl_spec.specs.Settings.{Setting, Scope, goes_on}
use Rattle.idl_spec.specs.Mean.{mean_expr}
use Rattle.idl_spec.specs.MeanLaws.{runs-Assign}
use Rattle.idl_spec.specs.Programs.{IsState, HoldsField, HoldFields, present_fields}
use Rattle.idl_spec.specs.Deeds.{acts}
use Rattle.idl_spec.specs.DeedLaws.{does-Assign}
use Rattle.idl_spec.specs.Demands.{Visible, want, suits, bits_kind, outside_fields}
use Rattle.idl_spec.specs.Checks.{variable_names}
use Rattle.idl_spec.specs.CheckLaws.{walks-Assign}
use Rattle.type_laws.specs.Kinds.{HasKind, Mode, loud, StateOk, Good, Matches, Round, view_in, Passes, AllPass}
use Rattle.type_laws.specs.LiteralLaws.{counts-Assign}
use Rattle.type_laws.specs.Worlds.{World}
use Rattle.type_laws.specs.Software.{Software}
use Rattle.type_laws.proofs.Outcomes.{both_true, same_some, bits_good, some_good}
use Rattle.type_laws.proofs.Passing.{IsOfBits, bits_kind_is, front, back, unless}
use Rattle.type_laws.proofs.OneForms.{must_be_loud}
use Rattle.type_laws.proofs.NameForms.{HasPlace, field_passes}
use Rattle.type_laws.proofs.Sound.{IsSound, Sound}
use Rattle.type_laws.proofs.StatementFlows.{IsFlow, Flows, SoundStmt, clean_values, own_acts}
use Rattle.type_laws.proofs.StatementForms.{silent}
use Rattle.type_laws.proofs.FieldNames.{IsNamed, all_named}

module _ (e : Setting) where
  abbrev Named : CsrBody × Placed → Type 0
  Named q = IsNamed e.space e.full e.program q

  -- a field's number is replaced where the names are the field's
  one_kept : (csr field : List ℕ) (p : Placed) (n : ℕ) (f : FieldValue) (q : CsrBody × Placed) → present_field e.space e.full e.program csr field ≡ Some p → n < 2 ^ part_width p.bits → Named q → HoldsField q.0 f q.1
      → (b : Bool) → is_field csr field f ≡ b → HoldsField q.0 (if b then record f { number = n } else f) q.1
  one_kept csr field p n f q is low named h false b = h
  one_kept csr field p n f q is low named h true b =
      let names = both_true (same_bytes f.csr csr) (same_bytes f.field field) b in
      let c : csr ≡ q.0.name = sym ((bytes_decides f.csr csr).0 names.0) ∙ h.0 in
      let g : field ≡ q.1.field.name = sym ((bytes_decides f.field field).0 names.1) ∙ h.1 in
      let found : present_field e.space e.full e.program csr field ≡ Some q.1 = ap (λ x. present_field e.space e.full e.program x field) c ∙ (ap (λ x. present_field e.space e.full e.program q.0.name x) g ∙ named) in
      (h.0, h.1, subst (λ (x : Placed). n < 2 ^ part_width x.bits) (same_some (sym is ∙ found)) low)

  pub fields_kept : (csr field : List ℕ) (p : Placed) (n : ℕ) → present_field e.space e.full e.program csr field ≡ Some p → n < 2 ^ part_width p.bits
      → (fs : List FieldValue) (qs : List (CsrBody × Placed)) → Each Named qs → HoldFields fs qs → HoldFields (with_field fs csr field n) qs
  unfolding with_field
  fields_kept csr field p n is low [] [] named h = tt
  fields_kept csr field p n is low [] (q ∷ qs) named h = absurd h
  fields_kept csr field p n is low (f ∷ fs) [] named h = absurd h
  fields_kept csr field p n is low (f ∷ fs) (q ∷ qs) named h =
      (one_kept csr field p n f q is low named.0 h.0 (is_field csr field f) refl, fields_kept csr field p n is low fs qs named.1 h.1)

module _ (e : Setting) (mode : Mode) (round : Round) (sound : (x : Expr) → Sound e mode round x) (world : World e) (software : Software e mode) where
  field_state : (csr field : Name) (p : Placed) (n : ℕ) (s : State) → present_field e.space e.full e.program csr field ≡ Some p → n < 2 ^ part_width p.bits → IsState e.space e.full e.program s
      → IsState e.space e.full e.program (record s { fields = with_field s.fields csr field n })
  field_state csr field p n s is low h = record {
    registers = h.registers;
    in_range = h.in_range;
    zero_register = h.zero_register;
    pc = h.pc;
    next = h.next;
    word = h.word;
    fields = fields_kept e csr field p n is low s.fields (present_fields e.space e.full e.program) (all_named e.space e.full e.program software.names) h.fields;
    room = h.room;
    ram = h.ram;
  }

  written_loud : (inner : List Visible) (scope : Scope) (csr field : Name) (p : Placed) (v : BitVector) (s : State) → present_field e.space e.full e.program csr field ≡ Some p → Matches e inner scope → IsState e.space e.full e.program s
      → Good e loud (IsFlow e round.returns inner) (done (goes_on scope) (record s { fields = with_field s.fields csr field (extension (part_width p.bits) v) }))
  written_loud inner scope csr field p v s is m h = (m, field_state csr field p (extension (part_width p.bits) v) s is (pattern_of-lt (part_width p.bits) (number v)) h)

  pub sound-assigned-Field : (csr field : Name) (x : Expr) → SoundStmt e mode round (st.Assign (t.Field csr field) x)
  sound-assigned-Field csr field x inner known clean pass scope s h =
      let view = view_in e mode round inner in
      let p = subst (AllPass e) (walks-Assign (view_in e mode round []) (t.Field csr field) x (variable_names e.variables ++ inner) known) pass in
      let c = clean_values e mode round (st.Assign (t.Field csr field) x) (x ∷ []) (acts ∷ []) [] [] (does-Assign (t.Field csr field) x) (counts-Assign (t.Field csr field) x) clean in
      let b : IsSound e mode round x inner known = sound x inner known c.0 p.1.1 in
      let m : IsOfBits b.kind = bits_kind_is b.kind (unless e known (suits bits_kind (Some b.kind)) (subst (λ (z : Option Kind). Passes e known (want bits_kind z)) b.is p.0)) in
      let out : mode ≡ loud = must_be_loud e mode round.before acts known refl refl (front e known (outside_fields view) _ p.1.0)
      (own_acts e mode round (st.Assign (t.Field csr field) x) (acts ∷ []) _ (does-Assign (t.Field csr field) x) clean).0 in
      let at : HasPlace e mode round world csr field = (field_passes e mode round world inner csr field known (back e known (outside_fields view) _ p.1.0)).place h.here in
      silent e mode round sound (st.Assign (t.Field csr field) x) inner _ refl
      (subst (Flows e mode round inner) (sym (runs-Assign e (t.Field csr field) x scope s))
      (some_good e mode (IsFlow e round.returns inner) (present_field e.space e.full e.program csr field) at.place _ at.is
      (bits_good e mode (IsFlow e round.returns inner) m.width m.signed (mean_expr e x scope s) _
      (subst (λ (z : Kind). Good e mode (HasKind e z) (mean_expr e x scope s)) m.is (b.runs scope s h)) (λ v z hv hz.
      subst (λ (g : Mode). StateOk e g z → Good e g (IsFlow e round.returns inner) (done (goes_on scope) (record z { fields = with_field z.fields csr field (extension (part_width at.place.bits) v) }))) (sym out)
      (written_loud inner scope csr field at.place v z at.is h.matches) hz))))
